-- What a turn asks: something, and an op that it asks is well keyed; a cookie that it sets can be
-- stored.
use Rattle.std.proofs.Common.{◌≡◌, ◌≤◌, ℕ, zero, suc, List, [], ◌∷◌, ◌++◌, Bool, true, false, Option, None, Some, slice_get, refl, ap, sym, subst}
use Rattle.std.specs.Prelude.{◌&&◌, map, is_some, IfSome, IsSome, option_to_list, Result, Ok, Err, if◌then◌else◌}
use Rattle.std.specs.List.{list_all}
use Rattle.std.proofs.lemmas.Slice.Eq.{bytes_eq-Decides}
use Rattle.jar_values.specs.declared.moment.TheConstants.{MAX_MOMENT}
use Rattle.jar_types.specs.declared.cookie.Cookie.{Cookie}
use Rattle.jar_types.specs.declared.op.Op.{Op}
use Rattle.jar_types.specs.declared.op.Op.TheVariants.{Bind, Set, Get, Delete, All, Clear, Listen, Changes, Unlisten, Post, Hear}
use Rattle.jar_types.specs.declared.request.Context.{Context}
use Rattle.jar_types.specs.declared.row.Row.{Row}
use Rattle.jar_types.specs.Journals.{Rules, is_well_keyed, key_at}
use Rattle.jar_types.specs.Rows.{is_sound_row, row_of}
use Rattle.public_suffix.specs.Rule.{SuffixRule}
use Rattle.set_cookie_line.specs.declared.line.Line.{Line}
use Rattle.set_cookie_line.specs.declared.line.LineRefusal.{LineRefusal}
use Rattle.set_cookie_line.specs.Line.{read_line}
use Rattle.site_match.specs.declared.fetch.FetchAsk.{FetchAsk}
use Rattle.site_match.specs.declared.place.Place.{Place}
use Rattle.site_match.specs.Contexts.{context_of, fetch_context}
use Rattle.canonical_cookie.specs.declared.refusal.CookieRefusal.{CookieRefusal}
use Rattle.canonical_cookie.specs.Laws.{IsMade}
use Rattle.canonical_cookie.specs.Making.{made}
use Rattle.canonical_cookie.proofs.MadeLemmas.{made_parts}
use Rattle.canonical_cookie.proofs.SoundLemmas.{row_of_made}
use Rattle.restricted_manager.specs.declared.write.WriteRefusal.TheVariants as write
use Rattle.restricted_manager.specs.Documents.{asked_place, is_same_origin}
use Rattle.restricted_manager.specs.Writes.{write_of_cookie, write_of_line}
use Rattle.script_text.specs.declared.actor.Actor.{Actor}
use Rattle.script_text.specs.declared.script.Script.{Script}
use Rattle.script_text.specs.declared.step.Step.{Step}
use Rattle.script_text.specs.declared.step.What.{What}
use Rattle.script_text.specs.declared.step.What.TheVariants as what
use Rattle.script_text.specs.Admitted.{IsAdmitted, IsAdmittedActor, IsPlaced, IsPlacedView, IsPlacedWhat, MayStand, Where, place_of_step}
use Rattle.script_text.specs.Placed.{View}
use Rattle.stored_law.specs.Keeping.{IsStorable}
use Rattle.script_run.specs.declared.ask.Ask.{Ask}
use Rattle.script_run.specs.declared.ask.Ask.TheVariants as ask
use Rattle.script_run.specs.Ask.{MayBeAsked, ask_at, ask_of, ask_of_cookie, ask_of_fetch, ask_of_line, ask_of_read, ask_of_renderer, ask_of_write, ask_to_bind}
use Rattle.script_run.specs.Rounds.{rules_of}
use Rattle.script_run.specs.Turns.{Turn, binds, does, turn_now, turns_at, turns_before, turns_where, view_at, view_where}
use Rattle.script_run.proofs.KeyLemmas.{made_keyed}

-- ---- what a turn asks

-- what is known of an op that a turn asks at a moment: a cookie that it sets has the key of its
-- host, and can be stored where the moment is one; and one that it takes away has the key of its host
abbrev pub OpIsOwn : Rules → ℕ → Op → Type 0
OpIsOwn r now (Bind key) = Unit {0}
OpIsOwn r now (Set cookie script secure) = (cookie.key ≡ key_at r cookie.host) × (now ≤ MAX_MOMENT → IsStorable cookie)
OpIsOwn r now (Get request) = Unit {0}
OpIsOwn r now (Delete key id) = key ≡ key_at r id.host
OpIsOwn r now All = Unit {0}
OpIsOwn r now Clear = Unit {0}
OpIsOwn r now (Listen scope) = Unit {0}
OpIsOwn r now (Changes number) = Unit {0}
OpIsOwn r now (Unlisten number) = Unit {0}
OpIsOwn r now Post = Unit {0}
OpIsOwn r now (Hear actor n) = Unit {0}

-- a turn asks something, and where it is an op, that is known
abbrev pub AskIsOwn : Rules → ℕ → Option Ask → Type 0
AskIsOwn r now None = ⊥
AskIsOwn r now (Some (ask.Op op)) = OpIsOwn r now op
AskIsOwn r now (Some (ask.Refused name)) = Unit {0}

sound_made : (rules : List SuffixRule) (c : Cookie) (o : Option Row) → IsMade rules c → row_of c ≡ o → list_all is_sound_row (option_to_list o) ≡ true
sound_made rules c None made e = refl
sound_made rules c (Some row) made e = ap (λ b. b && true) (row_of_made rules c row made e)

-- a cookie that is made can be stored
made_storable : (rules : List SuffixRule) (c : Cookie) → IsMade rules c → IsStorable c
made_storable rules c is =
    let parts = made_parts rules is.line is.place is.context is.script is.now c is.makes in
    record {
      row = sound_made rules c (row_of c) is refl;
      creation = subst (λ (d : Cookie). d.creation ≤ MAX_MOMENT) parts.1 is.moment;
    }

-- a cookie that a read line makes at a place, by a script or by none
made_own : (script : Script) (hosts : List (List ℕ)) (place : Place) (text : List ℕ) (line : Line) (context : Context) (by_script secure : Bool) (now : ℕ) (c : Cookie)
    → read_line text ≡ Ok line → IsPlaced script.suffixes place → made script.suffixes line place context by_script now ≡ Ok c
    → OpIsOwn (rules_of script hosts) now (Set c by_script secure)
made_own script hosts place text line context by_script secure now c read at is = (
  made_keyed script.suffixes line place context by_script now at.0 c at.1 is,
  λ timed.
      made_storable script.suffixes c (record {
        url = at.0;
        text = text;
        place = place;
        line = line;
        context = context;
        script = by_script;
        now = now;
        at = at.1;
        read = read;
        moment = timed;
        makes = is;
      }),
)

-- ---- what a fetch asks

cookie_own : (script : Script) (hosts : List (List ℕ)) (fetch : FetchAsk) (text : List ℕ) (line : Line) (now : ℕ) (o : Result Cookie CookieRefusal)
    → read_line text ≡ Ok line → IsPlaced script.suffixes fetch.place → made script.suffixes line fetch.place (context_of fetch) false now ≡ o
    → AskIsOwn (rules_of script hosts) now (Some (ask_of_cookie fetch o))
cookie_own script hosts fetch text line now (Ok c) read place is =
    made_own script hosts fetch.place text line (context_of fetch) false false now c read place is
cookie_own script hosts fetch text line now (Err e) read place is = tt

line_own : (script : Script) (hosts : List (List ℕ)) (fetch : FetchAsk) (text : List ℕ) (now : ℕ) (o : Result Line LineRefusal) → read_line text ≡ o
    → IsPlaced script.suffixes fetch.place → AskIsOwn (rules_of script hosts) now (Some (ask_of_line script.suffixes fetch now o))
line_own script hosts fetch text now (Ok line) read place =
    cookie_own script hosts fetch text line now (made script.suffixes line fetch.place (context_of fetch) false now) read place refl
line_own script hosts fetch text now (Err e) read place = tt

-- none renders that is to
clash : (b : Bool) → b ≡ false → b ≡ true → ⊥
clash true isnt is = absurd cc
clash false isnt is = absurd cc

fetch_own : (script : Script) (hosts : List (List ℕ)) (at : Where) (now : ℕ) (w : What) → at.renders ≡ false → MayStand at w → IsPlacedWhat script.suffixes w
    → AskIsOwn (rules_of script hosts) now (ask_of_fetch script.suffixes now w)
fetch_own script hosts at now (what.Set fetch line) none may placed = line_own script hosts fetch line now (read_line line) refl placed.place
fetch_own script hosts at now (what.Get fetch) none may placed = tt
fetch_own script hosts at now (what.Delete host name path) none may placed = refl
fetch_own script hosts at now what.All none may placed = tt
fetch_own script hosts at now what.Clear none may placed = tt
fetch_own script hosts at now (what.Listen fetch name) none may placed = tt
fetch_own script hosts at now (what.Changes listener) none may placed = tt
fetch_own script hosts at now (what.Unlisten listener) none may placed = tt
fetch_own script hosts at now what.Post none may placed = tt
fetch_own script hosts at now (what.Hear actor n) none may placed = tt
fetch_own script hosts at now (what.Read url) none may placed = absurd (clash at.renders none may)
fetch_own script hosts at now (what.Write line url) none may placed = absurd (clash at.renders none may)

-- ---- what a renderer asks

read_own : (r : Rules) (now : ℕ) (sees : View) (place : Place) (same : Bool) → AskIsOwn r now (Some (ask_of_read sees place same))
read_own r now sees place true = tt
read_own r now sees place false = tt

written_own : (script : Script) (hosts : List (List ℕ)) (site : Option Place) (place : Place) (text : List ℕ) (line : Line) (now : ℕ) (o : Result Cookie CookieRefusal)
    → read_line text ≡ Ok line → IsPlaced script.suffixes place → made script.suffixes line place (fetch_context place site) true now ≡ o
    → AskIsOwn (rules_of script hosts) now (Some (ask_of_write (write_of_cookie place o)))
written_own script hosts site place text line now (Ok c) read at is =
    made_own script hosts place text line (fetch_context place site) true false now c read at is
written_own script hosts site place text line now (Err e) read at is = tt

write_own : (script : Script) (hosts : List (List ℕ)) (site : Option Place) (place : Place) (text : List ℕ) (now : ℕ) (o : Result Line LineRefusal)
    → read_line text ≡ o → IsPlaced script.suffixes place
    → AskIsOwn (rules_of script hosts) now (Some (ask_of_write (write_of_line script.suffixes site place now o)))
write_own script hosts site place text now (Ok line) read at =
    written_own script hosts site place text line now (made script.suffixes line place (fetch_context place site) true now) read at refl
write_own script hosts site place text now (Err e) read at = tt

-- a write, whose origin is the document's or isn't
origin_own : (script : Script) (hosts : List (List ℕ)) (site : Option Place) (place : Place) (text : List ℕ) (now : ℕ) (same : Bool) → IsPlaced script.suffixes place
    → AskIsOwn (rules_of script hosts) now
    (Some (ask_of_write (if same then write_of_line script.suffixes site place now (read_line text) else Err write.OriginMismatch)))
origin_own script hosts site place text now true at = write_own script hosts site place text now (read_line text) refl at
origin_own script hosts site place text now false at = tt

-- the place of a renderer's step is that of a URL
asked_placed : (rules : List SuffixRule) (document : Place) (url : Option Place) → IsPlaced rules document → IfSome url (IsPlaced rules)
    → IsPlaced rules (asked_place document url)
asked_placed rules document None own other = own
asked_placed rules document (Some place) own other = other

renderer_own : (script : Script) (hosts : List (List ℕ)) (at : Where) (sees : View) (now : ℕ) (w : What) → at.renders ≡ true → MayStand at w
    → IsPlaced script.suffixes sees.0 → IsPlacedWhat script.suffixes w → AskIsOwn (rules_of script hosts) now (ask_of_renderer script.suffixes sees now w)
renderer_own script hosts at sees now (what.Set fetch line) some may own placed = absurd (clash at.renders may some)
renderer_own script hosts at sees now (what.Get fetch) some may own placed = absurd (clash at.renders may some)
renderer_own script hosts at sees now (what.Delete host name path) some may own placed = absurd (clash at.renders may some)
renderer_own script hosts at sees now what.All some may own placed = absurd (clash at.renders may some)
renderer_own script hosts at sees now what.Clear some may own placed = absurd (clash at.renders may some)
renderer_own script hosts at sees now (what.Listen fetch name) some may own placed = tt
renderer_own script hosts at sees now (what.Changes listener) some may own placed = tt
renderer_own script hosts at sees now (what.Unlisten listener) some may own placed = tt
renderer_own script hosts at sees now what.Post some may own placed = tt
renderer_own script hosts at sees now (what.Hear actor n) some may own placed = tt
renderer_own script hosts at sees now (what.Read url) some may own placed =
    let place = asked_place sees.0 url in read_own (rules_of script hosts) now sees place (is_same_origin place sees.0)
renderer_own script hosts at sees now (what.Write line url) some may own placed =
    let place = asked_place sees.0 url in
    origin_own script hosts sees.1 place line now (is_same_origin place sees.0) (asked_placed script.suffixes sees.0 url own placed)

-- ---- what an actor asks

at_own : (script : Script) (hosts : List (List ℕ)) (at : Where) (sees : Option View) (now : ℕ) (w : What) → at.renders ≡ is_some sees → MayStand at w
    → IfSome sees (IsPlacedView script.suffixes) → IsPlacedWhat script.suffixes w → AskIsOwn (rules_of script hosts) now (ask_at script.suffixes sees now w)
at_own script hosts at None now w same may view placed = fetch_own script hosts at now w same may placed
at_own script hosts at (Some sees) now w same may view placed = renderer_own script hosts at sees now w same may view.document placed

bind_own : (r : Rules) (now : ℕ) (sees : Option View) → IsSome sees → AskIsOwn r now (ask_to_bind sees)
bind_own r now None some = absurd cc
bind_own r now (Some sees) some = tt

-- a turn of an actor that sees this and has these steps: a Bind only where it renders
abbrev pub IsTurn : Option View → List Step → Turn → Type 0
IsTurn sees steps binds = IsSome sees
IsTurn sees steps (does step) = (s : ℕ) × (slice_get steps s ≡ Some step)

one_before : (sees : Option View) (step : Step) (steps : List Step) (turn : Turn) → IsTurn sees steps turn → IsTurn sees (step ∷ steps) turn
one_before sees step steps binds is = is
one_before sees step steps (does other) is = (suc is.0, is.1)

step_turn : (sees : Option View) (steps : List Step) (i : ℕ) (turn : Turn) → slice_get (map does steps) i ≡ Some turn → IsTurn sees steps turn
step_turn sees [] i turn e = absurd cc
step_turn sees (step ∷ steps) zero turn e =
    let is : does step ≡ turn = cc in subst (IsTurn sees (step ∷ steps)) is (zero, refl)
step_turn sees (step ∷ steps) (suc i) turn e = one_before sees step steps turn (step_turn sees steps i turn e)

seen_turn : (sees : Option View) (steps : List Step) (i : ℕ) (turn : Turn) → slice_get (turns_before sees ++ map does steps) i ≡ Some turn → IsTurn sees steps turn
seen_turn None steps i turn e = step_turn None steps i turn e
seen_turn (Some sees) steps zero turn e =
    let is : binds ≡ turn = cc in subst (IsTurn (Some sees) steps) is refl
seen_turn (Some sees) steps (suc i) turn e = step_turn (Some sees) steps i turn e

-- a turn of an actor is a turn of one that there is
pub actor_turn : (o : Option Actor) (i : ℕ) (turn : Turn) → slice_get (turns_where o) i ≡ Some turn
    → (actor : Actor) × (o ≡ Some actor) × IsTurn actor.view actor.steps turn
actor_turn None i turn is = absurd cc
actor_turn (Some actor) i turn is = (actor, refl, seen_turn actor.view actor.steps i turn is)

actor_own : (script : Script) (hosts : List (List ℕ)) (actor : Actor) (turn : Turn) → IsAdmittedActor script actor → IsTurn actor.view actor.steps turn
    → AskIsOwn (rules_of script hosts) (turn_now script turn) (ask_of script.suffixes actor.view turn)
actor_own script hosts actor binds one is = bind_own (rules_of script hosts) script.start actor.view is
actor_own script hosts actor (does step) one is =
    at_own script hosts (place_of_step script actor is.0) actor.view step.now step.what refl (one.steps_stand is.0 step is.1) one.view_places
    (one.step_places is.0 step is.1)

pub turn_own : (script : Script) (hosts : List (List ℕ)) (a i : ℕ) (turn : Turn) → IsAdmitted script → slice_get (turns_at script.actors a) i ≡ Some turn
    → AskIsOwn (rules_of script hosts) (turn_now script turn) (ask_of script.suffixes (view_at script.actors a) turn)
turn_own script hosts a i turn admitted is =
    let there = actor_turn (slice_get script.actors a) i turn is in
    subst (λ o. AskIsOwn (rules_of script hosts) (turn_now script turn) (ask_of script.suffixes (view_where o) turn)) (sym there.1)
    (actor_own script hosts there.0 turn (admitted.each_actor a there.0 there.1) there.2)

-- ---- what is asked is well keyed

own_keyed : (r : Rules) (now : ℕ) (op : Op) → OpIsOwn r now op → is_well_keyed r op ≡ true
own_keyed r now (Bind key) own = refl
own_keyed r now (Set cookie script secure) own = (bytes_eq-Decides cookie.key (key_at r cookie.host)).1 own.0
own_keyed r now (Get request) own = refl
own_keyed r now (Delete key id) own = (bytes_eq-Decides key (key_at r id.host)).1 own
own_keyed r now All own = refl
own_keyed r now Clear own = refl
own_keyed r now (Listen scope) own = refl
own_keyed r now (Changes number) own = refl
own_keyed r now (Unlisten number) own = refl
own_keyed r now Post own = refl
own_keyed r now (Hear actor n) own = refl

own_may_be_asked : (r : Rules) (now : ℕ) (o : Option Ask) → AskIsOwn r now o → MayBeAsked r o
own_may_be_asked r now None own = own
own_may_be_asked r now (Some (ask.Op op)) own = own_keyed r now op own
own_may_be_asked r now (Some (ask.Refused name)) own = tt

-- a turn asks something, and an op that it asks is well keyed
pub turn_may_be_asked : (script : Script) (hosts : List (List ℕ)) (a i : ℕ) (turn : Turn) → IsAdmitted script
    → slice_get (turns_at script.actors a) i ≡ Some turn
    → MayBeAsked (rules_of script hosts) (ask_of script.suffixes (view_at script.actors a) turn)
turn_may_be_asked script hosts a i turn admitted is =
    own_may_be_asked (rules_of script hosts) (turn_now script turn) (ask_of script.suffixes (view_at script.actors a) turn)
    (turn_own script hosts a i turn admitted is)
