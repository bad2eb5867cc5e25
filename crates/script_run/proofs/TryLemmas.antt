-- A try of an actor: which turn is next, what it asks, and what it makes of the run.
use Rattle.std.proofs.Common.{◌≡◌, ◌<◌, ◌≤◌, ◌-◌, ℕ, zero, suc, List, [], ◌∷◌, ◌++◌, Bool, true, false, Option, None, Some, length, map, refl, ap, sym, ◌∙◌, arith, subst}
use Rattle.std.proofs.lemmas.List.{length-map}
use Rattle.std.specs.Prelude.{◌&&◌, bytes_eq, nat_le, option_map, slice_get, slice_index_or, IfSome, IsSome, Result, Ok, Err}
use Rattle.jar_types.specs.declared.ask_cause.AskCause.{AskCause}
use Rattle.jar_types.specs.declared.ask_cause.AskCause.TheVariants.{Other}
use Rattle.jar_types.specs.declared.op.Op.{Op}
use Rattle.jar_types.specs.declared.row.RowChange.{RowChange}
use Rattle.jar_types.specs.Journals.{Rules, is_well_keyed}
use Rattle.jar_types.specs.States.{JarState}
use Rattle.locked_jar.specs.LockedJars.{LockedJar}
use Rattle.public_suffix.specs.Rule.{SuffixRule}
use Rattle.restricted_manager.specs.Documents.{asked_place, is_same_origin, is_same_place}
use Rattle.restricted_manager.specs.Managers.{ManagerStanding}
use Rattle.restricted_manager.specs.Requests.{bind_of, read_of}
use Rattle.run_report.specs.declared.item.Item.{Item}
use Rattle.run_report.specs.declared.item.Item.TheVariants.{Reused, Refused}
use Rattle.run_report.specs.declared.refusal_name.RefusalName.TheVariants.{OriginMismatch}
use Rattle.script_text.specs.declared.actor.Actor.{Actor}
use Rattle.script_text.specs.declared.script.Script.{Script}
use Rattle.script_text.specs.declared.step.Step.{Step}
use Rattle.script_text.specs.declared.step.What.{What}
use Rattle.script_text.specs.declared.step.What.TheVariants.{Set, Get, Delete, All, Clear, Listen, Changes, Unlisten, Post, Hear, Read, Write}
use Rattle.script_text.specs.Placed.{View}
use Rattle.site_match.specs.declared.place.Place.{Place}
use Rattle.script_run.specs.declared.ask.Ask.{Ask}
use Rattle.script_run.specs.declared.ask.Ask.TheVariants as ask
use Rattle.script_run.specs.declared.purpose.Purpose.TheVariants as purpose
use Rattle.script_run.specs.Ask.{MayBeAsked, ask_at, ask_of, ask_of_read}
use Rattle.script_run.specs.Legal.{is_read}
use Rattle.script_run.specs.Players.{IsMeant, PlayersStanding, holding_of, run_of, sight, view_of, with_item}
use Rattle.script_run.specs.Reads.{Holding, Way, calls, found, found_where, read_way, step_way}
use Rattle.script_run.specs.Runs.{Run, asked, called_within, holding_at, items_at, noted, tried, tried_turn, tried_where, went}
use Rattle.script_run.specs.Turns.{Turn, binds, does, lead_of, turns_at, turns_before, turns_of, turns_where, view_at, view_where}
use Rattle.script_run.proofs.PlayerLemmas.{same_at}

-- ---- what is seen

-- a manager sees what its actor does
pub view_same : (ms : List (Option ManagerStanding)) (actors : List Actor) (a : ℕ) → map view_of ms ≡ map sight actors
    → view_of (slice_index_or ms a None) ≡ view_at actors a
view_same [] [] a same = refl
view_same [] (x ∷ xs) a same = absurd cc
view_same (m ∷ ms) [] a same = absurd cc
view_same (m ∷ ms) (x ∷ xs) zero same = let e : view_of m ≡ sight x = cc in e
view_same (m ∷ ms) (x ∷ xs) (suc a) same = let e : map view_of ms ≡ map sight xs = cc in view_same ms xs a e

there_by : (m : Option ManagerStanding) (o : Option View) → view_of m ≡ o → IsSome o → IsSome m
there_by None None same is = absurd cc
there_by None (Some sees) same is = absurd cc
there_by (Some m) o same is = refl

-- who sees something has a manager
pub manager_there : (ms : List (Option ManagerStanding)) (actors : List Actor) (a : ℕ) → map view_of ms ≡ map sight actors
    → IsSome (view_at actors a) → IsSome (slice_index_or ms a None)
manager_there ms actors a same is = there_by (slice_index_or ms a None) (view_at actors a) (view_same ms actors a same) is

-- there are as many managers as actors
managers_many : (ms : List (Option ManagerStanding)) (actors : List Actor) → map view_of ms ≡ map sight actors → length ms ≡ length actors
managers_many ms actors same = sym (length-map ms view_of) ∙ (ap length same ∙ length-map actors sight)

-- the manager that was found at an actor is its own
pub manager_found : (ms found_in : List (Option ManagerStanding)) (actors : List Actor) (a : ℕ) (m : Option ManagerStanding) → map view_of ms ≡ map sight actors
    → a < length actors → found_in ≡ ms → m ≡ slice_index_or found_in a m → m ≡ slice_index_or ms a None
manager_found ms found_in actors a m same low is at =
    let many = managers_many ms actors same in
    at ∙ (ap (λ (ns : List (Option ManagerStanding)). slice_index_or ns a m) is ∙ same_at ms a m None (omega (arith, low, many)))

-- the items that were found at an actor are its own
pub items_found : (lists found_in : List (List Item)) (a : ℕ) (items : List Item) → found_in ≡ lists → a < length lists
    → items ≡ slice_index_or found_in a items → items ≡ slice_index_or lists a []
items_found lists found_in a items is low at =
    at ∙ (ap (λ (ls : List (List Item)). slice_index_or ls a items) is ∙ same_at lists a items [] low)

-- ---- the run, where only a pass changed

pub run_found : (j j' : LockedJar) (kept kept' : List RowChange) (old new : PlayersStanding) → j' ≡ j → kept' ≡ kept → new.items ≡ old.items
    → new.managers ≡ old.managers → run_of j' kept' new ≡ run_of j kept old
run_found j j' kept kept' old new jar keeps items managers =
    ap (λ (k : LockedJar). run_of k kept' new) jar
    ∙ (ap (λ (w : List RowChange). run_of j w new) keeps
    ∙ (ap (λ (is : List (List Item)). record (run_of j kept new) { items = is }) items
    ∙ ap (λ (ms : List (Option ManagerStanding)). record (run_of j kept old) { holdings = map holding_of ms }) managers))

pub run_noted : (j j' : LockedJar) (kept kept' : List RowChange) (old between new : PlayersStanding) (a : ℕ) (item : Item) → j' ≡ j → kept' ≡ kept
    → between.items ≡ old.items → between.managers ≡ old.managers → new ≡ with_item between a item
    → run_of j' kept' new ≡ noted a (run_of j kept old) item
run_noted j j' kept kept' old between new a item jar keeps items managers is =
    ap (run_of j' kept') is ∙ ap (λ (r : Run). noted a r item) (run_found j j' kept kept' old between jar keeps items managers)

-- ---- a Bind

pub bind_keyed : (r : Rules) (o : Op) (m : Option ManagerStanding) → IsSome m → IfSome m (λ n. o ≡ bind_of n) → is_well_keyed r o ≡ true
bind_keyed r o None is binds_it = absurd cc
bind_keyed r o (Some m) is binds_it = ap (is_well_keyed r) binds_it

pub bind_meant : (o : Op) (m : Option ManagerStanding) → IsSome m → IfSome m (λ n. o ≡ bind_of n) → IsMeant purpose.Bind o m
bind_meant o None is binds_it = absurd cc
bind_meant o (Some m) is binds_it = (refl, (m.document.key, binds_it))

pub bind_tried : (script : Script) (a : ℕ) (r : Run) (o : Op) (m : Option ManagerStanding) → IsSome m → IfSome m (λ n. o ≡ bind_of n)
    → view_of m ≡ view_at script.actors a
    → called_within (nat_le script.limit r.state.calls) a r script.start o purpose.Bind ≡ tried_turn script a r binds
bind_tried script a r o None is binds_it same = absurd cc
bind_tried script a r o (Some m) is binds_it same =
    ap (λ (p : Op). called_within (nat_le script.limit r.state.calls) a r script.start p purpose.Bind) binds_it
    ∙ ap (λ (v : Option View). went script a r script.start (calls purpose.Bind) (ask_of script.suffixes v binds)) same

-- ---- a read

-- a read of a URL at a moment
abbrev pub read_at : ℕ → Option Place → Turn
read_at now url = does (record { now = now; what = Read url })

-- what a read makes of the run, by what it finds and whether its origin is the document's
abbrev pub read_by : Script → ℕ → Run → ℕ → ManagerStanding → Option Place → Result (List ℕ) AskCause → Bool → Run
read_by script a r now m url f origin =
    went script a r now (read_way f) (Some (ask_of_read (m.document, m.site) (asked_place m.document url) origin))

read_tried : (script : Script) (a : ℕ) (r : Run) (now : ℕ) (m : ManagerStanding) (url : Option Place) → view_of (Some m) ≡ view_at script.actors a
    → holding_at r a ≡ holding_of (Some m)
    → tried_turn script a r (read_at now url)
    ≡ read_by script a r now m url (found r.state now (m.document, m.site) (holding_of (Some m)) url) (is_same_origin (asked_place m.document url) m.document)
read_tried script a r now m url same holds =
    let step : Step = record { now = now; what = Read url } in
    ap (λ (v : Option View). went script a r now (step_way r.state now v (holding_at r a) (Read url)) (ask_at script.suffixes v now (Read url))) (sym same)
    ∙ ap (λ (h : Holding). went script a r now (step_way r.state now (Some (m.document, m.site)) h (Read url))
    (ask_at script.suffixes (Some (m.document, m.site)) now (Read url))) holds

pub read_reuses : (script : Script) (a : ℕ) (r : Run) (now : ℕ) (m : ManagerStanding) (url : Option Place) (text : List ℕ) → view_of (Some m) ≡ view_at script.actors a
    → holding_at r a ≡ holding_of (Some m) → found r.state now (m.document, m.site) (holding_of (Some m)) url ≡ Ok text
    → noted a r (Reused text) ≡ tried_turn script a r (read_at now url)
read_reuses script a r now m url text same holds is =
    sym (read_tried script a r now m url same holds
    ∙ ap (λ (f : Result (List ℕ) AskCause). read_by script a r now m url f (is_same_origin (asked_place m.document url) m.document)) is)

pub read_asks : (script : Script) (a : ℕ) (r : Run) (now : ℕ) (m : ManagerStanding) (url : Option Place) (cause : AskCause) (o : Op)
    → view_of (Some m) ≡ view_at script.actors a → holding_at r a ≡ holding_of (Some m)
    → found r.state now (m.document, m.site) (holding_of (Some m)) url ≡ Err cause → is_same_origin (asked_place m.document url) m.document ≡ true
    → o ≡ read_of m (asked_place m.document url)
    → called_within (nat_le script.limit r.state.calls) a r now o (purpose.Read cause) ≡ tried_turn script a r (read_at now url)
read_asks script a r now m url cause o same holds is origin op_is =
    ap (λ (p : Op). called_within (nat_le script.limit r.state.calls) a r now p (purpose.Read cause)) op_is
    ∙ sym (read_tried script a r now m url same holds
    ∙ (ap (λ (f : Result (List ℕ) AskCause). read_by script a r now m url f (is_same_origin (asked_place m.document url) m.document)) is
    ∙ ap (λ (b : Bool). read_by script a r now m url (Err cause) b) origin))

other_place : (p q : Place) (o : Bool) → is_same_origin p q ≡ o → o ≡ false → is_same_place p q ≡ false
other_place p q o is other = ap (λ b. b && bytes_eq p.path q.path && bytes_eq p.key q.key) (is ∙ other)

pub read_refused : (script : Script) (a : ℕ) (r : Run) (now : ℕ) (m : ManagerStanding) (url : Option Place) → view_of (Some m) ≡ view_at script.actors a
    → holding_at r a ≡ holding_of (Some m) → is_same_origin (asked_place m.document url) m.document ≡ false
    → noted a r (Refused OriginMismatch) ≡ tried_turn script a r (read_at now url)
read_refused script a r now m url same holds origin =
    let place = asked_place m.document url in
    let other : found r.state now (m.document, m.site) (holding_of (Some m)) url ≡ Err Other =
    ap (λ b. found_where b r.state now (holding_of (Some m))) (other_place place m.document (is_same_origin place m.document) refl origin) in
    sym (read_tried script a r now m url same holds
    ∙ (ap (λ (f : Result (List ℕ) AskCause). read_by script a r now m url f (is_same_origin place m.document)) other
    ∙ ap (λ (b : Bool). read_by script a r now m url (Err Other) b) origin))

-- ---- another step

step_calls : (s : JarState) (now : ℕ) (sees : Option View) (h : Holding) (what : What) → is_read what ≡ false → step_way s now sees h what ≡ calls purpose.Call
step_calls s now sees h (Set fetch line) unread = refl
step_calls s now sees h (Get fetch) unread = refl
step_calls s now sees h (Delete host name path) unread = refl
step_calls s now sees h All unread = refl
step_calls s now sees h Clear unread = refl
step_calls s now sees h (Listen fetch name) unread = refl
step_calls s now sees h (Changes listener) unread = refl
step_calls s now sees h (Unlisten listener) unread = refl
step_calls s now sees h Post unread = refl
step_calls s now sees h (Hear actor n) unread = refl
step_calls s now sees h (Read url) unread = absurd cc
step_calls s now sees h (Write line url) unread = refl

-- a step that is no Read is no read
pub not_read : (what : What) → ((url : Option Place) → what ≡ Read url → ⊥) → is_read what ≡ false
not_read (Set fetch line) other = refl
not_read (Get fetch) other = refl
not_read (Delete host name path) other = refl
not_read All other = refl
not_read Clear other = refl
not_read (Listen fetch name) other = refl
not_read (Changes listener) other = refl
not_read (Unlisten listener) other = refl
not_read Post other = refl
not_read (Hear actor n) other = refl
not_read (Read url) other = absurd (other url refl)
not_read (Write line url) other = refl

-- what a step that is no read makes of the run, by what it asks
pub step_tried : (script : Script) (a : ℕ) (r : Run) (step : Step) (m : Option ManagerStanding) (o : Ask) → is_read step.what ≡ false
    → view_of m ≡ view_at script.actors a → ask_at script.suffixes (view_of m) step.now step.what ≡ Some o
    → asked script a r step.now purpose.Call (Some o) ≡ tried_turn script a r (does step)
step_tried script a r step m o unread same asks =
    let sees = view_at script.actors a in
    let way = step_calls r.state step.now sees (holding_at r a) step.what unread in
    let told : ask_at script.suffixes sees step.now step.what ≡ Some o =
    ap (λ (v : Option View). ask_at script.suffixes v step.now step.what) (sym same) ∙ asks in
    sym (ap (λ (w : Way). went script a r step.now w (ask_at script.suffixes sees step.now step.what)) way
    ∙ ap (λ (q : Option Ask). went script a r step.now (calls purpose.Call) q) told)

asked_something : (r : Rules) (o : Option Ask) → MayBeAsked r o → IsSome o
asked_something r None may = absurd may
asked_something r (Some a) may = refl

-- something is asked
pub step_asks : (r : Rules) (rules : List SuffixRule) (m : Option ManagerStanding) (sees : Option View) (step : Step) → view_of m ≡ sees
    → MayBeAsked r (ask_of rules sees (does step)) → IsSome (ask_at rules (view_of m) step.now step.what)
step_asks r rules m sees step same may =
    subst (λ (v : Option View). IsSome (ask_at rules v step.now step.what)) (sym same) (asked_something r (ask_at rules sees step.now step.what) may)

-- an op that is asked has the key of its host
pub step_keyed : (r : Rules) (rules : List SuffixRule) (m : Option ManagerStanding) (sees : Option View) (step : Step) (o : Op) → view_of m ≡ sees
    → MayBeAsked r (ask_of rules sees (does step)) → ask_at rules (view_of m) step.now step.what ≡ Some (ask.Op o) → is_well_keyed r o ≡ true
step_keyed r rules m sees step o same may asks =
    let told : ask_at rules sees step.now step.what ≡ Some (ask.Op o) =
    ap (λ (v : Option View). ask_at rules v step.now step.what) (sym same) ∙ asks in
    subst (λ (q : Option Ask). MayBeAsked r q) told may

-- ---- the next turn

does_at : (steps : List Step) (i : ℕ) → slice_get (map does steps) i ≡ option_map does (slice_get steps i)
does_at [] i = refl
does_at (s ∷ ss) zero = refl
does_at (s ∷ ss) (suc i) = does_at ss i

turn_at : (actors : List Actor) (a : ℕ) (actor : Actor) → slice_get actors a ≡ Some actor → turns_at actors a ≡ turns_of actor
turn_at actors a actor is = ap (λ (o : Option Actor). turns_where o) is

lead_at : (sees : Option View) (steps : List Step) (done : ℕ) → length (turns_before sees) ≤ done
    → slice_get (turns_before sees ++ map does steps) done ≡ option_map does (slice_get steps (done - length (turns_before sees)))
lead_at None steps done past =
    let e : done - length (turns_before None) ≡ done = omega arith in
    does_at steps done ∙ ap (λ i. option_map does (slice_get steps i)) (sym e)
lead_at (Some sees) steps zero past = absurd (omega (arith, past))
lead_at (Some sees) steps (suc done) past =
    let e : suc done - length (binds ∷ []) ≡ done = omega arith in
    does_at steps done ∙ ap (λ i. option_map does (slice_get steps i)) (sym e)

-- past its lead an actor's next turn is its next step
pub turn_is : (actors : List Actor) (a done : ℕ) (actor : Actor) (o : Option Step) → slice_get actors a ≡ Some actor → lead_of actor ≤ done
    → slice_get actor.steps (done - lead_of actor) ≡ o → slice_get (turns_at actors a) done ≡ option_map does o
turn_is actors a done actor o there past is =
    ap (λ (ts : List Turn). slice_get ts done) (turn_at actors a actor there) ∙ (lead_at actor.view actor.steps done past ∙ ap (option_map does) is)

pub next_is : (script : Script) (a : ℕ) (r : Run) (actor : Actor) (o : Option Step) → slice_get script.actors a ≡ Some actor
    → lead_of actor ≤ length (items_at r a)
    → slice_get actor.steps (length (items_at r a) - lead_of actor) ≡ o
    → tried script a r ≡ tried_where script a r (option_map does o)
next_is script a r actor o there past is =
    ap (tried_where script a r) (turn_is script.actors a (length (items_at r a)) actor o there past is)

first_at : (sees : Option View) (steps : List Step) (done : ℕ) → done < length (turns_before sees)
    → (slice_get (turns_before sees ++ map does steps) done ≡ Some binds) × IsSome sees
first_at None steps done before = absurd (omega (arith, before))
first_at (Some sees) steps zero before = (refl, refl)
first_at (Some sees) steps (suc done) before = absurd (omega (arith, before))

-- and before it the Bind
pub next_binds : (script : Script) (a : ℕ) (r : Run) (actor : Actor) → slice_get script.actors a ≡ Some actor
    → length (items_at r a) < lead_of actor
    → (tried script a r ≡ tried_turn script a r binds) × IsSome (view_at script.actors a)
next_binds script a r actor there before =
    let done = length (items_at r a) in
    let first = first_at actor.view actor.steps done before in (
      ap (tried_where script a r) (ap (λ (ts : List Turn). slice_get ts done) (turn_at script.actors a actor there) ∙ first.0),
      subst (λ (o : Option Actor). IsSome (view_where o)) (sym there) first.1,
    )
