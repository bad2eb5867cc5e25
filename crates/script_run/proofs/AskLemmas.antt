-- What the op that a turn asks is: a Post for a post, and a Hear for a hear alone.
use Rattle.std.proofs.Common.{◌≡◌, ℕ, List, Bool, true, false, cond, Option, None, Some, refl, ap, sym, ◌∙◌, nat_lt, slice_index}
use Rattle.std.specs.Prelude.{Result, Ok, Err, if◌then◌else◌}
use Rattle.jar_values.specs.Hosts.{undotted}
use Rattle.jar_types.specs.declared.cookie.Cookie.{Cookie}
use Rattle.jar_types.specs.declared.op.Op.{Op}
use Rattle.jar_types.specs.declared.op.Op.TheVariants as op
use Rattle.jar_types.specs.declared.tally.Tally.{Tally}
use Rattle.jar_types.specs.Posts.{op_wanting}
use Rattle.jar_types.specs.States.{JarState}
use Rattle.jar_types.specs.Tallies.{counted, tally_of}
use Rattle.public_suffix.specs.Rule.{SuffixRule}
use Rattle.public_suffix.specs.Suffix.{key_of}
use Rattle.set_cookie_line.specs.declared.line.Line.{Line}
use Rattle.set_cookie_line.specs.declared.line.LineRefusal.{LineRefusal}
use Rattle.set_cookie_line.specs.Line.{read_line}
use Rattle.site_match.specs.declared.fetch.FetchAsk.{FetchAsk}
use Rattle.site_match.specs.declared.place.Place.{Place}
use Rattle.site_match.specs.Contexts.{context_of, fetch_context}
use Rattle.site_match.specs.Schemes.{is_secure}
use Rattle.canonical_cookie.specs.declared.refusal.CookieRefusal.{CookieRefusal}
use Rattle.canonical_cookie.specs.Making.{made}
use Rattle.restricted_manager.specs.declared.write.WriteRefusal.TheVariants as write
use Rattle.restricted_manager.specs.Documents.{asked_place, is_same_origin}
use Rattle.restricted_manager.specs.Requests.{bind_of, listen_of, read_of}
use Rattle.restricted_manager.specs.Writes.{write_of_cookie, write_of_line}
use Rattle.script_text.specs.declared.step.What.{What}
use Rattle.script_text.specs.declared.step.What.TheVariants.{Set, Get, Delete, All, Clear, Listen, Changes, Unlisten, Post, Hear, Read, Write}
use Rattle.script_text.specs.Deadlocks.{posts}
use Rattle.script_text.specs.Placed.{View}
use Rattle.script_run.specs.declared.ask.Ask.{Ask}
use Rattle.script_run.specs.declared.ask.Ask.TheVariants as ask
use Rattle.script_run.specs.Ask.{ask_at, ask_of, ask_of_cookie, ask_of_fetch, ask_of_line, ask_of_read, ask_of_renderer, ask_of_write, id_of_texts, manager_of, request_of, scope_of}
use Rattle.script_run.specs.Reads.{Holding, reuses, step_way, way_of}
use Rattle.script_run.specs.Turns.{Turn, binds, does}
use Rattle.script_run.proofs.SameLemmas.{posts_after}
use Rattle.script_run.proofs.TurnLemmas.{turn_posts, turn_waits}

-- what is known of the op that a turn asks, at a state
pub record OpOf (s : JarState) (caller : ℕ) (turn : Turn) (o : Op) : Type 0 where
  pub posting : (made : List Tally) → posts_after o caller made ≡ cond (turn_posts turn) (counted caller made) made
  pub waiting : (counts : List ℕ) (found : ℕ) → ((b : ℕ) → tally_of b s.posts ≡ slice_index counts b)
      → op_wanting s o ≡ Some found → turn_waits counts turn ≡ true

-- an op that makes no post and waits for none
record IsQuiet (s : JarState) (caller : ℕ) (o : Op) : Type 0 where
  same : (made : List Tally) → posts_after o caller made ≡ made
  none : op_wanting s o ≡ None

no_wait : (s : JarState) (caller : ℕ) (turn : Turn) (o : Op) → turn_posts turn ≡ false → IsQuiet s caller o → OpOf s caller turn o
no_wait s caller turn o no_post quiet = record {
  posting = λ made. quiet.same made ∙ ap (λ b. cond b (counted caller made) made) (sym no_post);
  waiting = λ counts found told some. let clash : None ≡ Some found = sym quiet.none ∙ some in absurd cc;
}

-- an op that is just asked
same_op : (x o : Op) → Some (ask.Op x) ≡ Some (ask.Op o) → x ≡ o
same_op x o e = cc

quiet_op : (s : JarState) (caller : ℕ) (x o : Op) → IsQuiet s caller x → Some (ask.Op x) ≡ Some (ask.Op o) → IsQuiet s caller o
quiet_op s caller x o quiet e = rw (sym (same_op x o e)) quiet

-- ---- a set, and a write

cookie_quiet : (s : JarState) (caller : ℕ) (fetch : FetchAsk) (r : Result Cookie CookieRefusal) (o : Op)
    → Some (ask_of_cookie fetch r) ≡ Some (ask.Op o) → IsQuiet s caller o
cookie_quiet s caller fetch (Ok cookie) o is =
    quiet_op s caller (op.Set cookie false (is_secure fetch.place.scheme)) o (record { same = λ made. refl; none = refl }) is
cookie_quiet s caller fetch (Err refusal) o is = absurd cc

line_quiet : (rules : List SuffixRule) (s : JarState) (caller now : ℕ) (fetch : FetchAsk) (r : Result Line LineRefusal) (o : Op)
    → Some (ask_of_line rules fetch now r) ≡ Some (ask.Op o) → IsQuiet s caller o
line_quiet rules s caller now fetch (Ok read) o is =
    cookie_quiet s caller fetch (made rules read fetch.place (context_of fetch) false now) o is
line_quiet rules s caller now fetch (Err refusal) o is = absurd cc

write_quiet : (s : JarState) (caller : ℕ) (place : Place) (r : Result Cookie CookieRefusal) (o : Op)
    → Some (ask_of_write (write_of_cookie place r)) ≡ Some (ask.Op o) → IsQuiet s caller o
write_quiet s caller place (Ok cookie) o is =
    quiet_op s caller (op.Set cookie true (is_secure place.scheme)) o (record { same = λ made. refl; none = refl }) is
write_quiet s caller place (Err refusal) o is = absurd cc

written_quiet : (rules : List SuffixRule) (s : JarState) (caller now : ℕ) (site : Option Place) (place : Place) (r : Result Line LineRefusal) (o : Op)
    → Some (ask_of_write (write_of_line rules site place now r)) ≡ Some (ask.Op o) → IsQuiet s caller o
written_quiet rules s caller now site place (Ok read) o is =
    write_quiet s caller place (made rules read place (fetch_context place site) true now) o is
written_quiet rules s caller now site place (Err refusal) o is = absurd cc

origin_quiet : (same : Bool) (rules : List SuffixRule) (s : JarState) (caller now : ℕ) (site : Option Place) (place : Place) (text : List ℕ) (o : Op)
    → Some (ask_of_write (if same then write_of_line rules site place now (read_line text) else Err write.OriginMismatch)) ≡ Some (ask.Op o) → IsQuiet s caller o
origin_quiet true rules s caller now site place text o is = written_quiet rules s caller now site place (read_line text) o is
origin_quiet false rules s caller now site place text o is = absurd cc

read_quiet : (same : Bool) (s : JarState) (caller : ℕ) (sees : View) (place : Place) (o : Op)
    → Some (ask_of_read sees place same) ≡ Some (ask.Op o) → IsQuiet s caller o
read_quiet true s caller sees place o is = quiet_op s caller (read_of (manager_of sees) place) o (record { same = λ made. refl; none = refl }) is
read_quiet false s caller sees place o is = absurd cc

-- ---- a post, and a hear

post_op : (s : JarState) (caller now : ℕ) (o : Op) → Some (ask.Op op.Post) ≡ Some (ask.Op o) → OpOf s caller (does (record { now = now; what = Post })) o
post_op s caller now o is = rw (sym (same_op op.Post o is)) (record { posting = λ made. refl; waiting = λ counts found told some. absurd cc })

-- a hear that waits is told so by the counts
fewer_waits : (b : Bool) (told count n found : ℕ) → told ≡ count → nat_lt told n ≡ b → (if b then Some told else None) ≡ Some found → nat_lt count n ≡ true
fewer_waits true told count n found same is some = ap (λ k. nat_lt k n) (sym same) ∙ is
fewer_waits false told count n found same is some = absurd cc

hear_op : (s : JarState) (caller now actor n : ℕ) (o : Op) → Some (ask.Op (op.Hear actor n)) ≡ Some (ask.Op o)
    → OpOf s caller (does (record { now = now; what = Hear actor n })) o
hear_op s caller now actor n o is = rw (sym (same_op (op.Hear actor n) o is)) (record {
  posting = λ made. refl;
  waiting = λ counts found told some. fewer_waits (nat_lt (tally_of actor s.posts) n) (tally_of actor s.posts) (slice_index counts actor) n found (told actor) refl some;
})

-- ---- a step

quiet_step : (s : JarState) (caller now : ℕ) (what : What) (o : Op) → posts what ≡ false → IsQuiet s caller o → OpOf s caller (does (record { now = now; what = what })) o
quiet_step s caller now what o no_post quiet = no_wait s caller (does (record { now = now; what = what })) o no_post quiet

fetch_op : (rules : List SuffixRule) (s : JarState) (caller now : ℕ) (what : What) (o : Op)
    → ask_of_fetch rules now what ≡ Some (ask.Op o) → OpOf s caller (does (record { now = now; what = what })) o
fetch_op rules s caller now (Set fetch line) o is = quiet_step s caller now (Set fetch line) o refl (line_quiet rules s caller now fetch (read_line line) o is)
fetch_op rules s caller now (Get fetch) o is = quiet_step s caller now (Get fetch) o refl (quiet_op s caller (op.Get (request_of fetch)) o (record { same = λ made. refl; none = refl }) is)
fetch_op rules s caller now (Delete host name path) o is =
    let delete = op.Delete (key_of rules (undotted host)) (id_of_texts host name path) in
    quiet_step s caller now (Delete host name path) o refl (quiet_op s caller (delete) o (record { same = λ made. refl; none = refl }) is)
fetch_op rules s caller now All o is = quiet_step s caller now (All) o refl (quiet_op s caller (op.All) o (record { same = λ made. refl; none = refl }) is)
fetch_op rules s caller now Clear o is = quiet_step s caller now (Clear) o refl (quiet_op s caller (op.Clear) o (record { same = λ made. refl; none = refl }) is)
fetch_op rules s caller now (Listen fetch name) o is =
    quiet_step s caller now (Listen fetch name) o refl (quiet_op s caller (op.Listen (scope_of fetch name)) o (record { same = λ made. refl; none = refl }) is)
fetch_op rules s caller now (Changes listener) o is = quiet_step s caller now (Changes listener) o refl (quiet_op s caller (op.Changes listener) o (record { same = λ made. refl; none = refl }) is)
fetch_op rules s caller now (Unlisten listener) o is = quiet_step s caller now (Unlisten listener) o refl (quiet_op s caller (op.Unlisten listener) o (record { same = λ made. refl; none = refl }) is)
fetch_op rules s caller now Post o is = post_op s caller now o is
fetch_op rules s caller now (Hear actor n) o is = hear_op s caller now actor n o is
fetch_op rules s caller now (Read url) o is = absurd cc
fetch_op rules s caller now (Write line url) o is = absurd cc

renderer_op : (rules : List SuffixRule) (sees : View) (s : JarState) (caller now : ℕ) (what : What) (o : Op)
    → ask_of_renderer rules sees now what ≡ Some (ask.Op o) → OpOf s caller (does (record { now = now; what = what })) o
renderer_op rules sees s caller now (Set fetch line) o is = absurd cc
renderer_op rules sees s caller now (Get fetch) o is = absurd cc
renderer_op rules sees s caller now (Delete host name path) o is = absurd cc
renderer_op rules sees s caller now All o is = absurd cc
renderer_op rules sees s caller now Clear o is = absurd cc
renderer_op rules sees s caller now (Listen fetch name) o is =
    quiet_step s caller now (Listen fetch name) o refl (quiet_op s caller (listen_of (manager_of sees) name) o (record { same = λ made. refl; none = refl }) is)
renderer_op rules sees s caller now (Changes listener) o is = quiet_step s caller now (Changes listener) o refl (quiet_op s caller (op.Changes listener) o (record { same = λ made. refl; none = refl }) is)
renderer_op rules sees s caller now (Unlisten listener) o is = quiet_step s caller now (Unlisten listener) o refl (quiet_op s caller (op.Unlisten listener) o (record { same = λ made. refl; none = refl }) is)
renderer_op rules sees s caller now Post o is = post_op s caller now o is
renderer_op rules sees s caller now (Hear actor n) o is = hear_op s caller now actor n o is
renderer_op rules sees s caller now (Read url) o is =
    let place = asked_place sees.0 url in
    quiet_step s caller now (Read url) o refl (read_quiet (is_same_origin place sees.0) s caller sees place o is)
renderer_op rules sees s caller now (Write line url) o is =
    let place = asked_place sees.0 url in
    quiet_step s caller now (Write line url) o refl
    (origin_quiet (is_same_origin place sees.0) rules s caller now sees.1 place line o is)

-- ---- a turn

pub op_of : (rules : List SuffixRule) (v : Option View) (s : JarState) (caller : ℕ) (turn : Turn) (o : Op)
    → ask_of rules v turn ≡ Some (ask.Op o) → OpOf s caller turn o
op_of rules None s caller binds o is = absurd cc
op_of rules (Some sees) s caller binds o is =
    no_wait s caller binds o refl (quiet_op s caller (bind_of (manager_of sees)) o (record { same = λ made. refl; none = refl }) is)
op_of rules None s caller (does step) o is = fetch_op rules s caller step.now step.what o is
op_of rules (Some sees) s caller (does step) o is = renderer_op rules sees s caller step.now step.what o is

-- ---- a turn that makes no entry

post_asks : (rules : List SuffixRule) (v : Option View) (now : ℕ) → ask_at rules v now Post ≡ Some (ask.Op op.Post)
post_asks rules None now = refl
post_asks rules (Some sees) now = refl

refused_step : (rules : List SuffixRule) (v : Option View) (now : ℕ) (what : What) (a : Ask) → ask_at rules v now what ≡ Some a
    → ((o : Op) → a ≡ ask.Op o → ⊥) → posts what ≡ false
refused_step rules v now (Set fetch line) a is no_op = refl
refused_step rules v now (Get fetch) a is no_op = refl
refused_step rules v now (Delete host name path) a is no_op = refl
refused_step rules v now All a is no_op = refl
refused_step rules v now Clear a is no_op = refl
refused_step rules v now (Listen fetch name) a is no_op = refl
refused_step rules v now (Changes listener) a is no_op = refl
refused_step rules v now (Unlisten listener) a is no_op = refl
refused_step rules v now Post a is no_op =
    let both : Some (ask.Op op.Post) ≡ Some a = sym (post_asks rules v now) ∙ is in
    absurd (no_op op.Post (let same : ask.Op op.Post ≡ a = cc in sym same))
refused_step rules v now (Hear actor n) a is no_op = refl
refused_step rules v now (Read url) a is no_op = refl
refused_step rules v now (Write line url) a is no_op = refl

-- a turn that is refused is no post
pub refused_no_post : (rules : List SuffixRule) (v : Option View) (turn : Turn) (a : Ask) → ask_of rules v turn ≡ Some a
    → ((o : Op) → a ≡ ask.Op o → ⊥) → turn_posts turn ≡ false
refused_no_post rules v binds a is no_op = refl
refused_no_post rules v (does step) a is no_op = refused_step rules v step.now step.what a is no_op

reused_step : (s : JarState) (now : ℕ) (v : Option View) (h : Holding) (what : What) (text : List ℕ) → step_way s now v h what ≡ reuses text → posts what ≡ false
reused_step s now v h (Set fetch line) text is = refl
reused_step s now v h (Get fetch) text is = refl
reused_step s now v h (Delete host name path) text is = refl
reused_step s now v h All text is = refl
reused_step s now v h Clear text is = refl
reused_step s now v h (Listen fetch name) text is = refl
reused_step s now v h (Changes listener) text is = refl
reused_step s now v h (Unlisten listener) text is = refl
reused_step s now v h Post text is = absurd cc
reused_step s now v h (Hear actor n) text is = refl
reused_step s now v h (Read url) text is = refl
reused_step s now v h (Write line url) text is = refl

-- nor is one that uses a text again
pub reused_no_post : (s : JarState) (v : Option View) (h : Holding) (turn : Turn) (text : List ℕ) → way_of s v h turn ≡ reuses text → turn_posts turn ≡ false
reused_no_post s v h binds text is = refl
reused_no_post s v h (does step) text is = reused_step s step.now v h step.what text is
