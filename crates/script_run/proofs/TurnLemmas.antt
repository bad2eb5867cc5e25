-- Which turns an actor has, how far it is by its items, and that each turn of an admitted script asks something.
use Rattle.std.proofs.Common.{◌≡◌, ◌<◌, ◌≤◌, ◌+◌, ◌-◌, ℕ, zero, suc, List, [], ◌∷◌, ◌++◌, Bool, true, false, cond, Option, None, Some, length, map, slice_get, slice_index, refl, ap, sym, ◌∙◌, arith, length-append}
use Rattle.std.specs.Prelude.{is_some, slice_index_or, slice_set}
use Rattle.std.proofs.lemmas.List.{length-map}
use Rattle.std.proofs.lemmas.Option.{slice_get_within}
use Rattle.public_suffix.specs.Rule.{SuffixRule}
use Rattle.run_report.specs.declared.item.Item.{Item}
use Rattle.script_text.specs.declared.actor.Actor.{Actor}
use Rattle.script_text.specs.declared.script.Script.{Script}
use Rattle.script_text.specs.declared.step.Step.{Step}
use Rattle.script_text.specs.declared.step.What.{What}
use Rattle.script_text.specs.declared.step.What.TheVariants.{Set, Get, Delete, All, Clear, Listen, Changes, Unlisten, Post, Hear, Read, Write}
use Rattle.script_text.specs.Admitted.{IsAdmitted, IsAdmittedActor, MayStand, Where, place_of_step}
use Rattle.script_text.specs.Deadlocks.{AllHaveEnded, Positions, one_on, post_counts, posts, steps_at, steps_of, waits_for}
use Rattle.script_text.specs.Placed.{View}
use Rattle.script_text.proofs.DeadlockLemmas.{stand_on}
use Rattle.script_run.specs.Ask.{ask_at, ask_of}
use Rattle.script_run.specs.Turns.{Turn, binds, does, lead_of, positions_of, turns_at, turns_before, turns_left, turns_of, turns_where, view_at, view_where}

-- ---- which turns there are

-- a step of an actor is a step of one that there is
pub actor_step : (o : Option Actor) (i : ℕ) (step : Step) → slice_get (steps_of o) i ≡ Some step
    → (actor : Actor) × (o ≡ Some actor) × (slice_get actor.steps i ≡ Some step)
actor_step None i step is = absurd cc
actor_step (Some actor) i step is = (actor, refl, is)

-- and so is a turn
pub actor_turn : (o : Option Actor) (i : ℕ) (turn : Turn) → slice_get (turns_where o) i ≡ Some turn
    → (actor : Actor) × (o ≡ Some actor) × (slice_get (turns_of actor) i ≡ Some turn)
actor_turn None i turn is = absurd cc
actor_turn (Some actor) i turn is = (actor, refl, is)

-- a turn of this number, behind so many before the first of these steps, is one of those or its step
abbrev pub IsTurn : ℕ → List Step → ℕ → Turn → Type 0
IsTurn lead steps n binds = n < lead
IsTurn lead steps n (does step) = (lead ≤ n) × (slice_get steps (n - lead) ≡ Some step)

is_step : (steps : List Step) (n : ℕ) (turn : Turn) → slice_get (map does steps) n ≡ Some turn
    → (step : Step) × (does step ≡ turn) × (slice_get steps n ≡ Some step)
is_step [] n turn is = absurd cc
is_step (s ∷ ss) zero turn is = let same : does s ≡ turn = cc in (s, same, refl)
is_step (s ∷ ss) (suc n) turn is = is_step ss n turn is

step_there : (steps : List Step) (n : ℕ) (step : Step) → slice_get steps n ≡ Some step → slice_get (map does steps) n ≡ Some (does step)
step_there [] n step is = absurd cc
step_there (s ∷ ss) zero step is = let same : s ≡ step = cc in ap (λ x. Some (does x)) same
step_there (s ∷ ss) (suc n) step is = step_there ss n step is

-- where one number is another, so is what lies there
step_at : (steps : List Step) (m n : ℕ) (step : Step) → m ≡ n → slice_get steps m ≡ Some step → slice_get steps n ≡ Some step
step_at steps m n step e is = ap (slice_get steps) (sym e) ∙ is

pub is_turn : (v : Option View) (steps : List Step) (n : ℕ) (turn : Turn) → slice_get (turns_before v ++ map does steps) n ≡ Some turn
    → IsTurn (length (turns_before v)) steps n turn
is_turn None steps n turn is =
    let one = is_step steps n turn is in
    rw (sym one.1) (omega arith, step_at steps n (n - 0) one.0 (omega arith) one.2)
is_turn (Some sees) steps zero turn is = let same : binds ≡ turn = cc in rw (sym same) (omega arith)
is_turn (Some sees) steps (suc n) turn is =
    let one = is_step steps n turn is in
    rw (sym one.1) (omega arith, step_at steps n (suc n - 1) one.0 (omega arith) one.2)

-- a step behind those turns is a turn
pub turn_there : (v : Option View) (steps : List Step) (n : ℕ) (step : Step) → IsTurn (length (turns_before v)) steps n (does step)
    → slice_get (turns_before v ++ map does steps) n ≡ Some (does step)
turn_there None steps n step is = step_there steps n step (step_at steps (n - 0) n step (omega arith) is.1)
turn_there (Some sees) steps zero step is = let low = is.0 in absurd (omega (arith, low))
turn_there (Some sees) steps (suc n) step is = step_there steps n step (step_at steps (suc n - 1) n step (omega arith) is.1)

-- no other turn is the first of one who renders
pub bind_first : (v : Option View) (steps : List Step) (n : ℕ) → (slice_get (turns_before v ++ map does steps) n ≡ Some binds → ⊥)
    → length (turns_before v) ≤ n
bind_first None steps n none = omega arith
bind_first (Some sees) steps zero none = absurd (none refl)
bind_first (Some sees) steps (suc n) none = omega arith

pub lead_few : (v : Option View) → length (turns_before v) ≤ 1
lead_few None = omega arith
lead_few (Some sees) = omega arith

pub length_turns : (actor : Actor) → length (turns_of actor) ≡ lead_of actor + length actor.steps
length_turns actor = length-append (turns_before actor.view) (map does actor.steps) ∙ ap (λ n. lead_of actor + n) (length-map actor.steps does)

-- ---- how far actors are

-- whether a turn is a post
abbrev pub turn_posts : Turn → Bool
turn_posts binds = false
turn_posts (does step) = posts step.what

-- whether it waits, where actors have posted so often
abbrev pub turn_waits : List ℕ → Turn → Bool
turn_waits counts binds = false
turn_waits counts (does step) = waits_for counts step.what

-- where the actors stand behind a turn of this one
abbrev pub turn_on : Turn → Positions → ℕ → Positions
turn_on binds places a = places
turn_on (does step) places a = one_on places a

-- how often they have posted then
abbrev pub counts_behind : Bool → List ℕ → ℕ → List ℕ
counts_behind is_post counts a = cond is_post (one_on counts a) counts

pub length_positions : (actors : List Actor) (lists : List (List Item)) → length lists ≡ length actors → length (positions_of actors lists) ≡ length actors
length_positions [] lists e = refl
length_positions (x ∷ xs) [] e = absurd (omega (arith, e))
length_positions (x ∷ xs) (l ∷ ls) e = ap suc (length_positions xs ls (omega (arith, e)))

first_on : (v : Option View) (steps : List Step) (l : List Item) (item : Item) (turn : Turn) (places : Positions)
    → IsTurn (length (turns_before v)) steps (length l) turn
    → (length (l ++ item ∷ []) - length (turns_before v)) ∷ places ≡ turn_on turn ((length l - length (turns_before v)) ∷ places) 0
first_on v steps l item binds places is =
    let few = lead_few v in
    let more = length-append l (item ∷ []) in
    let same : length (l ++ item ∷ []) - length (turns_before v) ≡ length l - length (turns_before v) = omega (arith, is, few, more) in
    ap (λ n. n ∷ places) same
first_on v steps l item (does step) places is =
    let low = is.0 in
    let more = length-append l (item ∷ []) in
    let same : length (l ++ item ∷ []) - length (turns_before v) ≡ suc (length l - length (turns_before v)) = omega (arith, low, more) in
    ap (λ n. n ∷ places) same

later_on : (turn : Turn) (n : ℕ) (places : Positions) (a : ℕ) → n ∷ turn_on turn places a ≡ turn_on turn (n ∷ places) (suc a)
later_on binds n places a = refl
later_on (does step) n places a = refl

-- one item more is one turn on
pub noted_positions : (actors : List Actor) (lists : List (List Item)) (a : ℕ) (item : Item) (turn : Turn) → length lists ≡ length actors
    → slice_get (turns_at actors a) (length (slice_index_or lists a [])) ≡ Some turn
    → positions_of actors (slice_set lists a (slice_index_or lists a [] ++ item ∷ [])) ≡ turn_on turn (positions_of actors lists) a
noted_positions [] lists a item turn e is = absurd cc
noted_positions (x ∷ xs) [] a item turn e is = absurd (omega (arith, e))
noted_positions (x ∷ xs) (l ∷ ls) zero item turn e is =
    first_on x.view x.steps l item turn (positions_of xs ls) (is_turn x.view x.steps (length l) turn is)
noted_positions (x ∷ xs) (l ∷ ls) (suc a) item turn e is =
    ap (λ places. (length l - lead_of x) ∷ places) (noted_positions xs ls a item turn (omega (arith, e)) is)
    ∙ later_on turn (length l - lead_of x) (positions_of xs ls) a

-- and one turn less is left
pub noted_left : (actors : List Actor) (lists : List (List Item)) (a : ℕ) (item : Item) (turn : Turn) → length lists ≡ length actors
    → slice_get (turns_at actors a) (length (slice_index_or lists a [])) ≡ Some turn
    → turns_left actors (slice_set lists a (slice_index_or lists a [] ++ item ∷ [])) + 1 ≡ turns_left actors lists
noted_left [] lists a item turn e is = absurd cc
noted_left (x ∷ xs) [] a item turn e is = absurd (omega (arith, e))
noted_left (x ∷ xs) (l ∷ ls) zero item turn e is =
    let low = slice_get_within (turns_of x) (length l) turn is in
    let many = length_turns x in
    let more = length-append l (item ∷ []) in
    omega (arith, low, many, more)
noted_left (x ∷ xs) (l ∷ ls) (suc a) item turn e is =
    let rest = noted_left xs ls a item turn (omega (arith, e)) is in
    omega (arith, rest)

-- the next turn that is a step is the next step
pub next_at : (actors : List Actor) (lists : List (List Item)) (a : ℕ) (step : Step) → length lists ≡ length actors
    → slice_get (turns_at actors a) (length (slice_index_or lists a [])) ≡ Some (does step)
    → slice_get (steps_at actors a) (slice_index (positions_of actors lists) a) ≡ Some step
next_at [] lists a step e is = absurd cc
next_at (x ∷ xs) [] a step e is = absurd (omega (arith, e))
next_at (x ∷ xs) (l ∷ ls) zero step e is = (is_turn x.view x.steps (length l) (does step) is).1
next_at (x ∷ xs) (l ∷ ls) (suc a) step e is = next_at xs ls a step (omega (arith, e)) is

-- so often have the actors posted behind a turn
pub turn_counts : (actors : List Actor) (lists : List (List Item)) (a : ℕ) (turn : Turn) → length lists ≡ length actors
    → slice_get (turns_at actors a) (length (slice_index_or lists a [])) ≡ Some turn
    → counts_behind (turn_posts turn) (post_counts actors (positions_of actors lists)) a ≡ post_counts actors (turn_on turn (positions_of actors lists) a)
turn_counts actors lists a binds e is = refl
turn_counts actors lists a (does step) e is =
    let places = positions_of actors lists in
    (stand_on actors places (post_counts actors places) a step (record { many = length_positions actors lists e; counted = refl }) (next_at actors lists a step e is)).counted

-- ---- where no actor is to bind

-- each actor has done the turns before its first step
abbrev pub AllBound : List Actor → List (List Item) → Type 0
AllBound actors lists = (a : ℕ) → slice_get (turns_at actors a) (length (slice_index_or lists a [])) ≡ Some binds → ⊥

-- the next step is the next turn
pub step_next : (actors : List Actor) (lists : List (List Item)) (a : ℕ) (step : Step) → length lists ≡ length actors → AllBound actors lists
    → slice_get (steps_at actors a) (slice_index (positions_of actors lists) a) ≡ Some step
    → slice_get (turns_at actors a) (length (slice_index_or lists a [])) ≡ Some (does step)
step_next [] lists a step e bound is = absurd cc
step_next (x ∷ xs) [] a step e bound is = absurd (omega (arith, e))
step_next (x ∷ xs) (l ∷ ls) zero step e bound is =
    turn_there x.view x.steps (length l) step (bind_first x.view x.steps (length l) (bound 0), is)
step_next (x ∷ xs) (l ∷ ls) (suc a) step e bound is = step_next xs ls a step (omega (arith, e)) (λ b. bound (suc b)) is

-- actors that have all ended have no turn left
pub ended_left : (actors : List Actor) (lists : List (List Item)) → length lists ≡ length actors → AllBound actors lists
    → AllHaveEnded actors (positions_of actors lists) → turns_left actors lists ≡ 0
ended_left [] lists e bound all = refl
ended_left (x ∷ xs) [] e bound all = refl
ended_left (x ∷ xs) (l ∷ ls) e bound all =
    let first : length x.steps ≤ length l - lead_of x = all 0 in
    let lead : lead_of x ≤ length l = bind_first x.view x.steps (length l) (bound 0) in
    let rest = ended_left xs ls (omega (arith, e)) (λ b. bound (suc b)) (λ b. all (suc b)) in
    omega (arith, first, lead, rest)

-- ---- that each turn asks something

fetch_asks : (rules : List SuffixRule) (at : Where) (now : ℕ) (what : What) → at.renders ≡ false → MayStand at what → ask_at rules None now what ≡ None → ⊥
fetch_asks rules at now (Set ask line) never may none = absurd cc
fetch_asks rules at now (Get ask) never may none = absurd cc
fetch_asks rules at now (Delete host name path) never may none = absurd cc
fetch_asks rules at now All never may none = absurd cc
fetch_asks rules at now Clear never may none = absurd cc
fetch_asks rules at now (Listen ask name) never may none = absurd cc
fetch_asks rules at now (Changes listener) never may none = absurd cc
fetch_asks rules at now (Unlisten listener) never may none = absurd cc
fetch_asks rules at now Post never may none = absurd cc
fetch_asks rules at now (Hear actor n) never may none = absurd cc
fetch_asks rules at now (Read url) never may none = let clash : true ≡ false = sym may ∙ never in absurd cc
fetch_asks rules at now (Write line url) never may none = let clash : true ≡ false = sym may ∙ never in absurd cc

renderer_asks : (rules : List SuffixRule) (sees : View) (at : Where) (now : ℕ) (what : What) → at.renders ≡ true → MayStand at what
    → ask_at rules (Some sees) now what ≡ None → ⊥
renderer_asks rules sees at now (Set ask line) renders may none = let clash : true ≡ false = sym renders ∙ may in absurd cc
renderer_asks rules sees at now (Get ask) renders may none = let clash : true ≡ false = sym renders ∙ may in absurd cc
renderer_asks rules sees at now (Delete host name path) renders may none = let clash : true ≡ false = sym renders ∙ may in absurd cc
renderer_asks rules sees at now All renders may none = let clash : true ≡ false = sym renders ∙ may in absurd cc
renderer_asks rules sees at now Clear renders may none = let clash : true ≡ false = sym renders ∙ may in absurd cc
renderer_asks rules sees at now (Listen ask name) renders may none = absurd cc
renderer_asks rules sees at now (Changes listener) renders may none = absurd cc
renderer_asks rules sees at now (Unlisten listener) renders may none = absurd cc
renderer_asks rules sees at now Post renders may none = absurd cc
renderer_asks rules sees at now (Hear actor n) renders may none = absurd cc
renderer_asks rules sees at now (Read url) renders may none = absurd cc
renderer_asks rules sees at now (Write line url) renders may none = absurd cc

step_asks : (rules : List SuffixRule) (v : Option View) (at : Where) (step : Step) → at.renders ≡ is_some v → MayStand at step.what
    → ask_of rules v (does step) ≡ None → ⊥
step_asks rules None at step is may none = fetch_asks rules at step.now step.what is may none
step_asks rules (Some sees) at step is may none = renderer_asks rules sees at step.now step.what is may none

asks_of : (script : Script) (actor : Actor) (v : Option View) (i : ℕ) (turn : Turn) → IsAdmittedActor script actor → actor.view ≡ v
    → IsTurn (length (turns_before v)) actor.steps i turn → ask_of script.suffixes v turn ≡ None → ⊥
asks_of script actor None i binds one sees is none = absurd (omega (arith, is))
asks_of script actor (Some view) i binds one sees is none = absurd cc
asks_of script actor v i (does step) one sees is none =
    let n = i - length (turns_before v) in
    step_asks script.suffixes v (place_of_step script actor n) step (ap is_some sees) (one.steps_stand n step is.1) none

-- a turn of an admitted script asks something
pub asks : (script : Script) → IsAdmitted script → (a i : ℕ) (turn : Turn) → slice_get (turns_at script.actors a) i ≡ Some turn
    → ask_of script.suffixes (view_at script.actors a) turn ≡ None → ⊥
asks script admitted a i turn is none =
    let there = actor_turn (slice_get script.actors a) i turn is in
    let actor = there.0 in
    asks_of script actor actor.view i turn (admitted.each_actor a actor there.1) refl (is_turn actor.view actor.steps i turn there.2)
    (ap (λ o. ask_of script.suffixes (view_where o) turn) (sym there.1) ∙ none)
