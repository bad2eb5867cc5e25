-- What a cell's word counts is the version of the key that has the cell, in each history of a jar.
use Rattle.std.proofs.Common.{◌≡◌, ◌≢◌, ◌<◌, ◌≤◌, ◌+◌, ◌++◌, ◌||◌, ℕ, zero, suc, List, [], ◌∷◌, length, fold, Bool, true, false, cond, refl, sym, ap, ◌∙◌, subst, arith, eq-eqb, ne_eqb}
use Rattle.std.specs.Prelude.{Option, None, Some, bytes_eq, filter_map, map, nat_lt, not, option_map, slice_get}
use Rattle.std.specs.List.{cons_option, prefix_len}
use Rattle.std.proofs.lemmas.Option.{slice_get-map, slice_get_within}
use Rattle.jar_types.specs.declared.bound_key.BoundKey.{BoundKey}
use Rattle.jar_types.specs.declared.bound_key.TheConstants.{MOST_CELLS}
use Rattle.jar_types.specs.declared.change.Change.{Change}
use Rattle.jar_types.specs.declared.entry.Event.{Event}
use Rattle.jar_types.specs.declared.entry.Event.TheVariants.{Call as CallEvent, Jar as JarEvent}
use Rattle.jar_types.specs.declared.cookie.Cookie.{Cookie}
use Rattle.jar_types.specs.declared.jar_core.Awaited.{Awaited}
use Rattle.jar_types.specs.declared.op.Op.{Op}
use Rattle.jar_types.specs.declared.op.Op.TheVariants.{Bind, Set, Get, Delete, All, Clear, Listen, Changes, Unlisten, Post, Hear}
use Rattle.jar_types.specs.declared.op.Reply.{Reply}
use Rattle.jar_types.specs.Bound.{bound_where, cell_of, changes_key, is_bound_to, turned}
use Rattle.jar_types.specs.Changes.{Changed, moved_keys}
use Rattle.jar_types.specs.Journals.{Rules, events, state_of, stored_keys}
use Rattle.jar_types.specs.Loads.{has_text}
use Rattle.jar_types.specs.Purges.{purge}
use Rattle.jar_types.specs.Sets.{barred, set_where}
use Rattle.jar_types.specs.States.{JarState, opening}
use Rattle.jar_types.specs.Steps.{after, call_step, call_where, changes_at, op_step, own_step}
use Rattle.jar_types.specs.Waits.{faulted, needs}
use Rattle.stored_law.proofs.TextLemmas.{ascending_has, text_is, text_itself, text_turned}
use Rattle.version_cells.specs.declared.listing.Listing.{Listing}
use Rattle.version_cells.specs.Listings.{has, one, turns}
use Rattle.version_cells.specs.Lists.{Lists, cells_moved}
use Rattle.locked_jar.proofs.MovingLemmas.{one_key}
use Rattle.locked_jar.specs.History.{IsHistory}
use Rattle.locked_jar.specs.LockedJars.{LockedJar, journal_of}
use Rattle.shared_jar.specs.Versions.{VersionsAreTurns, version_at, version_in}

-- ---- the cell of a key

-- how many stand before the bound key
abbrev before : List ℕ → List BoundKey → ℕ
before key bound = prefix_len (λ b. not (is_bound_to key b)) bound

cell_at : (fits : Bool) (n c most : ℕ) → nat_lt n most ≡ fits → option_map suc (cond fits (Some n) None) ≡ Some c → (c ≡ suc n) × (n < most)
cell_at true n c most is e = (cc, grind arith)
cell_at false n c most is e = absurd cc

place_of : (key : List ℕ) (bound : List BoundKey) (c : ℕ) → cell_of key bound ≡ Some c → (c ≡ suc (before key bound)) × (before key bound < length bound)
place_of key bound c e = cell_at (nat_lt (before key bound) (length bound)) (before key bound) c (length bound) refl e

cell_within : (n m : ℕ) (fits : Bool) → nat_lt n m ≡ fits → n < m → option_map suc (cond fits (Some n) None) ≡ Some (suc n)
cell_within n m true is within = refl
cell_within n m false is within = absurd (grind arith)

cell_past : (n m : ℕ) (fits : Bool) → nat_lt n m ≡ fits → option_map suc (cond fits (Some n) None) ≡ None → m ≤ n
cell_past n m true is e = absurd cc
cell_past n m false is e = grind arith

-- the key of each cell is the first of its text
abbrev Placed : List BoundKey → Type 0
Placed bound = (i : ℕ) (b : BoundKey) → slice_get bound i ≡ Some b → before b.key bound ≡ i

-- so its cell is that of its place
cell_there : (bound : List BoundKey) (i : ℕ) (b : BoundKey) → Placed bound → slice_get bound i ≡ Some b → cell_of b.key bound ≡ Some (suc i)
cell_there bound i b placed there =
    let at : before b.key bound ≡ i = placed i b there in
    let within : before b.key bound < length bound = let w = slice_get_within bound i b there in omega (arith, at, w) in
    cell_within (before b.key bound) (length bound) (nat_lt (before b.key bound) (length bound)) refl within ∙ ap (λ n. Some (suc n)) at

-- ---- which cells changes move

-- a cell of a place past the bound keys
no_cell_at : (key : List ℕ) (bound : List BoundKey) (i : ℕ) (cells : List ℕ) (o : Option ℕ) → cell_of key bound ≡ o → length bound ≤ i
    → has (suc i) cells ≡ false → has (suc i) (cons_option o cells) ≡ false
no_cell_at key bound i cells None e past rest = rest
no_cell_at key bound i cells (Some d) e past rest =
    let p = place_of key bound d e in
    let ne : d ≢ suc i = λ same. let a = p.0 in let w = p.1 in omega (arith, a, w, past, same) in
    ap (λ b. b || has (suc i) cells) (ne_eqb d (suc i) ne) ∙ rest

no_cell : (keys : List (List ℕ)) (bound : List BoundKey) (i : ℕ) → length bound ≤ i → has (suc i) (filter_map (λ key. cell_of key bound) keys) ≡ false
no_cell [] bound i past = refl
no_cell (key ∷ keys) bound i past = no_cell_at key bound i (filter_map (λ key. cell_of key bound) keys) (cell_of key bound) refl past (no_cell keys bound i past)

-- no cell is 0
none_at : (key : List ℕ) (bound : List BoundKey) (cells : List ℕ) (o : Option ℕ) → cell_of key bound ≡ o → has 0 cells ≡ false → has 0 (cons_option o cells) ≡ false
none_at key bound cells None e rest = rest
none_at key bound cells (Some d) e rest =
    let p = place_of key bound d e in
    let ne : d ≢ 0 = λ same. let a = p.0 in omega (arith, a, same) in
    ap (λ b. b || has 0 cells) (ne_eqb d 0 ne) ∙ rest

none_is_zero : (keys : List (List ℕ)) (bound : List BoundKey) → has 0 (filter_map (λ key. cell_of key bound) keys) ≡ false
none_is_zero [] bound = refl
none_is_zero (key ∷ keys) bound = none_at key bound (filter_map (λ key. cell_of key bound) keys) (cell_of key bound) refl (none_is_zero keys bound)

-- a key's cell is among those of keys where the key is
its_cell_at : (key m : List ℕ) (bound : List BoundKey) (c : ℕ) (cells : List ℕ) (same rest : Bool) (o : Option ℕ) → cell_of key bound ≡ Some c
    → bytes_eq key m ≡ same → cell_of m bound ≡ o → has c cells ≡ rest → has c (cons_option o cells) ≡ (same || rest)
its_cell_at key m bound c cells true rest None e is f on =
    let there : Some c ≡ None = sym e ∙ (ap (λ k. cell_of k bound) (text_is key m is) ∙ f) in absurd cc
its_cell_at key m bound c cells true rest (Some d) e is f on =
    let there : Some c ≡ Some d = sym e ∙ (ap (λ k. cell_of k bound) (text_is key m is) ∙ f) in
    let equal : d ≡ c = cc in
    ap (λ b. b || has c cells) (eq-eqb d c equal)
its_cell_at key m bound c cells false rest None e is f on = on
its_cell_at key m bound c cells false rest (Some d) e is f on =
    let ne : d ≢ c = λ same. let k : key ≡ m = one_key key m bound c e (f ∙ ap (λ n. Some n) same) in
    let t : true ≡ false = sym (text_itself key) ∙ (ap (bytes_eq key) k ∙ is) in cc in
    ap (λ b. b || has c cells) (ne_eqb d c ne) ∙ on

its_cell : (key : List ℕ) (keys : List (List ℕ)) (bound : List BoundKey) (c : ℕ) → cell_of key bound ≡ Some c
    → has c (filter_map (λ key. cell_of key bound) keys) ≡ has_text key keys
its_cell key [] bound c e = refl
its_cell key (m ∷ ms) bound c e =
    its_cell_at key m bound c (filter_map (λ key. cell_of key bound) ms) (bytes_eq key m) (has_text key ms) (cell_of m bound) e refl refl (its_cell key ms bound c e)

-- the keys that move are those of which cookies change
keys_changed : (key : List ℕ) (changes : List Change) → has_text key (map (λ c. c.cookie.key) changes) ≡ changes_key key changes
keys_changed key [] = refl
keys_changed key (c ∷ cs) = ap (λ b. b || has_text key (map (λ c. c.cookie.key) cs)) (text_turned key c.cookie.key) ∙ ap (λ b. bytes_eq c.cookie.key key || b) (keys_changed key cs)

its_turn : (key : List ℕ) (changes : List Change) (bound : List BoundKey) (c : ℕ) → cell_of key bound ≡ Some c
    → has c (cells_moved bound changes) ≡ changes_key key changes
its_turn key changes bound c e =
    its_cell key (moved_keys changes) bound c e ∙ (ascending_has key (map (λ c. c.cookie.key) changes) ∙ keys_changed key changes)

-- ---- versions turn with the cells

turned_one : (changes : List Change) (b : BoundKey) (t : Bool) → (cond t (record b { version = b.version + 1 }) b).version ≡ b.version + one t
turned_one changes b true = refl
turned_one changes b false = omega arith

turned_in : (changes : List Change) (bound : List BoundKey) (i : ℕ) (o : Option BoundKey) → slice_get bound i ≡ o → Placed bound
    → version_in (option_map (turned changes) o) ≡ version_in o + one (has (suc i) (cells_moved bound changes))
turned_in changes bound i None e placed =
    let past : length bound ≤ i = past_at bound i e in
    let none : one (has (suc i) (cells_moved bound changes)) ≡ 0 = ap one (no_cell (moved_keys changes) bound i past) in
    omega (arith, none)
  where
    past_at : (bs : List BoundKey) (i : ℕ) → slice_get bs i ≡ None → length bs ≤ i
    past_at [] i e = omega arith
    past_at (b ∷ bs) zero e = absurd cc
    past_at (b ∷ bs) (suc i) e = let rest = past_at bs i e in omega (arith, rest)
turned_in changes bound i (Some b) e placed =
    turned_one changes b (changes_key b.key changes)
    ∙ ap (λ t. b.version + one t) (sym (its_turn b.key changes bound (suc i) (cell_there bound i b placed e)))

versions_turn : (changes : List Change) (bound : List BoundKey) (c : ℕ) → Placed bound
    → version_at c (map (turned changes) bound) ≡ version_at c bound + one (has c (cells_moved bound changes))
versions_turn changes bound zero placed =
    let none : one (has 0 (cells_moved bound changes)) ≡ 0 = ap one (none_is_zero (moved_keys changes) bound) in omega (arith, none)
versions_turn changes bound (suc i) placed =
    ap version_in (slice_get-map (turned changes) bound i) ∙ turned_in changes bound i (slice_get bound i) refl placed

-- ---- the keys keep their places

turned_key : (changes : List Change) (b : BoundKey) (t : Bool) → (cond t (record b { version = b.version + 1 }) b).key ≡ b.key
turned_key changes b true = refl
turned_key changes b false = refl

before_turned : (key : List ℕ) (changes : List Change) (bound : List BoundKey) → before key (map (turned changes) bound) ≡ before key bound
before_turned key changes [] = refl
before_turned key changes (b ∷ bs) =
    ap (λ k. cond (not (bytes_eq k key)) (1 + before key (map (turned changes) bs)) 0) (turned_key changes b (changes_key b.key changes))
    ∙ ap (λ n. cond (not (bytes_eq b.key key)) (1 + n) 0) (before_turned key changes bs)

turned_placed_at : (changes : List Change) (bound : List BoundKey) (i : ℕ) (b : BoundKey) (o : Option BoundKey) → slice_get bound i ≡ o
    → option_map (turned changes) o ≡ Some b → Placed bound → before b.key (map (turned changes) bound) ≡ i
turned_placed_at changes bound i b None e f placed = absurd cc
turned_placed_at changes bound i b (Some d) e f placed =
    let is : turned changes d ≡ b = cc in
    let key : b.key ≡ d.key = ap (λ (k : BoundKey). k.key) (sym is) ∙ turned_key changes d (changes_key d.key changes) in
    ap (λ k. before k (map (turned changes) bound)) key ∙ (before_turned d.key changes bound ∙ placed i d e)

turned_placed : (changes : List Change) (bound : List BoundKey) → Placed bound → Placed (map (turned changes) bound)
turned_placed changes bound placed i b e =
    turned_placed_at changes bound i b (slice_get bound i) refl (sym (slice_get-map (turned changes) bound i) ∙ e) placed

-- ---- a key is bound

new_key : List ℕ → BoundKey
new_key key = record { key = key; version = 0 }

abbrev longer : List BoundKey → List ℕ → List BoundKey
longer bound key = bound ++ record { key = key; version = 0 } ∷ []

-- what is before a bound key stays, and a key that wasn't bound comes last
before_longer : (k key : List ℕ) (bound : List BoundKey) → before k bound < length bound → before k (longer bound key) ≡ before k bound
before_longer k key [] within = absurd (omega (arith, within))
before_longer k key (b ∷ bs) within = at (is_bound_to k b) within (before_longer k key bs)
  where
    at : (is : Bool) → cond (not is) (1 + before k bs) 0 < length (b ∷ bs) → (before k bs < length bs → before k (longer bs key) ≡ before k bs)
        → cond (not is) (1 + before k (longer bs key)) 0 ≡ cond (not is) (1 + before k bs) 0
    at true within on = refl
    at false within on = let same = on (omega (arith, within)) in ap (λ n. 1 + n) same

before_last : (key : List ℕ) (bound : List BoundKey) → length bound ≤ before key bound → before key (longer bound key) ≡ length bound
before_last key [] past = ap (λ b. cond (not b) 1 0) (text_itself key)
before_last key (b ∷ bs) past = at (is_bound_to key b) past (before_last key bs)
  where
    at : (is : Bool) → length (b ∷ bs) ≤ cond (not is) (1 + before key bs) 0 → (length bs ≤ before key bs → before key (longer bs key) ≡ length bs)
        → cond (not is) (1 + before key (longer bs key)) 0 ≡ length (b ∷ bs)
    at true past on = absurd (omega (arith, past))
    at false past on = let same = on (omega (arith, past)) in omega (arith, same)

-- what stands in the longer list
in_longer : (key : List ℕ) (bound : List BoundKey) (i : ℕ) (b : BoundKey) → slice_get (longer bound key) i ≡ Some b
    → (P : ℕ → BoundKey → Type 0) → ((j : ℕ) (d : BoundKey) → slice_get bound j ≡ Some d → P j d) → P (length bound) (record { key = key; version = 0 }) → P i b
in_longer key [] zero b e P old new = let is : record { key = key; version = 0 } ≡ b = cc in subst (P 0) is new
in_longer key [] (suc i) b e P old new = absurd cc
in_longer key (d ∷ ds) zero b e P old new = old 0 b e
in_longer key (d ∷ ds) (suc i) b e P old new = in_longer key ds i b e (λ j. P (suc j)) (λ j f is. old (suc j) f is) new

longer_placed : (key : List ℕ) (bound : List BoundKey) → cell_of key bound ≡ None → Placed bound → Placed (longer bound key)
longer_placed key bound none placed i b e =
    in_longer key bound i b e (λ j d. before d.key (longer bound key) ≡ j)
    (λ j d is. let at = placed j d is in let w = slice_get_within bound j d is in before_longer d.key key bound (omega (arith, at, w)) ∙ at)
    (before_last key bound (cell_past (before key bound) (length bound) (nat_lt (before key bound) (length bound)) refl none))

longer_version : (key : List ℕ) (bound : List BoundKey) (i : ℕ) → version_in (slice_get (longer bound key) i) ≡ version_in (slice_get bound i)
longer_version key [] zero = refl
longer_version key [] (suc i) = refl
longer_version key (b ∷ bs) zero = refl
longer_version key (b ∷ bs) (suc i) = longer_version key bs i

-- ---- what a step leaves of the bound keys, before its changes turn them: their places, their versions, and the cells of
-- its changes

record Keeps (old new : List BoundKey) (changes : List Change) : Type 0 where
  placed : Placed new
  versions : (c : ℕ) → version_at c new ≡ version_at c old
  cells : (c : ℕ) → has c (cells_moved new changes) ≡ has c (cells_moved old changes)

same_keys : (bound : List BoundKey) (changes : List Change) → Placed bound → Keeps bound bound changes
same_keys bound changes placed = record { placed = placed; versions = λ c. refl; cells = λ c. refl }

longer_keeps : (key : List ℕ) (bound : List BoundKey) → cell_of key bound ≡ None → Placed bound → Keeps bound (longer bound key) []
longer_keeps key bound none placed = record { placed = longer_placed key bound none placed; versions = versions; cells = λ c. refl }
  where
    versions : (c : ℕ) → version_at c (longer bound key) ≡ version_at c bound
    versions zero = refl
    versions (suc i) = longer_version key bound i

next_keeps : (room : Bool) (key : List ℕ) (bound : List BoundKey) → cell_of key bound ≡ None → Placed bound → Keeps bound (cond room (longer bound key) bound) []
next_keeps true key bound none placed = longer_keeps key bound none placed
next_keeps false key bound none placed = same_keys bound [] placed

bind_keeps : (o : Option ℕ) (key : List ℕ) (bound : List BoundKey) → cell_of key bound ≡ o → Placed bound → Keeps bound (bound_where o key bound) []
bind_keeps (Some cell) key bound is placed = same_keys bound [] placed
bind_keeps None key bound is placed = next_keeps (nat_lt (length bound) MOST_CELLS) key bound is placed

set_keeps : (bar : Option Reply) (s : JarState) (now : ℕ) (c : Cookie) (left : Changed) → Placed s.bound
    → Keeps s.bound (set_where bar s now c left).state.bound (set_where bar s now c left).changes
set_keeps (Some reply) s now c left placed = same_keys s.bound (set_where (Some reply) s now c left).changes placed
set_keeps None s now c left placed = same_keys s.bound (set_where None s now c left).changes placed

op_keeps : (s : JarState) (caller now : ℕ) (op : Op) → Placed s.bound → Keeps s.bound (op_step s caller now op).state.bound (op_step s caller now op).changes
op_keeps s caller now (Bind key) placed = bind_keeps (cell_of key s.bound) key s.bound refl placed
op_keeps s caller now (Set cookie script secure) placed =
    let left = purge cookie.key now s.cookies in set_keeps (barred script secure cookie left.cookies) s now cookie left placed
op_keeps s caller now (Get request) placed = same_keys s.bound (op_step s caller now (Get request)).changes placed
op_keeps s caller now (Delete key id) placed = same_keys s.bound (op_step s caller now (Delete key id)).changes placed
op_keeps s caller now All placed = same_keys s.bound (op_step s caller now All).changes placed
op_keeps s caller now Clear placed = same_keys s.bound (op_step s caller now Clear).changes placed
op_keeps s caller now (Listen scope) placed = same_keys s.bound [] placed
op_keeps s caller now (Changes number) placed = same_keys s.bound [] placed
op_keeps s caller now (Unlisten number) placed = same_keys s.bound [] placed
op_keeps s caller now Post placed = same_keys s.bound [] placed
op_keeps s caller now (Hear actor n) placed = same_keys s.bound [] placed

call_keeps : (fault : Option Awaited) (s : JarState) (caller now : ℕ) (op : Op) → Placed s.bound
    → Keeps s.bound (call_where fault s caller now op).state.bound (call_where fault s caller now op).changes
call_keeps (Some what) s caller now op placed = same_keys s.bound [] placed
call_keeps None s caller now op placed = op_keeps s caller now op placed

-- ---- an event

record Turns (s t : JarState) (changes : List Change) : Type 0 where
  placed : Placed t.bound
  versions : (c : ℕ) → version_at c t.bound ≡ version_at c s.bound + one (has c (cells_moved s.bound changes))

then_turns : (old new : List BoundKey) (changes : List Change) → Keeps old new changes → (c : ℕ)
    → version_at c (map (turned changes) new) ≡ version_at c old + one (has c (cells_moved old changes))
then_turns old new changes keeps c =
    versions_turn changes new c keeps.placed
    ∙ (ap (λ n. n + one (has c (cells_moved new changes))) (keeps.versions c) ∙ ap (λ b. version_at c old + one b) (keeps.cells c))

event_turns : (s : JarState) (v : Event) → Placed s.bound → Turns s (after s v) (changes_at s v)
event_turns s (CallEvent caller now op) placed =
    let step = call_step s caller now op in
    let keeps = call_keeps (faulted s.loads (needs op)) s caller now op placed in
    record { placed = turned_placed step.changes step.state.bound keeps.placed; versions = then_turns s.bound step.state.bound step.changes keeps }
event_turns s (JarEvent own) placed =
    let changes = (own_step s own).changes in
    let keeps = same_keys s.bound changes placed in
    record { placed = turned_placed changes s.bound keeps.placed; versions = then_turns s.bound s.bound changes keeps }

-- ---- a history

lists_turn : (cutter : ℕ) (s : JarState) (vs : List Event) (ls : List Listing) (c : ℕ) → Placed s.bound → Lists cutter s vs ls
    → version_at c (fold after s vs).bound ≡ version_at c s.bound + turns c ls
lists_turn cutter s [] [] c placed all = omega arith
lists_turn cutter s [] (l ∷ ls) c placed all = absurd all
lists_turn cutter s (v ∷ vs) [] c placed all = absurd all
lists_turn cutter s (v ∷ vs) (l ∷ ls) c placed all =
    let on = event_turns s v placed in
    let rest = lists_turn cutter (after s v) vs ls c on.placed all.1 in
    let here = on.versions c in
    let same : one (has c l.cells) ≡ one (has c (cells_moved s.bound (changes_at s v))) = ap (λ cs. one (has c cs)) all.0.cells in
    omega (arith, rest, here, same)

none_placed : Placed []
none_placed i b e = absurd cc

none_told : (c : ℕ) → version_at c [] ≡ 0
none_told zero = refl
none_told (suc i) = refl

histories_turn : (r : Rules) (cutter : ℕ) (history : List Listing) → IsHistory r cutter history → (c : ℕ)
    → turns c history ≡ version_at c (state_of (stored_keys r) (journal_of history)).bound
unfolding state_of
histories_turn r cutter history is c =
    let all = lists_turn cutter (opening (stored_keys r)) (events (journal_of history)) history c none_placed is.listed in
    let none = none_told c in
    omega (arith, all, none)

pub versions_are_turns : (r : Rules) (cutter : ℕ) (j : LockedJar) → IsHistory r cutter j.seen → j.state ≡ state_of (stored_keys r) (journal_of j.seen)
    → VersionsAreTurns j
versions_are_turns r cutter j is state c = histories_turn r cutter j.seen is c ∙ ap (λ (s : JarState). version_at c s.bound) (sym state)
