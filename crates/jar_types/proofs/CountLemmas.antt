-- Counters after an event: each rises by one at most, and the entries by one.
use Rattle.std.proofs.Common.{◌≡◌, ◌+◌, ◌-◌, ◌^◌, ◌≤◌, ◌<◌, ℕ, zero, suc, get_or, List, [], ◌∷◌, ◌++◌, Bool, true, false, cond, refl, arith}
use Rattle.std.specs.Prelude.{find, map, length, nat_lt, ◌==◌, Option, None, Some, option_map}
use Rattle.std.specs.List.{AllByRecursion}
use Rattle.std.proofs.lemmas.Grind.{common_steps}
use Rattle.jar_types.specs.declared.bound_key.BoundKey.{BoundKey}
use Rattle.jar_types.specs.declared.bound_key.TheConstants.{MOST_CELLS}
use Rattle.jar_types.specs.declared.change.Change.{Change}
use Rattle.jar_types.specs.declared.cookie.Cookie.{Cookie}
use Rattle.jar_types.specs.declared.entry.Event.TheVariants.{Call as CallEvent, Jar as JarEvent}
use Rattle.jar_types.specs.declared.jar_core.Awaited.{Awaited}
use Rattle.jar_types.specs.declared.op.Op.{Op}
use Rattle.jar_types.specs.declared.op.Op.TheVariants.{Bind, Set, Get, Delete, All, Clear, Listen, Changes, Unlisten, Post, Hear}
use Rattle.jar_types.specs.declared.op.Reply.{Reply}
use Rattle.jar_types.specs.declared.tally.Tally.{Tally}
use Rattle.jar_types.specs.Bound.{bound_where, cell_of, changes_key, is_bound_to, turned, version_of}
use Rattle.jar_types.specs.Changes.{Changed}
use Rattle.jar_types.specs.Counts.{TalliesUpTo, VersionsUpTo, IsCounted, EntriesCount}
use Rattle.jar_types.specs.Purges.{purge}
use Rattle.jar_types.specs.Sets.{barred, set_where}
use Rattle.jar_types.specs.States.{JarState}
use Rattle.jar_types.specs.Steps.{call_step, call_where, changes_at, op_step}
use Rattle.jar_types.specs.Tallies.{counted}
use Rattle.jar_types.specs.Waits.{faulted, needs}

more_tallies : (n : ℕ) (ts : List Tally) → TalliesUpTo n ts → TalliesUpTo (n + 1) ts
more_tallies n [] all = tt
more_tallies n (t ∷ ts) all = let one = all.0 in (omega (arith, one), more_tallies n ts all.1)

one_counted : (n : ℕ) (b : Bool) (t : Tally) (ts us : List Tally) → t.count ≤ n → TalliesUpTo (n + 1) ts → TalliesUpTo (n + 1) us
    → TalliesUpTo (n + 1) (cond b (record t { count = t.count + 1 } ∷ ts) (t ∷ us))
one_counted n true t ts us one all more = (omega (arith, one), all)
one_counted n false t ts us one all more = (omega (arith, one), more)

counted_tallies : (n caller : ℕ) (ts : List Tally) → TalliesUpTo n ts → TalliesUpTo (n + 1) (counted caller ts)
counted_tallies n caller [] all = (omega arith, tt)
counted_tallies n caller (t ∷ ts) all =
    one_counted n (t.caller == caller) t ts (counted caller ts) all.0 (more_tallies n ts all.1) (counted_tallies n caller ts all.1)

one_turned : (n : ℕ) (turns : Bool) (b : BoundKey) → b.version ≤ n → (cond turns (record b { version = b.version + 1 }) b).version ≤ n + 1
one_turned n true b one = omega (arith, one)
one_turned n false b one = omega (arith, one)

turned_versions : (n : ℕ) (changes : List Change) (bound : List BoundKey) → VersionsUpTo n bound → VersionsUpTo (n + 1) (map (turned changes) bound)
turned_versions n changes [] all = tt
turned_versions n changes (b ∷ bs) all = (one_turned n (changes_key b.key changes) b all.0, turned_versions n changes bs all.1)

next_version : (n : ℕ) (key : List ℕ) (bound : List BoundKey) → VersionsUpTo n bound → VersionsUpTo n (bound ++ record { key = key; version = 0 } ∷ [])
next_version n key [] all = (omega arith, tt)
next_version n key (b ∷ bs) all = (all.0, next_version n key bs all.1)

next_versions : (n : ℕ) (room : Bool) (key : List ℕ) (bound : List BoundKey) → VersionsUpTo n bound
    → VersionsUpTo n (cond room (bound ++ record { key = key; version = 0 } ∷ []) bound)
next_versions n true key bound all = next_version n key bound all
next_versions n false key bound all = all

bound_versions : (n : ℕ) (cell : Option ℕ) (key : List ℕ) (bound : List BoundKey) → VersionsUpTo n bound → VersionsUpTo n (bound_where cell key bound)
bound_versions n (Some cell) key bound all = all
bound_versions n None key bound all = next_versions n (nat_lt (length bound) MOST_CELLS) key bound all

next_cells : (room : Bool) (key : List ℕ) (bound : List BoundKey) → nat_lt (length bound) MOST_CELLS ≡ room → length bound ≤ MOST_CELLS
    → length (cond room (bound ++ record { key = key; version = 0 } ∷ []) bound) ≤ MOST_CELLS
next_cells true key bound is few = grind (arith, common_steps)
next_cells false key bound is few = few

bound_cells : (cell : Option ℕ) (key : List ℕ) (bound : List BoundKey) → length bound ≤ MOST_CELLS → length (bound_where cell key bound) ≤ MOST_CELLS
bound_cells (Some cell) key bound few = few
bound_cells None key bound few = next_cells (nat_lt (length bound) MOST_CELLS) key bound refl few

turned_cells : (changes : List Change) (bound : List BoundKey) → length bound ≤ MOST_CELLS → length (map (turned changes) bound) ≤ MOST_CELLS
turned_cells changes bound few = grind (arith, common_steps)

-- what an op leaves of the counters: posts and Listens may be one more, versions are as they were
record LeavesCounts (s t : JarState) : Type 0 where
  calls : t.calls ≡ s.calls
  entries : t.entries ≡ s.entries
  posts : TalliesUpTo (s.entries + 1) t.posts
  listens : TalliesUpTo (s.entries + 1) t.listens
  versions : VersionsUpTo s.entries t.bound
  cells : length t.bound ≤ MOST_CELLS

same_counts : (s : JarState) → IsCounted s → LeavesCounts s s
same_counts s all = record {
  calls = refl;
  entries = refl;
  posts = more_tallies s.entries s.posts all.posts;
  listens = more_tallies s.entries s.listens all.listens;
  versions = all.versions;
  cells = all.cells;
}

set_where_counts : (bar : Option Reply) (s : JarState) (now : ℕ) (c : Cookie) (left : Changed) → IsCounted s → LeavesCounts s (set_where bar s now c left).state
set_where_counts (Some reply) s now c left all =
    let same = same_counts s all in record { calls = refl; entries = refl; posts = same.posts; listens = same.listens; versions = same.versions; cells = same.cells }
set_where_counts None s now c left all =
    let same = same_counts s all in record { calls = refl; entries = refl; posts = same.posts; listens = same.listens; versions = same.versions; cells = same.cells }

op_counts : (s : JarState) (caller now : ℕ) (op : Op) → IsCounted s → LeavesCounts s (op_step s caller now op).state
op_counts s caller now (Bind key) all =
    let same = same_counts s all in record {
      calls = refl;
      entries = refl;
      posts = same.posts;
      listens = same.listens;
      versions = bound_versions s.entries (cell_of key s.bound) key s.bound all.versions;
      cells = bound_cells (cell_of key s.bound) key s.bound all.cells;
    }
op_counts s caller now (Set c script secure) all =
    let left = purge c.key now s.cookies in set_where_counts (barred script secure c left.cookies) s now c left all
op_counts s caller now (Get request) all =
    let same = same_counts s all in record { calls = refl; entries = refl; posts = same.posts; listens = same.listens; versions = same.versions; cells = same.cells }
op_counts s caller now (Delete key id) all =
    let same = same_counts s all in record { calls = refl; entries = refl; posts = same.posts; listens = same.listens; versions = same.versions; cells = same.cells }
op_counts s caller now All all =
    let same = same_counts s all in record { calls = refl; entries = refl; posts = same.posts; listens = same.listens; versions = same.versions; cells = same.cells }
op_counts s caller now Clear all =
    let same = same_counts s all in record { calls = refl; entries = refl; posts = same.posts; listens = same.listens; versions = same.versions; cells = same.cells }
op_counts s caller now (Listen scope) all =
    let same = same_counts s all in record {
      calls = refl;
      entries = refl;
      posts = same.posts;
      listens = counted_tallies s.entries caller s.listens all.listens;
      versions = same.versions;
      cells = same.cells;
    }
op_counts s caller now (Changes number) all =
    let same = same_counts s all in record { calls = refl; entries = refl; posts = same.posts; listens = same.listens; versions = same.versions; cells = same.cells }
op_counts s caller now (Unlisten number) all =
    let same = same_counts s all in record { calls = refl; entries = refl; posts = same.posts; listens = same.listens; versions = same.versions; cells = same.cells }
op_counts s caller now Post all =
    let same = same_counts s all in record {
      calls = refl;
      entries = refl;
      posts = counted_tallies s.entries caller s.posts all.posts;
      listens = same.listens;
      versions = same.versions;
      cells = same.cells;
    }
op_counts s caller now (Hear actor n) all = same_counts s all

call_counts : (fault : Option Awaited) (s : JarState) (caller now : ℕ) (op : Op) → IsCounted s
    → LeavesCounts s (call_where fault s caller now op).state
call_counts (Some what) s caller now op all =
    let same = same_counts s all in record { calls = refl; entries = refl; posts = same.posts; listens = same.listens; versions = same.versions; cells = same.cells }
call_counts None s caller now op all = op_counts s caller now op all

pub entries_count : EntriesCount
entries_count s (CallEvent caller now op) all =
    let step = call_step s caller now op in
    let left = call_counts (faulted s.loads (needs op)) s caller now op all in
    let calls = left.calls in
    let entries = left.entries in
    let fewer = all.calls in
    record {
      calls = omega (arith, calls, entries, fewer);
      posts = rw entries left.posts;
      listens = rw entries left.listens;
      versions = rw entries (turned_versions s.entries step.changes step.state.bound left.versions);
      cells = turned_cells step.changes step.state.bound left.cells;
    }
entries_count s (JarEvent own) all =
    let same = same_counts s all in
    let fewer = all.calls in
    record {
      calls = omega (arith, fewer);
      posts = same.posts;
      listens = same.listens;
      versions = turned_versions s.entries (changes_at s (JarEvent own)) s.bound all.versions;
      cells = turned_cells (changes_at s (JarEvent own)) s.bound all.cells;
    }

-- each of these is what all are
pub all_at : {X : Type 0} → (P : X → Type 0) (xs : List X) (i : ℕ) (x : X) → AllByRecursion P xs → i < length xs → x ≡ get_or xs i x → P x
all_at P [] i x all in_range is = absurd (omega (arith, in_range))
all_at P (y ∷ ys) zero x all in_range is = rw is all.0
all_at P (y ∷ ys) (suc i) x all in_range is = all_at P ys i x all.1 (omega (arith, in_range)) is

found_version : (n : ℕ) (is : Bool) (b : BoundKey) (found : Option BoundKey) (v : ℕ) → b.version ≤ n
    → (option_map (λ b. b.version) found ≡ Some v → v ≤ n)
    → option_map (λ b. b.version) (cond is (Some b) found) ≡ Some v → v ≤ n
found_version n true b found v least on e = let same : b.version ≡ v = cc in omega (arith, least, same)
found_version n false b found v least on e = on e

-- a version that is found passes no number that none passes
pub version_up_to : (n : ℕ) (key : List ℕ) (bound : List BoundKey) (v : ℕ) → VersionsUpTo n bound → version_of key bound ≡ Some v → v ≤ n
version_up_to n key [] v all e = absurd cc
version_up_to n key (b ∷ bs) v all e =
    found_version n (is_bound_to key b) b (find (is_bound_to key) bs) v all.0 (version_up_to n key bs v all.1) e

-- ---- room for one more, as long as there are fewer than 2^64 - 1 entries

more_versions : (n most : ℕ) (bound : List BoundKey) → n ≤ most → VersionsUpTo n bound → VersionsUpTo most bound
more_versions n most [] room all = tt
more_versions n most (b ∷ bs) room all = let one = all.0 in (omega (arith, one, room), more_versions n most bs room all.1)

tallies_up_to : (n most : ℕ) (ts : List Tally) → n ≤ most → TalliesUpTo n ts → TalliesUpTo most ts
tallies_up_to n most [] room all = tt
tallies_up_to n most (t ∷ ts) room all = let one = all.0 in (omega (arith, one, room), tallies_up_to n most ts room all.1)

pub versions_room : (s : JarState) → IsCounted s → s.entries < 2 ^ 64 - 1 → VersionsUpTo (2 ^ 64 - 2) s.bound
versions_room s all room = more_versions s.entries (2 ^ 64 - 2) s.bound (omega (arith, room)) all.versions

pub posts_room : (s : JarState) → IsCounted s → s.entries < 2 ^ 64 - 1 → TalliesUpTo (2 ^ 64 - 2) s.posts
posts_room s all room = tallies_up_to s.entries (2 ^ 64 - 2) s.posts (omega (arith, room)) all.posts

pub listens_room : (s : JarState) → IsCounted s → s.entries < 2 ^ 64 - 1 → TalliesUpTo (2 ^ 64 - 2) s.listens
listens_room s all room = tallies_up_to s.entries (2 ^ 64 - 2) s.listens (omega (arith, room)) all.listens

-- what an op leaves has room too
pub record HasRoom (t : JarState) : Type 0 where
  pub calls : t.calls < 2 ^ 64 - 1
  pub entries : t.entries < 2 ^ 64 - 1
  pub versions : VersionsUpTo (2 ^ 64 - 2) t.bound

pub op_room : (s : JarState) (caller now : ℕ) (op : Op) → IsCounted s → s.entries < 2 ^ 64 - 1 → HasRoom (call_step s caller now op).state
op_room s caller now op all room =
    let left = call_counts (faulted s.loads (needs op)) s caller now op all in
    let calls = left.calls in
    let entries = left.entries in
    let fewer = all.calls in
    record {
      calls = omega (arith, calls, fewer, room);
      entries = omega (arith, entries, room);
      versions = more_versions s.entries (2 ^ 64 - 2) (call_step s caller now op).state.bound (omega (arith, room)) left.versions;
    }
