-- A jar that is opened: its passes, its keys, and what holds before its first entry.
use Rattle.std.proofs.Common.{◌≡◌, ◌≤◌, ◌<◌, ◌+◌, ℕ, suc, List, [], ◌∷◌, ◌++◌, length, map, refl, sym, ap, ◌∙◌, arith}
use Rattle.std.specs.Prelude.{if◌then◌else◌}
use Rattle.std.specs.List.Sorted.{IsStrictlySortedBy}
use Rattle.std.specs.Ordering.{is_lt, is_eq}
use Rattle.std.specs.declared.cmp.Ordering.{Ordering}
use Rattle.std.specs.declared.cmp.Ordering.TheVariants.{Less, Equal, Greater}
use Rattle.std.proofs.lemmas.List.{length-map}
use Rattle.atomic_table.specs.Seated.{TableId}
use Rattle.jar_types.specs.Ids.{text_cmp}
use Rattle.jar_types.specs.Journals.{Rules, key_at, state_of, stored_keys}
use Rattle.jar_types.specs.Orders.{ascending, placed_once}
use Rattle.version_cells.specs.Standing.{PassStanding, new_pass_standing, new_passes}
use Rattle.locked_jar.specs.LockedJars.{LockedJar, opened}
use Rattle.locked_jar.proofs.HistoryLemmas.{histories_begin}
use Rattle.shared_jar.specs.Opening.{HasPasses}
use Rattle.shared_jar.specs.Together.{IsJar}
use Rattle.shared_jar.specs.declared.opening.TheConstants.{MOST_HOSTS, MOST_LIMIT}

-- ---- passes

no_end : {A : Type 0} → (ys : List A) (y : A) → [] ≡ ys ++ y ∷ [] → ⊥
no_end [] y e = absurd cc
no_end (z ∷ ys) y e = absurd cc

pub one_end : {A : Type 0} → (xs ys : List A) (x y : A) → xs ++ x ∷ [] ≡ ys ++ y ∷ [] → (xs ≡ ys) × (x ≡ y)
one_end [] [] x y e = (refl, cc)
one_end {A} [] (b ∷ ys) x y e = let rest : [] ≡ ys ++ y ∷ [] = cc in absurd (no_end ys y rest)
one_end {A} (a ∷ xs) [] x y e = let rest : [] ≡ xs ++ x ∷ [] = cc in absurd (no_end xs x rest)
one_end (a ∷ xs) (b ∷ ys) x y e =
    let rest : xs ++ x ∷ [] ≡ ys ++ y ∷ [] = cc in
    let first : a ≡ b = cc in
    let on = one_end xs ys x y rest in (ap (λ zs. a ∷ zs) on.0 ∙ ap (λ c. c ∷ ys) first, on.1)

two_more : (n : ℕ) → n + 2 ≡ suc (suc n)
two_more n = omega arith

one_more : (n : ℕ) → suc n ≡ n + 1
one_more n = omega arith

-- the last two of the passes are taken out
pub two_popped : (t : TableId) (n : ℕ) (all some rest : List PassStanding) (loader committer : PassStanding) → all ≡ new_passes t (n + 2)
    → all ≡ some ++ committer ∷ [] → some ≡ rest ++ loader ∷ [] → HasPasses t n rest loader committer
two_popped t n all some rest loader committer is first second =
    let whole : (new_passes t n ++ new_pass_standing t n ∷ []) ++ new_pass_standing t (suc n) ∷ [] ≡ some ++ committer ∷ [] =
    sym (ap (new_passes t) (two_more n)) ∙ (sym is ∙ first) in
    let last = one_end (new_passes t n ++ new_pass_standing t n ∷ []) some (new_pass_standing t (suc n)) committer whole in
    let before = one_end (new_passes t n) rest (new_pass_standing t n) loader (last.0 ∙ second) in
    record {
      callers_are = sym before.0;
      loads = sym before.1;
      commits = sym last.1 ∙ ap (new_pass_standing t) (one_more n);
    }

-- ---- keys

one_more_at_most : (o : Ordering) (x y : List ℕ) (ys zs : List (List ℕ)) → length zs ≤ suc (length ys)
    → length (if is_lt o then x ∷ (y ∷ ys) else (if is_eq o then y ∷ ys else y ∷ zs)) ≤ suc (suc (length ys))
one_more_at_most Less x y ys zs few = omega arith
one_more_at_most Equal x y ys zs few = omega arith
one_more_at_most Greater x y ys zs few = omega (arith, few)

few_placed : (x : List ℕ) (ys : List (List ℕ)) → length (placed_once text_cmp x ys) ≤ suc (length ys)
few_placed x [] = omega arith
few_placed x (y ∷ ys) = one_more_at_most (text_cmp x y) x y ys (placed_once text_cmp x ys) (few_placed x ys)

few_ascending : (xs : List (List ℕ)) → length (ascending text_cmp xs) ≤ length xs
few_ascending [] = omega arith
few_ascending (x ∷ xs) =
    let rest = few_ascending xs in let one = few_placed x (ascending text_cmp xs) in omega (arith, rest, one)

few_keys : (r : Rules) → length (stored_keys r) ≤ length r.hosts
few_keys r =
    let few = few_ascending (map (key_at r) r.hosts) in let same = length-map r.hosts (key_at r) in omega (arith, few, same)

-- ---- before the first entry

pub opening_jar : (r : Rules) (table : TableId) (j : LockedJar) (cutter : PassStanding) → IsStrictlySortedBy text_cmp r.hosts → r.limit ≤ MOST_LIMIT
    → length r.hosts < MOST_HOSTS → j ≡ opened table (stored_keys r) r.limit → cutter ≡ new_pass_standing table (r.callers + 2)
    → IsJar r table j cutter 0
unfolding state_of
opening_jar r table j cutter rises limit few is made =
    let keys = few_keys r in
    rw (is, made) (record {
      bounded = record { limit = limit; keys = omega (arith, keys, few) };
      table_is = refl;
      limit_is = refl;
      history = histories_begin r (r.callers + 2) rises;
      state_is = refl;
      home = (refl, refl);
      above = omega arith;
      owns_are = refl;
      owned_are = refl;
      few_owns = omega arith;
    })
