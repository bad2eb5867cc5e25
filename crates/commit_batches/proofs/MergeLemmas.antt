-- Newer changes over older ones, where the ids of both rise: the least id comes first, with the newer of two changes.
use Rattle.std.proofs.Common.{◌≡◌, ℕ, ◌+◌, ◌-◌, ◌<◌, ◌≤◌, List, [], ◌∷◌, ◌++◌, refl, sym, ap, ◌∙◌, zero, suc, length, get_or, take, drop, add-one, arith}
use Rattle.std.specs.List.{AllByRecursion}
use Rattle.std.specs.List.Sorted.{IsStrictlySortedBy}
use Rattle.std.specs.Ordering.{ordering_reverse}
use Rattle.std.specs.declared.cmp.Ordering.TheVariants.{Less, Equal, Greater}
use Rattle.std.proofs.lemmas.List.{append_assoc, append-nil, take_all, drop_all, length-drop}
use Rattle.std.proofs.Math.Seq.{drop-cons}
use Rattle.jar_types.specs.declared.row.RowChange.{RowChange}
use Rattle.jar_types.specs.Orders.{put_by}
use Rattle.jar_types.specs.RowChanges.{change_cmp, newest_over}
use Rattle.commit_batches.specs.Waiting.{ChangesRise}
use Rattle.commit_batches.proofs.PutLemmas.{below_all, put_after, put_before, put_over}
use Rattle.commit_batches.proofs.NewestLemmas.{changes_total}

-- the change is below all of these
abbrev IsBelow : RowChange → List RowChange → Type 0
IsBelow c ds = AllByRecursion (λ d. change_cmp c d ≡ Less) ds

first_stays : (c : RowChange) (older newer : List RowChange) → IsBelow c newer → newest_over (c ∷ older) newer ≡ c ∷ newest_over older newer
first_stays c older [] below = refl
first_stays c older (d ∷ ds) below =
    ap (λ changes. newest_over changes ds) (put_after change_cmp d c older below.0) ∙ first_stays c (put_by change_cmp d older) ds below.1

pub none_older : (newer : List RowChange) → ChangesRise newer → newest_over [] newer ≡ newer
unfolding IsStrictlySortedBy
none_older [] rises = refl
none_older (d ∷ ds) rises = first_stays d [] ds rises.0 ∙ ap (λ changes. d ∷ changes) (none_older ds rises.1)

-- the older change has the lesser id
pub older_first : (c d : RowChange) (cs ds : List RowChange) → change_cmp c d ≡ Less → ChangesRise (d ∷ ds)
    → newest_over (c ∷ cs) (d ∷ ds) ≡ c ∷ newest_over cs (d ∷ ds)
unfolding IsStrictlySortedBy
older_first c d cs ds less rises = first_stays c cs (d ∷ ds) (less, below_all changes_total c d ds less rises.0)

-- both have one id
pub newer_instead : (c d : RowChange) (cs ds : List RowChange) → change_cmp c d ≡ Equal → ChangesRise (c ∷ cs) → ChangesRise (d ∷ ds)
    → newest_over (c ∷ cs) (d ∷ ds) ≡ d ∷ newest_over cs ds
unfolding IsStrictlySortedBy
newer_instead c d cs ds same older newer =
    ap (λ changes. newest_over changes ds) (put_over changes_total d c cs same older.0) ∙ first_stays d cs ds newer.0

-- the newer change has the lesser id
pub newer_first : (c d : RowChange) (cs ds : List RowChange) → change_cmp c d ≡ Greater → ChangesRise (c ∷ cs) → ChangesRise (d ∷ ds)
    → newest_over (c ∷ cs) (d ∷ ds) ≡ d ∷ newest_over (c ∷ cs) ds
unfolding IsStrictlySortedBy
newer_first c d cs ds greater older newer =
    let less : change_cmp d c ≡ Less = changes_total.antisymm d c ∙ ap ordering_reverse greater in
    ap (λ changes. newest_over changes ds) (put_before changes_total d (c ∷ cs) (less, below_all changes_total d c cs less older.0))
    ∙ first_stays d (c ∷ cs) ds newer.0

-- ---- one step of the merge

-- from the place of a change on
pub from_place : (cs : List RowChange) (i : ℕ) (c : RowChange) → i < length cs → c ≡ get_or cs i c → drop i cs ≡ c ∷ drop (i + 1) cs
from_place cs i c within is = drop-cons cs i c within ∙ ap (λ d. d ∷ drop (suc i) cs) (sym is) ∙ rw add-one refl

pub rest_rises : (i : ℕ) (cs : List RowChange) → ChangesRise cs → ChangesRise (drop i cs)
unfolding IsStrictlySortedBy
rest_rises zero cs rises = rises
rest_rises (suc i) [] rises = tt
rest_rises (suc i) (c ∷ cs) rises = rest_rises i cs rises.1

-- what comes next goes behind what was merged
moved : (out left rest all : List RowChange) (c : RowChange) → out ++ left ≡ all → left ≡ c ∷ rest → (out ++ c ∷ []) ++ rest ≡ all
moved out left rest all c e is = append_assoc out (c ∷ []) rest ∙ ap (λ changes. out ++ changes) (sym is) ∙ e

pub take_older : (older newer out all : List RowChange) (i j : ℕ) (c d : RowChange)
    → i < length older → j < length newer → c ≡ get_or older i c → d ≡ get_or newer j d → ChangesRise newer
    → change_cmp c d ≡ Less
    → out ++ newest_over (drop i older) (drop j newer) ≡ all
    → (out ++ c ∷ []) ++ newest_over (drop (i + 1) older) (drop j newer) ≡ all
take_older older newer out all i j c d within inside is same rises less e =
    let cs = from_place older i c within is in
    let ds = from_place newer j d inside same in
    let rest : ChangesRise (d ∷ drop (j + 1) newer) = rw ds at (rest_rises j newer rises) in
    moved out _ _ all c e (rw (cs, ds) (older_first c d (drop (i + 1) older) (drop (j + 1) newer) less rest))

pub take_both : (older newer out all : List RowChange) (i j : ℕ) (c d : RowChange)
    → i < length older → j < length newer → c ≡ get_or older i c → d ≡ get_or newer j d → ChangesRise older → ChangesRise newer
    → change_cmp c d ≡ Equal
    → out ++ newest_over (drop i older) (drop j newer) ≡ all
    → (out ++ d ∷ []) ++ newest_over (drop (i + 1) older) (drop (j + 1) newer) ≡ all
take_both older newer out all i j c d within inside is same rises rises' equal e =
    let cs = from_place older i c within is in
    let ds = from_place newer j d inside same in
    let before : ChangesRise (c ∷ drop (i + 1) older) = rw cs at (rest_rises i older rises) in
    let rest : ChangesRise (d ∷ drop (j + 1) newer) = rw ds at (rest_rises j newer rises') in
    moved out _ _ all d e (rw (cs, ds) (newer_instead c d (drop (i + 1) older) (drop (j + 1) newer) equal before rest))

pub take_newer : (older newer out all : List RowChange) (i j : ℕ) (c d : RowChange)
    → i < length older → j < length newer → c ≡ get_or older i c → d ≡ get_or newer j d → ChangesRise older → ChangesRise newer
    → change_cmp c d ≡ Greater
    → out ++ newest_over (drop i older) (drop j newer) ≡ all
    → (out ++ d ∷ []) ++ newest_over (drop i older) (drop (j + 1) newer) ≡ all
take_newer older newer out all i j c d within inside is same rises rises' greater e =
    let cs = from_place older i c within is in
    let ds = from_place newer j d inside same in
    let before : ChangesRise (c ∷ drop (i + 1) older) = rw cs at (rest_rises i older rises) in
    let rest : ChangesRise (d ∷ drop (j + 1) newer) = rw ds at (rest_rises j newer rises') in
    moved out _ _ all d e (rw (cs, ds) (newer_first c d (drop (i + 1) older) (drop (j + 1) newer) greater before rest))

-- ---- the end of the merge

-- what a slice of all that is left has
pub rest_of : (cs : List RowChange) (i : ℕ) → take (length cs - i) (drop i cs) ≡ drop i cs
rest_of cs i = take_all (length cs - i) (drop i cs) (omega (arith, length-drop i cs))

pub newer_ended : (older newer out all : List RowChange) (i j : ℕ) → length newer ≤ j
    → out ++ newest_over (drop i older) (drop j newer) ≡ all
    → (out ++ drop i older) ++ drop j newer ≡ all
newer_ended older newer out all i j ended e =
    let none = drop_all j newer ended in
    let left : out ++ drop i older ≡ all = rw none at e in
    rw none (append-nil (out ++ drop i older) ∙ left)

pub older_ended : (older newer out all : List RowChange) (i j : ℕ) → length older ≤ i → ChangesRise newer
    → out ++ newest_over (drop i older) (drop j newer) ≡ all
    → (out ++ drop i older) ++ drop j newer ≡ all
older_ended older newer out all i j ended rises e =
    let none = drop_all i older ended in
    let left : out ++ newest_over [] (drop j newer) ≡ all = rw none at e in
    rw (none, append-nil) (ap (λ changes. out ++ changes) (sym (none_older (drop j newer) (rest_rises j newer rises))) ∙ left)
