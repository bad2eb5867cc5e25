-- What the six points, a meeting and a front refuse: for each cause a small world or memory that
-- has it, so that no definition that only stands in a conclusion can lose a part and still check.
-- The points are those of docs/DEFINITIONS.md.
use Rattle.std.proofs.Common.{◌≡◌, ◌<◌, ◌≤◌, ◌+◌, ℕ, zero, suc, List, [], ◌∷◌, ◌++◌, length, true, false, Option, Some, None, refl, sym, ap, ◌∙◌, ⊎_elim, inl, inr, arith}
use Rattle.std.specs.Prelude.{slice_index}
use mathlib.Core.Option.{some-injective, some-ne-none}
use Rattle.version_cells.specs.declared.listing.Listing.{Listing}
use Rattle.version_cells.specs.declared.view.Look.{Look}
use Rattle.version_cells.specs.declared.view.View.{View}
use Rattle.version_cells.specs.Listings.{one, is_owner, owner_of, turns, owned, StartsWith, EndsWith}
use Rattle.version_cells.specs.Views.{uses_of}
use Rattle.version_cells.specs.Held.{Holds, Held, HasSixPoints}
use Rattle.version_cells.specs.Told.{CoversLook, Covers, Met}
use Rattle.version_cells.specs.Answered.{IsFront}
use Rattle.version_cells.proofs.Sums.{total_push}
use Rattle.version_cells.proofs.StandardFacts.{listing, memory, permit, baton, pass, copy, nothing, called, look}

-- the history of one entry, which is of pass 0 and moves the cell 2, and an entry that is not in it
abbrev history : List Listing
history = called ∷ []

abbrev stranger : Listing
stranger = listing (3 ∷ []) None

-- the baton with this history, free, with a pending cell, and with a permit
abbrev free : View
free = baton history [] None [] 1

abbrev pending : View
pending = baton history [] None (3 ∷ []) 1

abbrev holding : ℕ → View
holding uses = baton history [] (Some (permit 0 uses)) [] 1

-- the pass 0, at home and away, and a pass with this last look and these looks
abbrev home : View
home = pass (memory history None 1) [] 0 1 false [] 1

abbrev away : View
away = pass (memory history None 1) [] 0 0 true [] 1

abbrev looked : Option Look → List Look → View
looked last looks = pass (memory history last 1) [] 0 1 false looks 1

abbrev look_at : ℕ → ℕ → ℕ → Look
look_at cell number place = record { cell = cell; number = number; place = place }

-- 1: too few words, and word 0 counts an entry that is not there
pub other_counts : (words : List ℕ)
    → (length words ≡ 4096 → ¬ (Held words (free ∷ home ∷ []) free))
    × (slice_index words 0 ≡ 2 → ¬ (Held words (free ∷ home ∷ []) free))
other_counts words = (
  (λ e h. let s : length words ≡ 4097 = h.sized in omega arith),
  (λ e h. let s : slice_index words 0 ≡ 1 = h.counted in omega arith),
)

-- 2: a version without the entry that moves the cell, with one that does not, and without the bump
-- of a pending cell
pub other_versions : (words : List ℕ)
    → (slice_index words 2 ≡ 0 → ¬ (Held words (free ∷ home ∷ []) free))
    × (slice_index words 4096 ≡ 1 → ¬ (Held words (free ∷ home ∷ []) free))
    × (slice_index words 3 ≡ 0 → ¬ (Held words (pending ∷ home ∷ []) pending))
other_versions words = (
  (λ e h. let s : slice_index words 2 ≡ 1 = h.versions 2 (omega arith) (omega arith) in omega arith),
  (λ e h. let s : slice_index words 4096 ≡ 0 = h.versions 4096 (omega arith) (omega arith) in omega arith),
  (λ e h. let s : slice_index words 3 ≡ 1 = h.versions 3 (omega arith) (omega arith) in omega arith),
)

-- another history does not begin this one
other_start : ¬ (StartsWith history (stranger ∷ []))
other_start s = let e : 0 ≡ 1 + turns 3 s.0 = ap (λ (l : List Listing). turns 3 l) s.1 in omega arith

-- 3: a pass that saw another history, or noted one, and one that found more entries than there are
pub other_memories : (words : List ℕ)
    → (let v = pass (memory (stranger ∷ []) None 1) [] 0 1 false [] 1 in ¬ (Held words (free ∷ v ∷ []) free))
    × (let v = pass nothing (memory (stranger ∷ []) None 1 ∷ []) 0 1 false [] 1 in ¬ (Held words (free ∷ v ∷ []) free))
    × (let v = pass (memory history None 2) [] 0 1 false [] 1 in ¬ (Held words (free ∷ v ∷ []) free))
other_memories words = (
  (λ h. other_start (h.remembered 1 _ refl).0.begins),
  (λ h. other_start (h.remembered 1 _ refl).1.0.begins),
  (λ h. let s : 2 ≤ 1 = (h.remembered 1 _ refl).0.found in omega arith),
)

-- 4: a last look of no cell, past what was seen, below the turns, and above the word
pub other_looks : (words : List ℕ)
    → (let l = look_at 0 0 0 in ¬ (Held words (free ∷ looked (Some l) (l ∷ []) ∷ []) free))
    × (let l = look_at 2 1 2 in ¬ (Held words (free ∷ looked (Some l) (l ∷ []) ∷ []) free))
    × (let l = look_at 2 0 1 in ¬ (Held words (free ∷ looked (Some l) (l ∷ []) ∷ []) free))
    × (slice_index words 2 ≡ 1 → let l = look_at 2 2 1 in ¬ (Held words (free ∷ looked (Some l) (l ∷ []) ∷ []) free))
other_looks words = (
  (λ h. let s : 0 < 0 = (h.remembered 1 _ refl).0.look.0.0 in omega arith),
  (λ h. let s : 2 ≤ 1 = (h.remembered 1 _ refl).0.look.1 in omega arith),
  (λ h. let s : 1 ≤ 0 = (h.remembered 1 _ refl).0.look.2 in omega arith),
  (λ e h. let s : 2 ≤ slice_index words 2 = (h.remembered 1 _ refl).0.look.3 in omega arith),
)

-- the number of the newest look
abbrev newest : ℕ → List Look → ℕ
newest n [] = n
newest n (l ∷ ls) = newest l.number ls

newest_push : (n : ℕ) (ls : List Look) (l : Look) → newest n (ls ++ l ∷ []) ≡ l.number
newest_push n [] l = refl
newest_push n (x ∷ xs) l = newest_push x.number xs l

-- 4: no last look beside a look, a last look where none was made, and an older look than the last
pub other_last_looks : (words : List ℕ)
    → ¬ (Held words (free ∷ looked None (look ∷ []) ∷ []) free)
    × ¬ (Held words (free ∷ looked (Some look) [] ∷ []) free)
    × ¬ (Held words (free ∷ looked (Some look) (look ∷ look_at 2 2 1 ∷ []) ∷ []) free)
other_last_looks words = (
  (λ h. let e : 1 ≡ 0 = ap (λ (l : List Look). length l) (h.last 1 _ refl refl) in omega arith),
  (λ h. let s = h.last 1 _ refl refl in let e : 0 ≡ 1 = ap (newest 0) s.1 ∙ newest_push 0 s.0 look in omega arith),
  (λ h. let s = h.last 1 _ refl refl in let e : 2 ≡ 1 = ap (newest 0) s.1 ∙ newest_push 0 s.0 look in omega arith),
)

-- 5: two passes of one number, a pass, an owner and a permit past the next number
pub other_numbers : (words : List ℕ)
    → ¬ (Held words (free ∷ home ∷ home ∷ []) free)
    × (let v = pass nothing [] 1 0 false [] 0 in ¬ (Held words (free ∷ v ∷ []) free))
    × (let b = baton (listing [] (Some 1) ∷ []) [] None [] 1 in ¬ (Held words (b ∷ []) b))
    × ¬ (Held words (free ∷ copy nothing (Some (permit 1 0)) ∷ []) free)
other_numbers words = (
  (λ h. let e : 1 ≡ 2 = h.numbers_differ 1 2 0 home home refl refl (refl, refl) (refl, refl) in omega arith),
  (λ h. let e : 1 < 1 = h.numbers_below 1 1 _ refl (refl, refl) in omega arith),
  (λ h. let e : 1 ≡ 0 = h.owners_below 1 (omega arith) in omega arith),
  (λ h. let e : 1 < 1 = h.permits_below 1 1 0 (copy nothing (Some (permit 1 0)), refl, refl) in omega arith),
)

-- nobody holds a permit here
no_holder : (by uses : ℕ) → ¬ (Holds (free ∷ away ∷ []) by 0 uses)
no_holder zero uses h = let e = ap (λ (v : View). v.permit) (some-injective free h.0 h.1) ∙ h.2 in cc
no_holder (suc zero) uses h = let e = ap (λ (v : View). v.permit) (some-injective away h.0 h.1) ∙ h.2 in cc
no_holder (suc (suc by)) uses h = some-ne-none h.0 (sym h.1)

-- 6: a permit at home that the baton holds, calls that are not the entries, a permit that is away
-- with nobody, with two seats, and with more uses than there are entries
pub other_permits : (words : List ℕ)
    → ¬ (Held words (holding 0 ∷ home ∷ []) (holding 0))
    × (let v = pass nothing [] 0 2 false [] 0 in ¬ (Held words (free ∷ v ∷ []) free))
    × ¬ (Held words (free ∷ away ∷ []) free)
    × ¬ (Held words (holding 1 ∷ away ∷ copy nothing (Some (permit 0 0)) ∷ []) (holding 1))
    × ¬ (Held words (holding 2 ∷ away ∷ []) (holding 2))
other_permits words = (
  (λ h. (h.at_home 1 0 home refl (refl, refl) refl).0 0 0 (holding 0, refl, refl)),
  (λ h. let e : 1 ≡ 2 = (h.at_home 1 0 _ refl (refl, refl) refl).1 in omega arith),
  (λ h. let a = h.away 1 0 away refl (refl, refl) refl in no_holder a.0 a.1 a.2),
  (λ h. let a = h.away 1 0 away refl (refl, refl) refl in
      let first : 0 ≡ a.0 = a.3 0 1 (holding 1, refl, refl) in
      let second : 2 ≡ a.0 = a.3 2 0 (copy nothing (Some (permit 0 0)), refl, refl) in omega arith),
  (λ h. let a = h.away 1 0 away refl (refl, refl) refl in
      let first : 0 ≡ a.0 = a.3 0 2 (holding 2, refl, refl) in used a.0 a.1 first a.2 a.4),
)
  where
    used : (by uses : ℕ) → 0 ≡ by → Holds (holding 2 ∷ away ∷ []) by 0 uses → 1 ≡ 0 + uses → ⊥
    used zero uses e h n =
        let held = ap (λ (v : View). uses_of v.permit) (some-injective (holding 2) h.0 h.1) ∙ ap uses_of h.2 in
        let same : 2 ≡ uses = held in omega arith
    used (suc by) uses e h n = omega arith

-- one seat is a baton's: none, and two
pub other_batons : (words : List ℕ) → ¬ (HasSixPoints words []) × ¬ (HasSixPoints words (free ∷ free ∷ []))
other_batons words = (
  (λ h. some-ne-none h.1 (sym h.2)),
  (λ h. let first : 0 ≡ h.0 = h.4 0 free refl refl in let second : 1 ≡ h.0 = h.4 1 free refl refl in omega arith),
)

-- a baton covers no other history, no more than was committed, and no look past the turns and the
-- pending cell
pub not_covered : ¬ (Covers free (memory (stranger ∷ []) None 1)) × ¬ (Covers free (memory history None 2))
    × ¬ (Covers free (memory history (Some (look_at 2 2 1)) 1)) × CoversLook free (Some look)
    × CoversLook pending (Some (look_at 3 1 0)) × ¬ (CoversLook pending (Some (look_at 3 2 0)))
not_covered = (
  (λ h. other_start h.0),
  (λ h. let e : 2 ≤ 1 = h.1 in omega arith),
  (λ h. let e : 2 ≤ 1 = h.2 in omega arith),
  omega arith,
  omega arith,
  (λ h. let e : 2 ≤ 1 = h in omega arith),
)

-- a meeting tells of no other history, of no other number of calls, and of no look past the turns
pub not_met : (let v = pass (memory (stranger ∷ []) None 1) [] 0 1 false [] 1 in ¬ (Met v free))
    × (let v = pass nothing [] 0 2 false [] 0 in ¬ (Met v free)) × ¬ (Met away (holding 2))
    × (let l = look_at 2 2 1 in ¬ (Met (looked (Some l) (l ∷ [])) free))
not_met = (
  (λ h. other_start h.begins),
  (λ h. let e : 1 ≡ 2 = h.owns in omega arith),
  (λ h. let e : 1 ≡ 2 = h.owns in omega arith),
  (λ h. let e : 2 ≤ 1 = h.look in omega arith),
)

-- the history is a front of pass 0, whose entry it ends with, and of no other, and the empty one is
-- everybody's
pub fronts : IsFront 0 history × ¬ (IsFront 1 history) × IsFront 1 []
fronts = (inr (called, ([], refl), refl), (λ f. ⊎_elim filled ends f), inl refl)
  where
    filled : history ≡ [] → ⊥
    filled e = let same : called ∷ [] ≡ [] = e in cc

    ends : (e : Listing) × EndsWith history e × (owner_of e ≡ Some 1) → ⊥
    ends h =
        let owns : Listing → ℕ = λ e. one (is_owner 1 (owner_of e)) in
        let counted = ap (λ (l : List Listing). owned 1 l) h.1.1 ∙ total_push owns h.1.0 h.0 in
        let own : one (is_owner 1 (owner_of h.0)) ≡ 1 = ap (λ (o : Option ℕ). one (is_owner 1 o)) h.2 in
        let n : 0 ≡ owned 1 h.1.0 + one (is_owner 1 (owner_of h.0)) = counted in omega arith
