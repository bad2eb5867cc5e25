-- What a reuse is and is not, at the text `a=1` of the cell 7, kept at version 0 until 10, so that no
-- part of the definition can be lost and still check.
use Rattle.std.proofs.Common.{◌≡◌, ◌≤◌, ◌<◌, ℕ, List, [], ◌∷◌, ◌++◌, length, codes, Bor, refl, sym, ap, ◌∙◌, arith}
use Rattle.version_cells.specs.Listings.{turns}
use Rattle.version_cells.specs.Standing.{PassStanding}
use Rattle.renderer_cache.specs.declared.kept.Kept.{Kept}
use Rattle.renderer_cache.specs.declared.reuse.Reuse.TheVariants.{Late, Hit, Moved}
use Rattle.renderer_cache.specs.Reuse.{IsReuse}

abbrev kept : Kept
kept = record {
  cell = 7;
  version = 0;
  until = 10;
  text = codes "a=1";
  in_range = (omega arith, omega arith);
}

-- one look more, of the kept cell, that found this number
abbrev HasLooked : PassStanding → PassStanding → ℕ → Type 0
HasLooked old new found =
    new.view.looks ≡ old.view.looks ++ record { cell = 7; number = found; place = length old.view.own.seen } ∷ []

-- the first byte of a text
abbrev first : List ℕ → ℕ
first [] = 0
first (x ∷ xs) = x

module _ (old new : PassStanding) where
  -- late from 10 on and no earlier, without a look
  pub late : ¬ (IsReuse kept 9 old new Late) × IsReuse kept 10 old old Late
      × (IsReuse kept 10 old new Late → new ≡ old)
  late = ((λ h. let e : 10 ≤ 9 = h.0 in omega arith), (omega arith, refl), (λ h. h.1))

  -- moved below 10 alone, where the look found another version than the kept one, and what it found
  pub moved : ¬ (IsReuse kept 10 old new (Moved 0 1)) × ¬ (IsReuse kept 9 old new (Moved 0 0))
      × ¬ (IsReuse kept 9 old new (Moved 1 2))
      × (turns 7 old.view.own.seen ≡ 2 → ¬ (IsReuse kept 9 old new (Moved 0 1)))
      × (IsReuse kept 9 old new (Moved 0 1) → HasLooked old new 1)
  moved = (
    (λ h. let e : 10 < 10 = h.0 in omega arith),
    (λ h. h.3 refl),
    (λ h. let e : 1 ≡ 0 = h.2 in omega arith),
    (λ two h. let e : turns 7 old.view.own.seen ≤ 1 = h.1.1 in omega arith),
    (λ h. ap (λ (s : PassStanding). s.view.looks) h.1.0),
  )

  -- a hit below 10 alone, by a look that found the kept version, and with the kept text
  pub hit : (text : Bor (List ℕ))
      → ¬ (IsReuse kept 10 old new (Hit text))
      × (text.now ≡ codes "b=2" → ¬ (IsReuse kept 9 old new (Hit text)))
      × (turns 7 old.view.own.seen ≡ 1 → ¬ (IsReuse kept 9 old new (Hit text)))
      × (IsReuse kept 9 old new (Hit text) → HasLooked old new 0)
  hit text = (
    (λ h. let e : 10 < 10 = h.0 in omega arith),
    (λ other h. let e : codes "b=2" ≡ codes "a=1" = sym other ∙ h.2 in let n : 98 ≡ 97 = ap first e in omega arith),
    (λ one h. let e : turns 7 old.view.own.seen ≤ 0 = h.1.1 in omega arith),
    (λ h. ap (λ (s : PassStanding). s.view.looks) h.1.0),
  )
