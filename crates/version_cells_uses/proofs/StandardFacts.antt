-- The limit of a desk by its number, and what a call counts and leaves, so that no part of a
-- definition that only stands in a conclusion can be lost and still check.
use Rattle.std.proofs.Common.{◌≡◌, ◌+◌, refl, arith}
use Rattle.version_cells.specs.Standing.{PassStanding}
use Rattle.version_cells_uses.specs.declared.desk.TheConstants.{LIMIT}
use Rattle.version_cells_uses.specs.Ready.{HasCounted, HasMetOnce, HasCalled}

pub limit : LIMIT ≡ 1_000_000
limit = refl

module _ (old new : PassStanding) where
  -- one call is not two, and it is of the same pass
  pub counted : (new.view.calls ≡ old.view.calls + 2 → ¬ (HasCounted old new 1))
      × (new.view.number ≡ old.view.number + 1 → ¬ (HasCounted old new 1))
  counted = (
    (λ e h. let n = h.1 in omega arith),
    (λ e h. let n = h.0 in omega arith),
  )

  -- one meeting is not two, and makes no look
  pub met : (new.view.fronts ≡ old.view.fronts + 2 → ¬ (HasMetOnce old new))
      × (HasMetOnce old new → new.view.looks ≡ old.view.looks)
      × (HasMetOnce old new → new.view.own.last ≡ old.view.own.last)
  met = ((λ e h. let n = h.0 in omega arith), (λ h. h.1), (λ h. h.2))

  -- a call that was answered is counted once, by one meeting, and moves the front to all that was seen
  pub called : HasCalled old new → HasCounted old new 1 × HasMetOnce old new × (new.front ≡ new.view.own.seen)
  called h = (h.0, h.1, h.2)
