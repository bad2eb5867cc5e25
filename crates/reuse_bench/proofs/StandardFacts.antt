-- The looks of each task in three rounds, as bench/reuse.py asks for them.
use Rattle.std.proofs.Common.{◌≡◌, ◌+◌, length, refl, arith}
use Rattle.version_cells.specs.Standing.{PassStanding}
use Rattle.reuse_bench.specs.declared.task.Task.TheVariants.{Load, Look, LoadCopy, ReuseCopy}
use Rattle.reuse_bench.specs.Looked.{HasLooked, looks_of}

pub looks : (looks_of Load 3 ≡ 0) × (looks_of Look 3 ≡ 3) × (looks_of LoadCopy 3 ≡ 0)
    × (looks_of ReuseCopy 3 ≡ 3)
looks = (refl, refl, refl, refl)

-- one look more is no look and no two
pub counted : (old new : PassStanding) → length new.view.looks ≡ length old.view.looks + 1
    → ¬ (HasLooked old new 0) × ¬ (HasLooked old new 2)
counted old new e = ((λ h. let n = h in omega arith), (λ h. let n = h in omega arith))
