-- How many looks a loop makes.
-- This jar's own rule: docs/DEFINITIONS.md.
use Rattle.std.specs.Prelude.{◌≡◌, ◌+◌, ℕ, length}
use Rattle.version_cells.specs.Standing.{PassStanding}
use Rattle.reuse_bench.specs.declared.task.Task.{Task}
use Rattle.reuse_bench.specs.declared.task.Task.TheVariants.{Load, Look, LoadCopy, ReuseCopy}

-- so many looks were made with the pass
abbrev pub HasLooked : PassStanding → PassStanding → ℕ → Type 0
HasLooked old new more = length new.view.looks ≡ length old.view.looks + more

-- the looks of a task in so many rounds: a look or a reuse makes one in each
abbrev pub looks_of : Task → ℕ → ℕ
looks_of Load rounds = 0
looks_of Look rounds = rounds
looks_of LoadCopy rounds = 0
looks_of ReuseCopy rounds = rounds
