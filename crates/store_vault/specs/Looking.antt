-- A keeper that was only read. This jar's own rule: docs/DEFINITIONS.md.
use Rattle.std.specs.Prelude.{List}
use Rattle.jar_types.specs.declared.row.Row.{Row}
use Rattle.jar_keeper.specs.Keepers.{LeavesNoMore, TellsSame}

-- by what a keeper tells, what a crash may leave, and whether nobody disturbs it, each before and after: it tells the
-- same, and where nobody disturbs it nobody did before, and a crash leaves no more
pub record HasLooked (tells tells' leaves leaves' : List Row → Type 0) (undisturbed undisturbed' : Type 0) : Type 0 where
  pub told : TellsSame tells tells'
  pub since : undisturbed' → undisturbed
  pub left : undisturbed' → LeavesNoMore leaves leaves'
