-- What holds of newer changes over older ones. This jar's own rule: docs/DEFINITIONS.md.
use Rattle.std.specs.Prelude.{◌≡◌, List, map}
use Rattle.jar_types.specs.declared.row.RowChange.{RowChange}
use Rattle.jar_types.specs.Batches.{Batches, touching}
use Rattle.jar_types.specs.RowChanges.{change_id, newest_over}
use Rattle.commit_batches.specs.Waiting.{ChangesRise}

-- over changes whose ids rise, newer ones in any order leave ids that rise
abbrev pub NewestRise : Type 0
NewestRise = (older newer : List RowChange) → ChangesRise older → ChangesRise (newest_over older newer)

-- where the touched ids are those of the older changes, the newer ones touch just the ids of all of them
abbrev pub NewestAreTouched : Type 0
NewestAreTouched =
    (b : Batches) (older newer : List RowChange)
    → b.touched ≡ map change_id older
    → (touching newer b).touched ≡ map change_id (newest_over older newer)
