-- A keeper that was only read.
use Rattle.std.proofs.Common.{List}
use Rattle.jar_types.specs.declared.row.Row.{Row}
use Rattle.store_vault.specs.Looking.{HasLooked}

-- it was read twice
pub looked_on : {tells tells' tells'' leaves leaves' leaves'' : List Row → Type 0} {undisturbed undisturbed' undisturbed'' : Type 0}
    → HasLooked tells tells' leaves leaves' undisturbed undisturbed' → HasLooked tells' tells'' leaves' leaves'' undisturbed' undisturbed''
    → HasLooked tells tells'' leaves leaves'' undisturbed undisturbed''
looked_on first then = record {
  told = λ rows. ((λ t. (then.told rows).0 ((first.told rows).0 t)), (λ t. (first.told rows).1 ((then.told rows).1 t)));
  since = λ u. first.since (then.since u);
  left = λ u rows l. first.left (then.since u) rows (then.left u rows l);
}
