use Rattle.std.proofs.Common.{◌≡◌, List, flat_map, take}
use Rattle.jar_types.specs.declared.row.Row.{Row}
use Rattle.jar_keeper.specs.HostRows.{rows_of_host}
use Rattle.jar_keeper.specs.Keepers.{TellsSame}
use Rattle.jar_keeper.proofs.tests.uses.load_all.Given as goal

abbrev pub invariant-loop-host : goal.invariant-loop-host
invariant-loop-host g l =
    let K = g.K.Keeper in
    record {
      told : TellsSame (K.tells l.fn.keeper) (K.tells l.keeper);
      since : K.undisturbed l.keeper → K.undisturbed l.initial.keeper;
      all : K.undisturbed l.keeper → (rows : List Row) → K.tells l.fn.keeper rows
          → l.all.items ≡ flat_map (λ host. rows_of_host host rows) (take l.host-index l.host-items);
    }
