use Rattle.std.proofs.Common.{◌≡◌, List, take}
use Rattle.jar_types.specs.declared.row.Row.{Row}
use Rattle.stored_law.specs.HostLoads.{IsLoadOf, cookies_of_hosts}
use Rattle.store_vault.specs.Loading.{rules_of}
use Rattle.store_vault.specs.Looking.{HasLooked}
use Rattle.store_vault.proofs.host_loads.load_hosts.Given as goal

abbrev pub invariant-hosts : goal.invariant-hosts
invariant-hosts g l = record {
  load : IsLoadOf (rules_of l.stored 0 0) (take l.host-index l.hosts) l.cookies;
  over : g.K.Keeper.undisturbed l.keeper → (held : List Row) → g.K.Keeper.tells l.initial.keeper held
      → l.cookies ≡ cookies_of_hosts (rules_of l.stored 0 0) held (take l.host-index l.hosts);
  looked : HasLooked (g.K.Keeper.tells l.initial.keeper) (g.K.Keeper.tells l.keeper) (g.K.Keeper.leaves l.initial.keeper) (g.K.Keeper.leaves l.keeper)
      (g.K.Keeper.undisturbed l.initial.keeper) (g.K.Keeper.undisturbed l.keeper);
  count : g.K.Keeper.faults l.keeper ≡ g.K.Keeper.faults l.initial.keeper;
}
