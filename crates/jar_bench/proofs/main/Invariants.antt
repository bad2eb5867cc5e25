use Rattle.store_vault.specs.Loading.{rules_of}
use Rattle.jar_bench.proofs.main.Given as goal

-- the jar that was just opened
abbrev pub ghosts-run : goal.ghosts-run
ghosts-run g a =
    let jar = a.opened.jar in
    record {
      table = jar.cells;
      rules = rules_of jar.vault.stored jar.callers jar.locked.jar.limit;
      cutter = jar.vault.cutter.view.number;
    }
