use Rattle.store_vault.specs.Loading.{rules_of}
use Rattle.shared_jar.proofs.tests.threads.eight_threads_make_one_legal_journal.Given as goal

-- the jar that was just opened
abbrev pub ghosts-shared_by_all : goal.ghosts-shared_by_all
ghosts-shared_by_all g a =
    let jar = a.opened.jar in
    record {
      table = jar.cells;
      rules = rules_of jar.vault.stored jar.callers jar.locked.jar.limit;
      cutter = jar.vault.cutter.view.number;
    }
