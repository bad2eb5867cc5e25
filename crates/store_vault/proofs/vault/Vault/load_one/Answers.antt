use Rattle.store_vault.proofs.LoadLemmas.{loads_key, loses_key}
use Rattle.store_vault.proofs.vault.Vault.load_one.Goals as goal

pub returns-in_ok-enter-in-Ok-clause-load : goal.returns-in_ok-enter-in-Ok-clause-load
returns-in_ok-enter-in-Ok-clause-load g c = (
  c.requires.few,
  loads_key c.args.key c.args.locked.now.jar c.begin.new.locked.jar c.args.self.now.cutter c.begin.new.cutter c.requires.next
      c.enter.new.locked.jar c.enter.new.cutter c.args.self.now.stored c.in-Ok.cookies c.in-Ok.ensures.fits
      c.in_ok-begin.ensures.ok c.in_ok-enter-in-Ok.ensures.ok,
)

pub returns-in-Ok-enter-clause-load : goal.returns-in-Ok-enter-clause-load
returns-in-Ok-enter-clause-load g c = (
  c.requires.few,
  loses_key c.args.key c.args.locked.now.jar c.begin.new.locked.jar c.args.self.now.cutter c.begin.new.cutter c.requires.next
      c.enter-in-Err-Failed.new.locked.jar c.enter-in-Err-Failed.new.cutter c.in_ok-begin.ensures.ok c.in-Ok-enter.ensures.ok,
)
