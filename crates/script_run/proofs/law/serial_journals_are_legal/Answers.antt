use Rattle.script_run.proofs.LegalLemmas.{serial_legal}
use Rattle.script_run.proofs.law.serial_journals_are_legal.Goals as goal

pub returns : goal.returns
returns c = serial_legal
