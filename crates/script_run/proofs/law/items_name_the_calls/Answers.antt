use Rattle.script_run.proofs.NameLemmas.{calls_named}
use Rattle.script_run.proofs.law.items_name_the_calls.Goals as goal

pub returns : goal.returns
returns c = calls_named
