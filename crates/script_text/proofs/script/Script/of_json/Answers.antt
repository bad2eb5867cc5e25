use Rattle.serde_json.specs.View.{view}
use Rattle.script_text.proofs.AdmittedLemmas.{result_admitted}
use Rattle.script_text.proofs.script.Script.of_json.Goals as goal

pub returns-clause-admitted : goal.returns-clause-admitted
returns-clause-admitted c = result_admitted (view c.args.value.now) c.script_in.result c.script_in.ensures
