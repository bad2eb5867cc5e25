use Rattle.std.proofs.Common.{refl}
use Rattle.json_form.proofs.Described.{described}
use Rattle.script_text.proofs.form.script_form.Goals as goal

pub returns : goal.returns
returns c = simp described refl
