use Rattle.std.proofs.Common.{rules}
use Rattle.serde_json.proofs.Views.{items_len-items_view}
use Rattle.json_form.proofs.setting.Setting.measured_by.Goals as goal

pub returns : goal.returns
returns c = rw (items_len-items_view c.args.items.now.items) (search rules)
