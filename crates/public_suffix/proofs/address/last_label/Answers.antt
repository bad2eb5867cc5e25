use Rattle.public_suffix.proofs.AddressLemmas.{last_label-rsplit}
use Rattle.public_suffix.proofs.address.last_label.Goals as goal

pub returns-in-Some : goal.returns-in-Some
returns-in-Some c = rw c.in-Some.is at (last_label-rsplit c.args.host.now c.rsplit_once.result c.rsplit_once.ensures.cases)

pub returns-in-None : goal.returns-in-None
returns-in-None c = rw c.in-None.is at (last_label-rsplit c.args.host.now c.rsplit_once.result c.rsplit_once.ensures.cases)
