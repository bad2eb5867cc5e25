use Rattle.std.proofs.Common.{option_copied, ap}
use Rattle.jar_types.specs.declared.op.Op.TheVariants.{Get}
use Rattle.restricted_manager.proofs.ReadLemmas.{asks_for}
use Rattle.restricted_manager.proofs.manager.Manager.ask.Goals as goal

pub returns-clause-asks : goal.returns-clause-asks
returns-clause-asks c =
    asks_for _ _ (option_copied c.args.url) c.args.cause _ _ c.self.view_is c.asked_place-place.ensures
    (ap Get c.in_ok-request_of.ensures)
