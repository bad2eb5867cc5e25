use Rattle.std.proofs.Common.{option_copied, sym, ◌∙◌}
use Rattle.restricted_manager.proofs.KeepingLemmas.{keeps}
use Rattle.restricted_manager.proofs.manager.Manager.end_read.Goals as goal

pub returns-in-Some-2 : goal.returns-in-Some-2
returns-in-Some-2 c =
    keeps _ _ _ (option_copied c.args.url) _ _ _ _ c.self.view_is
    (sym c.is_own_place.ensures ∙ c.if-not-is_own_place.false) c.in-Some.is c.in_ok-kept.ensures c.in-Some-2.is
    c.keep.ensures
