use Rattle.std.proofs.Common.{option_copied, sym, ◌∙◌}
use Rattle.restricted_manager.proofs.ReadLemmas.{finds_late, finds_hit, finds_moved}
use Rattle.restricted_manager.proofs.manager.Manager.find_kept.Goals as goal

pub returns-in-Late-clause-finds : goal.returns-in-Late-clause-finds
returns-in-Late-clause-finds c =
    finds_late _ _ (option_copied c.args.url) _ _ _ _ c.self.view_is
    (sym c.is_own_place.ensures ∙ c.if-not-is_own_place.false) c.self.invariant.1 c.in-Some.is c.in-Late.ensures

pub returns-in-Hit-clause-finds : goal.returns-in-Hit-clause-finds
returns-in-Hit-clause-finds c =
    finds_hit _ _ (option_copied c.args.url) _ c.args.pass.now c.try_reuse.new.pass _ c.self.view_is
    (sym c.is_own_place.ensures ∙ c.if-not-is_own_place.false) c.self.invariant.1 c.in-Some.is
    c.in-Hit.ensures.0 c.in-Hit.ensures.1

pub returns-in-Moved-clause-finds : goal.returns-in-Moved-clause-finds
returns-in-Moved-clause-finds c =
    finds_moved _ _ (option_copied c.args.url) _ c.args.pass.now c.try_reuse.new.pass _ _ _ c.self.view_is
    (sym c.is_own_place.ensures ∙ c.if-not-is_own_place.false) c.self.invariant.1 c.in-Some.is c.in-Moved.ensures
