use Rattle.std.proofs.Common.{Ok, option_copied, sym, ◌∙◌}
use Rattle.restricted_manager.proofs.ReadLemmas.{reuses, asks, wants}
use Rattle.restricted_manager.proofs.manager.Manager.begin_read.Goals as goal

pub returns-in_ok-copy-in-Ok-clause-reads : goal.returns-in_ok-copy-in-Ok-clause-reads
returns-in_ok-copy-in-Ok-clause-reads c =
    reuses _ _ (option_copied c.args.url) c.args.now c.args.pass.now c.find_kept.new.pass _ _ c.self.view_is
    (sym c.has_own_origin.ensures ∙ c.if-not-has_own_origin.false) c.in-Ok.ensures.finds c.in_ok-copy-in-Ok.ensures

pub returns-in_err-copy-in-Ok-clause-reads : goal.returns-in_err-copy-in-Ok-clause-reads
returns-in_err-copy-in-Ok-clause-reads c =
    wants _ _ (option_copied c.args.url) c.args.now c.args.pass.now c.find_kept.new.pass (Ok c.in-Ok.text.now) _
    c.self.view_is (sym c.has_own_origin.ensures ∙ c.if-not-has_own_origin.false)
    c.in-Ok.ensures.finds c.from_residual.ensures.1

pub returns-in-Err-clause-reads : goal.returns-in-Err-clause-reads
returns-in-Err-clause-reads c =
    asks _ _ (option_copied c.args.url) c.args.now c.args.pass.now c.find_kept.new.pass c.in-Err.cause c.ask.result
    c.self.view_is (sym c.has_own_origin.ensures ∙ c.if-not-has_own_origin.false) c.in-Err.ensures.finds
    c.ask.ensures.asks c.ask.ensures.wants
