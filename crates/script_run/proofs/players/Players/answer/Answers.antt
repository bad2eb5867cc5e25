use Rattle.std.proofs.Common.{◌≡◌, ◌<◌, length, sym, ap, ◌∙◌, subst}
use Rattle.script_run.specs.Players.{PlayersStanding}
use Rattle.script_run.specs.Reads.{holding_then}
use Rattle.script_run.proofs.PlayerLemmas.{ok_of, told_holdings, told_views}
use Rattle.script_run.proofs.players.Players.answer.Goals as goal

pub returns-clause-holdings : goal.returns-clause-holdings
returns-clause-holdings c =
    let same : c.self.inside.managers.items ≡ c.args.self.now.managers =
    ap (λ (p : PlayersStanding). p.managers) c.self.view_is ∙ c.note.ensures.managers in
    let low : c.args.a < length c.args.self.now.managers = subst (λ n. c.args.a < n) (sym c.requires.same) c.requires.actor in
    ok_of c.tell.result
    (told_holdings c.self.inside.managers.items c.args.self.now.managers c.args.a c.index_mut.result.now c.tell.new.manager
    (holding_then c.args.why c.args.receipt.now.reply) same low c.index_mut.ensures.value)
    c.tell.ensures.holds

pub returns-clause-views : goal.returns-clause-views
returns-clause-views c =
    let same : c.self.inside.managers.items ≡ c.args.self.now.managers =
    ap (λ (p : PlayersStanding). p.managers) c.self.view_is ∙ c.note.ensures.managers in
    let low : c.args.a < length c.args.self.now.managers = subst (λ n. c.args.a < n) (sym c.requires.same) c.requires.actor in
    told_views c.self.inside.managers.items c.args.self.now.managers c.args.a c.index_mut.result.now c.tell.new.manager
    same low c.index_mut.ensures.value c.tell.ensures.sees
