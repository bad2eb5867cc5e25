use Rattle.std.proofs.Common.{◌≡◌, ◌≤◌, ◌<◌, ◌-◌, None, Some, length, sym, ap, ◌∙◌, arith, subst}
use Rattle.std.specs.Prelude.{slice_get}
use Rattle.script_run.specs.Players.{PlayersStanding, run_of}
use Rattle.script_run.specs.Turns.{lead_of}
use Rattle.script_run.proofs.AskOwnLemmas.{turn_may_be_asked}
use Rattle.script_run.proofs.PlayerLemmas.{ok_of}
use Rattle.script_run.proofs.TryLemmas.{items_found, next_is, turn_is}
use Rattle.script_run.proofs.tries.try_next.Goals as goal

pub try_step-requires-clause-asks : goal.try_step-requires-clause-asks
try_step-requires-clause-asks g c =
    let script = c.args.script.now in
    let actor = c.in-Some.actor.now in
    let done = c.len-done.result in
    let past : lead_of actor ≤ done = subst (λ n. n ≤ done) c.lead_of-lead.ensures c.if-done-lead.false in
    let is : slice_get actor.steps (done - lead_of actor) ≡ Some c.in-Some-get.step.now =
    ap (λ n. slice_get actor.steps (done - n)) (sym c.lead_of-lead.ensures) ∙ sym c.in-Some-get.ensures in
    turn_may_be_asked script c.args.jar.now.vault.stored.hosts c.args.a done _ c.requires.admitted
    (turn_is script.actors c.args.a done actor (Some c.in-Some-get.step.now) (sym c.in-Some.ensures) past is)

pub returns-in-Some-get-clause-tried : goal.returns-in-Some-get-clause-tried
returns-in-Some-get-clause-tried g c =
    let script = c.args.script.now in
    let actor = c.in-Some.actor.now in
    let players = c.args.players.now in
    let r = run_of c.args.jar.now.locked.jar c.args.jar.now.vault.kept players in
    let items = ap (λ (p : PlayersStanding). p.items) c.players.view_is in
    let low : c.args.a < length players.items = let many = c.requires.playing.many_items in let actor_is = c.requires.actor in omega (arith, many, actor_is) in
    let done = c.len-done.ensures ∙ ap length (items_found players.items c.players.inside.items.items c.args.a c.index.result.now items low c.index.ensures) in
    let past : lead_of actor ≤ c.len-done.result = subst (λ n. n ≤ c.len-done.result) c.lead_of-lead.ensures c.if-done-lead.false in
    let is : slice_get actor.steps (c.len-done.result - lead_of actor) ≡ Some c.in-Some-get.step.now =
    ap (λ n. slice_get actor.steps (c.len-done.result - n)) (sym c.lead_of-lead.ensures) ∙ sym c.in-Some-get.ensures in
    ok_of c.try_step.result (λ tried.
    tried
    ∙ sym (next_is script c.args.a r actor (Some c.in-Some-get.step.now) (sym c.in-Some.ensures) (subst (λ n. lead_of actor ≤ n) done past)
    (ap (λ n. slice_get actor.steps (n - lead_of actor)) (sym done) ∙ is)))
    c.try_step.ensures.tried

pub returns-in-None-clause-tried : goal.returns-in-None-clause-tried
returns-in-None-clause-tried g c =
    let script = c.args.script.now in
    let actor = c.in-Some.actor.now in
    let players = c.args.players.now in
    let r = run_of c.args.jar.now.locked.jar c.args.jar.now.vault.kept players in
    let items = ap (λ (p : PlayersStanding). p.items) c.players.view_is in
    let low : c.args.a < length players.items = let many = c.requires.playing.many_items in let actor_is = c.requires.actor in omega (arith, many, actor_is) in
    let done = c.len-done.ensures ∙ ap length (items_found players.items c.players.inside.items.items c.args.a c.index.result.now items low c.index.ensures) in
    let past : lead_of actor ≤ c.len-done.result = subst (λ n. n ≤ c.len-done.result) c.lead_of-lead.ensures c.if-done-lead.false in
    let is : slice_get actor.steps (c.len-done.result - lead_of actor) ≡ None =
    ap (λ n. slice_get actor.steps (c.len-done.result - n)) (sym c.lead_of-lead.ensures) ∙ sym c.in-None.ensures in
    sym (next_is script c.args.a r actor None (sym c.in-Some.ensures) (subst (λ n. lead_of actor ≤ n) done past)
    (ap (λ n. slice_get actor.steps (n - lead_of actor)) (sym done) ∙ is))
