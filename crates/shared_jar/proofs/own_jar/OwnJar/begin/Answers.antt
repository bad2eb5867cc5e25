use Rattle.std.proofs.Common.{ap, sym, ◌∙◌, subst}
use Rattle.jar_types.specs.Journals.{stored_keys}
use Rattle.jar_keeper.specs.Keepers.{TellsSame}
use Rattle.store_vault.specs.declared.stored.Stored.{Stored}
use Rattle.store_vault.specs.Loading.{rules_of}
use Rattle.shared_jar.proofs.HoldingLemmas.{opened_over}
use Rattle.shared_jar.proofs.own_jar.OwnJar.begin.Goals as goal

pub returns-in-Ok-parts_of-clause-held : goal.returns-in-Ok-parts_of-clause-held
returns-in-Ok-parts_of-clause-held g c undisturbed =
    let jar = c.assembled.result.jar in
    let parts = c.in-Ok-parts_of.parts in
    let was = c.assembled.ensures.jar in
    opened_over (rules_of jar.vault.stored c.args.callers c.args.limit) parts.cells
    (stored_keys (rules_of parts.stored c.args.callers c.args.limit)) c.args.limit
    jar.locked.jar (g.K.Keeper.tells c.args.keeper) (g.K.Keeper.tells jar.vault.keeper)
    (was.0 ∙ c.in-Ok-parts_of.ensures.locked)
    (subst (λ keeper. TellsSame (g.K.Keeper.tells c.args.keeper) (g.K.Keeper.tells keeper))
    (sym was.3) c.hosts.ensures.told)
    (λ rows told. g.met.K.Keeper.told_rise c.args.keeper rows told)
    (λ rows told.
    ap (λ (s : Stored). s.hosts) was.2
    ∙ (c.in-Ok-parts_of.ensures.stored.0 ∙ c.in-Ok.ensures.value
    (subst (λ keeper. g.K.Keeper.undisturbed keeper) was.3 undisturbed) rows told))
