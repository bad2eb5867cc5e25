use Rattle.store_vault.specs.Loading.{rules_of}
use Rattle.shared_jar.proofs.SharingLemmas.{shared_state, shared_vault, stored_rules}
use Rattle.shared_jar.proofs.own_jar.OwnJar.share.Goals as goal

pub of-requires : goal.of-requires
of-requires g c =
    let n = g.N.JarName in
    let own = c.args.self in
    shared_state (rules_of own.vault.stored own.callers own.locked.jar.limit) n.rules own.cells
    n.table n.cutter own.locked c.meet.new.self
    own.vault.cutter c.meet.new.pass own.vault.owns own.vault.acked c.requires.rules
    c.requires.words c.requires.cutter c.meet.ensures.same
    own.is own.ended c.meet.ensures.pass

pub of-requires-2 : goal.of-requires-2
of-requires-2 g c =
    let n = g.N.JarName in
    let own = c.args.self in
    shared_vault (rules_of own.vault.stored own.callers own.locked.jar.limit) n.rules own.cells
    n.table n.cutter own.locked c.meet.new.self
    own.vault.cutter c.meet.new.pass own.vault.owns own.vault.acked c.requires.rules
    c.requires.words c.requires.cutter c.meet.ensures.same
    own.is own.ended c.meet.ensures.pass own.vault.stored
    (stored_rules own.vault.stored own.callers own.locked.jar.limit n.rules c.requires.rules)
