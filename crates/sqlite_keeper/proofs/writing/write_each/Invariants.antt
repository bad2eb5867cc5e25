use Rattle.std.proofs.Common.{◌≡◌, IsTrue, take}
use Rattle.sqlite.specs.State.{HasCleanDisk, Survives}
use Rattle.sqlite.specs.Held.{state}
use Rattle.sqlite_keeper.specs.Changing.{Makes}
use Rattle.sqlite_keeper.specs.CookieTable.{put_text}
use Rattle.sqlite_keeper.proofs.writing.write_each.Given as goal

abbrev pub invariant-loop-change : goal.invariant-loop-change
invariant-loop-change g l =
    let old = state g.S.Store l.fn.tx.conn.now in
    let now = state g.S.Store l.tx.conn.now in
    (l.tx.conn.ghost_name ≡ l.fn.tx.conn.ghost_name) × Survives old now (λ _. ⊥)
    × (l.put.text ≡ put_text → HasCleanDisk now → IsTrue old.in_transaction → IsTrue old.is_open
    → Makes (take l.change-index l.changes) old now)
