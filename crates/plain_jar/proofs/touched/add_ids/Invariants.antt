use Rattle.std.proofs.Common.{◌≡◌, ◌++◌, take}
use Rattle.plain_jar.proofs.touched.add_ids.Given as goal

abbrev pub invariant-loop-id : goal.invariant-loop-id
invariant-loop-id l = l.all.items ≡ l.initial.all.items ++ take l.id-index l.ids
