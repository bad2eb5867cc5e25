use Rattle.std.proofs.Common.{◌<◌, ◌≤◌, length, drop, arith}
use Rattle.std.proofs.lemmas.List.{nil_from_length, length-append, length-drop, length-take}
use Rattle.jar_edge.proofs.StreamLemmas.{left_is_copied, rest_of}
use Rattle.jar_edge.proofs.memory_source.MemSourceSource.read.Goals as goal

pub returns-clause-bytes : goal.returns-clause-bytes
returns-clause-bytes c =
    let copied = rw (c.deref-2.ensures.value, rest_of) at c.copy_from_slice.ensures.after in
    let most = rw (c.deref-2.ensures.value, rest_of) at c.min.ensures in
    let all = c.self.inside.bytes.items in
    let buffer = c.args.buf.now in
    let at = c.self.inside.at in
    let n = c.min-n.result in
    let within : n ≤ length (drop at all) = omega arith in (
      (
        rw (copied, ← c.self.view_is) (left_is_copied all (drop n buffer) at n within),
        λ none_given some_asked.
            let copied_few = simp length-take at c.copy_from_slice.ensures.len in
            let has_room : 0 < length buffer = omega (arith, simp (length-append, length-drop) at some_asked, copied_few) in
            nil_from_length _ (simp length-drop (omega (arith, simp length-drop at most))),
      ),
      rw (← c.self.view_is) c.note.ensures,
    )
