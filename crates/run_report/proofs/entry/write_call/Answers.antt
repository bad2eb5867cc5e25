use Rattle.run_report.proofs.TokenLemmas.{token, and_then, counted}
use Rattle.run_report.proofs.entry.write_call.Goals as goal

pub returns : goal.returns
returns c =
    and_then (token c.in_ok-begin_object.ensures)
    (and_then (counted c.in_ok-write_count.ensures c.from.ensures)
    (and_then c.in_ok-write_moment.ensures
    (and_then (token c.in_ok-key.ensures)
    (and_then c.in_ok-write_op.ensures
    (and_then (token c.in_ok-key-2.ensures)
    (and_then c.in_ok-write_reply.ensures
    (token c.in_ok-end_object.ensures)))))))
