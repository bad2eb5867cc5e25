use Rattle.run_report.proofs.TokenLemmas.{token, and_then}
use Rattle.run_report.proofs.op.write_listen_for.Goals as goal

pub returns : goal.returns
returns c =
    and_then (token c.in_ok-begin_object.ensures)
    (and_then c.in_ok-write_word.ensures
    (and_then c.in_ok-write_text_or_null.ensures
    (and_then c.in_ok-write_request_or_null.ensures
    (token c.in_ok-end_object.ensures))))
