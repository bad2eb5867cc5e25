use Rattle.run_report.proofs.TokenLemmas.{token, and_then}
use Rattle.run_report.proofs.reply.write_script.Goals as goal

pub returns : goal.returns
returns c =
    and_then (token c.in_ok-begin_object.ensures)
    (and_then c.in_ok-write_text.ensures
    (and_then c.in_ok-write_count.ensures
    (and_then c.in_ok-write_count_or_null.ensures
    (token c.in_ok-end_object.ensures))))
