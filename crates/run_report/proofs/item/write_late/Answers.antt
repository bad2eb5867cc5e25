use Rattle.run_report.proofs.TokenLemmas.{token, and_then}
use Rattle.run_report.proofs.item.write_late.Goals as goal

pub returns : goal.returns
returns c =
    and_then (token c.in_ok-begin_object.ensures)
    (and_then c.in_ok-write_count.ensures
    (and_then c.in_ok-write_word.ensures
    (and_then c.in_ok-write_count-2.ensures
    (token c.in_ok-end_object.ensures))))
