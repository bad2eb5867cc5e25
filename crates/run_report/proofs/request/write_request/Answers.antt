use Rattle.run_report.proofs.TokenLemmas.{token, and_then, named}
use Rattle.run_report.proofs.request.write_request.Goals as goal

pub returns : goal.returns
returns c =
    and_then (token c.in_ok-begin_object.ensures)
    (and_then (named c.in_ok-write_word.ensures c.context_word.ensures)
    (and_then c.in_ok-write_text.ensures
    (and_then c.in_ok-write_text-2.ensures
    (and_then c.in_ok-write_text-3.ensures
    (and_then c.in_ok-write_flag.ensures
    (and_then c.in_ok-write_flag-2.ensures
    (token c.in_ok-end_object.ensures)))))))
