use Rattle.run_report.proofs.TokenLemmas.{token, and_then, named}
use Rattle.run_report.proofs.change.write_change.Goals as goal

pub returns : goal.returns
returns c =
    and_then (token c.in_ok-begin_object.ensures)
    (and_then (named c.in_ok-write_word.ensures c.cause_word.ensures)
    (and_then (token c.in_ok-key.ensures)
    (and_then c.in_ok-write_cookie.ensures
    (token c.in_ok-end_object.ensures))))
