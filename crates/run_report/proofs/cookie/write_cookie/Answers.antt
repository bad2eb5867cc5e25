use Rattle.run_report.proofs.TokenLemmas.{token, and_then, named}
use Rattle.run_report.proofs.cookie.write_cookie.Goals as goal

pub returns : goal.returns
returns c =
    and_then (token c.in_ok-begin_object.ensures)
    (and_then c.in_ok-write_moment.ensures
    (and_then c.in_ok-write_moment-2.ensures
    (and_then c.in_ok-write_moment_or_null.ensures
    (and_then c.in_ok-write_text.ensures
    (and_then c.in_ok-write_flag.ensures
    (and_then c.in_ok-write_text-2.ensures
    (and_then c.in_ok-write_text-3.ensures
    (and_then c.in_ok-write_text-4.ensures
    (and_then (named c.in_ok-write_word.ensures c.priority_word.ensures)
    (and_then (named c.in_ok-write_word-2.ensures c.same_site_word.ensures)
    (and_then c.in_ok-write_flag-2.ensures
    (and_then c.in_ok-write_text-5.ensures
    (token c.in_ok-end_object.ensures)))))))))))))
