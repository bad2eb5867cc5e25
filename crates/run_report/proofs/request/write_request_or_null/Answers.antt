use Rattle.std.proofs.lemmas.Result.{on_ok_weaker}
use Rattle.run_report.proofs.TokenLemmas.{token, and_then}
use Rattle.run_report.proofs.request.write_request_or_null.Goals as goal

pub returns-in-Some : goal.returns-in-Some
returns-in-Some c =
    let name = token c.in_ok-key.ensures in
    rw c.in-Some.is (on_ok_weaker c.write_request.result (λ request. and_then name request) c.write_request.ensures)
