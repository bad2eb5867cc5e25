use Rattle.std.proofs.Common.{◌∙◌, ap, [], ◌∷◌, ◌++◌}
use Rattle.run_report.specs.Reports.{report_data}
use Rattle.run_report.proofs.TokenLemmas.{printed}
use Rattle.run_report.proofs.report.print.Goals as goal

pub returns : goal.returns
returns c =
    let r = c.args.report.now in
    let d = report_data r.hosts r.items r.journal.list in
    let nothing = c.new-out.ensures.before ∙ c.new.ensures.items in
    let text = c.into_inner-text.ensures.items ∙ printed d c.in_ok-write_report.ensures nothing c.new-out.ensures.tokens in
    c.in_ok-push.ensures.items ∙ ap (λ bytes. bytes ++ (10 ∷ [])) text
