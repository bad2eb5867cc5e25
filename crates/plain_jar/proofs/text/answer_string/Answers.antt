use Rattle.std.proofs.Common.{ap, ◌++◌, ◌∙◌}
use Rattle.jar_types.specs.Answers.{pair_text}
use Rattle.plain_jar.proofs.TextLemmas.{separator, text_more}
use Rattle.plain_jar.proofs.text.answer_string.Goals as goal

pub loop-place-preserved : goal.loop-place-preserved
loop-place-preserved c =
    let i = c.loop-place.place in
    let x = c.index-cookies-place.result in
    c.in_ok-push_pair.ensures
    ∙ ap (λ text. text ++ pair_text x) (c.in_ok-push_separator.ensures ∙ ap (λ text. text ++ separator i) c.loop-place.invariant)
    ∙ text_more c.args.cookies.now i x c.loop-place-test.true c.index-cookies-place.is
