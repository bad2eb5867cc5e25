use Rattle.std.proofs.Common.{arith, List, ℕ, ◌+◌, ◌≡◌, ◌<◌, ◌∙◌, ap, sym, length}
use Rattle.std.specs.Ordering.{nat_cmp}
use Rattle.public_suffix.specs.Steps.{rule_steps, step_at}
use Rattle.public_suffix.proofs.StepLemmas.{cmp_at, cmp_lengths, cmp_more, rule_steps_length}
use Rattle.public_suffix.proofs.steps.rule_cmp.Goals as goal

pub returns-then-step-other : goal.returns-then-step-other
returns-then-step-other c =
    let a = c.args.a.now in
    let b = c.args.b.now in
    let depth = c.steps.depth in
    let in_a : depth < length (rule_steps a) = omega (arith, rule_steps_length a, ap length c.as_str.ensures, c.min-shorter.ensures) in
    let in_b : depth < length (rule_steps b) = omega (arith, rule_steps_length b, ap length c.as_str-2.ensures, c.min-shorter.ensures) in
    let one : c.step_at-step.result ≡ step_at depth a = c.step_at-step.ensures in
    let two : c.step_at-other.result ≡ step_at depth b = c.step_at-other.ensures in
    c.cmp.ensures ∙ ap (λ x. nat_cmp x c.step_at-other.result) one ∙ ap (nat_cmp (step_at depth a)) two
    ∙ cmp_at (rule_steps a) (rule_steps b) depth in_a in_b c.steps.invariant.same (λ same. absurd (omega arith))

pub returns : goal.returns
returns c =
    let a = c.args.a.now in
    let b = c.args.b.now in
    c.cmp-2.ensures
    ∙ ap (λ (t : List ℕ). nat_cmp (length t) (length c.as_str-4.result.now)) c.as_str-3.ensures ∙ ap (λ (t : List ℕ). nat_cmp (length a.text) (length t)) c.as_str-4.ensures
    ∙ cmp_more (length a.text) (length b.text)
    ∙ ap (λ (n : ℕ). nat_cmp n (length b.text + 1)) (sym (rule_steps_length a)) ∙ ap (nat_cmp (length (rule_steps a))) (sym (rule_steps_length b))
    ∙ cmp_lengths (rule_steps a) (rule_steps b) (λ k in_a in_b. c.steps.invariant.same k (omega (arith, rule_steps_length a, rule_steps_length b, ap length c.as_str.ensures, ap length c.as_str-2.ensures, c.min-shorter.ensures)))
