use Rattle.std.proofs.Common.{◌≡◌, true, false, ap, ◌∙◌, arith, rules}
use Rattle.eviction.specs.Spared.{left_of}
use Rattle.eviction.proofs.SparedLemmas.{StandsAt, step_left, step_spared, step_counted}
use Rattle.eviction.proofs.spared.unspared.Goals as goal
use Rattle.eviction.proofs.spared.unspared.Goals.{then-not-spares+in_ok-push, else-not-spares}

pub loop-candidate-preserved : goal.loop-candidate-preserved
loop-candidate-preserved c =
    let cs = c.args.all.now in
    let i = c.loop-candidate.candidate-index in
    let x = c.candidate-item.result in
    let left = c.loop-candidate.left.items in
    let here : StandsAt cs i x (left_of c.loop-candidate.quotas) = record {
      falls = c.requires;
      within = omega arith;
      here = c.candidate-item.is;
      left = c.loop-candidate.invariant.quotas;
    } in record {
      left = elim c.if-not-spares.branch [
        | then-not-spares+in_ok-push w ↦
            let f : c.spares.result ≡ false = search rules in
            ap (λ v. v.items) w.left-is ∙ step_left cs i x _ c.spares.result left _ here c.spares.ensures.value f c.loop-candidate.invariant.left w.in_ok-push.ensures.items
        | else-not-spares w ↦
            let t : c.spares.result ≡ true = search rules in
            ap (λ v. v.items) w.left-is ∙ step_spared cs i x _ c.spares.result left here c.spares.ensures.value t c.loop-candidate.invariant.left
      ];
      quotas = λ p. step_counted cs i x _ p _ here (c.spares.ensures.counted p);
    }
