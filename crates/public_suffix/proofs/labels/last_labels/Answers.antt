use Rattle.std.proofs.Common.{length, rules, arith, ap, ◌∙◌, sym}
use Rattle.public_suffix.specs.Labels.{labels_of, dotted, last_labels}
use Rattle.public_suffix.proofs.LabelLemmas.{last_labels-cons, last_labels-all, dotted-labels_of}
use Rattle.public_suffix.proofs.labels.last_labels.Goals as goal

pub labels-preserved : goal.labels-preserved
labels-preserved c =
    let parts = c.in-Some.ensures.parts in
    (search rules, omega (arith, ap length parts), c.labels.invariant.2 ∙ ap (last_labels c.args.n) parts ∙ last_labels-cons c.args.n _ _ (omega (arith, ap length parts)))

pub returns : goal.returns
returns c =
    sym (ap dotted (c.labels.invariant.2 ∙ last_labels-all c.args.n (labels_of c.labels.rest.now) (omega arith)) ∙ dotted-labels_of c.labels.rest.now)
