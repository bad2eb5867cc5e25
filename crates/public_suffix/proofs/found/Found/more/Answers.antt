use Rattle.std.proofs.Common.{◌∙◌, ap, ℕ, ◌+◌}
use Rattle.std.specs.Prelude.{if◌then◌else◌}
use Rattle.public_suffix.proofs.SuffixLemmas.{found_more}
use Rattle.public_suffix.proofs.found.Found.more.Goals as goal

pub returns-clause-more : goal.returns-clause-more
returns-clause-more c = λ rules label labels is are.
    found_more rules label labels c.args.self c.args.marks c.count_if.result c.count_if-2.result c.count_if.ensures
    (c.count_if-2.ensures ∙ ap (λ (n : ℕ). if c.args.marks.plain then c.args.self.count + 1 else n) c.count_if-below.ensures) is are
