use Rattle.std.proofs.Common.{◌≡◌, length}
use denote.Text.{Utf8}
use denote.Shadow.{shadow}
use Rattle.public_suffix.specs.Labels.{labels_of, last_labels}
use Rattle.public_suffix.proofs.labels.last_labels.Given as goal

abbrev pub invariant-labels : goal.invariant-labels
invariant-labels l = shadow (Utf8 l.rest) × (l.left ≡ length (labels_of l.rest)) × (last_labels l.n (labels_of l.host) ≡ last_labels l.n (labels_of l.rest))

abbrev pub decreases-labels : goal.decreases-labels
decreases-labels l = l.left
