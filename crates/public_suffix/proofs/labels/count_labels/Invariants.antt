use Rattle.std.proofs.Common.{◌≡◌, ◌≤◌, length, ◌+◌}
use denote.Text.{Utf8}
use denote.Shadow.{shadow}
use Rattle.public_suffix.specs.Labels.{labels_of}
use Rattle.public_suffix.proofs.labels.count_labels.Given as goal

abbrev pub invariant-labels : goal.invariant-labels
invariant-labels l = shadow (Utf8 l.rest) × (l.count + length (labels_of l.rest) ≡ length (labels_of l.host) + 1) × (l.count + length l.rest ≤ length l.host + 1)

abbrev pub decreases-labels : goal.decreases-labels
decreases-labels l = length l.rest
