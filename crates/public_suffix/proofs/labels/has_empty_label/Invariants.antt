use Rattle.std.proofs.Common.{◌≡◌, length}
use denote.Text.{Utf8}
use denote.Shadow.{shadow}
use Rattle.std.specs.List.{list_any}
use Rattle.public_suffix.specs.Labels.{labels_of, is_empty}
use Rattle.public_suffix.proofs.labels.has_empty_label.Given as goal

abbrev pub invariant-labels : goal.invariant-labels
invariant-labels l = shadow (Utf8 l.rest) × (list_any is_empty (labels_of l.host) ≡ list_any is_empty (labels_of l.rest))

abbrev pub decreases-labels : goal.decreases-labels
decreases-labels l = length l.rest
