-- The labels of a host: its parts between dots. RFC 1034, section 3.1, as the Public Suffix List
-- format uses them.
use Rattle.std.specs.Prelude.{ℕ, ◌-◌, ◌==◌, Bool, ◌&&◌, not, List, length, drop}
use Rattle.std.specs.Cmp.Lexicographic.{pointwise}
use Rattle.std.specs.List.{slice_split, join_with_byte, list_any}
use Rattle.jar_values.specs.Hosts.{is_ip_host}

-- the labels of a text, which dots part
abbrev pub labels_of : List ℕ → List (List ℕ)
labels_of text = slice_split (λ b. b == 46) text

-- the text of some labels, with a dot between each two
abbrev pub dotted : List (List ℕ) → List ℕ
dotted labels = join_with_byte 46 labels

-- whether two lists of labels are the same
abbrev pub same_labels : List (List ℕ) → List (List ℕ) → Bool
same_labels = pointwise (pointwise ◌==◌)

-- whether a label is empty
abbrev pub is_empty : List ℕ → Bool
is_empty label = length label == 0

-- the last n labels; all where there are fewer
abbrev pub last_labels : ℕ → List (List ℕ) → List (List ℕ)
last_labels n labels = drop (length labels - n) labels

-- whether a host has a public suffix: it is no IP host, and none of its labels is empty
abbrev pub has_suffix : List ℕ → Bool
has_suffix host = not (is_ip_host host) && not (list_any is_empty (labels_of host))
