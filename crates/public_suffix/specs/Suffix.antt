-- Public suffixes and registrable domains over a list of rules. The Public Suffix List format,
-- "Algorithm".
use Rattle.std.specs.Prelude.{ℕ, zero, suc, ◌+◌, max, ◌≡◌, Bool, true, false, not, ◌&&◌, IsTrue, nat_le, List, [], ◌∷◌, length, filter, if◌then◌else◌}
use Rattle.std.specs.List.{list_any}
use Rattle.public_suffix.specs.declared.rule.Mark.{Mark}
use Rattle.public_suffix.specs.declared.rule.Mark.TheVariants.{Plain, Wildcard, Exception}
use Rattle.public_suffix.specs.Labels.{labels_of, dotted, same_labels, last_labels, has_suffix}
use Rattle.public_suffix.specs.Rule.{SuffixRule}

-- whether labels are those of a rule: of a wildcard after any first one
abbrev pub fits_by : Mark → List (List ℕ) → List (List ℕ) → Bool
fits_by Plain rule labels = same_labels rule labels
fits_by Exception rule labels = same_labels rule labels
fits_by Wildcard rule [] = false
fits_by Wildcard rule (l ∷ ls) = same_labels rule ls

-- whether labels are those of a rule
abbrev pub fits : List (List ℕ) → SuffixRule → Bool
fits labels rule = fits_by rule.mark rule.labels labels

-- the last labels, in every number from all to one
abbrev pub tails : List (List ℕ) → List (List (List ℕ))
tails [] = []
tails (l ∷ ls) = (l ∷ ls) ∷ tails ls

-- whether a rule matches a host: some number of the host's last labels are those of the rule
abbrev pub matches : List (List ℕ) → SuffixRule → Bool
matches host rule = list_any (λ labels. fits labels rule) (tails host)

-- how many labels a rule has, the one that `*` stands for among them
abbrev pub label_count : Mark → List (List ℕ) → ℕ
label_count Plain labels = length labels
label_count Wildcard labels = length labels + 1
label_count Exception labels = length labels

-- how many labels a rule has that matches; 0 where it doesn't
abbrev pub matched_labels : List (List ℕ) → SuffixRule → ℕ
matched_labels host rule = if matches host rule then label_count rule.mark rule.labels else 0

-- the most labels that a matching rule of a list has; 0 where none matches
abbrev pub most_labels : List (List ℕ) → List SuffixRule → ℕ
most_labels host [] = 0
most_labels host (rule ∷ rules) = max (matched_labels host rule) (most_labels host rules)

-- whether a mark is that of an exception
abbrev pub is_exception : Mark → Bool
is_exception Plain = false
is_exception Wildcard = false
is_exception Exception = true

-- the exceptions of a list
abbrev pub exceptions : List SuffixRule → List SuffixRule
exceptions rules = filter (λ rule. is_exception rule.mark) rules

-- the rules of a list that are no exceptions
abbrev pub other_rules : List SuffixRule → List SuffixRule
other_rules rules = filter (λ rule. not (is_exception rule.mark)) rules

-- how many labels the suffix has by the most labels of a matching exception and of another matching
-- rule: the exception prevails and gives up its first label, and where nothing matches the last
-- label is the suffix
abbrev pub suffix_len_by : ℕ → ℕ → ℕ
suffix_len_by zero other = max other 1
suffix_len_by (suc fewer) other = fewer

-- how many labels the public suffix of a host has
abbrev pub suffix_len : List SuffixRule → List (List ℕ) → ℕ
suffix_len rules host = suffix_len_by (most_labels host (exceptions rules)) (most_labels host (other_rules rules))

-- the registrable domain: the public suffix and one label more, or the host where it has no suffix
-- or no such label
abbrev pub key_of : List SuffixRule → List ℕ → List ℕ
key_of rules host = if has_suffix host then dotted (last_labels (suffix_len rules (labels_of host) + 1) (labels_of host)) else host

-- a host that is its own public suffix
abbrev pub IsSuffix : List SuffixRule → List ℕ → Type 0
IsSuffix rules host = IsTrue (has_suffix host) × (last_labels (suffix_len rules (labels_of host)) (labels_of host) ≡ labels_of host)

-- a host is its own public suffix: it has one, and no more labels than that
abbrev pub is_suffix : List SuffixRule → List ℕ → Bool
is_suffix rules host = has_suffix host && nat_le (length (labels_of host)) (suffix_len rules (labels_of host))
