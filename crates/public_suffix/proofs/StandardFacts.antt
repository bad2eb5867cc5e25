-- The definitions at values from outside: the example of the Public Suffix List format
-- (publicsuffix.org/list, "Format"), that of its algorithm, and this jar's own rules of lists.
use Rattle.std.proofs.Common.{ℕ, ◌≡◌, ◌≤◌, ◌<◌, true, false, List, [], ◌∷◌, ◌++◌, ◌+◌, length, Some, None, Ok, Err, is_some, refl, ap, sym, ◌∙◌, arith}
use Rattle.std.specs.Prelude.{codes}
use Rattle.idna.proofs.Computing.{idna}
use Rattle.public_suffix.specs.declared.refusal.TheConstants.{MAX_RULES}
use Rattle.public_suffix.specs.declared.rule.Mark.{Mark}
use Rattle.public_suffix.specs.declared.rule.Mark.TheVariants.{Plain, Wildcard, Exception}
use Rattle.public_suffix.specs.Rule.{SuffixRule, Skipped, Named, Bad, reading_of, rule_labels}
use Rattle.public_suffix.specs.declared.refusal.SuffixRefusal.TheVariants.{BadRule, TooMany}
use Rattle.public_suffix.specs.SuffixList.{rules_of, first_bad_line, ReadsList}
use Rattle.public_suffix.specs.Suffix.{key_of, IsSuffix}

-- the most rules of a list: 20,000
max-rules : MAX_RULES ≡ 20000
max-rules = refl

-- the rule of a mark and a text
abbrev rule_of : Mark → List ℕ → SuffixRule
rule_of mark text = record { mark = mark; labels = rule_labels text }

-- the format's example: `com`, `*.jp`, `*.hokkaido.jp`, `*.tokyo.jp`, `!pref.hokkaido.jp` and
-- `!metro.tokyo.jp`
abbrev format_rules : List SuffixRule
format_rules = rule_of Plain (codes "com") ∷ rule_of Wildcard (codes "jp") ∷ rule_of Wildcard (codes "hokkaido.jp") ∷ rule_of Wildcard (codes "tokyo.jp") ∷ rule_of Exception (codes "pref.hokkaido.jp") ∷ rule_of Exception (codes "metro.tokyo.jp") ∷ []

other_number : {xs ys : List (List ℕ)} → xs ≡ ys → length xs + 1 ≡ length ys → ⊥
other_number same more = omega (arith, ap length same)

-- cookies may be set for foo.com
plain : key_of format_rules (codes "www.foo.com") ≡ codes "foo.com"
plain = refl

plain-suffix : IsSuffix format_rules (codes "com")
plain-suffix = (refl, refl)

plain-no_suffix : IsSuffix format_rules (codes "foo.com") → ⊥
plain-no_suffix suffix = other_number suffix.1 refl

-- cookies may be set for foo.bar.jp, and not for bar.jp
wildcard : key_of format_rules (codes "www.foo.bar.jp") ≡ codes "foo.bar.jp"
wildcard = refl

wildcard-suffix : IsSuffix format_rules (codes "bar.jp")
wildcard-suffix = (refl, refl)

wildcard-no_suffix : IsSuffix format_rules (codes "foo.bar.jp") → ⊥
wildcard-no_suffix suffix = other_number suffix.1 refl

-- cookies may be set for foo.bar.hokkaido.jp, and not for bar.hokkaido.jp
longer_wildcard : key_of format_rules (codes "www.foo.bar.hokkaido.jp") ≡ codes "foo.bar.hokkaido.jp"
longer_wildcard = refl

longer_wildcard-suffix : IsSuffix format_rules (codes "bar.hokkaido.jp")
longer_wildcard-suffix = (refl, refl)

-- cookies may be set for pref.hokkaido.jp and metro.tokyo.jp: the exception overrides the rule before
exception : key_of format_rules (codes "www.pref.hokkaido.jp") ≡ codes "pref.hokkaido.jp"
exception = refl

exception-other : key_of format_rules (codes "metro.tokyo.jp") ≡ codes "metro.tokyo.jp"
exception-other = refl

exception-no_suffix : IsSuffix format_rules (codes "pref.hokkaido.jp") → ⊥
exception-no_suffix suffix = other_number suffix.1 refl

-- an exception prevails over a rule with more labels
exception-over_longer : key_of (rule_of Exception (codes "b.c") ∷ rule_of Plain (codes "a.b.c") ∷ []) (codes "x.a.b.c") ≡ codes "b.c"
exception-over_longer = refl

-- of two exceptions the one with most labels prevails
exception-longest : key_of (rule_of Exception (codes "b.c") ∷ rule_of Exception (codes "a.b.c") ∷ []) (codes "x.a.b.c") ≡ codes "a.b.c"
exception-longest = refl

-- where no rule matches, the rule is `*`
default : key_of format_rules (codes "a.b.example") ≡ codes "b.example"
default = refl

default-suffix : IsSuffix format_rules (codes "example")
default-suffix = (refl, refl)

-- a part of a label is no rule's label
label_border : key_of (rule_of Plain (codes "co.uk") ∷ []) (codes "www.xco.uk") ≡ codes "xco.uk"
label_border = refl

-- an address is its own key and no suffix, and so is a host with an empty label
address : key_of format_rules (codes "10.0.0.1") ≡ codes "10.0.0.1"
address = refl

address-no_suffix : IsSuffix (rule_of Wildcard [] ∷ []) (codes "1") → ⊥
address-no_suffix suffix = absurd (cc)

empty_label : key_of format_rules (codes "www.foo.com.") ≡ codes "www.foo.com."
empty_label = refl

empty_label-no_suffix : IsSuffix format_rules (codes "com.") → ⊥
empty_label-no_suffix suffix = absurd (cc)

-- the format's lines: a comment, an empty line, a rule up to the first blank, and the three marks
reading-comment : reading_of (codes "// Hosts in .hokkaido.jp") ≡ Skipped
reading-comment = refl

reading-empty : reading_of [] ≡ Skipped
reading-empty = refl

reading-blank : reading_of (codes " com") ≡ Skipped
reading-blank = refl

reading-cr : reading_of (13 ∷ []) ≡ Skipped
reading-cr = refl

reading-tab : reading_of (codes "*" ++ 9 ∷ codes "jp") ≡ Named (rule_of Wildcard [])
reading-tab = refl

reading-plain : reading_of (codes "com all of it") ≡ Named (rule_of Plain (codes "com"))
unfolding idna
reading-plain = refl

reading-wildcard : reading_of (codes "*.hokkaido.jp") ≡ Named (rule_of Wildcard (codes "hokkaido.jp"))
unfolding idna
reading-wildcard = refl

reading-exception : reading_of (codes "!pref.hokkaido.jp") ≡ Named (rule_of Exception (codes "pref.hokkaido.jp"))
unfolding idna
reading-exception = refl

-- bad lines: an exception of one label, a `*` that isn't the first label, an empty label
reading-short_exception : reading_of (codes "!jp") ≡ Bad
unfolding idna
reading-short_exception = refl

reading-inner_star : reading_of (codes "a.*") ≡ Bad
unfolding idna
reading-inner_star = refl

reading-empty_label : reading_of (codes "a..b") ≡ Bad
unfolding idna
reading-empty_label = refl

-- this jar's own: the ASCII form drops a byte order mark, and what looks like `!` makes no mark
reading-byte_order_mark : reading_of (0xEF ∷ 0xBB ∷ 0xBF ∷ codes "com") ≡ Named (rule_of Plain (codes "com"))
unfolding idna
reading-byte_order_mark = refl

reading-wide_exclamation_mark : reading_of (0xEF ∷ 0xBC ∷ 0x81 ∷ codes "a.b") ≡ Named (rule_of Plain (codes "!a.b"))
unfolding idna
reading-wide_exclamation_mark = refl

-- the first bad line, counted from 1, with lines that are skipped
first_bad_line-first : first_bad_line (codes "// one" ++ 10 ∷ codes "*" ++ 10 ∷ codes "a.*" ++ 10 ∷ codes "!b") ≡ Some 3
unfolding idna
first_bad_line-first = refl

first_bad_line-none : first_bad_line (codes "com" ++ 10 ∷ 10 ∷ codes "*.jp") ≡ None
unfolding idna
first_bad_line-none = refl

-- the rules of a list, in the order of its lines, with repeats
rules_of-order : rules_of (codes "jp" ++ 10 ∷ codes "//com" ++ 10 ∷ codes "a" ++ 10 ∷ codes "jp") ≡ rule_of Plain (codes "jp") ∷ rule_of Plain (codes "a") ∷ rule_of Plain (codes "jp") ∷ []
unfolding idna
rules_of-order = refl

-- each answer to a list has its cause: of its bad lines the first is told, too many rules are told
-- only where there are, and what is read is all rules, in their order
list-first_bad : (text : List ℕ) (line other : ℕ) → first_bad_line text ≡ Some line → ReadsList text (Err (BadRule other)) → Some other ≡ Some line
list-first_bad text line other bad refused = sym refused ∙ bad

list-no_bad : (text : List ℕ) (line : ℕ) → first_bad_line text ≡ None → ReadsList text (Err (BadRule line)) → ⊥
list-no_bad text line good refused = let never : false ≡ true = ap is_some (sym good ∙ refused) in absurd (cc)

list-bad : (text : List ℕ) (line : ℕ) (rules : List SuffixRule) → first_bad_line text ≡ Some line
    → (ReadsList text (Err TooMany) → ⊥) × (ReadsList text (Ok rules) → ⊥)
list-bad text line rules bad = (
  λ refused. let never : false ≡ true = ap is_some (sym refused.0 ∙ bad) in absurd (cc),
  λ read. let never : false ≡ true = ap is_some (sym read.0 ∙ bad) in absurd (cc),
)

list-too_many : (text : List ℕ) (rules : List SuffixRule)
    → (length (rules_of text) ≡ 20000 → ReadsList text (Err TooMany) → ⊥) × (length (rules_of text) ≡ 20001 → ReadsList text (Ok rules) → ⊥)
list-too_many text rules = (
  λ fits refused. let more : 20000 < length (rules_of text) = refused.1 in absurd (omega arith),
  λ many read. let few : length (rules_of text) ≤ 20000 = read.1 in absurd (omega arith),
)

list-rules : (text : List ℕ) (rules : List SuffixRule) → ReadsList text (Ok rules) → rules ≡ rules_of text
list-rules text rules read = read.2
