-- The lines of a list, one more at a time.
use Rattle.std.proofs.Common.{ℕ, zero, suc, ◌+◌, ◌<◌, ◌≤◌, ◌≡◌, false, List, [], ◌∷◌, ◌++◌, length, map, take, arith, Option, Some, None, refl, ap, sym, ◌∙◌}
use Rattle.std.specs.Option.{option_to_list}
use Rattle.std.proofs.lemmas.List.{append_assoc, append-nil, length-append, length-map, length-take, map-append, take_all}
use Rattle.std.proofs.Math.Seq.{take-append_seam}
use Rattle.public_suffix.specs.declared.rule.Rule.{Rule}
use Rattle.public_suffix.specs.Seen.{rule_seen}
use Rattle.std.specs.List.{filter_map, cons_option, position_from}
use Rattle.public_suffix.specs.Rule.{SuffixRule, reading_of}
use Rattle.public_suffix.specs.SuffixList.{lines_of, rules_of, named_rule, is_bad}

cons_option_is : {X : Type 0} (o : Option X) (xs : List X) → cons_option o xs ≡ option_to_list o ++ xs
cons_option_is None xs = refl
cons_option_is (Some x) xs = refl

take-take_append : {X : Type 0} (n : ℕ) (xs ys : List X) → take n (take n xs ++ ys) ≡ take n (xs ++ ys)
take-take_append zero xs ys = refl
take-take_append (suc n) [] ys = refl
take-take_append (suc n) (x ∷ xs) ys = ap (λ rest. x ∷ rest) (take-take_append n xs ys)

-- the first n of some rules are the first n of those before a line, that of the line, and those after it
pub rules_of-next : (n : ℕ) (all before new : List SuffixRule) (rest line next : List ℕ) → take n all ≡ take n (before ++ rules_of rest) → lines_of rest ≡ line ∷ lines_of next → new ≡ take n (before ++ option_to_list (named_rule (reading_of line))) → take n all ≡ take n (new ++ rules_of next)
rules_of-next n all before new rest line next whole parts added =
    whole ∙ ap (λ (ls : List (List ℕ)). take n (before ++ filter_map (λ l. named_rule (reading_of l)) ls)) parts
    ∙ ap (λ (rs : List SuffixRule). take n (before ++ rs)) (cons_option_is (named_rule (reading_of line)) (rules_of next))
    ∙ ap (λ (rs : List SuffixRule). take n rs) (sym (append_assoc before (option_to_list (named_rule (reading_of line))) (rules_of next)))
    ∙ sym (take-take_append n (before ++ option_to_list (named_rule (reading_of line))) (rules_of next))
    ∙ ap (λ (rs : List SuffixRule). take n (rs ++ rules_of next)) (sym added)

-- and at the last line they are those before it and that of the line
pub rules_of-last : (n : ℕ) (all before new : List SuffixRule) (rest : List ℕ) → take n all ≡ take n (before ++ rules_of rest) → lines_of rest ≡ rest ∷ [] → new ≡ take n (before ++ option_to_list (named_rule (reading_of rest))) → new ≡ take n all
rules_of-last n all before new rest whole parts added =
    added ∙ ap (λ (rs : List SuffixRule). take n (before ++ rs)) (sym (cons_option_is (named_rule (reading_of rest)) [] ∙ append-nil (option_to_list (named_rule (reading_of rest)))))
    ∙ ap (λ (ls : List (List ℕ)). take n (before ++ filter_map (λ l. named_rule (reading_of l)) ls)) (sym parts) ∙ sym whole

-- no more than n are kept
pub kept-few : (n : ℕ) (new : List Rule) (rules : List SuffixRule) → map rule_seen new ≡ take n rules → length new ≤ n
kept-few n new rules kept = omega (arith, length-map new rule_seen, ap length kept ∙ refl, length-take n rules)

-- where n are kept at most, all that are kept stay
pub kept-all : (n : ℕ) (old : List Rule) → length old ≤ n → map rule_seen old ≡ take n (map rule_seen old ++ [])
kept-all n old few = rw append-nil (sym (take_all n (map rule_seen old) (omega (arith, length-map old rule_seen))))

-- a rule is added where fewer than n are kept
pub kept-push : (n : ℕ) (old : List Rule) (rule : Rule) → length old < n → map rule_seen (old ++ rule ∷ []) ≡ take n (map rule_seen old ++ rule_seen rule ∷ [])
kept-push n old rule few =
    map-append rule_seen old (rule ∷ [])
    ∙ sym (take_all n (map rule_seen old ++ rule_seen rule ∷ []) (omega (arith, length-map old rule_seen, length-append (map rule_seen old) (rule_seen rule ∷ []))))

-- and none where n are
pub kept-full : (n : ℕ) (old : List Rule) (rule : Rule) → length old ≡ n → map rule_seen old ≡ take n (map rule_seen old ++ rule_seen rule ∷ [])
kept-full n old rule full =
    let len : length (map rule_seen old) ≡ n = length-map old rule_seen ∙ full in
    sym (ap (λ (k : ℕ). take k (map rule_seen old ++ rule_seen rule ∷ [])) (sym len) ∙ take-append_seam (map rule_seen old) (rule_seen rule ∷ []))

-- where more than n of some rules are kept, there are more
pub kept-more : (n : ℕ) (new : List Rule) (rules : List SuffixRule) → map rule_seen new ≡ take (n + 1) rules → n < length new → n < length rules
kept-more n new rules kept more = omega (arith, length-map new rule_seen, ap length kept ∙ refl, length-take (n + 1) rules)

-- else all are kept
pub kept-whole : (n : ℕ) (new : List Rule) (rules : List SuffixRule) → map rule_seen new ≡ take (n + 1) rules → length new ≤ n → (length rules ≤ n) × (map rule_seen new ≡ rules)
kept-whole n new rules kept few =
    let all : length rules ≤ n = omega (arith, length-map new rule_seen, ap length kept ∙ refl, length-take (n + 1) rules) in
    (all, kept ∙ take_all (n + 1) rules (omega arith))

-- the first bad line comes after a line that isn't bad
pub bad_line-next : (n : ℕ) (rest line : List ℕ) (ls : List (List ℕ)) → lines_of rest ≡ line ∷ ls → is_bad (reading_of line) ≡ false → position_from (λ l. is_bad (reading_of l)) n (lines_of rest) ≡ position_from (λ l. is_bad (reading_of l)) (n + 1) ls
bad_line-next n rest line ls parts good = ap (position_from (λ l. is_bad (reading_of l)) n) parts ∙ rw good
