use Rattle.std.proofs.Common.{arith, ◌≡◌, ◌+◌, ◌-◌, ◌∙◌, List, [], ◌∷◌, ℕ, true, false, length, get_or, map, ap, sym, subst, refl, drop}
use Rattle.std.specs.Prelude.{◌==◌, filter}
use Rattle.std.specs.List.{list_any}
use Rattle.std.proofs.lemmas.Bool.Decides.{nat_tests}
use Rattle.public_suffix.specs.declared.found.Found.{Found}
use Rattle.public_suffix.specs.declared.rule.Rule.{Rule}
use Rattle.public_suffix.specs.Labels.{labels_of, is_empty}
use Rattle.public_suffix.specs.Seen.{rule_seen}
use Rattle.public_suffix.specs.Steps.{byte_step, step_at, RiseAt}
use Rattle.public_suffix.specs.Tables.{IsFoundOf, IsTableOf}
use Rattle.public_suffix.proofs.WalkLemmas.{last_bytes, last_bytes_length, last_bytes_none, last_bytes_all, last_bytes_more, tail_full, ending_with, ending_with_none, ending_with_more, ending_rises, marks_here, found_whole, found_dot, found_same, found_len, found_bound}
use Rattle.public_suffix.proofs.table.RuleTable.suffix_len.Goals as goal
use Rattle.public_suffix.proofs.table.RuleTable.suffix_len.Goals.{then-byte-eq46, else-byte-eq46}

pub marks_at-requires : goal.marks_at-requires
marks_at-requires c =
    let sorted = c.args.self.now.sorted.items in
    subst (λ (rs : List Rule). RiseAt 0 rs) (ending_with_none sorted ∙ sym c.as_slice-ending.ensures.value) (ending_rises [] 0 sorted refl c.requires.ordered)

pub bytes-init : goal.bytes-init
bytes-init c =
    let sorted = c.args.self.now.sorted.items in
    let host = c.args.host.now in
    let none = c.as_slice-ending.ensures.value ∙ sym (ending_with_none sorted) in record {
      bytes = c.as_bytes-bytes.ensures.value;
      depth = omega arith;
      count = omega (arith, c.none-found.ensures.count);
      ending = none ∙ ap (λ (tail : List ℕ). ending_with tail sorted) (sym (last_bytes_none host));
      found = λ rules is.
          subst (λ (tail : List ℕ). IsFoundOf (map rule_seen rules) (drop 1 (labels_of tail)) c.none-found.result) (sym (last_bytes_none host))
          (c.none-found.ensures.none (map rule_seen rules) (marks_here c.args.self.now rules [] 0 c.marks_at.result c.as_slice-ending.result.now refl is none c.marks_at.ensures));
    }

pub narrow-narrowed-requires : goal.narrow-narrowed-requires
narrow-narrowed-requires c =
    let host = c.args.host.now in
    let depth = c.bytes.depth in
    subst (λ (rs : List Rule). RiseAt depth rs) (sym c.bytes.invariant.ending) (ending_rises (last_bytes depth host) depth c.args.self.now.sorted.items (last_bytes_length depth host c.bytes.invariant.depth) c.requires.ordered)

pub marks_at-requires-then-byte-eq46 : goal.marks_at-requires-then-byte-eq46
marks_at-requires-then-byte-eq46 c =
    let host = c.args.host.now in
    let depth = c.bytes.depth in
    subst (λ (rs : List Rule). RiseAt depth rs) (sym c.bytes.invariant.ending) (ending_rises (last_bytes depth host) depth c.args.self.now.sorted.items (last_bytes_length depth host c.bytes.invariant.depth) c.requires.ordered)

pub marks_at-requires-2 : goal.marks_at-requires-2
marks_at-requires-2 c =
    let host = c.args.host.now in
    let depth = c.bytes.depth in
    subst (λ (rs : List Rule). RiseAt depth rs) (sym c.bytes.invariant.ending) (ending_rises (last_bytes depth host) depth c.args.self.now.sorted.items (last_bytes_length depth host c.bytes.invariant.depth) c.requires.ordered)

pub bytes-preserved : goal.bytes-preserved
bytes-preserved c =
    let sorted = c.args.self.now.sorted.items in
    let host = c.args.host.now in
    let bytes = c.as_bytes-bytes.result.now in
    let depth = c.bytes.depth in
    let tail = last_bytes depth host in
    let byte = get_or bytes (length bytes - 1 - depth) 0 in
    let same : byte ≡ get_or host (length host - 1 - depth) 0 = ap (λ (l : List ℕ). get_or l (length l - 1 - depth) 0) c.bytes.invariant.bytes in
    let long = last_bytes_length depth host c.bytes.invariant.depth in
    let more : last_bytes (depth + 1) host ≡ byte ∷ tail = last_bytes_more depth host (omega (arith, ap length c.bytes.invariant.bytes)) ∙ ap (λ (b : ℕ). b ∷ tail) (sym same) in record {
      bytes = c.bytes.invariant.bytes;
      depth = omega (arith, ap length c.bytes.invariant.bytes);
      count = elim c.if-byte-eq46.branch [
        | then-byte-eq46 w ↦ omega (arith, ap (λ (f : Found). f.count) w.found-is, w.more-found.ensures.count, c.bytes.invariant.count)
        | else-byte-eq46 w ↦ omega (arith, ap (λ (f : Found). f.count) w.found-is, c.bytes.invariant.count)
      ];
      ending = c.narrow-narrowed.ensures ∙ ap (λ (s : ℕ). filter (λ rule. step_at depth rule == s) c.bytes.ending.now) c.byte_step.ensures
          ∙ ap (filter (λ rule. step_at depth rule == byte_step byte)) c.bytes.invariant.ending
          ∙ ending_with_more byte tail depth sorted long ∙ ap (λ (t : List ℕ). ending_with t sorted) (sym more);
      found = λ rules is.
          subst (λ (t : List ℕ). IsFoundOf (map rule_seen rules) (drop 1 (labels_of t)) c.if-byte-eq46.found) (sym more)
          (elim c.if-byte-eq46.branch [
            | then-byte-eq46 w ↦
                let dot : (byte == 46) ≡ true = grind (arith, nat_tests) in
                subst (λ (f : Found). IsFoundOf (map rule_seen rules) (drop 1 (labels_of (byte ∷ tail))) f) (sym w.found-is)
                (found_dot (map rule_seen rules) tail byte w.more-found.result dot
                (found_whole (map rule_seen rules) tail c.bytes.found w.more-found.result w.marks_at-then-byte-eq46.result
                (tail_full depth host (omega (arith, ap length c.bytes.invariant.bytes)) (ap (λ (b : ℕ). b == 46) (sym same) ∙ dot) c.requires.full)
                (marks_here c.args.self.now rules tail depth w.marks_at-then-byte-eq46.result c.bytes.ending.now long is c.bytes.invariant.ending w.marks_at-then-byte-eq46.ensures)
                (c.bytes.invariant.found rules is) (w.more-found.ensures.more (map rule_seen rules))))
            | else-byte-eq46 w ↦
                let other : (byte == 46) ≡ false = grind (arith, nat_tests) in
                subst (λ (f : Found). IsFoundOf (map rule_seen rules) (drop 1 (labels_of (byte ∷ tail))) f) (sym w.found-is)
                (found_same (map rule_seen rules) tail byte c.bytes.found other (c.bytes.invariant.found rules is))
          ]);
    }

pub returns-clause-value : goal.returns-clause-value
returns-clause-value c = λ rules is.
    let host = c.args.host.now in
    let depth = c.bytes.depth in
    let tail = last_bytes depth host in
    let all : tail ≡ host = last_bytes_all depth host (omega (arith, ap length c.bytes.invariant.bytes)) in
    let long = last_bytes_length depth host c.bytes.invariant.depth in
    let found = found_whole (map rule_seen rules) tail c.bytes.found c.more.result c.marks_at-2.result (ap (λ (t : List ℕ). list_any is_empty (labels_of t)) all ∙ c.requires.full)
    (marks_here c.args.self.now rules tail depth c.marks_at-2.result c.bytes.ending.now long is c.bytes.invariant.ending c.marks_at-2.ensures)
    (c.bytes.invariant.found rules is) (c.more.ensures.more (map rule_seen rules)) in
    c.suffix_len.ensures ∙ found_len (map rule_seen rules) tail (labels_of host) c.more.result (subst (λ (t : List ℕ). IsFoundOf (map rule_seen rules) (labels_of t) c.more.result) all found)

pub returns-clause-bound : goal.returns-clause-bound
returns-clause-bound c =
    let host = c.args.host.now in
    let rules = c.args.self.now.sorted.items in
    let is : IsTableOf c.args.self.now rules = (c.requires.ordered, λ mark text. refl) in
    let depth = c.bytes.depth in
    let tail = last_bytes depth host in
    let all : tail ≡ host = last_bytes_all depth host (omega (arith, ap length c.bytes.invariant.bytes)) in
    let long = last_bytes_length depth host c.bytes.invariant.depth in
    let found = found_whole (map rule_seen rules) tail c.bytes.found c.more.result c.marks_at-2.result (ap (λ (t : List ℕ). list_any is_empty (labels_of t)) all ∙ c.requires.full)
    (marks_here c.args.self.now rules tail depth c.marks_at-2.result c.bytes.ending.now long is c.bytes.invariant.ending c.marks_at-2.ensures)
    (c.bytes.invariant.found rules is) (c.more.ensures.more (map rule_seen rules)) in
    omega (arith, c.suffix_len.ensures, ap length all, found_bound (map rule_seen rules) tail c.more.result found)
