use Rattle.std.proofs.Common.{◌≡◌, ℕ, List, [], None, length, ap, ◌∙◌, subst, sym, arith}
use Rattle.std.proofs.lemmas.List.{length-map}
use Rattle.key_loader.specs.declared.group.Group.{Group}
use Rattle.key_loader.specs.Groups.{keys_of}
use Rattle.key_loader.specs.Places.{IsPlanned, first_places, loads_at}
use Rattle.key_loader.proofs.NextLemmas.{first_at, first_planned, length_first}
use Rattle.key_loader.proofs.plan.Plan.of_groups.Goals as goal

pub invariant_of-result : goal.invariant_of-result
invariant_of-result c =
    let keys = keys_of c.args.groups.items in
    let n : c.len.result ≡ length keys = c.len.ensures ∙ c.args.groups.ok.0 ∙ sym (length-map c.args.groups.items (λ (g : Group). g.key)) in
    let unloaded : c.in_ok-unloaded.unloaded.items ≡ first_places (length keys) = c.in_ok-unloaded.ensures ∙ ap first_places n in
    let first = first_planned keys c.requires in (
      subst (λ (u : List ℕ). IsPlanned keys u c.in_ok-wanted.wanted.items None c.in_ok-lost.lost.items) (sym unloaded)
          (subst (λ (w : List ℕ). IsPlanned keys (first_places (length keys)) w None c.in_ok-lost.lost.items) (sym c.in_ok-wanted.ensures.items)
          (subst (λ (l : List ℕ). IsPlanned keys (first_places (length keys)) [] None l) (sym c.in_ok-lost.ensures.items) first)),
      omega (arith, c.in_ok-unloaded.unloaded.ok.0, ap length c.in_ok-unloaded.ensures, length_first c.len.result, c.in_ok-wanted.ensures.exact, c.len.ensures, c.len-2.ensures),
      omega (arith, c.in_ok-unloaded.unloaded.ok.0, ap length c.in_ok-unloaded.ensures, length_first c.len.result, c.in_ok-lost.ensures.exact, c.len.ensures, c.len-3.ensures),
    )

pub returns-clause-loads : goal.returns-clause-loads
returns-clause-loads c =
    let keys = keys_of c.args.groups.items in
    let n : c.len.result ≡ length keys = c.len.ensures ∙ c.args.groups.ok.0 ∙ sym (length-map c.args.groups.items (λ (g : Group). g.key)) in
    let unloaded : c.in_ok-unloaded.unloaded.items ≡ first_places (length keys) = c.in_ok-unloaded.ensures ∙ ap first_places n in
    ap (λ (u : List ℕ). loads_at keys u c.in_ok-wanted.wanted.items None c.in_ok-lost.lost.items) unloaded
    ∙ ap (λ (w : List ℕ). loads_at keys (first_places (length keys)) w None c.in_ok-lost.lost.items) c.in_ok-wanted.ensures.items
    ∙ ap (λ (l : List ℕ). loads_at keys (first_places (length keys)) [] None l) c.in_ok-lost.ensures.items ∙ first_at keys
