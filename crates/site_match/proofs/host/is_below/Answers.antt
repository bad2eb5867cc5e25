use Rattle.std.proofs.Common.{◌≡◌, ◌≢◌, ◌++◌, List, ℕ, Some, None, sym, ap, ◌∙◌}
use Rattle.std.proofs.lemmas.Bool.Decides.{Decides-eqb}
use Rattle.std.proofs.lemmas.Slice.Eq.{strip_suffix_is}
use Rattle.site_match.proofs.EndLemmas.{ends_with-cons, ends_with-none}
use Rattle.site_match.proofs.host.is_below.Goals as goal

pub returns-in-Some : goal.returns-in-Some
returns-in-Some c =
    let whole : c.as_bytes.result.now ≡ c.in-Some.front.now ++ c.as_bytes-2.result.now = strip_suffix_is Decides-eqb c.as_bytes.result.now c.as_bytes-2.result.now (Some c.in-Some.front) c.in-Some.ensures.cases in
    c.ends_with.ensures.value ∙ ends_with-cons 46 c.args.host.now c.args.domain.now c.in-Some.front.now (sym c.as_bytes.ensures.value ∙ whole ∙ ap (λ (end : List ℕ). c.in-Some.front.now ++ end) c.as_bytes-2.ensures.value)

pub returns-in-None : goal.returns-in-None
returns-in-None c =
    let other : (front : List ℕ) → c.as_bytes.result.now ≢ front ++ c.as_bytes-2.result.now = strip_suffix_is Decides-eqb c.as_bytes.result.now c.as_bytes-2.result.now None c.in-None.ensures.cases in
    ends_with-none 46 c.args.host.now c.args.domain.now (λ front whole. other front (c.as_bytes.ensures.value ∙ whole ∙ ap (λ (end : List ℕ). front ++ end) (sym c.as_bytes-2.ensures.value)))
