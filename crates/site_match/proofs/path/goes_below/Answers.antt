use Rattle.std.proofs.Common.{◌≢◌, ◌++◌, List, ℕ, None, refl, ap, sym, ◌∙◌}
use Rattle.std.proofs.lemmas.Bool.Decides.{Decides-eqb}
use Rattle.std.proofs.lemmas.Slice.Eq.{strip_prefix_is}
use Rattle.site_match.proofs.EndLemmas.{starts_with-none}
use Rattle.site_match.proofs.path.goes_below.Goals as goal

pub returns-in-None : goal.returns-in-None
returns-in-None c =
    let other : (rest : List ℕ) → c.as_bytes.result.now ≢ c.as_bytes-2.result.now ++ rest = strip_prefix_is Decides-eqb c.as_bytes.result.now c.as_bytes-2.result.now None c.in-None.ensures.cases in
    rw (← starts_with-none c.args.request.now c.args.cookie.now (λ rest whole. other rest (c.as_bytes.ensures.value ∙ whole ∙ ap (λ (front : List ℕ). front ++ rest) (sym c.as_bytes-2.ensures.value)))) refl
