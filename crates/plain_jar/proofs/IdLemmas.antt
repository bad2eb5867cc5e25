-- The order of ids: it is total, and ids that tie are the same.
use Rattle.std.proofs.Common.{◌≡◌, refl, ap, ◌∙◌}
use Rattle.std.specs.Cmp.{IsTotalOrder}
use Rattle.std.specs.Cmp.Lexicographic.{on_texts}
use Rattle.std.specs.Ordering.{ordering_then}
use Rattle.std.specs.declared.cmp.Ordering.{Ordering}
use Rattle.std.specs.declared.cmp.Ordering.TheVariants.{Less, Equal, Greater}
use Rattle.std.proofs.lemmas.Cmp.{then_total}
use Rattle.std.proofs.lemmas.Map.Lookups.{exact_bytes}
use Rattle.jar_types.specs.declared.cookie.CookieId.{CookieId}
use Rattle.jar_types.specs.Ids.{text_cmp, id_cmp}

pub id_total : IsTotalOrder id_cmp
id_total =
    then_total (on_texts (λ (i : CookieId). i.host)) (then_total (on_texts (λ (i : CookieId). i.name)) (on_texts (λ (i : CookieId). i.path)))

both_tie : (v w : Ordering) → ordering_then v w ≡ Equal → (v ≡ Equal) × (w ≡ Equal)
both_tie Less w e = absurd cc
both_tie Equal w e = (refl, e)
both_tie Greater w e = absurd cc

pub id_exact : (i j : CookieId) → id_cmp i j ≡ Equal → i ≡ j
id_exact i j e =
    let first = both_tie (text_cmp i.host j.host) (ordering_then (text_cmp i.name j.name) (text_cmp i.path j.path)) e in
    let rest = both_tie (text_cmp i.name j.name) (text_cmp i.path j.path) first.1 in
    ap (λ h. record i { host = h }) (exact_bytes i.host j.host first.0)
    ∙ ap (λ n. record i { host = j.host; name = n }) (exact_bytes i.name j.name rest.0)
    ∙ ap (λ p. record j { path = p }) (exact_bytes i.path j.path rest.1)
