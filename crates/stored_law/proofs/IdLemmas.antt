-- The order of ids: it is total, and ids that tie are the same.
use Rattle.std.proofs.Common.{◌≡◌, ℕ, List, true, refl, sym, ap, ◌∙◌}
use Rattle.std.specs.Cmp.{IsTotalOrder, tied_itself}
use Rattle.std.specs.Cmp.Lexicographic.{on_texts}
use Rattle.std.specs.Ordering.{is_eq, ordering_then}
use Rattle.std.specs.declared.cmp.Ordering.{Ordering}
use Rattle.std.specs.declared.cmp.Ordering.TheVariants.{Less, Equal, Greater}
use Rattle.std.proofs.lemmas.Cmp.{then_total, nat_list_cmp_total}
use Rattle.std.proofs.lemmas.Map.Text.{is_eq-slice_cmp}
use Rattle.std.proofs.lemmas.Slice.Eq.{bytes_eq-Decides}
use Rattle.jar_types.specs.declared.cookie.CookieId.{CookieId}
use Rattle.jar_types.specs.Ids.{text_cmp, id_cmp}

pub text_total : IsTotalOrder text_cmp
text_total = nat_list_cmp_total

pub id_total : IsTotalOrder id_cmp
id_total =
    then_total (on_texts (λ (i : CookieId). i.host)) (then_total (on_texts (λ (i : CookieId). i.name)) (on_texts (λ (i : CookieId). i.path)))

-- texts that tie are the same
pub text_same : (xs ys : List ℕ) → text_cmp xs ys ≡ Equal → xs ≡ ys
text_same xs ys e = (bytes_eq-Decides xs ys).0 (sym (is_eq-slice_cmp xs ys) ∙ ap is_eq e)

first_tied : (v w : Ordering) → ordering_then v w ≡ Equal → v ≡ Equal
first_tied Less w e = e
first_tied Equal w e = refl
first_tied Greater w e = e

then_tied : (v w : Ordering) → ordering_then v w ≡ Equal → w ≡ Equal
then_tied Less w e = absurd cc
then_tied Equal w e = e
then_tied Greater w e = absurd cc

tied_from : (w : Ordering) → is_eq w ≡ true → w ≡ Equal
tied_from Less e = absurd cc
tied_from Equal e = refl
tied_from Greater e = absurd cc

-- ids that tie are the same
pub id_same : (i j : CookieId) → is_eq (id_cmp i j) ≡ true → i ≡ j
id_same i j e =
    let v = text_cmp i.host j.host in
    let w = text_cmp i.name j.name in
    let u = text_cmp i.path j.path in
    let tied = tied_from (id_cmp i j) e in
    let rest = then_tied v (ordering_then w u) tied in
    let hosts = text_same i.host j.host (first_tied v (ordering_then w u) tied) in
    let names = text_same i.name j.name (first_tied w u rest) in
    let paths = text_same i.path j.path (then_tied w u rest) in
    ap (λ h. record { host = h; name = i.name; path = i.path }) hosts
    ∙ ap (λ n. record { host = j.host; name = n; path = i.path }) names
    ∙ ap (λ p. record { host = j.host; name = j.name; path = p }) paths

pub id_itself : (i : CookieId) → is_eq (id_cmp i i) ≡ true
id_itself i = ap is_eq (tied_itself id_total i)
