-- Two places are the same exactly where the test says so.
use Rattle.std.proofs.Common.{◌≡◌, ℕ, Bool, true, false, ◌&&◌, List, refl, ap, subst, ◌∙◌}
use Rattle.std.specs.Prelude.{bytes_eq, ◌==◌}
use Rattle.std.specs.Bool.{Decides}
use Rattle.std.specs.Cmp.Derive.{both_true}
use Rattle.std.specs.Cmp.{unsigned_Decides}
use Rattle.std.proofs.lemmas.Slice.Eq.{bytes_eq-Decides}
use Rattle.site_match.specs.declared.place.Place.{Place}
use Rattle.site_match.specs.declared.scheme.Scheme.{Scheme}
use Rattle.site_match.specs.declared.scheme.Scheme.TheVariants.{Http, Https, Ws, Wss}
use Rattle.restricted_manager.specs.Documents.{is_same_scheme, is_same_origin, is_same_place}

-- two tests that are true together are each true
both_are : (a b : Bool) → (a && b) ≡ true → (a ≡ true) × (b ≡ true)
both_are true b both = (refl, both)
both_are false b both = absurd (cc)

same_scheme : (p q : Scheme) → is_same_scheme p q ≡ true → p ≡ q
same_scheme Http Http same = refl
same_scheme Https Https same = refl
same_scheme Ws Ws same = refl
same_scheme Wss Wss same = refl
same_scheme p q same = absurd (cc)

scheme_itself : (p : Scheme) → is_same_scheme p p ≡ true
scheme_itself Http = refl
scheme_itself Https = refl
scheme_itself Ws = refl
scheme_itself Wss = refl

-- places of the same parts are the same
place_of : (p q : Place) → p.scheme ≡ q.scheme → p.host ≡ q.host → p.port ≡ q.port → p.path ≡ q.path → p.key ≡ q.key
    → p ≡ q
place_of p q scheme host port path key =
    ap (λ (x : Scheme). record p { scheme = x }) scheme
    ∙ ap (λ (x : List ℕ). record p { scheme = q.scheme; host = x }) host
    ∙ ap (λ (x : ℕ). record p { scheme = q.scheme; host = q.host; port = x }) port
    ∙ ap (λ (x : List ℕ). record q { path = x; key = p.key }) path
    ∙ ap (λ (x : List ℕ). record q { key = x }) key

pub same_place : (p q : Place) → is_same_place p q ≡ true → p ≡ q
same_place p q same =
    let key = both_are (is_same_origin p q && bytes_eq p.path q.path) (bytes_eq p.key q.key) same in
    let path = both_are (is_same_origin p q) (bytes_eq p.path q.path) key.0 in
    let port = both_are (is_same_scheme p.scheme q.scheme && bytes_eq p.host q.host) (p.port == q.port) path.0 in
    let host = both_are (is_same_scheme p.scheme q.scheme) (bytes_eq p.host q.host) port.0 in
    place_of p q (same_scheme p.scheme q.scheme host.0) ((bytes_eq-Decides p.host q.host).0 host.1)
    ((unsigned_Decides p.port q.port).0 port.1) ((bytes_eq-Decides p.path q.path).0 path.1)
    ((bytes_eq-Decides p.key q.key).0 key.1)

pub place_itself : (p : Place) → is_same_place p p ≡ true
place_itself p =
    let host = both_true (scheme_itself p.scheme) ((bytes_eq-Decides p.host p.host).1 refl) in
    let port = both_true host ((unsigned_Decides p.port p.port).1 refl) in
    let path = both_true port ((bytes_eq-Decides p.path p.path).1 refl) in
    both_true path ((bytes_eq-Decides p.key p.key).1 refl)

pub place_decides : (p q : Place) → Decides (is_same_place p q) (p ≡ q)
place_decides p q =
    let P : Place → Type 0 = λ x. is_same_place p x ≡ true in
    (same_place p q, (λ is. subst P is (place_itself p)))
