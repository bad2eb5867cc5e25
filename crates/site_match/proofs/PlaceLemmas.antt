-- What every place holds to, as its URL is valid.
use Rattle.std.proofs.Common.{◌≡◌, ℕ, ◌<◌, ◌⊎◌, Bool, true, false, cond, List, [], ◌∷◌, length, get_or, Option, Some, None, Result, Ok, Err, All, codes, bytes_eq, refl, ap, sym, subst, ◌∙◌, arith, ⊎_elim, nat_eq}
use Rattle.std.specs.Prelude.{IfOk, MatchOption}
use Rattle.std.specs.List.{starts_with}
use Rattle.std.specs.Int.{is_in_range}
use Rattle.std.specs.Char.{to_ascii_lowercase}
use Rattle.std.specs.Net.Addr.{ipv4_octets, ipv6_segments}
use Rattle.std.specs.Net.Text.{ipv4_text, hex_groups_text}
use Rattle.std.proofs.NetLemmas.Alphabet.{IsDigitOrDot, IsHexOrColon, All-ipv4_text, All-hex_groups_text}
use Rattle.std.proofs.lemmas.Bool.Decides.{nat_tests}
use Rattle.std.proofs.lemmas.Slice.Eq.{bytes_eq-Decides}
use Rattle.std.proofs.lemmas.List.Elements.{All-nil, All-cons, All-append, All-weaker}
use Rattle.percent_encoding.specs.Percent.{IsKept}
use Rattle.url.specs.declared.sets.TheConstants.{PATH}
use Rattle.url.specs.declared.host.Host.{Host}
use Rattle.url.specs.declared.host.Host.TheVariants.{Domain, Ipv4, Ipv6}
use Rattle.url.specs.declared.scheme.SchemeType.{SchemeType}
use Rattle.url.specs.declared.scheme.SchemeType.TheVariants.{SpecialNotFile}
use Rattle.url.specs.Input.{lowercase}
use Rattle.url.specs.Scheme.{scheme_type, is_special, default_port}
use Rattle.url.specs.Host.{host_text, is_empty_host, IsHostOf}
use Rattle.url.specs.Path.{IsSegmentList}
use Rattle.url.specs.Parts.{Parts, kind_of, IsValidPath}
use Rattle.url.proofs.InputLemmas.{map_fixed, is_empty_nonempty}
use Rattle.url.proofs.HostRoundTrip.{IsHostByte, host_text_plain}
use Rattle.url.proofs.PathLemmas.{rooted}
use Rattle.url.proofs.RoundTrip.{host_nonempty}
use Rattle.url.proofs.SetLemmas.{passes_from_kept}
use Rattle.url.proofs.ValidLemmas.{segment_list_kept}
use Rattle.public_suffix.specs.Rule.{SuffixRule}
use Rattle.site_match.specs.declared.place.Place.{Place}
use Rattle.site_match.specs.declared.place.PlaceRefusal.{PlaceRefusal}
use Rattle.site_match.specs.declared.scheme.Scheme.{Scheme}
use Rattle.site_match.specs.declared.scheme.Scheme.TheVariants.{Http, Https, Ws, Wss}
use Rattle.site_match.specs.Schemes.{scheme_of}
use Rattle.site_match.specs.Places.{host_of, IsPlaceOf, PlacesUrl, IsVisible, IsSoundPlace}

-- ---- schemes

-- the first of four tests that is true gives the scheme
by_tests : (http https ws wss : Bool) (scheme : Scheme) (P : Type 0) → (http ≡ true → P) → (https ≡ true → P) → (ws ≡ true → P) → (wss ≡ true → P)
    → cond http (Some Http) (cond https (Some Https) (cond ws (Some Ws) (cond wss (Some Wss) None))) ≡ Some scheme → P
by_tests true https ws wss scheme P one two three four known = one refl
by_tests false true ws wss scheme P one two three four known = two refl
by_tests false false true wss scheme P one two three four known = three refl
by_tests false false false true scheme P one two three four known = four refl
by_tests false false false false scheme P one two three four known = absurd (cc)

kind_at : (name text : List ℕ) → scheme_type text ≡ SpecialNotFile → bytes_eq name text ≡ true → scheme_type name ≡ SpecialNotFile
kind_at name text kind same = subst (λ (x : List ℕ). scheme_type x ≡ SpecialNotFile) (sym ((bytes_eq-Decides name text).0 same)) kind

-- a scheme of cookies is special, and not `file`
special : (name : List ℕ) (scheme : Scheme) → scheme_of name ≡ Some scheme → scheme_type name ≡ SpecialNotFile
unfolding scheme_type default_port
special name scheme known =
    by_tests (bytes_eq name (codes "http")) (bytes_eq name (codes "https")) (bytes_eq name (codes "ws")) (bytes_eq name (codes "wss")) scheme (scheme_type name ≡ SpecialNotFile)
    (kind_at name (codes "http") refl) (kind_at name (codes "https") refl) (kind_at name (codes "ws") refl) (kind_at name (codes "wss") refl) known

-- ---- hosts

-- a special URL has a host
special_host : (host : Option (Host (List ℕ))) (kind : SchemeType) → kind ≡ SpecialNotFile → MatchOption host (is_special kind ≡ false) (IsHostOf kind)
    → (h : Host (List ℕ)) × (host ≡ Some h) × IsHostOf SpecialNotFile h
special_host None kind special other = let never : true ≡ false = ap is_special (sym special) ∙ other in absurd (cc)
special_host (Some host) kind special valid = (host, refl, subst (λ (k : SchemeType). IsHostOf k host) special valid)

not_empty : (host : Host (List ℕ)) → IsHostOf SpecialNotFile host → is_empty_host host ≡ false
not_empty (Domain domain) valid = is_empty_nonempty domain valid.1
not_empty (Ipv4 address) valid = refl
not_empty (Ipv6 address) valid = refl

-- the text of a host that isn't empty
text_of_host : (url : Parts) (host : Host (List ℕ)) → url.host ≡ Some host → is_empty_host host ≡ false → host_of url ≡ host_text host
text_of_host url host some full = rw (some, full) refl

-- a host is in lower case
lower_host : (host : Host (List ℕ)) → IsHostOf SpecialNotFile host → lowercase (host_text host) ≡ host_text host
lower_host (Domain domain) valid = valid.0.lower
lower_host (Ipv4 address) valid =
    let text = ipv4_text (ipv4_octets address) in
    map_fixed to_ascii_lowercase text (All-weaker IsDigitOrDot (λ b. to_ascii_lowercase b ≡ b) (λ b digit. grind (arith, nat_tests)) text (All-ipv4_text _ valid.1))
lower_host (Ipv6 address) valid =
    let text = hex_groups_text (ipv6_segments address) in
    let P : ℕ → Type 0 = λ b. to_ascii_lowercase b ≡ b in
    map_fixed to_ascii_lowercase (host_text (Ipv6 address)) (All-append P (91 ∷ text) (93 ∷ []) (All-cons P 91 text refl (All-weaker IsHexOrColon P (λ b hex. grind (arith, nat_tests)) text (All-hex_groups_text _ valid.1))) (All-cons P 93 [] refl (All-nil P)))

-- a host has visible bytes
visible_host : (host : Host (List ℕ)) → IsHostOf SpecialNotFile host → All IsVisible (host_text host)
visible_host host valid = All-weaker IsHostByte IsVisible (λ b plain. (omega arith, omega arith)) (host_text host) (host_text_plain SpecialNotFile host valid)

-- ---- paths

-- a URL with a host has a path of segments
segments : (url : Parts) (host : Host (List ℕ)) → url.host ≡ Some host → kind_of url ≡ SpecialNotFile → IsValidPath url
    → IsSegmentList SpecialNotFile url.path × (0 < length url.path)
segments url host some kind valid =
    ⊎_elim
    (λ list. (subst (λ (k : SchemeType). IsSegmentList k url.path) kind list.0, list.1 (rw kind refl)))
    (λ opaque. let other : false ≡ true = rw some at opaque.0 in absurd (cc)) valid

begins : (path : List ℕ) → 0 < length path → (path ≡ []) ⊎ (get_or path 0 0 ≡ 47) → starts_with nat_eq path (codes "/") ≡ true
begins [] some rooted = absurd (omega arith)
begins (b ∷ bytes) some rooted =
    ⊎_elim (λ none. absurd (cc)) (λ slash. subst (λ (x : ℕ). starts_with nat_eq (x ∷ bytes) (codes "/") ≡ true) (sym slash) refl) rooted

in_range : (b : ℕ) → is_in_range 0x21 0x7E b ≡ true → IsVisible b
in_range b test = grind (arith, nat_tests)

-- a path of segments has visible bytes
visible_path : (path : List ℕ) → IsSegmentList SpecialNotFile path → All IsVisible path
visible_path path list =
    All-weaker (IsKept PATH) IsVisible (λ b kept. in_range b (passes_from_kept PATH (is_in_range 0x21 0x7E) refl b kept)) path (segment_list_kept SpecialNotFile path list)

-- ---- places

-- what every place holds to
pub place_is_sound : (rules : List SuffixRule) (url : Parts) (place : Place) → IsPlaceOf rules url place → IsSoundPlace place
place_is_sound rules url place is =
    let kind = special url.scheme place.scheme is.scheme in
    let found = special_host url.host (kind_of url) kind is.valid.head.host in
    let host : place.host ≡ host_text found.0 = is.host ∙ text_of_host url found.0 found.1 (not_empty found.0 found.2) in
    let list = segments url found.0 found.1 kind is.valid.path in
    record {
      named = subst (λ (x : List ℕ). 0 < length x) (sym host) (host_nonempty found.0 found.2);
      no_dot = rw is.host is.no_dot;
      lower = subst (λ (x : List ℕ). lowercase x ≡ x) (sym host) (lower_host found.0 found.2);
      host = subst (All IsVisible) (sym host) (visible_host found.0 found.2);
      rooted = rw is.path (begins url.path list.1 (rooted SpecialNotFile url.path list.0));
      path = rw is.path (visible_path url.path list.0);
    }

-- a place that a URL gives is sound
pub sound_result : (rules : List SuffixRule) (url : Parts) (result : Result Place PlaceRefusal) → PlacesUrl rules url result → IfOk result IsSoundPlace
sound_result rules url (Ok place) is = place_is_sound rules url place is
sound_result rules url (Err refusal) is = tt
