-- What JSON texts say, as docs/DEFINITIONS.md has it: each default, what is said, and the walk through
-- the URLs, whose first that is no place is named.
use Rattle.std.proofs.Common.{◌≡◌, ℕ, List, [], ◌∷◌, ◌++◌, true, false, codes, Option, Some, None, option_map, refl, ap, sym, subst, ◌∙◌, All}
use Rattle.std.specs.Fmt.{digits}
use Rattle.std.proofs.lemmas.List.Elements.{All-nil, All-cons, All-head}
use Rattle.public_suffix.specs.Rule.{SuffixRule}
use Rattle.serde_json.specs.Read.{read as read_text}
use Rattle.serde_json.proofs.OnLiterals.{serde_json_on_literals}
use Rattle.script_text.specs.declared.refused.Refused.{Refused}
use Rattle.script_text.specs.Drafts.{own_url, no_site, site_at, DraftAsk, DraftWhat, set, get_all, delete, all, clear, listen, changes, unlisten, post, hear, read, write, Draft}
use Rattle.script_text.specs.Readings.{is_safe, what_of, draft_of}
use Rattle.script_text.specs.Walk.{WalkedUrl, script_urls, IsSomePlace, IsNoPlace, IsFirstBad, bad_place}

-- what a step does that a JSON text is
abbrev what_in : List ℕ → Option DraftWhat
what_in t = option_map what_of (read_text t)

-- a step that says its URL alone
abbrev plain : DraftAsk
plain = record { url = codes "u"; site = own_url; initiator = None; safe_method = true; navigation = false }

-- the members that may be absent: the site is the step's own URL, no initiator, GET, and no navigation
defaults : (what_in (codes "{\"now\":1,\"op\":\"get\",\"url\":\"u\"}") ≡ Some (get_all plain))
    × (what_in (codes "{\"op\":\"set\",\"url\":\"u\",\"now\":2,\"line\":\"=\\r\"}") ≡ Some (set plain (61 ∷ 13 ∷ [])))
unfolding serde_json_on_literals
defaults = (refl, refl)

-- all of them said, one twice, of which the last counts
said : what_in (codes "{\"initiator\":\"i\",\"line\":\"a\",\"method\":\"POST\",\"navigation\":true,\"now\":3,\"op\":\"set\",\"site\":1,\"site\":\"s\",\"url\":\"u\"}")
    ≡ Some (set (record { url = codes "u"; site = site_at (codes "s"); initiator = Some (codes "i"); safe_method = false; navigation = true }) (codes "a"))
unfolding serde_json_on_literals
said = refl

-- null says that there is no site
null_site : what_in (codes "{\"now\":1,\"op\":\"get\",\"site\":null,\"url\":\"u\"}") ≡ Some (get_all (record plain { site = no_site }))
unfolding serde_json_on_literals
null_site = refl

-- the draft, section 5.2: the safe methods, in these very letters
safe_methods : (is_safe (codes "GET") ≡ true) × (is_safe (codes "HEAD") ≡ true) × (is_safe (codes "OPTIONS") ≡ true)
    × (is_safe (codes "TRACE") ≡ true) × (is_safe (codes "POST") ≡ false) × (is_safe (codes "get") ≡ false) × (is_safe [] ≡ false)
safe_methods = (refl, refl, refl, refl, refl, refl, refl)

-- steps that ask for no place
placeless : (what_in (codes "{\"host\":\"h\",\"name\":\"n\",\"now\":1,\"op\":\"delete\",\"path\":\"p\"}") ≡ Some (delete (codes "h") (codes "n") (codes "p")))
    × (what_in (codes "{\"now\":1,\"op\":\"all\"}") ≡ Some all) × (what_in (codes "{\"now\":1,\"op\":\"clear\"}") ≡ Some clear)
    × (what_in (codes "{\"listener\":2,\"now\":1,\"op\":\"changes\"}") ≡ Some (changes 2))
    × (what_in (codes "{\"listener\":3,\"now\":1,\"op\":\"unlisten\"}") ≡ Some (unlisten 3))
    × (what_in (codes "{\"now\":1,\"op\":\"post\"}") ≡ Some post)
    × (what_in (codes "{\"actor\":4,\"n\":18446744073709551615,\"now\":1,\"op\":\"hear\"}") ≡ Some (hear 4 18446744073709551615))
unfolding serde_json_on_literals
placeless = (refl, refl, refl, refl, refl, refl, refl)

-- listens of a fetch and of a renderer, reads and writes
listens : (what_in (codes "{\"now\":1,\"op\":\"listen\"}") ≡ Some (listen None None))
    × (what_in (codes "{\"name\":\"n\",\"now\":1,\"op\":\"listen\"}") ≡ Some (listen None (Some (codes "n"))))
    × (what_in (codes "{\"now\":1,\"op\":\"listen\",\"url\":\"u\"}") ≡ Some (listen (Some plain) None))
    × (what_in (codes "{\"now\":1,\"op\":\"read\"}") ≡ Some (read None))
    × (what_in (codes "{\"now\":1,\"op\":\"read\",\"url\":\"u\"}") ≡ Some (read (Some (codes "u"))))
    × (what_in (codes "{\"line\":\"l\",\"now\":1,\"op\":\"write\"}") ≡ Some (write (codes "l") None))
unfolding serde_json_on_literals
listens = (refl, refl, refl, refl, refl, refl)

-- ---- scripts

abbrev draft_in : List ℕ → Option Draft
draft_in t = option_map draft_of (read_text t)

-- what holds where a script says nothing but its actors, of which there are none
empty : draft_in (codes "{\"actors\":[]}") ≡ Some (record { suffixes = []; start = 0; limit = 1000000; actors = [] })
unfolding serde_json_on_literals
empty = refl

whole : draft_in (codes "{\"actors\":[{\"document\":\"d\",\"kind\":\"renderer\",\"site\":null,\"steps\":[]},{\"kind\":\"fetch\",\"steps\":[{\"now\":9,\"op\":\"post\"}]}],\"limit\":7,\"start\":5,\"suffixes\":\"com\"}")
    ≡ Some (record {
      suffixes = codes "com";
      start = 5;
      limit = 7;
      actors = record { sees = Some (record { document = codes "d"; site = None }); steps = [] }
          ∷ record { sees = None; steps = record { now = 9; what = post } ∷ [] } ∷ [];
    })
unfolding serde_json_on_literals
whole = refl

-- ---- the walk

abbrev walked : List ℕ → List ℕ → WalkedUrl
walked path url = record { path = path; url = url }

abbrev walk_in : List ℕ → Option (List WalkedUrl)
walk_in t = option_map (λ (draft : Draft). script_urls draft.actors) (draft_in t)

-- the URLs of two actors, however the text has them: a document comes before a site and both before the steps; in a
-- step the initiator comes before the site, and the site before the step's own URL; a site that is null or absent is
-- no URL
walk : walk_in (codes "{\"actors\":[{\"steps\":[{\"now\":1,\"op\":\"read\",\"url\":\"a\"},{\"line\":\"l\",\"now\":1,\"op\":\"write\"}],\"site\":\"b\",\"kind\":\"renderer\",\"document\":\"c\"},{\"kind\":\"fetch\",\"steps\":[{\"url\":\"d\",\"site\":\"e\",\"initiator\":\"f\",\"op\":\"get\",\"now\":1},{\"initiator\":\"g\",\"now\":1,\"op\":\"listen\",\"site\":null,\"url\":\"h\"}]}]}")
    ≡ Some (walked (codes "/actors/0/document") (codes "c") ∷ walked (codes "/actors/0/site") (codes "b")
    ∷ walked (codes "/actors/0/steps/0/url") (codes "a") ∷ walked (codes "/actors/1/steps/0/initiator") (codes "f")
    ∷ walked (codes "/actors/1/steps/0/site") (codes "e") ∷ walked (codes "/actors/1/steps/0/url") (codes "d")
    ∷ walked (codes "/actors/1/steps/1/initiator") (codes "g") ∷ walked (codes "/actors/1/steps/1/url") (codes "h") ∷ [])
unfolding digits serde_json_on_literals
walk = refl

-- behind a URL that is a place, one that is none is named
second_named : (rules : List SuffixRule) (first second : WalkedUrl) (rest : List WalkedUrl) → IsSomePlace rules first → IsNoPlace rules second.url
    → IsFirstBad rules (first ∷ second ∷ rest) (bad_place second.path)
second_named rules first second rest place none = record {
  before = first ∷ [];
  bad = second;
  behind = rest;
  list = refl;
  places = All-cons (IsSomePlace rules) first [] place (All-nil (IsSomePlace rules));
  no_place = none;
  is = refl;
}

named : (rules : List SuffixRule) (first : WalkedUrl) (rest : List WalkedUrl) (r : Refused) (before : List WalkedUrl) (bad : WalkedUrl) (behind : List WalkedUrl)
    → (IsSomePlace rules first → ⊥) → first ∷ rest ≡ before ++ bad ∷ behind → All (IsSomePlace rules) before → r ≡ bad_place bad.path
    → r ≡ bad_place first.path
named rules first rest r [] bad behind none list places is =
    let same : first ≡ bad = cc in is ∙ ap (λ (u : WalkedUrl). bad_place u.path) (sym same)
named rules first rest r (x ∷ xs) bad behind none list places is =
    let same : first ≡ x = cc in absurd (none (subst (IsSomePlace rules) (sym same) (All-head (IsSomePlace rules) x xs places)))

-- where the first URL is no place, no other is named
first_named : (rules : List SuffixRule) (first : WalkedUrl) (rest : List WalkedUrl) (r : Refused) → (IsSomePlace rules first → ⊥)
    → IsFirstBad rules (first ∷ rest) r → r ≡ bad_place first.path
first_named rules first rest r none h = named rules first rest r h.before h.bad h.behind none h.list h.places h.is
