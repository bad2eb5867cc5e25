-- No value is refused by two names: each name keeps out those that apply after it.
use Rattle.std.proofs.Common.{◌≡◌, ◌≤◌, ◌++◌, ◌∙◌, suc, ℕ, List, [], ◌∷◌, All, take, length, IsErr, inl, inr, refl, sym, subst, arith}
use Rattle.std.proofs.lemmas.List.Elements.{All-head, All-tail}
use Rattle.std.proofs.lemmas.List.Sums.{sum_by-take-le}
use Rattle.serde_json.specs.Data.{Data}
use Rattle.public_suffix.specs.Rule.{SuffixRule}
use Rattle.public_suffix.specs.declared.refusal.SuffixRefusal.TheVariants as suffix_refusal
use Rattle.site_match.specs.declared.place.Place.{Place}
use Rattle.site_match.specs.declared.place.PlaceRefusal.TheVariants as place_refusal
use Rattle.script_text.specs.declared.refused.Refusal.TheVariants as name
use Rattle.script_text.specs.Counts.{step_count, HasFew, IsTooMany}
use Rattle.script_text.specs.Drafts.{DraftActor}
use Rattle.script_text.specs.Placed.{IsRules, IsNoRules, IsActorOf}
use Rattle.script_text.specs.Readings.{draft_of}
use Rattle.script_text.specs.Scripts.{IsRefusedAs}
use Rattle.script_text.specs.Walk.{IsPlace, IsNoPlace, WalkedUrl, actor_urls, script_urls, IsSomePlace, IsFirstBad, bad_place}
use Rattle.script_text.proofs.WalkLemmas.{list_places, actor_places}

-- a value isn't refused as bytes are
never : (d : Data) (path : List ℕ) → (IsRefusedAs d name.TooLarge path → ⊥) × (IsRefusedAs d name.NotJson path → ⊥)
never d path = (λ h. h, λ h. h)

-- a value that isn't of the form is refused as such alone
other_form : (d : Data) (path other : List ℕ) → IsRefusedAs d name.Shape path
    → (IsRefusedAs d name.TooMany other → ⊥) × (IsRefusedAs d name.BadMoment other → ⊥) × (IsRefusedAs d name.BadSuffixes other → ⊥)
    × (IsRefusedAs d name.BadPlace other → ⊥) × (IsRefusedAs d name.Deadlock other → ⊥)
other_form d path other amiss = (
  λ h. let form = h.0 in absurd cc,
  λ h. let form = h.0 in absurd cc,
  λ h. let form = h.0.form in absurd cc,
  λ h. let form = h.0.form in absurd cc,
  λ h. let form = h.0.form in absurd cc,
)

-- with a moment out of range neither its suffix list, nor a URL, nor a deadlock is named
bad_moment : (d : Data) (path other : List ℕ) → IsRefusedAs d name.BadMoment path
    → (IsRefusedAs d name.BadSuffixes other → ⊥) × (IsRefusedAs d name.BadPlace other → ⊥) × (IsRefusedAs d name.Deadlock other → ⊥)
bad_moment d path other amiss =
    let moments = amiss.2 in
    (λ h. let timely = h.0.moments in absurd cc, λ h. let timely = h.0.moments in absurd cc, λ h. let timely = h.0.moments in absurd cc)

step_count_within : (actors : List DraftActor) (n : ℕ) → step_count (take n actors) ≤ step_count actors
step_count_within actors n = sum_by-take-le (λ (actor : DraftActor). length actor.steps) actors n

few_or_too_many : (actors : List DraftActor) (path : List ℕ) → HasFew actors → IsTooMany actors path → ⊥
few_or_too_many actors path few (inl more) = absurd (omega (arith, few.actors_within, more.0))
few_or_too_many actors path few (inr more) =
    absurd (omega (arith, few.steps_within, more.1.1.over, step_count_within actors (suc more.1.0)))

-- nor with too many actors or steps a moment, its suffix list, a URL or a deadlock
too_many : (d : Data) (path other : List ℕ) → IsRefusedAs d name.TooMany path
    → (IsRefusedAs d name.BadMoment other → ⊥) × (IsRefusedAs d name.BadSuffixes other → ⊥) × (IsRefusedAs d name.BadPlace other → ⊥)
    × (IsRefusedAs d name.Deadlock other → ⊥)
too_many d path other many =
    let drafts = (draft_of d).actors in (
      λ h. few_or_too_many drafts path h.1 many.1,
      λ h. few_or_too_many drafts path h.0.few many.1,
      λ h. few_or_too_many drafts path h.0.few many.1,
      λ h. few_or_too_many drafts path h.0.few many.1,
    )

list_or_none : (text : List ℕ) (rules : List SuffixRule) → IsRules text rules → IsNoRules text → ⊥
list_or_none text rules list (suffix_refusal.BadRule line, other, bad) = let none = list.0 in absurd cc
list_or_none text rules list (suffix_refusal.TooMany, other, more) = absurd (omega (arith, list.1, more.1))
list_or_none text rules list (suffix_refusal.NoMemory, other, any) = absurd (other refl)

-- nor with a bad suffix list a URL or a deadlock
bad_suffixes : (d : Data) (path other : List ℕ) → IsRefusedAs d name.BadSuffixes path
    → (IsRefusedAs d name.BadPlace other → ⊥) × (IsRefusedAs d name.Deadlock other → ⊥)
bad_suffixes d path other bad =
    let text = (draft_of d).suffixes in
    (λ h. list_or_none text h.1.0 h.1.1 bad.1, λ h. list_or_none text h.1.said.suffixes h.1.placed.suffixes bad.1)

place_or_none : (rules : List SuffixRule) (url : List ℕ) (place : Place) → IsPlace rules url place → IsNoPlace rules url → ⊥
place_or_none rules url place is (place_refusal.BadUrl, other, fails) = let never = subst (λ r. IsErr r) is.1 fails in absurd cc
place_or_none rules url place is (place_refusal.Scheme, other, h) =
    let same : h.0 ≡ is.0 = cc in
    let scheme = is.2.scheme in
    let none = rw same at h.2 in
    absurd cc
place_or_none rules url place is (place_refusal.DotHost, other, h) =
    let same : h.0 ≡ is.0 = cc in
    let no_dot = is.2.no_dot in
    let dot = rw same at h.3 in
    absurd cc
place_or_none rules url place is (place_refusal.NoMemory, other, any) = absurd (other refl)

-- nor with a URL that is no place a deadlock: the list is read, and the URL isn't
no_bad_url : (rules : List SuffixRule) (before : List WalkedUrl) (bad : WalkedUrl) (behind : List WalkedUrl)
    → All (IsSomePlace rules) (before ++ bad ∷ behind) → IsNoPlace rules bad.url → ⊥
no_bad_url rules [] bad behind places none =
    let here = All-head (IsSomePlace rules) bad behind places in
    place_or_none rules bad.url here.0 here.1 none
no_bad_url rules (u ∷ before) bad behind places none =
    no_bad_url rules before bad behind (All-tail (IsSomePlace rules) u (before ++ bad ∷ behind) places) none

bad_place_alone : (d : Data) (path other : List ℕ) → IsRefusedAs d name.BadPlace path → IsRefusedAs d name.Deadlock other → ⊥
bad_place_alone d path other bad h =
    let said = h.1.said in
    let read : bad.1.0 ≡ said.suffixes = bad.1.1.2 ∙ sym h.1.placed.suffixes.2 in
    let first = subst (λ rules. IsFirstBad rules (script_urls (draft_of d).actors) (bad_place path)) read bad.1.2 in
    let places = list_places said.suffixes actor_urls (IsActorOf said.suffixes) (actor_places said.suffixes) 0 (draft_of d).actors said.actors h.1.placed.actors in
    no_bad_url said.suffixes first.before first.bad first.behind (subst (λ urls. All (IsSomePlace said.suffixes) urls) first.list places) first.no_place
