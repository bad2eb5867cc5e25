-- What is known of a script that is a written one.
use Rattle.std.proofs.Common.{◌≡◌, ◌+◌, ◌∙◌, zero, suc, ℕ, List, [], ◌∷◌, length, take, sum_by, slice_get, Bool, true, false, Option, Some, None, is_some, IfSome, refl, ap, sym, subst, arith, if◌then◌else◌}
use Rattle.std.proofs.lemmas.List.Sums.{sum_by-cons}
use Rattle.public_suffix.specs.Rule.{SuffixRule}
use Rattle.site_match.specs.declared.place.Place.{Place}
use Rattle.site_match.specs.declared.fetch.FetchAsk.{FetchAsk}
use Rattle.script_text.specs.declared.actor.Actor.{Actor}
use Rattle.script_text.specs.declared.step.Step.{Step}
use Rattle.script_text.specs.declared.step.What.{What}
use Rattle.script_text.specs.Admitted.{IsPlaced, IsPlacedAsk, IsPlacedView, IsPlacedWhat, MayListen, Where, IsListener, IsHeard, MayStand, listens, listens_before}
use Rattle.script_text.specs.Counts.{step_count}
use Rattle.script_text.specs.Drafts.{DraftSite, own_url, no_site, site_at, DraftAsk, DraftWhat, set, get_all, delete, all, clear, listen, changes, unlisten, post, hear, read, write, DraftStep, DraftView, DraftActor}
use Rattle.script_text.specs.Placed.{IfThere, OneByOne, IsPlaceIf, IsSiteOf, IsAskOf, IsWhatOf, IsStepOf, View, IsViewIf, IsActorOf}
use Rattle.script_text.proofs.WalkLemmas.{length-one_by_one}

-- ---- places

placed_if : (rules : List SuffixRule) (url : Option (List ℕ)) (place : Option Place) → IsPlaceIf rules url place → IfSome place (IsPlaced rules)
placed_if rules url None h = tt
placed_if rules None (Some place) h = absurd h
placed_if rules (Some url) (Some place) h = (url, h)

placed_site : (rules : List SuffixRule) (url : List ℕ) (own : Place) (site : DraftSite) (place : Option Place) → IsPlaced rules own
    → IsSiteOf rules own site place → IfSome place (IsPlaced rules)
placed_site rules url own own_url place is h = rw h is
placed_site rules url own no_site place is h = rw h tt
placed_site rules url own (site_at text) place is h = placed_if rules (Some text) place h

placed_ask : (rules : List SuffixRule) (draft : DraftAsk) (ask : FetchAsk) → IsAskOf rules draft ask → IsPlacedAsk rules ask
placed_ask rules draft ask h = record {
  place = (draft.url, h.place);
  site = placed_site rules draft.url ask.place draft.site ask.site (draft.url, h.place) h.site;
  initiator = placed_if rules draft.initiator ask.initiator h.initiator;
}

placed_ask_if : (rules : List SuffixRule) (draft : Option DraftAsk) (ask : Option FetchAsk) → IfThere (IsAskOf rules) draft ask
    → IfSome ask (IsPlacedAsk rules)
placed_ask_if rules draft None h = tt
placed_ask_if rules None (Some ask) h = absurd h
placed_ask_if rules (Some draft) (Some ask) h = placed_ask rules draft ask h

pub placed_view : (rules : List SuffixRule) (draft : Option DraftView) (sees : Option View) → IsViewIf rules draft sees
    → IfSome sees (IsPlacedView rules)
placed_view rules draft None h = tt
placed_view rules None (Some sees) h = absurd h
placed_view rules (Some draft) (Some sees) h =
    record { document = (draft.document, h.document); site = placed_if rules draft.site sees.1 h.site }

pub placed_what : (rules : List SuffixRule) (draft : DraftWhat) (w : What) → IsWhatOf rules draft w → IsPlacedWhat rules w
placed_what rules (set draft line) w h = rw h.2 (placed_ask rules draft h.0 h.1)
placed_what rules (get_all draft) w h = rw h.2 (placed_ask rules draft h.0 h.1)
placed_what rules (delete host name path) w h = rw h tt
placed_what rules all w h = rw h tt
placed_what rules clear w h = rw h tt
placed_what rules (listen draft name) w h = rw h.2 (placed_ask_if rules draft h.0 h.1)
placed_what rules (changes listener) w h = rw h tt
placed_what rules (unlisten listener) w h = rw h tt
placed_what rules post w h = rw h tt
placed_what rules (hear actor n) w h = rw h tt
placed_what rules (read url) w h = rw h.2 (placed_if rules url h.0 h.1)
placed_what rules (write line url) w h = rw h.2 (placed_if rules url h.0 h.1)

-- ---- steps

-- a written step may stand there
abbrev pub DraftMayStand : Where → DraftWhat → Type 0
DraftMayStand at (set ask line) = at.renders ≡ false
DraftMayStand at (get_all ask) = at.renders ≡ false
DraftMayStand at (delete host name path) = at.renders ≡ false
DraftMayStand at all = at.renders ≡ false
DraftMayStand at clear = at.renders ≡ false
DraftMayStand at (listen ask name) = MayListen at.renders (is_some ask) name
DraftMayStand at (changes listener) = IsListener at listener
DraftMayStand at (unlisten listener) = IsListener at listener
DraftMayStand at post = Unit {0}
DraftMayStand at (hear actor n) = IsHeard at actor n
DraftMayStand at (read url) = at.renders ≡ true
DraftMayStand at (write line url) = at.renders ≡ true

pub same_there : {X Y : Type 0} (R : X → Y → Type 0) (x : Option X) (y : Option Y) → IfThere R x y → is_some y ≡ is_some x
same_there R None None h = refl
same_there R None (Some y) h = absurd h
same_there R (Some x) None h = absurd h
same_there R (Some x) (Some y) h = refl

pub stands_as_written : (rules : List SuffixRule) (at : Where) (draft : DraftWhat) (w : What) → IsWhatOf rules draft w
    → DraftMayStand at draft → MayStand at w
stands_as_written rules at (set draft line) w h k = rw h.2 k
stands_as_written rules at (get_all draft) w h k = rw h.2 k
stands_as_written rules at (delete host name path) w h k = rw h k
stands_as_written rules at all w h k = rw h k
stands_as_written rules at clear w h k = rw h k
stands_as_written rules at (listen draft name) w h k =
    let same : is_some h.0 ≡ is_some draft = same_there (IsAskOf rules) draft h.0 h.1 in
    rw h.2 (subst (λ says. MayListen at.renders says name) (sym same) k)
stands_as_written rules at (changes listener) w h k = rw h k
stands_as_written rules at (unlisten listener) w h k = rw h k
stands_as_written rules at post w h k = rw h tt
stands_as_written rules at (hear actor n) w h k = rw h k
stands_as_written rules at (read url) w h k = rw h.2 k
stands_as_written rules at (write line url) w h k = rw h.2 k

-- whether a written step is a listen
abbrev pub draft_listens : DraftWhat → Bool
draft_listens (listen ask name) = true
draft_listens _ = false

listens_as_written : (rules : List SuffixRule) (draft : DraftWhat) (w : What) → IsWhatOf rules draft w → listens w ≡ draft_listens draft
listens_as_written rules (set draft line) w h = rw h.2 refl
listens_as_written rules (get_all draft) w h = rw h.2 refl
listens_as_written rules (delete host name path) w h = rw h refl
listens_as_written rules all w h = rw h refl
listens_as_written rules clear w h = rw h refl
listens_as_written rules (listen draft name) w h = rw h.2 refl
listens_as_written rules (changes listener) w h = rw h refl
listens_as_written rules (unlisten listener) w h = rw h refl
listens_as_written rules post w h = rw h refl
listens_as_written rules (hear actor n) w h = rw h refl
listens_as_written rules (read url) w h = rw h.2 refl
listens_as_written rules (write line url) w h = rw h.2 refl

-- ---- lists

-- what stands at an index comes of what is written there
pub one_by_one_at : {X Y : Type 0} (R : X → Y → Type 0) (xs : List X) (ys : List Y) (i : ℕ) (y : Y) → OneByOne R xs ys → slice_get ys i ≡ Some y
    → (x : X) × (slice_get xs i ≡ Some x) × R x y
one_by_one_at R [] [] i y h e = absurd cc
one_by_one_at R [] (z ∷ ys) i y h e = absurd h
one_by_one_at R (x ∷ xs) [] i y h e = absurd h
one_by_one_at R (x ∷ xs) (z ∷ ys) zero y h e = let same : z ≡ y = cc in (x, refl, subst (R x) same h.0)
one_by_one_at R (x ∷ xs) (z ∷ ys) (suc i) y h e = one_by_one_at R xs ys i y h.1 e

-- so for the listens before an index
abbrev pub draft_listens_before : List DraftStep → ℕ → ℕ
draft_listens_before [] n = 0
draft_listens_before (d ∷ ds) zero = 0
draft_listens_before (d ∷ ds) (suc n) = if draft_listens d.what then suc (draft_listens_before ds n) else draft_listens_before ds n

add_if : (b : Bool) (n : ℕ) → (if b then 1 else 0) + n ≡ (if b then suc n else n)
add_if true n = omega arith
add_if false n = omega arith

-- what a step counts for
abbrev worth : Step → ℕ
worth step = if listens step.what then 1 else 0

pub listens_before_as_written : (rules : List SuffixRule) (ds : List DraftStep) (ss : List Step) (n : ℕ) → OneByOne (IsStepOf rules) ds ss
    → listens_before ss n ≡ draft_listens_before ds n
listens_before_as_written rules [] [] zero h = refl
listens_before_as_written rules [] [] (suc n) h = refl
listens_before_as_written rules [] (s ∷ ss) n h = absurd h
listens_before_as_written rules (d ∷ ds) [] n h = absurd h
listens_before_as_written rules (d ∷ ds) (s ∷ ss) zero h = refl
listens_before_as_written rules (d ∷ ds) (s ∷ ss) (suc n) h =
    sum_by-cons worth s (take n ss)
    ∙ (ap (λ k. worth s + k) (listens_before_as_written rules ds ss n h.1)
    ∙ (add_if (listens s.what) (draft_listens_before ds n)
    ∙ ap (λ b. if b then suc (draft_listens_before ds n) else draft_listens_before ds n) (listens_as_written rules d.what s.what h.0.what)))

-- and for how many steps there are
pub step_count_as_written : (rules : List SuffixRule) (ds : List DraftActor) (xs : List Actor) → OneByOne (IsActorOf rules) ds xs
    → sum_by (λ (actor : Actor). length actor.steps) xs ≡ step_count ds
step_count_as_written rules [] [] h = refl
step_count_as_written rules [] (x ∷ xs) h = absurd h
step_count_as_written rules (d ∷ ds) [] h = absurd h
step_count_as_written rules (d ∷ ds) (x ∷ xs) h =
    let here = λ (actor : Actor). length actor.steps in
    let there = λ (actor : DraftActor). length actor.steps in
    sum_by-cons here x xs ∙ (ap (λ n. n + sum_by here xs) (length-one_by_one (IsStepOf rules) d.steps x.steps h.0.steps)
    ∙ (ap (λ n. length d.steps + n) (step_count_as_written rules ds xs h.1) ∙ sym (sum_by-cons there d ds)))
