-- Lemmas on the walk through the URLs of a script.
use Rattle.std.proofs.Common.{◌≡◌, ◌++◌, ◌+◌, ◌∙◌, suc, ℕ, List, [], ◌∷◌, Option, Some, None, length, refl, ap, sym, subst, arith, codes, All, append_assoc}
use Rattle.std.proofs.lemmas.List.Elements.{All-append, All-nil, All-cons}
use Rattle.public_suffix.specs.Rule.{SuffixRule}
use Rattle.site_match.specs.declared.place.Place.{Place}
use Rattle.site_match.specs.declared.fetch.FetchAsk.{FetchAsk}
use Rattle.script_text.specs.declared.actor.Actor.{Actor}
use Rattle.script_text.specs.declared.spot.Spot.{Spot}
use Rattle.script_text.specs.declared.spot.Spot.TheVariants.{OfActor, OfStep}
use Rattle.script_text.specs.declared.step.Step.{Step}
use Rattle.script_text.specs.declared.step.What.{What}
use Rattle.script_text.specs.declared.refused.Refused.{Refused}
use Rattle.script_text.specs.declared.refused.ScriptRefusal.{ScriptRefusal}
use Rattle.script_text.specs.declared.refused.ScriptRefusal.TheVariants as refusal
use Rattle.script_text.specs.Drafts.{DraftSite, own_url, no_site, site_at, DraftAsk, DraftWhat, set, get_all, delete, all, clear, listen, changes, unlisten, post, hear, read, write, DraftStep, DraftView, DraftActor, site_url}
use Rattle.script_text.specs.Walk.{IsPlace, IsNoPlace, WalkedUrl, url_at, urls_at, ask_urls, listen_urls, what_urls, step_urls, urls_from, view_urls, view_urls_if, actor_urls, IsSomePlace, bad_place, IsFirstBad, RefusesUrls}
use Rattle.script_text.specs.Placed.{IfThere, OneByOne, IsPlaceIf, IsSiteOf, IsAskOf, IsWhatOf, IsStepOf, View, IsViewIf, IsActorOf, site_by}

-- a URL alone that is no place
pub alone : (rules : List SuffixRule) (u : WalkedUrl) → IsNoPlace rules u.url → IsFirstBad rules (u ∷ []) (bad_place u.path)
alone rules u h = record { before = []; bad = u; behind = []; list = refl; places = All-nil _; no_place = h; is = refl }

first_in_front : (rules : List SuffixRule) (urls rest : List WalkedUrl) (r : Refused) → IsFirstBad rules urls r → IsFirstBad rules (urls ++ rest) r
first_in_front rules urls rest r h = record {
  before = h.before;
  bad = h.bad;
  behind = h.behind ++ rest;
  list = ap (λ l. l ++ rest) h.list ∙ append_assoc h.before (h.bad ∷ h.behind) rest;
  places = h.places;
  no_place = h.no_place;
  is = h.is;
}

first_behind : (rules : List SuffixRule) (before urls : List WalkedUrl) (r : Refused) → All (IsSomePlace rules) before
    → IsFirstBad rules urls r → IsFirstBad rules (before ++ urls) r
first_behind rules before urls r places h = record {
  before = before ++ h.before;
  bad = h.bad;
  behind = h.behind;
  list = ap (λ l. before ++ l) h.list ∙ sym (append_assoc before h.before (h.bad ∷ h.behind));
  places = All-append (IsSomePlace rules) before h.before places h.places;
  no_place = h.no_place;
  is = h.is;
}

-- what refuses some URLs refuses them with others behind
pub in_front : (rules : List SuffixRule) (urls rest : List WalkedUrl) (e : ScriptRefusal) → RefusesUrls rules urls e → RefusesUrls rules (urls ++ rest) e
in_front rules urls rest (refusal.Refused r) h = first_in_front rules urls rest r h
in_front rules urls rest refusal.NoMemory h = tt

-- and behind those that are places
pub behind : (rules : List SuffixRule) (before urls : List WalkedUrl) (e : ScriptRefusal) → All (IsSomePlace rules) before
    → RefusesUrls rules urls e → RefusesUrls rules (before ++ urls) e
behind rules before urls (refusal.Refused r) places h = first_behind rules before urls r places h
behind rules before urls refusal.NoMemory places h = tt

one_place : (rules : List SuffixRule) (u : WalkedUrl) → IsSomePlace rules u → All (IsSomePlace rules) (u ∷ [])
one_place rules u h = All-cons (IsSomePlace rules) u [] h (All-nil (IsSomePlace rules))

-- a URL that may be absent and is read is a place
pub some_place : (rules : List SuffixRule) (spot : Spot) (key : List ℕ) (url : Option (List ℕ)) (place : Option Place)
    → IsPlaceIf rules url place → All (IsSomePlace rules) (urls_at spot key url)
some_place rules spot key None place h = All-nil (IsSomePlace rules)
some_place rules spot key (Some url) None h = absurd h
some_place rules spot key (Some url) (Some place) h = one_place rules (url_at spot key url) (place, h)

-- ---- a step's own members

site_places : (rules : List SuffixRule) (spot : Spot) (own : Place) (site : DraftSite) (place : Option Place)
    → IsSiteOf rules own site place → All (IsSomePlace rules) (urls_at spot (codes "site") (site_url site))
site_places rules spot own own_url place h = All-nil (IsSomePlace rules)
site_places rules spot own no_site place h = All-nil (IsSomePlace rules)
site_places rules spot own (site_at url) place h = some_place rules spot (codes "site") (Some url) place h

-- where a step is read, each URL that it says is a place
ask_places : (rules : List SuffixRule) (spot : Spot) (draft : DraftAsk) (ask : FetchAsk) → IsAskOf rules draft ask
    → All (IsSomePlace rules) (ask_urls spot draft)
ask_places rules spot draft ask h =
    let P = IsSomePlace rules in
    let initiators = urls_at spot (codes "initiator") draft.initiator in
    let sites = urls_at spot (codes "site") (site_url draft.site) in
    let own = url_at spot (codes "url") draft.url in
    All-append P initiators (sites ++ own ∷ []) (some_place rules spot (codes "initiator") draft.initiator ask.initiator h.initiator)
    (All-append P sites (own ∷ []) (site_places rules spot ask.place draft.site ask.site h.site) (one_place rules own (ask.place, h.place)))

listen_places : (rules : List SuffixRule) (spot : Spot) (draft : Option DraftAsk) (ask : Option FetchAsk) → IfThere (IsAskOf rules) draft ask
    → All (IsSomePlace rules) (listen_urls spot draft)
listen_places rules spot None ask h = All-nil (IsSomePlace rules)
listen_places rules spot (Some draft) None h = absurd h
listen_places rules spot (Some draft) (Some ask) h = ask_places rules spot draft ask h

what_places : (rules : List SuffixRule) (spot : Spot) (draft : DraftWhat) (what : What) → IsWhatOf rules draft what
    → All (IsSomePlace rules) (what_urls spot draft)
what_places rules spot (set draft line) what h = ask_places rules spot draft h.0 h.1
what_places rules spot (get_all draft) what h = ask_places rules spot draft h.0 h.1
what_places rules spot (delete host name path) what h = All-nil (IsSomePlace rules)
what_places rules spot all what h = All-nil (IsSomePlace rules)
what_places rules spot clear what h = All-nil (IsSomePlace rules)
what_places rules spot (listen draft name) what h = listen_places rules spot draft h.0 h.1
what_places rules spot (changes listener) what h = All-nil (IsSomePlace rules)
what_places rules spot (unlisten listener) what h = All-nil (IsSomePlace rules)
what_places rules spot post what h = All-nil (IsSomePlace rules)
what_places rules spot (hear actor n) what h = All-nil (IsSomePlace rules)
what_places rules spot (read url) what h = some_place rules spot (codes "url") url h.0 h.1
what_places rules spot (write line url) what h = some_place rules spot (codes "url") url h.0 h.1

-- what refuses a step's initiator, site or own URL refuses the step
pub initiator_refused : (rules : List SuffixRule) (spot : Spot) (draft : DraftAsk) (e : ScriptRefusal)
    → RefusesUrls rules (urls_at spot (codes "initiator") draft.initiator) e → RefusesUrls rules (ask_urls spot draft) e
initiator_refused rules spot draft e h = in_front rules (urls_at spot (codes "initiator") draft.initiator) _ e h

pub site_refused : (rules : List SuffixRule) (spot : Spot) (draft : DraftAsk) (initiator : Option Place) (e : ScriptRefusal)
    → IsPlaceIf rules draft.initiator initiator
    → RefusesUrls rules (urls_at spot (codes "site") (site_url draft.site)) e → RefusesUrls rules (ask_urls spot draft) e
site_refused rules spot draft initiator e first h =
    let initiators = urls_at spot (codes "initiator") draft.initiator in
    behind rules initiators _ e (some_place rules spot (codes "initiator") draft.initiator initiator first)
    (in_front rules (urls_at spot (codes "site") (site_url draft.site)) (url_at spot (codes "url") draft.url ∷ []) e h)

pub url_refused : (rules : List SuffixRule) (spot : Spot) (draft : DraftAsk) (initiator site : Option Place) (e : ScriptRefusal)
    → IsPlaceIf rules draft.initiator initiator → IsPlaceIf rules (site_url draft.site) site
    → RefusesUrls rules (url_at spot (codes "url") draft.url ∷ []) e → RefusesUrls rules (ask_urls spot draft) e
url_refused rules spot draft initiator site e first second h =
    let initiators = urls_at spot (codes "initiator") draft.initiator in
    let sites = urls_at spot (codes "site") (site_url draft.site) in
    behind rules initiators _ e (some_place rules spot (codes "initiator") draft.initiator initiator first)
    (behind rules sites (url_at spot (codes "url") draft.url ∷ []) e
    (some_place rules spot (codes "site") (site_url draft.site) site second) h)

-- the site of a step is the written one, at the place of the step
pub site_read : (rules : List SuffixRule) (site : DraftSite) (own : Place) (written : Option Place)
    → IsPlaceIf rules (site_url site) written → IsSiteOf rules own site (site_by site own written)
site_read rules own_url own written h = refl
site_read rules no_site own written h = refl
site_read rules (site_at url) own written h = h

-- ---- lists

pub length-one_by_one : {X Y : Type 0} (R : X → Y → Type 0) (xs : List X) (ys : List Y) → OneByOne R xs ys → length ys ≡ length xs
length-one_by_one R [] [] h = refl
length-one_by_one R [] (y ∷ ys) h = absurd h
length-one_by_one R (x ∷ xs) [] h = absurd h
length-one_by_one R (x ∷ xs) (y ∷ ys) h = ap suc (length-one_by_one R xs ys h.1)

pub one_by_one_push : {X Y : Type 0} (R : X → Y → Type 0) (xs : List X) (ys : List Y) (x : X) (y : Y)
    → OneByOne R xs ys → R x y → OneByOne R (xs ++ x ∷ []) (ys ++ y ∷ [])
one_by_one_push R [] [] x y h f = (f, tt)
one_by_one_push R [] (z ∷ ys) x y h f = absurd h
one_by_one_push R (z ∷ xs) [] x y h f = absurd h
one_by_one_push R (w ∷ xs) (z ∷ ys) x y h f = (h.0, one_by_one_push R xs ys x y h.1 f)

urls-append : {X : Type 0} (urls : ℕ → X → List WalkedUrl) (index : ℕ) (xs ys : List X)
    → urls_from urls index (xs ++ ys) ≡ urls_from urls index xs ++ urls_from urls (index + length xs) ys
urls-append urls index [] ys = let same : index ≡ index + 0 = omega arith in ap (λ i. urls_from urls i ys) same
urls-append urls index (x ∷ xs) ys =
    let here = urls index x in
    let same : suc index + length xs ≡ index + suc (length xs) = omega arith in
    ap (λ l. here ++ l) (urls-append urls (suc index) xs ys ∙ ap (λ i. urls_from urls (suc index) xs ++ urls_from urls i ys) same)
    ∙ sym (append_assoc here (urls_from urls (suc index) xs) (urls_from urls (index + suc (length xs)) ys))

-- where each is read, each URL is a place
pub list_places : {X Y : Type 0} (rules : List SuffixRule) (urls : ℕ → X → List WalkedUrl) (R : X → Y → Type 0)
    → ((i : ℕ) (x : X) (y : Y) → R x y → All (IsSomePlace rules) (urls i x))
    → (index : ℕ) (xs : List X) (ys : List Y) → OneByOne R xs ys → All (IsSomePlace rules) (urls_from urls index xs)
list_places rules urls R each index [] ys h = All-nil (IsSomePlace rules)
list_places rules urls R each index (x ∷ xs) [] h = absurd h
list_places rules urls R each index (x ∷ xs) (y ∷ ys) h =
    All-append (IsSomePlace rules) (urls index x) (urls_from urls (suc index) xs) (each index x y h.0)
    (list_places rules urls R each (suc index) xs ys h.1)

-- what refuses one behind some that are read refuses them all
pub list_refused : {X Y : Type 0} (rules : List SuffixRule) (urls : ℕ → X → List WalkedUrl) (R : X → Y → Type 0)
    → ((i : ℕ) (x : X) (y : Y) → R x y → All (IsSomePlace rules) (urls i x))
    → (xs rest : List X) (ys : List Y) (x : X) (e : ScriptRefusal) → OneByOne R xs ys
    → RefusesUrls rules (urls (length xs) x) e → RefusesUrls rules (urls_from urls 0 (xs ++ x ∷ rest)) e
list_refused rules urls R each xs rest ys x e h refused =
    let same : length xs ≡ 0 + length xs = omega arith in
    let here : RefusesUrls rules (urls (0 + length xs) x) e = subst (λ i. RefusesUrls rules (urls i x) e) same refused in
    subst (λ us. RefusesUrls rules us e) (sym (urls-append urls 0 xs (x ∷ rest)))
    (behind rules (urls_from urls 0 xs) (urls_from urls (0 + length xs) (x ∷ rest)) e (list_places rules urls R each 0 xs ys h)
    (in_front rules (urls (0 + length xs) x) (urls_from urls (suc (0 + length xs)) rest) e here))

-- ---- steps and actors

pub step_places : (rules : List SuffixRule) (actor index : ℕ) (draft : DraftStep) (step : Step) → IsStepOf rules draft step
    → All (IsSomePlace rules) (step_urls actor index draft)
step_places rules actor index draft step h = what_places rules (OfStep actor index) draft.what step.what h.what

view_places : (rules : List SuffixRule) (spot : Spot) (draft : Option DraftView) (sees : Option View)
    → IsViewIf rules draft sees → All (IsSomePlace rules) (view_urls_if spot draft)
view_places rules spot None sees h = All-nil (IsSomePlace rules)
view_places rules spot (Some draft) None h = absurd h
view_places rules spot (Some draft) (Some sees) h =
    All-cons (IsSomePlace rules) (url_at spot (codes "document") draft.document) (urls_at spot (codes "site") draft.site) (sees.0, h.document)
    (some_place rules spot (codes "site") draft.site sees.1 h.site)

-- what refuses a renderer's document, its site or a step refuses the actor
pub document_refused : (rules : List SuffixRule) (spot : Spot) (draft : DraftView) (e : ScriptRefusal)
    → RefusesUrls rules (url_at spot (codes "document") draft.document ∷ []) e → RefusesUrls rules (view_urls spot draft) e
document_refused rules spot draft e h =
    in_front rules (url_at spot (codes "document") draft.document ∷ []) (urls_at spot (codes "site") draft.site) e h

pub view_site_refused : (rules : List SuffixRule) (spot : Spot) (draft : DraftView) (document : Place) (e : ScriptRefusal)
    → IsPlace rules draft.document document → RefusesUrls rules (urls_at spot (codes "site") draft.site) e
    → RefusesUrls rules (view_urls spot draft) e
view_site_refused rules spot draft document e first h =
    let own = url_at spot (codes "document") draft.document in
    behind rules (own ∷ []) (urls_at spot (codes "site") draft.site) e (one_place rules own (document, first)) h

pub view_refused : (rules : List SuffixRule) (index : ℕ) (draft : DraftActor) (e : ScriptRefusal)
    → RefusesUrls rules (view_urls_if (OfActor index) draft.sees) e → RefusesUrls rules (actor_urls index draft) e
view_refused rules index draft e h = in_front rules (view_urls_if (OfActor index) draft.sees) (urls_from (step_urls index) 0 draft.steps) e h

pub steps_refused : (rules : List SuffixRule) (index : ℕ) (draft : DraftActor) (sees : Option View) (e : ScriptRefusal)
    → IsViewIf rules draft.sees sees → RefusesUrls rules (urls_from (step_urls index) 0 draft.steps) e
    → RefusesUrls rules (actor_urls index draft) e
steps_refused rules index draft sees e first h =
    behind rules (view_urls_if (OfActor index) draft.sees) (urls_from (step_urls index) 0 draft.steps) e
    (view_places rules (OfActor index) draft.sees sees first) h

pub actor_places : (rules : List SuffixRule) (index : ℕ) (draft : DraftActor) (actor : Actor) → IsActorOf rules draft actor
    → All (IsSomePlace rules) (actor_urls index draft)
actor_places rules index draft actor h =
    All-append (IsSomePlace rules) (view_urls_if (OfActor index) draft.sees) (urls_from (step_urls index) 0 draft.steps)
    (view_places rules (OfActor index) draft.sees actor.view h.sees)
    (list_places rules (step_urls index) (IsStepOf rules) (step_places rules index) 0 draft.steps actor.steps h.steps)
