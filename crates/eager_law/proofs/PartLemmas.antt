-- The cookies of loaded keys, and those of the others: what keys, ids and a purge have to do with
-- them.
use Rattle.std.proofs.Common.{◌≡◌, ℕ, List, Bool, true, false, refl, sym, ap, ◌∙◌}
use Rattle.std.specs.Prelude.{filter, map, not, ◌&&◌, bytes_eq}
use Rattle.std.specs.List.{AllByRecursion}
use Rattle.std.specs.Ordering.{is_eq, ordering_then}
use Rattle.std.specs.declared.cmp.Ordering.{Ordering}
use Rattle.std.specs.declared.cmp.Ordering.TheVariants.{Less, Equal, Greater}
use Rattle.std.proofs.lemmas.Map.Text.{is_eq-slice_cmp}
use Rattle.std.proofs.lemmas.Slice.Eq.{bytes_eq-Decides}
use Rattle.jar_types.specs.declared.change.Change.{Change}
use Rattle.jar_types.specs.declared.cookie.Cookie.{Cookie}
use Rattle.jar_types.specs.declared.cookie.CookieId.{CookieId}
use Rattle.jar_types.specs.Changes.{Changed, expired}
use Rattle.jar_types.specs.Ids.{id_cmp, id_of, same_id, text_cmp}
use Rattle.jar_types.specs.Journals.{Rules, key_at}
use Rattle.jar_types.specs.Loads.{KeyLoads, is_loaded}
use Rattle.jar_types.specs.Purges.{has_key, is_expired, is_spent, purge, purged}
use Rattle.eager_law.proofs.MemberLemmas.{always, weaker, kept_all}
use Rattle.eager_law.proofs.FilterLemmas.{swapped, within}

-- the cookies of loaded keys
abbrev pub part : KeyLoads → List Cookie → List Cookie
part l cookies = filter (λ c. is_loaded c.key l) cookies

-- the others
abbrev pub rest : KeyLoads → List Cookie → List Cookie
rest l cookies = filter (λ c. not (is_loaded c.key l)) cookies

-- the same changes, of the cookies of loaded keys
abbrev pub part_of : KeyLoads → Changed → Changed
part_of l all = record { cookies = part l all.cookies; changes = all.changes }

-- the cookie is kept under the key of its host
abbrev pub IsKeyed : Rules → Cookie → Type 0
IsKeyed r c = c.key ≡ key_at r c.host

-- ---- truth values

pub both : (a b : Bool) → (a && b) ≡ true → (a ≡ true) × (b ≡ true)
both true b h = (refl, h)
both false b h = absurd cc

-- what holds where a test passes fails where it can't
pub turned : (a b : Bool) → (a ≡ true → b ≡ true) → not b ≡ true → not a ≡ true
turned true true h e = e
turned true false h e = let no : false ≡ true = h refl in absurd cc
turned false b h e = refl

pub refused : (a b : Bool) → (a ≡ true → b ≡ true) → b ≡ false → a ≡ false
refused true b h e = let yes : b ≡ true = h refl in absurd cc
refused false b h e = refl

pub denied : (b : Bool) → not b ≡ true → b ≡ false
denied true e = absurd cc
denied false e = refl

-- ---- ids and keys

first_equal : (v w : Ordering) → is_eq (ordering_then v w) ≡ true → is_eq v ≡ true
first_equal Less w e = absurd cc
first_equal Equal w e = refl
first_equal Greater w e = absurd cc

pub same_text : (a b : List ℕ) → bytes_eq a b ≡ true → a ≡ b
same_text a b e = (bytes_eq-Decides a b).0 e

pub text_itself : (a : List ℕ) → bytes_eq a a ≡ true
text_itself a = (bytes_eq-Decides a a).1 refl

pub same_texts : (a b : List ℕ) → is_eq (text_cmp a b) ≡ true → a ≡ b
same_texts a b e = same_text a b (sym (is_eq-slice_cmp a b) ∙ e)

-- ids that are equal have one host
pub same_hosts : (i j : CookieId) → is_eq (id_cmp i j) ≡ true → i.host ≡ j.host
same_hosts i j e =
    same_texts i.host j.host
    (first_equal (text_cmp i.host j.host) (ordering_then (text_cmp i.name j.name) (text_cmp i.path j.path)) e)

-- and so cookies of one id have one key
pub same_keys : (r : Rules) (c d : Cookie) → IsKeyed r c → IsKeyed r d → same_id c d ≡ true → c.key ≡ d.key
same_keys r c d k k' e = k ∙ ap (key_at r) (same_hosts (id_of c) (id_of d) e) ∙ sym k'

-- a cookie of a loaded key is loaded
pub key_loaded : (l : KeyLoads) (key : List ℕ) (c : Cookie) → is_loaded key l ≡ true → has_key key c ≡ true
    → is_loaded c.key l ≡ true
key_loaded l key c there e = ap (λ k. is_loaded k l) (same_text c.key key e) ∙ there

-- and one of the id of a loaded one
pub id_loaded : (r : Rules) (l : KeyLoads) (c d : Cookie) → IsKeyed r c → is_loaded c.key l ≡ true
    → IsKeyed r d → same_id c d ≡ true
    → is_loaded d.key l ≡ true
id_loaded r l c d k there k' e = ap (λ k. is_loaded k l) (sym (same_keys r c d k k' e)) ∙ there

-- ---- tests that only loaded cookies pass

-- what is gone from all is gone from the part
pub gone_part : (l : KeyLoads) (t : Cookie → Bool) (cookies : List Cookie)
    → filter (λ c. not (t c)) (part l cookies) ≡ part l (filter (λ c. not (t c)) cookies)
gone_part l t cookies = swapped (λ c. not (t c)) (λ c. is_loaded c.key l) cookies

-- and what isn't loaded stays
pub gone_rest : (l : KeyLoads) (t : Cookie → Bool) (cookies : List Cookie)
    → AllByRecursion (λ c. t c ≡ true → is_loaded c.key l ≡ true) cookies
    → rest l (filter (λ c. not (t c)) cookies) ≡ rest l cookies
gone_rest l t cookies all =
    within (λ c. not (is_loaded c.key l)) (λ c. not (t c)) cookies
    (weaker (λ c. t c ≡ true → is_loaded c.key l ≡ true) (λ c. not (is_loaded c.key l) ≡ true → not (t c) ≡ true)
    (λ c h. turned (t c) (is_loaded c.key l) h) cookies all)

-- the key's cookies are those of the part
pub key_part : (l : KeyLoads) (key : List ℕ) (cookies : List Cookie) → is_loaded key l ≡ true
    → filter (has_key key) (part l cookies) ≡ filter (has_key key) cookies
key_part l key cookies there =
    within (has_key key) (λ c. is_loaded c.key l) cookies
    (always (λ c. has_key key c ≡ true → is_loaded c.key l ≡ true) (λ c e. key_loaded l key c there e) cookies)

-- those of a key that isn't loaded are among the rest
pub key_rest : (l : KeyLoads) (key : List ℕ) (cookies : List Cookie) → is_loaded key l ≡ false
    → filter (has_key key) (rest l cookies) ≡ filter (has_key key) cookies
key_rest l key cookies away =
    within (has_key key) (λ c. not (is_loaded c.key l)) cookies
    (always (λ c. has_key key c ≡ true → not (is_loaded c.key l) ≡ true)
    (λ c e. ap not (ap (λ k. is_loaded k l) (same_text c.key key e) ∙ away)) cookies)

-- ---- purges

pub same_changed : (cookies cookies' : List Cookie) (changes changes' : List Change) → cookies ≡ cookies'
    → changes ≡ changes'
    → let all : Changed = record { cookies = cookies; changes = changes } in
    let all' : Changed = record { cookies = cookies'; changes = changes' } in
    all ≡ all'
same_changed cookies cookies' changes changes' e f =
    ap (λ cs. let all : Changed = record { cookies = cs; changes = changes } in all) e
    ∙ ap (λ ch. let all : Changed = record { cookies = cookies'; changes = ch } in all) f

spent_loaded : (l : KeyLoads) (key : List ℕ) (now : ℕ) → is_loaded key l ≡ true → (c : Cookie)
    → is_spent key now c ≡ true
    → is_loaded c.key l ≡ true
spent_loaded l key now there c e = key_loaded l key c there (both (has_key key c) (is_expired now c) e).0

-- a loaded key is purged in the part as in all
pub purge_part : (l : KeyLoads) (key : List ℕ) (now : ℕ) (cookies : List Cookie) → is_loaded key l ≡ true
    → purge key now (part l cookies) ≡ part_of l (purge key now cookies)
purge_part l key now cookies there =
    same_changed (purged key now (part l cookies)) (part l (purged key now cookies))
    (map expired (filter (is_spent key now) (part l cookies))) (map expired (filter (is_spent key now) cookies))
    (gone_part l (is_spent key now) cookies)
    (ap (map expired) (within (is_spent key now) (λ c. is_loaded c.key l) cookies
    (always (λ c. is_spent key now c ≡ true → is_loaded c.key l ≡ true) (spent_loaded l key now there) cookies)))

pub purge_rest : (l : KeyLoads) (key : List ℕ) (now : ℕ) (cookies : List Cookie) → is_loaded key l ≡ true
    → rest l (purged key now cookies) ≡ rest l cookies
purge_rest l key now cookies there =
    gone_rest l (is_spent key now) cookies
    (always (λ c. is_spent key now c ≡ true → is_loaded c.key l ≡ true) (spent_loaded l key now there) cookies)

pub purge_keyed : (r : Rules) (key : List ℕ) (now : ℕ) (cookies : List Cookie) → AllByRecursion (IsKeyed r) cookies
    → AllByRecursion (IsKeyed r) (purged key now cookies)
purge_keyed r key now cookies keyed = kept_all (IsKeyed r) (λ c. not (is_spent key now c)) cookies keyed
