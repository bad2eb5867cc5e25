-- A Get whose key is loaded: in the part it is what it is in all, and what isn't loaded stays.
use Rattle.std.proofs.Common.{◌≡◌, ◌+◌, ℕ, List, true, false, cond, refl, sym, ap, ◌∙◌}
use Rattle.std.specs.Prelude.{filter, map, not, nat_le, bytes_eq}
use Rattle.std.specs.List.{AllByRecursion}
use Rattle.jar_types.specs.declared.cookie.Cookie.{Cookie}
use Rattle.jar_types.specs.declared.op.TheConstants.{REFRESH_AFTER}
use Rattle.jar_types.specs.declared.request.Request.{Request}
use Rattle.jar_types.specs.Answers.{answer, answer_cmp, is_answered}
use Rattle.jar_types.specs.Bound.{turned as turned_key, version_of}
use Rattle.jar_types.specs.Changes.{Changed}
use Rattle.jar_types.specs.Gets.{refreshed, served, get_reply, get_step}
use Rattle.jar_types.specs.Journals.{Rules}
use Rattle.jar_types.specs.Loads.{KeyLoads, is_loaded}
use Rattle.jar_types.specs.Matches.{matches}
use Rattle.jar_types.specs.Orders.{in_order}
use Rattle.jar_types.specs.Purges.{has_key, is_expired, purge, purged}
use Rattle.jar_types.specs.States.{JarState, Stepped}
use Rattle.eager_law.proofs.MemberLemmas.{always, weaker, mapped_all}
use Rattle.eager_law.proofs.FilterLemmas.{within, mapped, mapped_still}
use Rattle.eager_law.proofs.PartLemmas.{same_text, part, rest, IsKeyed, both, refused, denied, key_part, purge_part, purge_rest, purge_keyed}
use Rattle.eager_law.proofs.SetLemmas.{with_part}

refreshed_key : (now : ℕ) (c : Cookie) → (refreshed now c).key ≡ c.key
refreshed_key now c =
    elim (nat_le (c.access + REFRESH_AFTER) now) as (λ b. (cond b (record c { access = now }) c).key ≡ c.key)
    [ true ↦ refl | false ↦ refl ]

served_key : (q : Request) (now : ℕ) (c : Cookie) → (served q now c).key ≡ c.key
served_key q now c =
    elim (is_answered q now c) as (λ b. (cond b (refreshed now c) c).key ≡ c.key) [ true ↦ refreshed_key now c | false ↦ refl ]

refreshed_keyed : (r : Rules) (now : ℕ) (c : Cookie) → IsKeyed r c → IsKeyed r (refreshed now c)
refreshed_keyed r now c k =
    elim (nat_le (c.access + REFRESH_AFTER) now) as (λ b. IsKeyed r (cond b (record c { access = now }) c)) [ true ↦ k | false ↦ k ]

served_keyed : (r : Rules) (q : Request) (now : ℕ) (c : Cookie) → IsKeyed r c → IsKeyed r (served q now c)
served_keyed r q now c k =
    elim (is_answered q now c) as (λ b. IsKeyed r (cond b (refreshed now c) c)) [ true ↦ refreshed_keyed r now c k | false ↦ k ]

module _ (r : Rules) (l : KeyLoads) (q : Request) (now : ℕ) (there : is_loaded q.key l ≡ true) where
  answered_loaded : (c : Cookie) → is_answered q now c ≡ true → is_loaded c.key l ≡ true
  answered_loaded c e =
      let fits : matches q c now ≡ true = (both (matches q c now) (not (is_expired now c)) e).0 in
      let same : q.key ≡ c.key = same_text q.key c.key (both (bytes_eq q.key c.key) _ fits).0 in
      ap (λ k. is_loaded k l) (sym same) ∙ there

  served_still : (c : Cookie) → not (is_loaded c.key l) ≡ true → served q now c ≡ c
  served_still c e =
      ap (λ b. cond b (refreshed now c) c) (refused (is_answered q now c) (is_loaded c.key l) (answered_loaded c) (denied (is_loaded c.key l) e))

  served_part : (cookies : List Cookie) → map (served q now) (part l cookies) ≡ part l (map (served q now) cookies)
  served_part cookies =
      sym (mapped (λ c. is_loaded c.key l) (λ c. is_loaded c.key l) (served q now) cookies
      (always (λ c. is_loaded (served q now c).key l ≡ is_loaded c.key l) (λ c. ap (λ k. is_loaded k l) (served_key q now c)) cookies))

  answer_part : (cookies : List Cookie) → answer (part l cookies) q now ≡ answer cookies q now
  answer_part cookies =
      ap (in_order answer_cmp) (within (is_answered q now) (λ c. is_loaded c.key l) cookies
      (always (λ c. is_answered q now c ≡ true → is_loaded c.key l ≡ true) answered_loaded cookies))

  -- a Get, of what is left of its key, what is answered, and what is served
  abbrev told : JarState → Changed → List Cookie → List Cookie → List Cookie → Stepped
  told s left mine answered cookies = record {
    state = record s { cookies = cookies };
    reply = get_reply q.script mine (map (refreshed now) answered) (version_of q.key (map (turned_key left.changes) s.bound));
    changes = left.changes;
  }

  pub get_part : (s : JarState)
      → get_step (record s { cookies = part l s.cookies }) now q ≡ with_part l (get_step s now q)
  get_part s =
      let left = purge q.key now s.cookies in
      ap (λ cs. told s cs (filter (has_key q.key) cs.cookies) (answer cs.cookies q now) (map (served q now) cs.cookies))
      (purge_part l q.key now s.cookies there)
      ∙ ap (λ mine. told s left mine (answer (part l left.cookies) q now) (map (served q now) (part l left.cookies)))
      (key_part l q.key left.cookies there)
      ∙ ap (λ got. told s left (filter (has_key q.key) left.cookies) got (map (served q now) (part l left.cookies)))
      (answer_part left.cookies)
      ∙ ap (told s left (filter (has_key q.key) left.cookies) (answer left.cookies q now)) (served_part left.cookies)

  pub get_rest : (s : JarState) → rest l (get_step s now q).state.cookies ≡ rest l s.cookies
  get_rest s =
      mapped_still (λ c. not (is_loaded c.key l)) (served q now) (λ c. ap (λ k. not (is_loaded k l)) (served_key q now c)) served_still
      (purged q.key now s.cookies)
      ∙ purge_rest l q.key now s.cookies there

  pub get_keyed : (s : JarState) → AllByRecursion (IsKeyed r) s.cookies
      → AllByRecursion (IsKeyed r) (get_step s now q).state.cookies
  get_keyed s all =
      mapped_all (IsKeyed r) (served q now) (purged q.key now s.cookies)
      (weaker (IsKeyed r) (λ c. IsKeyed r (served q now c)) (served_keyed r q now) (purged q.key now s.cookies) (purge_keyed r q.key now s.cookies all))
