-- A load: the stored cookies of a key that isn't loaded, put among those of loaded keys, make the
-- part of which that key is too.
use Rattle.std.proofs.Common.{◌≡◌, ℕ, List, [], ◌∷◌, Bool, true, false, refl, sym, ap, ◌∙◌}
use Rattle.std.specs.Prelude.{filter, not, ◌&&◌, ◌||◌, bytes_eq}
use Rattle.std.specs.List.{AllByRecursion, list_any}
use Rattle.std.specs.Ordering.{is_eq}
use Rattle.std.proofs.lemmas.Cmp.{tied_itself, nat_list_eq_equiv}
use Rattle.jar_types.specs.declared.cookie.Cookie.{Cookie}
use Rattle.jar_types.specs.declared.row.Row.{Row}
use Rattle.jar_types.specs.Ids.{same_id, RisesById}
use Rattle.jar_types.specs.Journals.{Rules}
use Rattle.jar_types.specs.Loads.{KeyLoads, has_text, is_loaded, with_loaded}
use Rattle.jar_types.specs.Purges.{has_key}
use Rattle.jar_types.specs.Steps.{loaded_among}
use Rattle.jar_types.specs.Stored.{stored_cookies}
use Rattle.jar_types.proofs.RisingLemmas.{cookie_total}
use Rattle.eager_law.proofs.MemberLemmas.{Member, always, weaker, passing_all, every_member, own_members, kept_member, kept_members, any_member, none_any, or_false}
use Rattle.eager_law.proofs.FilterLemmas.{agreeing}
use Rattle.eager_law.proofs.PlacedLemmas.{put_member}
use Rattle.eager_law.proofs.PartLemmas.{part, rest, IsKeyed, refused, same_keys, key_rest}
use Rattle.eager_law.proofs.LoadLemmas.{without_has}

-- the cookies of a jar in which all is loaded: their ids rise, each is under the key of its host,
-- and a key that isn't loaded has just its stored ones
pub record CookiesFit (r : Rules) (rows : List Row) (l : KeyLoads) (cookies : List Cookie) : Type 0 where
  pub rises : RisesById cookies
  pub keyed : AllByRecursion (IsKeyed r) cookies
  pub stored : (key : List ℕ) → is_loaded key l ≡ false → filter (has_key key) cookies ≡ stored_cookies r rows key

-- a key that isn't loaded keeps its cookies where those that aren't loaded stay
pub stored_still : (r : Rules) (rows : List Row) (l : KeyLoads) (cookies later : List Cookie)
    → CookiesFit r rows l cookies
    → rest l later ≡ rest l cookies → (key : List ℕ) → is_loaded key l ≡ false
    → filter (has_key key) later ≡ stored_cookies r rows key
stored_still r rows l cookies later fit stays key away =
    sym (key_rest l key later away) ∙ ap (filter (has_key key)) stays ∙ key_rest l key cookies away ∙ fit.stored key away

-- ---- truth values

or_assoc : (a b c : Bool) → (a || b) || c ≡ a || (b || c)
or_assoc true b c = refl
or_assoc false b c = refl

not_both : (has is : Bool) → not (has && not is) ≡ not has || is
not_both true true = refl
not_both true false = refl
not_both false is = refl

-- ---- some of the cookies put among others of them

abbrev kept_too : (Cookie → Bool) → List Cookie → Cookie → Bool
kept_too p loaded d = p d || list_any (λ c. same_id c d) loaded

put_among : (cookies : List Cookie) → RisesById cookies → (loaded : List Cookie)
    → AllByRecursion (Member cookies) loaded
    → (p : Cookie → Bool) → loaded_among loaded (filter p cookies) ≡ filter (kept_too p loaded) cookies
put_among cookies rises [] all p =
    agreeing p (kept_too p []) cookies (always (λ d. p d ≡ kept_too p [] d) (λ d. sym (or_false (p d))) cookies)
put_among cookies rises (c ∷ cs) all p =
    let with = λ (d : Cookie). p d || same_id c d in
    ap (loaded_among cs) (put_member cookie_total p c cookies rises all.0)
    ∙ put_among cookies rises cs all.1 with
    ∙ agreeing (kept_too with cs) (kept_too p (c ∷ cs)) cookies
    (always (λ d. kept_too with cs d ≡ kept_too p (c ∷ cs) d) (λ d. or_assoc (p d) (same_id c d) (list_any (λ e. same_id e d) cs)) cookies)

-- ---- the cookies of the key

module _ (r : Rules) (cookies : List Cookie) (keyed : AllByRecursion (IsKeyed r) cookies) (key : List ℕ) where
  abbrev mine : List Cookie
  mine = filter (has_key key) cookies

  mine_at : (d : Cookie) → Member cookies d → (b : Bool) → has_key key d ≡ b → list_any (λ c. same_id c d) mine ≡ b
  mine_at d i true e =
      any_member (λ c. same_id c d) mine d (kept_member (has_key key) cookies d i e) (ap is_eq (tied_itself cookie_total d))
  mine_at d i false e =
      none_any (λ c. same_id c d) mine
      (weaker (λ c. IsKeyed r c × (has_key key c ≡ true)) (λ c. same_id c d ≡ false)
      (λ c h. refused (same_id c d) (has_key key d)
      (λ same. ap (λ k. bytes_eq k key) (sym (same_keys r c d h.0 (every_member (IsKeyed r) cookies d keyed i) same)) ∙ h.1) e)
      mine (passing_all (IsKeyed r) (has_key key) cookies keyed))

  -- what is loaded then was loaded, or is the key's
  loaded_then : (l : KeyLoads) (d : Cookie) → is_loaded d.key (with_loaded key l) ≡ is_loaded d.key l || has_key key d
  loaded_then l d =
      ap not (without_has key d.key l.unloaded)
      ∙ not_both (has_text d.key l.unloaded) (bytes_eq key d.key)
      ∙ ap (λ b. is_loaded d.key l || b) (nat_list_eq_equiv.symm key d.key)

  pub mine_among : (l : KeyLoads) → RisesById cookies
      → loaded_among mine (part l cookies) ≡ part (with_loaded key l) cookies
  mine_among l rises =
      put_among cookies rises mine (kept_members (has_key key) cookies) (λ d. is_loaded d.key l)
      ∙ agreeing (kept_too (λ d. is_loaded d.key l) mine) (λ d. is_loaded d.key (with_loaded key l)) cookies
      (weaker (Member cookies) (λ d. kept_too (λ c. is_loaded c.key l) mine d ≡ is_loaded d.key (with_loaded key l))
      (λ d i. ap (λ b. is_loaded d.key l || b) (mine_at d i (has_key key d) refl) ∙ sym (loaded_then l d)) cookies (own_members cookies))

-- the stored cookies of a key that isn't loaded, put among the part
pub load_part : (r : Rules) (rows : List Row) (l : KeyLoads) (cookies : List Cookie)
    → CookiesFit r rows l cookies → (key : List ℕ)
    → is_loaded key l ≡ false
    → loaded_among (stored_cookies r rows key) (part l cookies) ≡ part (with_loaded key l) cookies
load_part r rows l cookies fit key away =
    ap (λ cs. loaded_among cs (part l cookies)) (sym (fit.stored key away)) ∙ mine_among r cookies fit.keyed key l fit.rises
