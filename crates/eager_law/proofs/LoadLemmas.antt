-- What the jar does itself to the loading of keys: what is wanted or begun isn't loaded, and a jar
-- that is whole has loaded all.
use Rattle.std.proofs.Common.{◌≡◌, ℕ, List, [], ◌∷◌, Bool, true, false, length, Option, None, Some, refl, sym, ap, ◌∙◌, arith}
use Rattle.std.specs.Prelude.{not, ◌&&◌, ◌||◌, ◌==◌, bytes_eq, is_none, slice_get}
use Rattle.std.specs.List.{AllByRecursion, list_any}
use Rattle.std.specs.Option.{option_or}
use Rattle.std.proofs.lemmas.Bool.Decides.{nat_tests}
use Rattle.jar_types.specs.declared.entry.Own.{Own}
use Rattle.jar_types.specs.declared.entry.Own.TheVariants.{Want, WantAll, Begun, Loaded, Lost, Whole, Taken, Acked, CommitLost}
use Rattle.jar_types.specs.Loads.{KeyLoads, Loads, all_loaded, has_text, without_text, is_loaded, is_wanted, is_marked, is_the, is_begun, next_key, lost_where, own_loads, may_load, not_whole, with_lost}
use Rattle.eager_law.proofs.MemberLemmas.{always, weaker, kept_all, append_all, passing_all}
use Rattle.eager_law.proofs.FilterLemmas.{any_kept}
use Rattle.eager_law.proofs.PartLemmas.{both, same_text, text_itself}

-- keys that aren't loaded have what is wanted and the one whose load has begun; and none is left
-- where the jar is whole
pub record LoadsFit (l : Loads) : Type 0 where
  pub wanted : AllByRecursion (λ key. has_text key l.keys.unloaded ≡ true) l.keys.wanted
  pub begun : (key : List ℕ) → is_begun key l.keys ≡ true → has_text key l.keys.unloaded ≡ true
  pub whole : l.whole ≡ true → l.keys.unloaded ≡ []

-- ---- keys

-- a text is among those without another one where it was and isn't that one
pub without_has : (key other : List ℕ) (keys : List (List ℕ))
    → has_text other (without_text key keys) ≡ has_text other keys && not (bytes_eq key other)
without_has key other keys =
    any_kept (bytes_eq other) (λ k. not (bytes_eq key k)) (not (bytes_eq key other)) keys
    (always (λ k. bytes_eq other k ≡ true → not (bytes_eq key k) ≡ not (bytes_eq key other))
    (λ k e. ap (λ k. not (bytes_eq key k)) (sym (same_text other k e))) keys)

pub has_from : (b : Bool) → not (not b) ≡ true → b ≡ true
has_from true e = refl
has_from false e = absurd cc

pub joined : (a b : Bool) → a ≡ true → b ≡ true → a && b ≡ true
joined true b e f = f
joined false b e f = absurd cc

-- what isn't loaded is among those that aren't
pub away : (key : List ℕ) (l : KeyLoads) → is_loaded key l ≡ false → has_text key l.unloaded ≡ true
away key l e = has_from (has_text key l.unloaded) (ap not e)

pub none_left : (keys : List (List ℕ)) → (length keys == 0) ≡ true → keys ≡ []
none_left [] e = refl
none_left (key ∷ keys) e = absurd (grind (arith, nat_tests))

-- ---- what is begun

next_away : (l : KeyLoads) (key : List ℕ) (begun : Option (List ℕ)) (wanted unloaded : List (List ℕ))
    → is_none begun ≡ true
    → AllByRecursion (λ k. has_text k unloaded ≡ true) wanted
    → is_the key (option_or begun (option_or (slice_get wanted 0) (slice_get unloaded 0))) ≡ true
    → has_text key unloaded ≡ true
next_away l key None (w ∷ ws) unloaded none all e = ap (λ k. has_text k unloaded) (same_text key w e) ∙ all.0
next_away l key None [] (u ∷ us) none all e =
    ap (λ k. has_text k (u ∷ us)) (same_text key u e) ∙ ap (λ b. b || list_any (bytes_eq u) us) (text_itself u)
next_away l key None [] [] none all e = absurd cc
next_away l key (Some begun) wanted unloaded none all e = absurd cc

-- ---- what the jar does itself

lost_fit : (b : Bool) (l : Loads) → LoadsFit l → LoadsFit (lost_where b l)
lost_fit true l fit = record { wanted = fit.wanted; begun = fit.begun; whole = fit.whole }
lost_fit false l fit = fit

pub own_fit : (own : Own) (l : Loads) → may_load own l ≡ true → LoadsFit l → LoadsFit (own_loads own l)
own_fit (Want key) l may fit =
    let is_away = (both (not (is_loaded key l.keys)) (not (is_wanted key l.keys) && not (is_marked key l.keys)) may).0 in record {
      wanted =
          append_all (λ k. has_text k l.keys.unloaded ≡ true) l.keys.wanted (key ∷ []) fit.wanted
          (has_from (has_text key l.keys.unloaded) is_away, tt);
      begun = fit.begun;
      whole = fit.whole;
    }
own_fit WantAll l may fit = record { wanted = fit.wanted; begun = fit.begun; whole = fit.whole }
own_fit (Begun key) l may fit =
    let parts = both (is_none l.keys.begun) (is_the key (next_key l.keys)) may in record {
      wanted = fit.wanted;
      begun =
          λ other e.
          ap (λ k. has_text k l.keys.unloaded) (same_text other key e)
          ∙ next_away l.keys key l.keys.begun l.keys.wanted l.keys.unloaded parts.0 fit.wanted parts.1;
      whole = fit.whole;
    }
own_fit (Loaded key cookies) l may fit = record {
  wanted =
      weaker (λ k. (has_text k l.keys.unloaded ≡ true) × (not (bytes_eq key k) ≡ true))
      (λ k. has_text k (without_text key l.keys.unloaded) ≡ true)
      (λ k h. without_has key k l.keys.unloaded ∙ joined (has_text k l.keys.unloaded) (not (bytes_eq key k)) h.0 h.1)
      (without_text key l.keys.wanted)
      (passing_all (λ k. has_text k l.keys.unloaded ≡ true) (λ k. not (bytes_eq key k)) l.keys.wanted fit.wanted);
  begun = λ other e. absurd cc;
  whole = λ e. ap (without_text key) (fit.whole e);
}
own_fit (Lost key) l may fit =
    let keys = with_lost key l.keys in
    lost_fit l.all_wanted (record l { keys = with_lost key l.keys }) (record {
      wanted = kept_all (λ k. has_text k l.keys.unloaded ≡ true) (λ k. not (bytes_eq key k)) l.keys.wanted fit.wanted;
      begun = λ other e. absurd cc;
      whole = fit.whole;
    })
own_fit (Whole now) l may fit = record {
  wanted = fit.wanted;
  begun = fit.begun;
  whole = λ e. none_left l.keys.unloaded (both (not l.whole) (all_loaded l.keys) may).1;
}
own_fit Taken l may fit = fit
own_fit (Acked place) l may fit = fit
own_fit (CommitLost place) l may fit = fit

-- a jar begins so
pub opening_fits : (keys : List (List ℕ)) → LoadsFit (not_whole keys)
opening_fits keys = record { wanted = tt; begun = λ key e. absurd cc; whole = λ e. absurd cc }
