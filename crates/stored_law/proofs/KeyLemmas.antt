-- The loading of keys: what is wanted and what has begun isn't loaded.
use Rattle.std.proofs.Common.{◌≡◌, ℕ, List, [], ◌∷◌, Bool, true, false, cond, refl, sym, ap, ◌∙◌, Option, None, Some}
use Rattle.std.specs.Prelude.{not, ◌&&◌, ◌||◌, bytes_eq, slice_get, is_none}
use Rattle.std.specs.List.{AllByRecursion}
use Rattle.std.specs.Option.{option_or}
use Rattle.std.proofs.lemmas.Bool.{and_parts, not-true, not-false}
use Rattle.jar_types.specs.declared.entry.Own.{Own}
use Rattle.jar_types.specs.declared.entry.Own.TheVariants.{Want, WantAll, Begun, Loaded, Lost, Whole, Taken, Acked, CommitLost}
use Rattle.jar_types.specs.declared.jar_core.Awaited.{Awaited}
use Rattle.jar_types.specs.declared.jar_core.Awaited.TheVariants as awaited
use Rattle.jar_types.specs.declared.op.Op.{Op}
use Rattle.jar_types.specs.declared.op.Op.TheVariants.{Bind, Set, Get, Delete, All, Clear, Listen, Changes, Unlisten, Post, Hear}
use Rattle.jar_types.specs.declared.op.Reply.{Reply}
use Rattle.jar_types.specs.declared.cookie.Cookie.{Cookie}
use Rattle.jar_types.specs.Changes.{Changed}
use Rattle.jar_types.specs.Loads.{KeyLoads, Loads, has_text, without_text, is_the, is_loaded, is_wanted, is_marked, next_key, with_want, with_begun, with_loaded, with_lost, lost_where, own_loads, may_load}
use Rattle.jar_types.specs.Purges.{purge}
use Rattle.jar_types.specs.Sets.{set_where, barred}
use Rattle.jar_types.specs.States.{JarState}
use Rattle.jar_types.specs.Steps.{op_step, call_where}
use Rattle.jar_types.specs.Waits.{unmarked}
use Rattle.stored_law.proofs.FoundLemmas.{all_append, all_left}
use Rattle.stored_law.proofs.TextLemmas.{text_is, left_has}

-- what is wanted, and what has begun, isn't loaded
pub record AreUnloaded (l : KeyLoads) : Type 0 where
  pub wanted : AllByRecursion (λ key. has_text key l.unloaded ≡ true) l.wanted
  pub begun : (key : List ℕ) → is_the key l.begun ≡ true → has_text key l.unloaded ≡ true

-- ---- what a call makes of them

-- a call changes marks alone
pub record SameKeys (l l' : KeyLoads) : Type 0 where
  pub unloaded : l'.unloaded ≡ l.unloaded
  pub wanted : l'.wanted ≡ l.wanted
  pub begun : l'.begun ≡ l.begun

same_keys : (l : KeyLoads) → SameKeys l l
same_keys l = record { unloaded = refl; wanted = refl; begun = refl }

unmarked_keys : (what : Awaited) (l : Loads) → SameKeys l.keys (unmarked what l).keys
unmarked_keys (awaited.Key key) l = record { unloaded = refl; wanted = refl; begun = refl }
unmarked_keys awaited.All l = same_keys l.keys

set_keys : (bar : Option Reply) (s : JarState) (now : ℕ) (c : Cookie) (left : Changed) → SameKeys s.loads.keys (set_where bar s now c left).state.loads.keys
set_keys (Some reply) s now c left = same_keys s.loads.keys
set_keys None s now c left = same_keys s.loads.keys

op_keys : (s : JarState) (caller now : ℕ) (op : Op) → SameKeys s.loads.keys (op_step s caller now op).state.loads.keys
op_keys s caller now (Bind key) = same_keys s.loads.keys
op_keys s caller now (Set cookie script secure) =
    let left = purge cookie.key now s.cookies in
    set_keys (barred script secure cookie left.cookies) s now cookie left
op_keys s caller now (Get request) = same_keys s.loads.keys
op_keys s caller now (Delete key id) = same_keys s.loads.keys
op_keys s caller now All = same_keys s.loads.keys
op_keys s caller now Clear = same_keys s.loads.keys
op_keys s caller now (Listen scope) = same_keys s.loads.keys
op_keys s caller now (Changes number) = same_keys s.loads.keys
op_keys s caller now (Unlisten number) = same_keys s.loads.keys
op_keys s caller now Post = same_keys s.loads.keys
op_keys s caller now (Hear actor n) = same_keys s.loads.keys

pub call_keys : (fault : Option Awaited) (s : JarState) (caller now : ℕ) (op : Op) → SameKeys s.loads.keys (call_where fault s caller now op).state.loads.keys
call_keys (Some what) s caller now op = unmarked_keys what s.loads
call_keys None s caller now op = op_keys s caller now op

pub still_unloaded : (l l' : KeyLoads) → SameKeys l l' → AreUnloaded l → AreUnloaded l'
still_unloaded l l' same are = record {
  wanted = rw (same.unloaded, same.wanted) are.wanted;
  begun = λ key e. ap (has_text key) same.unloaded ∙ are.begun key (ap (is_the key) (sym same.begun) ∙ e);
}

-- ---- what the jar does itself makes of them

is_there_now : (key : List ℕ) (l : KeyLoads) → not (is_loaded key l) ≡ true → has_text key l.unloaded ≡ true
is_there_now key l e = not-false (has_text key l.unloaded) (not-true (is_loaded key l) e)

want_unloaded : (key : List ℕ) (l : KeyLoads) → has_text key l.unloaded ≡ true → AreUnloaded l → AreUnloaded (with_want key l)
want_unloaded key l there are = record {
  wanted = all_append (λ k. has_text k l.unloaded ≡ true) l.wanted (key ∷ []) are.wanted (there, tt);
  begun = are.begun;
}

none_begun : (begun : Option (List ℕ)) → is_none begun ≡ true → begun ≡ None
none_begun None e = refl
none_begun (Some key) e = absurd cc

-- the next key isn't loaded
next_there : (key : List ℕ) (unloaded wanted : List (List ℕ)) → AllByRecursion (λ k. has_text k unloaded ≡ true) wanted
    → is_the key (option_or (slice_get wanted 0) (slice_get unloaded 0)) ≡ true → has_text key unloaded ≡ true
next_there key unloaded (k ∷ ks) all e = ap (λ t. has_text t unloaded) (text_is key k e) ∙ all.0
next_there key (k ∷ ks) [] all e = ap (λ b. b || has_text key ks) e
next_there key [] [] all e = absurd cc

begun_unloaded : (key : List ℕ) (l : KeyLoads) → is_none l.begun ≡ true → is_the key (next_key l) ≡ true → AreUnloaded l → AreUnloaded (with_begun key l)
begun_unloaded key l none next are = record {
  wanted = are.wanted;
  begun =
      λ k e.
      ap (λ t. has_text t l.unloaded) (text_is k key e)
      ∙ next_there key l.unloaded l.wanted are.wanted
      (ap (λ o. is_the key (option_or o (option_or (slice_get l.wanted 0) (slice_get l.unloaded 0)))) (sym (none_begun l.begun none)) ∙ next);
}

others_there : (key : List ℕ) (unloaded wanted : List (List ℕ)) → AllByRecursion (λ k. has_text k unloaded ≡ true) wanted
    → AllByRecursion (λ k. has_text k (without_text key unloaded) ≡ true) (without_text key wanted)
others_there key unloaded [] all = tt
others_there key unloaded (k ∷ ks) all = other_at key unloaded k (without_text key ks) (bytes_eq key k) refl all.0 (others_there key unloaded ks all.1)
  where
    other_at : (key : List ℕ) (unloaded : List (List ℕ)) (k : List ℕ) (left : List (List ℕ)) (b : Bool) → bytes_eq key k ≡ b → has_text k unloaded ≡ true
        → AllByRecursion (λ k. has_text k (without_text key unloaded) ≡ true) left
        → AllByRecursion (λ k. has_text k (without_text key unloaded) ≡ true) (cond (not b) (k ∷ left) left)
    other_at key unloaded k left true is there rest = rest
    other_at key unloaded k left false is there rest = (
      left_has (λ other. not (bytes_eq key other)) k unloaded ∙ ap (λ b. b && not (bytes_eq key k)) there ∙ ap not is,
      rest,
    )

pub loaded_unloaded : (key : List ℕ) (l : KeyLoads) → AreUnloaded l → AreUnloaded (with_loaded key l)
loaded_unloaded key l are = record { wanted = others_there key l.unloaded l.wanted are.wanted; begun = λ k e. absurd cc }

lost_unloaded : (key : List ℕ) (l : KeyLoads) → AreUnloaded l → AreUnloaded (with_lost key l)
lost_unloaded key l are = record {
  wanted = all_left (λ k. has_text k l.unloaded ≡ true) (λ other. not (bytes_eq key other)) l.wanted are.wanted;
  begun = λ k e. absurd cc;
}

lost_where_unloaded : (b : Bool) (l : Loads) → AreUnloaded l.keys → AreUnloaded (lost_where b l).keys
lost_where_unloaded true l are = are
lost_where_unloaded false l are = are

pub own_unloaded : (own : Own) (l : Loads) → may_load own l ≡ true → AreUnloaded l.keys → AreUnloaded (own_loads own l).keys
own_unloaded (Want key) l may are =
    want_unloaded key l.keys (is_there_now key l.keys (and_parts (not (is_loaded key l.keys)) (not (is_wanted key l.keys) && not (is_marked key l.keys)) may).0) are
own_unloaded WantAll l may are = are
own_unloaded (Begun key) l may are =
    let parts = and_parts (is_none l.keys.begun) (is_the key (next_key l.keys)) may in
    begun_unloaded key l.keys parts.0 parts.1 are
own_unloaded (Loaded key cookies) l may are = loaded_unloaded key l.keys are
own_unloaded (Lost key) l may are = lost_where_unloaded l.all_wanted (record l { keys = with_lost key l.keys }) (lost_unloaded key l.keys are)
own_unloaded (Whole now) l may are = are
own_unloaded Taken l may are = are
own_unloaded (Acked place) l may are = are
own_unloaded (CommitLost place) l may are = are
