-- What is left of the loading: each load, and each load that is lost while a caller waits, leaves less.
use Rattle.std.proofs.Common.{◌≡◌, ◌<◌, ◌≤◌, ◌+◌, ◌⊎◌, inl, inr, ⊎_elim, ℕ, List, [], ◌∷◌, ◌++◌, Bool, true, false, cond, Option, None, Some, length, slice_get, refl, ap, sym, ◌∙◌, arith}
use Rattle.std.specs.Prelude.{bytes_eq, not, ◌&&◌, ◌||◌, ◌==◌, count_by}
use Rattle.std.specs.Option.{option_or}
use Rattle.std.specs.List.Sorted.{IsStrictlySortedBy}
use Rattle.jar_types.specs.declared.cookie.Cookie.{Cookie}
use Rattle.jar_types.specs.declared.entry.Own.TheVariants.{Whole}
use Rattle.jar_types.specs.declared.jar_core.Awaited.{Awaited}
use Rattle.jar_types.specs.declared.jar_core.Awaited.TheVariants as awaited
use Rattle.jar_types.specs.Ids.{text_cmp}
use Rattle.jar_types.specs.Loads.{Loads, all_loaded, has_text, is_loaded, is_marked, is_wanted, lost_where, marks_where, next_key, not_whole, may_load, own_loads, with_begun, with_loaded, with_lost, with_want, without_text}
use Rattle.jar_types.specs.Waits.{unmarked}
use Rattle.script_run.specs.Rounds.{load_gave}
use Rattle.script_run.proofs.TextLemmas.{NoTwice, counts_less, counts_more, counts_one_more, counts_within, counts_without, fewer_without, has_last, has_without, no_twice_without, none_without, other_without, rise_no_twice, same_text, text_self}

abbrev Text : Type 0
Text = List ℕ

-- ---- what always holds

-- the keys that aren't loaded differ, those that are wanted are among them and not marked, and no load has begun; and where
-- all is wanted the jar is not whole, nor was a load lost
pub record Holds (l : Loads) : Type 0 where
  pub no_twice : NoTwice l.keys.unloaded
  pub wanted : (k : Text) → has_text k l.keys.wanted ≡ true → (has_text k l.keys.unloaded ≡ true) × (has_text k l.keys.lost ≡ false)
  pub begun : l.keys.begun ≡ None
  pub all_wanted : l.all_wanted ≡ true → (l.whole ≡ false) × (l.all_lost ≡ false)
  pub whole : l.whole ≡ true → l.keys.unloaded ≡ []

-- ---- how much is left

-- the key isn't marked
abbrev is_free : List Text → Text → Bool
is_free lost k = not (has_text k lost)

-- how much is left: twice the keys that aren't loaded and the jar that isn't whole, and once more what isn't marked of these
abbrev flag_of : Loads → ℕ
flag_of l = cond (l.whole || l.all_lost) 0 1

abbrev whole_of : Loads → ℕ
whole_of l = cond l.whole 0 2

abbrev pub weight : Loads → ℕ
weight l =
    (length l.keys.unloaded + length l.keys.unloaded + count_by (is_free l.keys.lost) l.keys.unloaded)
    + (whole_of l + flag_of l)

-- callers wait for something to be loaded
abbrev pub AreWanted : Loads → Type 0
AreWanted l = (((k : Text) × (has_text k l.keys.wanted ≡ true)) ⊎ (l.all_wanted ≡ true))

parts : (a b : Bool) → (a && b) ≡ true → (a ≡ true) × (b ≡ true)
parts true b e = (refl, e)
parts false b e = absurd cc

negated : (a : Bool) → not a ≡ true → a ≡ false
negated true e = absurd cc
negated false e = refl

negated_false : (a : Bool) → not a ≡ false → a ≡ true
negated_false true e = refl
negated_false false e = absurd cc

clash : (a : Bool) → a ≡ true → a ≡ false → ⊥
clash true e f = absurd cc
clash false e f = absurd cc

-- ---- a mark is taken away

stays_free : (is : Bool) (k key : Text) (lost : List Text) → has_text k (without_text key lost) ≡ is → has_text k lost ≡ false
    → has_text k (without_text key lost) ≡ false
stays_free false k key lost e none = e
stays_free true k key lost e none = absurd (clash (has_text k lost) (has_without k key lost e) none)

flag_up : (whole all_lost : Bool) → cond (whole || false) 0 1 ≤ cond (whole || all_lost) 0 1 + 1
flag_up true all_lost = omega arith
flag_up false true = omega arith
flag_up false false = omega arith

pub unmarked_holds : (what : Awaited) (l : Loads) → Holds l → Holds (unmarked what l)
unmarked_holds (awaited.Key key) l h = record {
  no_twice = h.no_twice;
  wanted = λ k is. let w = h.wanted k is in (w.0, stays_free (has_text k (without_text key l.keys.lost)) k key l.keys.lost refl w.1);
  begun = h.begun;
  all_wanted = h.all_wanted;
  whole = h.whole;
}
unmarked_holds awaited.All l h = record {
  no_twice = h.no_twice;
  wanted = h.wanted;
  begun = h.begun;
  all_wanted = λ is. ((h.all_wanted is).0, refl);
  whole = h.whole;
}

same_free : (k key : Text) (lost : List Text) → bytes_eq key k ≡ false → is_free (without_text key lost) k ≡ true → is_free lost k ≡ true
same_free k key lost ne free = ap not (sym (other_without k key lost ne)) ∙ free

pub unmarked_weight : (what : Awaited) (l : Loads) → Holds l → weight (unmarked what l) ≤ weight l + 1
unmarked_weight (awaited.Key key) l h =
    let more = counts_one_more (is_free (without_text key l.keys.lost)) (is_free l.keys.lost) key (λ k ne. same_free k key l.keys.lost ne) l.keys.unloaded h.no_twice in
    omega (arith, more)
unmarked_weight awaited.All l h = let up = flag_up l.whole l.all_lost in omega (arith, up)

-- ---- something is wanted

one_more : (a b : Bool) (k key : Text) → bytes_eq k key ≡ b → (a || b) ≡ true → (a ≡ true) ⊎ (k ≡ key)
one_more true b k key e is = inl refl
one_more false true k key e is = inr (same_text k key e)
one_more false false k key e is = absurd cc

pub want_holds : (key : Text) (l : Loads) → Holds l → is_loaded key l.keys ≡ false → is_marked key l.keys ≡ false
    → Holds (record l { keys = with_want key l.keys })
want_holds key l h unloaded free = record {
  no_twice = h.no_twice;
  wanted = λ k is. ⊎_elim
      (λ (old : has_text k l.keys.wanted ≡ true). h.wanted k old)
      (λ (same : k ≡ key). rw same (negated_false (has_text key l.keys.unloaded) unloaded, free))
      (one_more (has_text k l.keys.wanted) (bytes_eq k key) k key refl (sym (has_last k key l.keys.wanted) ∙ is));
  begun = h.begun;
  all_wanted = h.all_wanted;
  whole = h.whole;
}

pub all_holds : (l : Loads) → Holds l → l.whole ≡ false → l.all_lost ≡ false → Holds (record l { all_wanted = true })
all_holds l h whole lost = record { no_twice = h.no_twice; wanted = h.wanted; begun = h.begun; all_wanted = λ is. (whole, lost); whole = h.whole }

-- ---- what is loaded next

first_of : (keys : List Text) (key : Text) → slice_get keys 0 ≡ Some key → has_text key keys ≡ true
first_of [] key e = absurd cc
first_of (x ∷ xs) key e =
    let same : x ≡ key = cc in ap (λ b. b || has_text key xs) (ap (bytes_eq key) same ∙ text_self key)

none_of : (keys : List Text) → slice_get keys 0 ≡ None → keys ≡ []
none_of [] e = refl
none_of (x ∷ xs) e = absurd cc

-- the first of these, else of those
first_where : (o p : Option Text) (key : Text) → option_or o p ≡ Some key → (o ≡ Some key) ⊎ ((o ≡ None) × (p ≡ Some key))
first_where (Some x) p key e = inl e
first_where None p key e = inr (refl, e)

neither_first : (o p : Option Text) → option_or o p ≡ None → (o ≡ None) × (p ≡ None)
neither_first (Some x) p e = absurd cc
neither_first None p e = (refl, e)

pub next_is : (l : Loads) → Holds l → next_key l.keys ≡ option_or (slice_get l.keys.wanted 0) (slice_get l.keys.unloaded 0)
next_is l h = ap (λ b. option_or b (option_or (slice_get l.keys.wanted 0) (slice_get l.keys.unloaded 0))) h.begun

-- the next key isn't loaded, and is wanted where any is
record IsNext (key : Text) (l : Loads) : Type 0 where
  unloaded : has_text key l.keys.unloaded ≡ true
  wanted : (is_wanted key l.keys ≡ true) ⊎ (l.keys.wanted ≡ [])

next_of : (key : Text) (l : Loads) → Holds l → next_key l.keys ≡ Some key → IsNext key l
next_of key l h is =
    ⊎_elim
    (λ (first : slice_get l.keys.wanted 0 ≡ Some key).
    let w = first_of l.keys.wanted key first in
    record { unloaded = (h.wanted key w).0; wanted = inl w })
    (λ (other : (slice_get l.keys.wanted 0 ≡ None) × (slice_get l.keys.unloaded 0 ≡ Some key)).
    record { unloaded = first_of l.keys.unloaded key other.1; wanted = inr (none_of l.keys.wanted other.0) })
    (first_where (slice_get l.keys.wanted 0) (slice_get l.keys.unloaded 0) key (sym (next_is l h) ∙ is))

-- ---- a load

-- it holds after a load, and no more is left than before; and less, where callers waited
pub record LoadGoes (l m : Loads) : Type 0 where
  pub holds : Holds m
  pub never_back : weight m ≤ weight l
  pub nearer : AreWanted l → weight m < weight l

abbrev begun_at : Text → Loads → Loads
begun_at key l = record l { keys = with_begun key l.keys }

loaded_wanted : (is : Bool) (key k : Text) (l : Loads) → Holds l → bytes_eq key k ≡ is → has_text k (without_text key l.keys.wanted) ≡ true
    → (has_text k (without_text key l.keys.unloaded) ≡ true) × (has_text k (without_text key l.keys.lost) ≡ false)
loaded_wanted true key k l h e some =
    let same = same_text key k e in
    absurd (clash (has_text k (without_text key l.keys.wanted)) some (ap (λ j. has_text j (without_text key l.keys.wanted)) (sym same) ∙ none_without key l.keys.wanted))
loaded_wanted false key k l h e some =
    let w = h.wanted k (has_without k key l.keys.wanted some) in
    (other_without k key l.keys.unloaded e ∙ w.0, other_without k key l.keys.lost e ∙ w.1)

loaded_goes : (key : Text) (cookies : List Cookie) (l : Loads) → Holds l → IsNext key l → LoadGoes l (record l { keys = with_loaded key (with_begun key l.keys) })
loaded_goes key cookies l h next =
    let u = l.keys.unloaded in
    let u' = without_text key u in
    let lost' = without_text key l.keys.lost in
    let within = counts_within (is_free lost') (is_free l.keys.lost) key (λ k ne. same_free k key l.keys.lost ne) u' (none_without key u) in
    let less = counts_without (is_free l.keys.lost) key u in
    let fewer = fewer_without key u next.unloaded in
    record {
      holds = record {
        no_twice = no_twice_without key u h.no_twice;
        wanted = λ k is. loaded_wanted (bytes_eq key k) key k l h refl is;
        begun = refl;
        all_wanted = h.all_wanted;
        whole = λ is. ap (without_text key) (h.whole is);
      };
      never_back = omega (arith, within, less, fewer);
      nearer = λ some. omega (arith, within, less, fewer);
    }

both_free : (a b : Bool) → not (a || b) ≡ true → not a ≡ true
both_free true b e = absurd cc
both_free false b e = refl

-- a load is lost: of a key that callers wait for, or that none waits for
more_lost : (k key : Text) (lost : List Text) → is_free (lost ++ key ∷ []) k ≡ true → is_free lost k ≡ true
more_lost k key lost free = both_free (has_text k lost) (bytes_eq k key) (ap not (sym (has_last k key lost)) ∙ free)

or_self : (a b : Bool) → b ≡ true → (a || b) ≡ true
or_self true b e = refl
or_self false b e = e

now_lost : (key : Text) (lost : List Text) → is_free (lost ++ key ∷ []) key ≡ false
now_lost key lost = ap not (has_last key key lost ∙ or_self (has_text key lost) (bytes_eq key key) (text_self key))

marked_count : (wanted : Bool) (key : Text) (l : Loads) → Holds l → is_wanted key l.keys ≡ wanted
    → count_by (is_free (marks_where wanted key l.keys.lost)) l.keys.unloaded ≤ count_by (is_free l.keys.lost) l.keys.unloaded
marked_count true key l h w = counts_more (is_free (l.keys.lost ++ key ∷ [])) (is_free l.keys.lost) (λ k. more_lost k key l.keys.lost) l.keys.unloaded
marked_count false key l h w = omega arith

marked_less : (wanted : Bool) (key : Text) (l : Loads) → Holds l → is_wanted key l.keys ≡ wanted → IsNext key l → wanted ≡ true
    → count_by (is_free (marks_where wanted key l.keys.lost)) l.keys.unloaded < count_by (is_free l.keys.lost) l.keys.unloaded
marked_less false key l h w next is = absurd cc
marked_less true key l h w next is =
    counts_less (is_free (l.keys.lost ++ key ∷ [])) (is_free l.keys.lost) (λ k. more_lost k key l.keys.lost) key l.keys.unloaded
    (now_lost key l.keys.lost) (ap not (h.wanted key w).1) next.unloaded

neither_has : (a b : Bool) (k key : Text) → bytes_eq k key ≡ b → a ≡ false → bytes_eq key k ≡ false → (a || b) ≡ false
neither_has true b k key e none ne = absurd cc
neither_has false false k key e none ne = refl
neither_has false true k key e none ne =
    let same = same_text k key e in
    absurd (clash (bytes_eq key k) (ap (bytes_eq key) same ∙ text_self key) ne)

lost_wanted : (is wanted : Bool) (key k : Text) (l : Loads) → Holds l → bytes_eq key k ≡ is → has_text k (without_text key l.keys.wanted) ≡ true
    → (has_text k l.keys.unloaded ≡ true) × (has_text k (marks_where wanted key l.keys.lost) ≡ false)
lost_wanted true wanted key k l h e some =
    let same = same_text key k e in
    absurd (clash (has_text k (without_text key l.keys.wanted)) some (ap (λ j. has_text j (without_text key l.keys.wanted)) (sym same) ∙ none_without key l.keys.wanted))
lost_wanted false true key k l h e some =
    let w = h.wanted k (has_without k key l.keys.wanted some) in
    (w.0, has_last k key l.keys.lost ∙ neither_has (has_text k l.keys.lost) (bytes_eq k key) k key refl w.1 e)
lost_wanted false false key k l h e some = h.wanted k (has_without k key l.keys.wanted some)

-- the keys where a load is lost, whether it was wanted or not
lost_keys_goes : (wanted : Bool) (key : Text) (l : Loads) → Holds l → is_wanted key l.keys ≡ wanted
    → Holds (record l { keys = record (with_lost key (with_begun key l.keys)) { lost = marks_where wanted key l.keys.lost } })
lost_keys_goes wanted key l h w = record {
  no_twice = h.no_twice;
  wanted = λ k is. lost_wanted (bytes_eq key k) wanted key k l h refl is;
  begun = refl;
  all_wanted = h.all_wanted;
  whole = h.whole;
}

abbrev lost_keys : Text → Loads → Loads
lost_keys key l = record l { keys = with_lost key (with_begun key l.keys) }

all_where_holds : (all : Bool) (l : Loads) → Holds l → l.all_wanted ≡ all → Holds (lost_where all l)
all_where_holds true l h is = record { no_twice = h.no_twice; wanted = h.wanted; begun = h.begun; all_wanted = λ e. absurd cc; whole = h.whole }
all_where_holds false l h is = h

-- nothing is left of a jar whose load was lost
abbrev zero_flag : Bool → ℕ
zero_flag whole = cond (whole || true) 0 1

one_flag : (whole : Bool) → zero_flag whole ≡ 0
one_flag true = refl
one_flag false = refl

all_where_weight : (all : Bool) (l : Loads) → Holds l → l.all_wanted ≡ all → weight (lost_where all l) ≤ weight l
all_where_weight true l h is =
    let was = h.all_wanted is in
    let before : flag_of l ≡ 1 = rw (was.0, was.1) refl in
    let after = one_flag l.whole in
    omega (arith, before, after)
all_where_weight false l h is = omega arith

all_where_less : (all : Bool) (l : Loads) → Holds l → l.all_wanted ≡ all → all ≡ true → weight (lost_where all l) < weight l
all_where_less false l h is also = absurd cc
all_where_less true l h is also =
    let was = h.all_wanted is in
    let before : flag_of l ≡ 1 = rw (was.0, was.1) refl in
    let after = one_flag l.whole in
    omega (arith, before, after)

lost_goes : (key : Text) (l : Loads) → Holds l → IsNext key l → LoadGoes l (lost_where l.all_wanted (lost_keys key l))
lost_goes key l h next =
    let m = lost_keys key l in
    let holds : Holds m = lost_keys_goes (is_wanted key l.keys) key l h refl in
    let count = marked_count (is_wanted key l.keys) key l h refl in
    let all = all_where_weight l.all_wanted m holds refl in
    record {
      holds = all_where_holds l.all_wanted m holds refl;
      never_back = omega (arith, count, all);
      nearer = λ some. ⊎_elim
          (λ (one : (k : Text) × (has_text k l.keys.wanted ≡ true)).
          let is : is_wanted key l.keys ≡ true = ⊎_elim (λ (w : is_wanted key l.keys ≡ true). w) (λ (none : l.keys.wanted ≡ []). absurd (clash (has_text one.0 l.keys.wanted) one.1 (ap (has_text one.0) none))) next.wanted in
          let less = marked_less (is_wanted key l.keys) key l h refl next is in
          omega (arith, less, all))
          (λ (is : l.all_wanted ≡ true). let less = all_where_less l.all_wanted m holds refl is in omega (arith, less, count)) some;
    }

-- the load of the next key ended
pub gave_goes : (key : Text) (answer : Option (List Cookie)) (l : Loads) → Holds l → next_key l.keys ≡ Some key
    → LoadGoes l (own_loads (load_gave key answer) (begun_at key l))
gave_goes key (Some cookies) l h is = loaded_goes key cookies l h (next_of key l h is)
gave_goes key None l h is = lost_goes key l h (next_of key l h is)

-- ---- the jar becomes whole

became : (l : Loads) → Holds l → l.whole ≡ false → l.keys.unloaded ≡ [] → LoadGoes l (record l { whole = true; all_wanted = false; all_lost = false })
became l h whole none = record {
  holds = record { no_twice = h.no_twice; wanted = h.wanted; begun = h.begun; all_wanted = λ e. absurd cc; whole = λ e. none };
  never_back = let two : whole_of l ≡ 2 = rw whole refl in omega (arith, two);
  nearer = λ some. let two : whole_of l ≡ 2 = rw whole refl in omega (arith, two);
}

abbrev whole_where : Bool → ℕ → Loads → Loads
whole_where true now l = own_loads (Whole now) l
whole_where false now l = l

none_wanted : (l : Loads) → Holds l → next_key l.keys ≡ None → (l.keys.wanted ≡ []) × (l.keys.unloaded ≡ [])
none_wanted l h none =
    let both = neither_first (slice_get l.keys.wanted 0) (slice_get l.keys.unloaded 0) (sym (next_is l h) ∙ none) in
    (none_of l.keys.wanted both.0, none_of l.keys.unloaded both.1)

loaded_all : (keys : List Text) → keys ≡ [] → (length keys == 0) ≡ true
loaded_all keys e = rw e refl

pub whole_goes : (may : Bool) (now : ℕ) (l : Loads) → Holds l → next_key l.keys ≡ None → may_load (Whole now) l ≡ may
    → LoadGoes l (whole_where may now l)
whole_goes true now l h none may =
    let is = parts (not l.whole) (all_loaded l.keys) may in
    became l h (negated l.whole is.0) (none_wanted l h none).1
whole_goes false now l h none may =
    let stuck = none_wanted l h none in
    record {
      holds = h;
      never_back = omega arith;
      nearer = λ some. ⊎_elim
          (λ (one : (k : Text) × (has_text k l.keys.wanted ≡ true)). absurd (clash (has_text one.0 l.keys.wanted) one.1 (ap (has_text one.0) stuck.0)))
          (λ (is : l.all_wanted ≡ true).
          let was = h.all_wanted is in
          let stands : (not l.whole && all_loaded l.keys) ≡ true = rw was.0 (loaded_all l.keys.unloaded stuck.1) in
          absurd (clash (not l.whole && all_loaded l.keys) stands may)) some;
    }

-- ---- the begin

pub begin_holds : (keys : List Text) → IsStrictlySortedBy text_cmp keys → Holds (not_whole keys)
begin_holds keys rises = record {
  no_twice = rise_no_twice keys rises;
  wanted = λ k is. absurd cc;
  begun = refl;
  all_wanted = λ is. absurd cc;
  whole = λ is. absurd cc;
}
