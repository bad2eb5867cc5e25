-- Legal journals: what holds of each that an event makes from one of which it holds, holds of all;
-- and what is legal, honest or can be stored is so up to each place.
use Rattle.std.proofs.Common.{◌≡◌, ◌+◌, ℕ, zero, suc, List, [], ◌∷◌, ◌++◌, length, take, true, refl, sym, ap, ◌∙◌, subst, append_assoc, length-append}
use Rattle.std.specs.Prelude.{◌&&◌}
use Rattle.std.specs.List.{AllByRecursion}
use Rattle.std.proofs.lemmas.Bool.{and_parts}
use Rattle.std.proofs.lemmas.List.{append-nil}
use Rattle.jar_types.specs.declared.entry.Entry.{Entry}
use Rattle.jar_types.specs.declared.entry.Event.{Event}
use Rattle.jar_types.specs.declared.row.Row.{Row}
use Rattle.jar_types.specs.Journals.{IsLegal, Rules, all_stand, events, run, stands, state_of, stored_keys}
use Rattle.jar_types.specs.States.{JarState, opening}
use Rattle.jar_types.specs.Steps.{after, entry_of, event_of}
use Rattle.jar_types.specs.Stored.{EntryIsHonest, IsHonest}
use Rattle.jar_types.proofs.JournalLemmas.{legal_push, state_push}
use Rattle.stored_law.specs.Keeping.{AllStorable, EntryIsStorable}

-- ---- entry by entry

-- what holds of a legal journal holds with the entry of an event more that may come next
abbrev pub GoesOn : Rules → (List Entry → Type 0) → Type 0
GoesOn r P =
    (journal : List Entry) (v : Event) → IsLegal r journal → stands r (state_of (stored_keys r) journal) v ≡ true
    → P journal → P (journal ++ entry_of (state_of (stored_keys r) journal) v ∷ [])

holds_on : (r : Rules) (P : List Entry → Type 0) → GoesOn r P → (before rest : List Entry) → IsLegal r before → P before
    → run (state_of (stored_keys r) before) (events rest) ≡ rest → all_stand r (state_of (stored_keys r) before) (events rest) ≡ true
    → P (before ++ rest)
holds_on r P on before [] legal holds replies standing = subst P (sym (append-nil before)) holds
holds_on r P on before (e ∷ es) legal holds replies standing =
    let s = state_of (stored_keys r) before in
    let v = event_of e in
    let first : entry_of s v ≡ e = cc in
    let others : run (after s v) (events es) ≡ es = cc in
    let parts = and_parts (stands r s v) (all_stand r (after s v) (events es)) standing in
    let next : state_of (stored_keys r) (before ++ e ∷ []) ≡ after s v =
    subst (λ (f : Entry). state_of (stored_keys r) (before ++ f ∷ []) ≡ after s v) first (state_push (stored_keys r) before v) in
    subst P (append_assoc before (e ∷ []) es)
    (holds_on r P on (before ++ e ∷ []) es
    (subst (λ (f : Entry). IsLegal r (before ++ f ∷ [])) first (legal_push r before v legal parts.0))
    (subst (λ (f : Entry). P (before ++ f ∷ [])) first (on before v legal parts.0 holds))
    (subst (λ (t : JarState). run t (events es) ≡ es) (sym next) others)
    (subst (λ (t : JarState). all_stand r t (events es) ≡ true) (sym next) parts.1))

pub each_legal : (r : Rules) (P : List Entry → Type 0) → P [] → GoesOn r P → (journal : List Entry) → IsLegal r journal → P journal
unfolding state_of
each_legal r P first on journal legal =
    holds_on r P on [] journal (record { hosts = legal.hosts; replies = refl; standing = refl }) first legal.replies legal.standing

-- ---- up to a place

events_take : (n : ℕ) (journal : List Entry) → events (take n journal) ≡ take n (events journal)
events_take zero journal = refl
events_take (suc n) [] = refl
events_take (suc n) (e ∷ es) = ap (λ vs. event_of e ∷ vs) (events_take n es)

run_take : (n : ℕ) (s : JarState) (vs : List Event) → run s (take n vs) ≡ take n (run s vs)
run_take zero s vs = refl
run_take (suc n) s [] = refl
run_take (suc n) s (v ∷ vs) = ap (λ es. entry_of s v ∷ es) (run_take n (after s v) vs)

stand_take : (n : ℕ) (r : Rules) (s : JarState) (vs : List Event) → all_stand r s vs ≡ true → all_stand r s (take n vs) ≡ true
stand_take zero r s vs all = refl
stand_take (suc n) r s [] all = refl
stand_take (suc n) r s (v ∷ vs) all =
    let parts = and_parts (stands r s v) (all_stand r (after s v) vs) all in
    ap (λ b. b && all_stand r (after s v) (take n vs)) parts.0 ∙ stand_take n r (after s v) vs parts.1

all_take : {X : Type 0} → (P : X → Type 0) (n : ℕ) (xs : List X) → AllByRecursion P xs → AllByRecursion P (take n xs)
all_take P zero xs all = tt
all_take P (suc n) [] all = tt
all_take P (suc n) (x ∷ xs) all = (all.0, all_take P n xs all.1)

pub legal_take : (r : Rules) (n : ℕ) (journal : List Entry) → IsLegal r journal → IsLegal r (take n journal)
legal_take r n journal legal =
    let start = opening (stored_keys r) in
    record {
      hosts = legal.hosts;
      replies = ap (run start) (events_take n journal) ∙ run_take n start (events journal) ∙ ap (take n) legal.replies;
      standing = ap (all_stand r start) (events_take n journal) ∙ stand_take n r start (events journal) legal.standing;
    }

pub honest_take : (r : Rules) (rows : List Row) (n : ℕ) (journal : List Entry) → IsHonest r rows journal → IsHonest r rows (take n journal)
honest_take r rows n journal honest =
    record { hosts = honest.hosts; loads = all_take (EntryIsHonest r rows) n journal honest.loads }

pub storable_take : (n : ℕ) (journal : List Entry) → AllStorable journal → AllStorable (take n journal)
storable_take n journal all = all_take EntryIsStorable n journal all

-- ---- all but the last, and the last

pub all_but_last : {X : Type 0} → (P : X → Type 0) (xs : List X) (x : X) → AllByRecursion P (xs ++ x ∷ []) → AllByRecursion P xs
all_but_last P [] x all = tt
all_but_last P (y ∷ ys) x all = (all.0, all_but_last P ys x all.1)

pub the_last : {X : Type 0} → (P : X → Type 0) (xs : List X) (x : X) → AllByRecursion P (xs ++ x ∷ []) → P x
the_last P [] x all = all.0
the_last P (y ∷ ys) x all = the_last P ys x all.1

pub one_longer : (journal : List Entry) (e : Entry) → length (journal ++ e ∷ []) ≡ length journal + 1
one_longer journal e = length-append journal (e ∷ [])
