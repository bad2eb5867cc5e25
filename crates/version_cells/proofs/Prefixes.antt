-- What was seen begins the history, and a look fits as the history and the words grow.
use Rattle.std.proofs.Common.{◌≡◌, ◌≤◌, ◌+◌, ℕ, List, [], ◌∷◌, ◌++◌, length, take, drop, ltb, refl, sym, ap, ◌∙◌, subst, arith, length-append, append_assoc, append-nil, Option, Some, None}
use Rattle.std.specs.Prelude.{slice_index}
use Rattle.std.proofs.lemmas.List.{take-append-le, take-append-drop}
use Rattle.std.proofs.lemmas.Bool.{cond_both, ltb-true, ltb-false}
use Rattle.version_cells.specs.declared.listing.Listing.{Listing}
use Rattle.version_cells.specs.declared.view.Look.{Look}
use Rattle.version_cells.specs.declared.view.Memory.{Memory}
use Rattle.version_cells.specs.Listings.{one, has, cells_of, total, turns, StartsWith}
use Rattle.version_cells.specs.Moves.{longer, longest}
use Rattle.version_cells.specs.Held.{LookFits, Fits, AllFit}
use Rattle.version_cells.proofs.Sums.{total-append}

pub starts_trans : (a b c : List Listing) → StartsWith a b → StartsWith b c → StartsWith a c
starts_trans a b c s t = (t.0 ++ s.0, s.1 ∙ ap (λ (l : List Listing). l ++ s.0) t.1 ∙ append_assoc c t.0 s.0)

pub starts_itself : (a : List Listing) → StartsWith a a
starts_itself a = ([], sym (append-nil a))

pub starts_length : (a b : List Listing) → StartsWith a b → length b ≤ length a
starts_length a b s = let e = ap length s.1 ∙ length-append b s.0 in omega arith

-- of a list and one that begins it the first items are the same, as far as that one goes
pub begun_take : (n : ℕ) (log seen : List Listing) → StartsWith log seen → n ≤ length seen
    → take n log ≡ take n seen
begun_take n log seen s h = ap (λ (l : List Listing). take n l) s.1 ∙ take-append-le n seen s.0 h

-- a list begins with its first items
pub starts_take : (n : ℕ) (log : List Listing) → StartsWith log (take n log)
starts_take n log = (drop n log, sym (take-append-drop n log))

pub starts_turns : (c : ℕ) (a b : List Listing) → StartsWith a b → turns c b ≤ turns c a
starts_turns c a b s = let f : Listing → ℕ = λ e. one (has c (cells_of e)) in
    let e = ap (total f) s.1 ∙ total-append f b s.0 in let m : total f a ≡ total f b + total f s.0 = e in omega arith

-- of two lists that begin one list, the longer one begins with the other
pub both_begin : (a b r q : List Listing) → a ++ r ≡ b ++ q → length a ≤ length b → StartsWith b a
both_begin [] b r q e h = (b, refl)
both_begin (x ∷ a) [] r q e h = absurd (omega arith)
both_begin (x ∷ a) (y ∷ b) r q e h =
    let head : x ≡ y = cc in let tail : a ++ r ≡ b ++ q = cc in
    let ih = both_begin a b r q tail (omega arith) in
    (ih.0, λ i. sym head i ∷ ih.1 i)

pub begins_longer : (log a b : List Listing) → StartsWith log a → StartsWith log b
    → length a ≤ length b → StartsWith b a
begins_longer log a b s t h = both_begin a b s.0 t.0 (sym s.1 ∙ t.1) h

pub longer_begins : (log a b : List Listing) → StartsWith log a → StartsWith log b
    → StartsWith log (longer a b)
longer_begins log a b s t = cond_both (ltb (length a) (length b)) b a (StartsWith log) (λ _. t) (λ _. s)

pub longer_extends : (log a b : List Listing) → StartsWith log a → StartsWith log b
    → StartsWith (longer a b) a
longer_extends log a b s t = cond_both (ltb (length a) (length b)) b a (λ (l : List Listing). StartsWith l a)
    (λ e. begins_longer log a b s t (let h = ltb-true (length a) (length b) e in omega arith)) (λ _. starts_itself a)

-- and at least as long as the second
pub longer_covers : (a b : List Listing) → length b ≤ length (longer a b)
longer_covers a b = cond_both (ltb (length a) (length b)) b a (λ (l : List Listing). length b ≤ length l)
    (λ _. omega arith) (λ e. ltb-false (length a) (length b) e)

pub longer_keeps : (a b : List Listing) → length a ≤ length (longer a b)
longer_keeps a b = cond_both (ltb (length a) (length b)) b a (λ (l : List Listing). length a ≤ length l)
    (λ e. let h = ltb-true (length a) (length b) e in omega arith) (λ _. omega arith)

pub longest_begins : (words : List ℕ) (log seen : List Listing) (ms : List Memory)
    → StartsWith log seen → AllFit words log ms → StartsWith log (longest seen ms)
longest_begins words log seen [] s h = s
longest_begins words log seen (m ∷ ms) s h = longest_begins words log (longer seen m.seen) ms (longer_begins log seen m.seen s h.0.begins) h.1

pub longest_extends : (words : List ℕ) (log seen : List Listing) (ms : List Memory)
    → StartsWith log seen → AllFit words log ms → StartsWith (longest seen ms) seen
longest_extends words log seen [] s h = starts_itself seen
longest_extends words log seen (m ∷ ms) s h =
    starts_trans (longest (longer seen m.seen) ms) (longer seen m.seen) seen
    (longest_extends words log (longer seen m.seen) ms (longer_begins log seen m.seen s h.0.begins) h.1)
    (longer_extends log seen m.seen s h.0.begins)

-- a look still fits where more was seen and the words rose
pub look_grows : (words words' : List ℕ) (seen seen' : List Listing) (o : Option Look)
    → StartsWith seen' seen → ((i : ℕ) → slice_index words i ≤ slice_index words' i)
    → LookFits words seen o → LookFits words' seen' o
look_grows words words' seen seen' None s up h = tt
look_grows words words' seen seen' (Some l) s up h =
    let longer_now = starts_length seen' seen s in
    let same : take l.place seen' ≡ take l.place seen = ap (take l.place) s.1 ∙ take-append-le l.place seen s.0 h.1 in
    let u = up l.cell in
    (h.0, (let w = h.1 in omega arith), subst (λ (t : List Listing). turns l.cell t ≤ l.number) (sym same) h.2, (let k = h.3 in omega arith))

pub fits_grows : (words words' : List ℕ) (log log' : List Listing) (m : Memory) → StartsWith log' log
    → ((i : ℕ) → slice_index words i ≤ slice_index words' i) → Fits words log m → Fits words' log' m
fits_grows words words' log log' m s up h = record {
  begins = starts_trans log' log m.seen s h.begins;
  found = let l = starts_length log' log s in let f = h.found in omega arith;
  look = look_grows words words' m.seen m.seen m.last (starts_itself m.seen) up h.look;
}

pub all_grow : (words words' : List ℕ) (log log' : List Listing) (ms : List Memory)
    → StartsWith log' log → ((i : ℕ) → slice_index words i ≤ slice_index words' i)
    → AllFit words log ms → AllFit words' log' ms
all_grow words words' log log' [] s up h = tt
all_grow words words' log log' (m ∷ ms) s up h = (fits_grows words words' log log' m s up h.0, all_grow words words' log log' ms s up h.1)
