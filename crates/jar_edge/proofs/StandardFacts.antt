-- The limits as literals, so that another value of a constant does not check; and what whole reads
-- and whole writes are not, at streams whose other side is unknown, as that of standard input is.
use Rattle.std.proofs.Common.{◌≡◌, ◌≢◌, ℕ, List, [], ◌∷◌, length, take, Bool, true, false, None, refl, ap, arith}
use Rattle.std.proofs.lemmas.List.{length-take}
use Rattle.jar_edge.specs.Faults.{last_count}
use Rattle.jar_edge.specs.Streams.{GivesJust, GivesToEnd, GivesAtRefusal, TakesJust, TakesPart}
use Rattle.jar_edge.specs.Told.{SourceTold, SinkTold, finds_end}
use Rattle.jar_edge.specs.declared.reading.TheConstants.{MOST_ASKED}
use Rattle.jar_edge.specs.declared.refusal.ReadRefusal.TheVariants.{TooLarge}

-- bytes, the most that one read is asked for
pub most_asked : MOST_ASKED ≡ 8192
most_asked = refl

-- the last value of a u64
pub last_count_of_u64 : last_count ≡ 18446744073709551615
last_count_of_u64 = refl

-- a read that gives nothing though there is room finds the end, and no other
pub the_end : (finds_end 0 1 ≡ true) × (finds_end 0 8192 ≡ true)
    × (finds_end 0 0 ≡ false) × (finds_end 1 1 ≡ false)
the_end = (refl, refl, refl, refl)

-- a source that gave these bytes, and doesn't know what is left
abbrev gave : List ℕ → Bool → SourceTold
gave bytes ended = record { given = bytes; ended = ended; faults = 0; left = None }

-- a sink that took these bytes, and doesn't know what it holds
abbrev took : List ℕ → SinkTold
took bytes = record { taken = bytes; faults = 0; written = None }

-- lists of other lengths are others
other_length : {xs ys : List ℕ} → xs ≡ ys → length xs ≢ length ys → ⊥
other_length same other = other (ap length same)

-- a source gives two bytes behind one, up to the end
pub two_bytes : GivesToEnd (gave (7 ∷ []) false) (gave (7 ∷ 8 ∷ 9 ∷ []) true) (8 ∷ 9 ∷ [])
two_bytes = ((refl, tt), refl, tt)

-- no byte that it gave is left out, and none made up
pub left_out : GivesJust (gave [] false) (gave (8 ∷ 9 ∷ []) true) (9 ∷ []) → ⊥
left_out given = other_length given.0 (λ same. absurd (omega (arith, same)))

pub made_up : GivesJust (gave [] false) (gave (8 ∷ []) true) (8 ∷ 9 ∷ []) → ⊥
made_up given = other_length given.0 (λ same. absurd (omega (arith, same)))

-- it isn't at the end before a read found it
pub before_the_end : GivesToEnd (gave [] false) (gave (8 ∷ []) false) (8 ∷ []) → ⊥
before_the_end given = let never : false ≡ true = given.1 in absurd cc

-- at the limit it isn't too large
pub at_the_limit : GivesAtRefusal (gave [] false) (gave (8 ∷ []) false) 1 TooLarge → ⊥
at_the_limit given =
    let same : 1 ≡ length given.0 = ap length given.1.0 in
    absurd (omega (arith, same, given.2))

-- a sink doesn't take a byte twice, and all bytes are no part
pub taken_twice : TakesJust (took []) (took (8 ∷ 8 ∷ [])) (8 ∷ []) → ⊥
taken_twice taken = other_length taken.0 (λ same. absurd (omega (arith, same)))

pub no_part : TakesPart (took []) (took (8 ∷ [])) (8 ∷ []) → ⊥
no_part taken =
    let same : 1 ≡ length (take taken.0 (8 ∷ [])) = ap length taken.2.0 in
    absurd (omega (arith, simp length-take at same, taken.1))
