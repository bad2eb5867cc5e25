-- The count of faults at small journals and counts.
use Rattle.std.proofs.Common.{◌≡◌, ℕ, [], ◌∷◌, true, refl, inl, arith, ⊎_elim}
use Rattle.jar_edge.specs.Faults.{Rose}
use Rattle.jar_types.specs.declared.entry.Entry.TheVariants.{Jar}
use Rattle.jar_types.specs.declared.entry.Own.TheVariants.{Begun, Lost, Taken, Acked, CommitLost}
use Rattle.shared_jar.specs.Faults.{FaultsAre, RoseTimes, faults_in}

-- a load that was lost and a commit that was lost are two
two_lost : faults_in (Jar (Begun []) ∷ Jar (Lost []) ∷ Jar Taken ∷ Jar (CommitLost 3) ∷ []) ≡ 2
two_lost = refl

-- a batch that was committed is none
none_lost : faults_in (Jar Taken ∷ Jar (Acked 1) ∷ []) ≡ 0
none_lost = refl

-- a count that stays has not risen once
stays_still : (between : ℕ) → between ≡ 0 → Rose between 0 → ⊥
stays_still between first rose =
    ⊎_elim (λ more. omega (arith, more)) (λ last. let none = last.0 in omega (arith, first, none))
    rose

still : RoseTimes 1 0 0 → ⊥
still (between, first, rose) = stays_still between first rose

-- one that rose once is one more
once : RoseTimes 1 4 5
once = (4, refl, inl refl)

-- a starved vault owes nothing
starved : FaultsAre 0 [] 7 true
starved none = absurd cc
