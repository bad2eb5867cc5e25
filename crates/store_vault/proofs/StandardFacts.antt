-- Numbers and definitions at worked values. This jar's own rule: docs/DEFINITIONS.md.
use Rattle.std.proofs.Common.{◌≡◌, ℕ, [], Bool, true, false, refl, ap, sym, ◌∙◌, arith}
use Rattle.std.specs.Prelude.{◌^◌, Ok, Err}
use Rattle.jar_types.specs.States.{opening}
use Rattle.version_cells.specs.Standing.{PassStanding}
use Rattle.locked_jar.specs.LockedJars.{LockedJar}
use Rattle.store_vault.specs.declared.refusal.FlushRefusal.TheVariants as flush
use Rattle.store_vault.specs.declared.refusal.LoadRefusal.TheVariants as load
use Rattle.store_vault.specs.declared.refusal.LoadStep.TheVariants as step
use Rattle.store_vault.specs.declared.stored.Stored.{Stored}
use Rattle.store_vault.specs.declared.vault.TheConstants.{MOST_OWNS}
use Rattle.store_vault.specs.Flushing.{IsFlush, Kept}
use Rattle.store_vault.specs.Loading.{CountsLoad, IsLoad, is_idle}

most_owns_is_2_to_61 : MOST_OWNS ≡ 2 ^ 61
most_owns_is_2_to_61 = refl

-- a jar that isn't whole isn't idle, though it has no key left to load
opening_is_busy : is_idle (opening []) ≡ false
opening_is_busy = refl

-- so it isn't answered so
no_idle_opening : (stored : Stored) (owns : ℕ) (old new : LockedJar) (p q : PassStanding) → old.state ≡ opening []
    → IsLoad stored owns old new p q (Ok step.Idle) → ⊥
no_idle_opening stored owns old new p q is load =
    let busy : is_idle old.state ≡ false = ap is_idle is in let clash : true ≡ false = sym load.0 ∙ busy in absurd cc

-- a load isn't spent at one entry fewer than there may be
no_spent_load : (stored : Stored) (old new : LockedJar) (p q : PassStanding) → IsLoad stored 2305843009213693951 old new p q (Err load.Spent) → ⊥
no_spent_load stored old new p q load = let few = load.1 in absurd (omega (arith, few))

-- and no commit is
no_spent_flush : (force : Bool) (old new : LockedJar) (p q : PassStanding) (kept kept' : Kept)
    → IsFlush force 2305843009213693951 old new p q kept kept' (Err flush.Spent) → ⊥
no_spent_flush force old new p q kept kept' spent = let few = spent.1 in absurd (omega (arith, few))

-- a StoreFault without a rise of the keeper's count is refused
no_fault_load : (starved starved' : Bool) → CountsLoad 3 3 starved starved' (Err load.StoreFault) → ⊥
no_fault_load starved starved' counts = absurd (omega (arith, counts.0))
