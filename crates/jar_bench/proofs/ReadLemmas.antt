-- What a read asks, and what reads leave of the pass that they were made with.
use Rattle.std.proofs.Common.{◌≡◌, ℕ, true, refl, sym, subst}
use Rattle.std.specs.Prelude.{Ok}
use Rattle.jar_types.specs.declared.ask_cause.AskCause.{AskCause}
use Rattle.jar_types.specs.declared.op.Op.{Op}
use Rattle.jar_types.specs.Journals.{Rules, is_well_keyed}
use Rattle.site_match.specs.declared.place.Place.{Place}
use Rattle.restricted_manager.specs.declared.read.ReadTurn.TheVariants.{Ask}
use Rattle.restricted_manager.specs.Managers.{ManagerStanding}
use Rattle.restricted_manager.specs.Reads.{ReadsAt}
use Rattle.version_cells.specs.Standing.{PassStanding}
use Rattle.jar_bench.specs.Looked.{StaysCaller}

-- what a read asks is well keyed
pub read_keyed : (r : Rules) (m : ManagerStanding) (place : Place) (now : ℕ) (p q : PassStanding)
    (op : Op) (cause : AskCause) → ReadsAt m place now p q (Ok (Ask op cause))
    → is_well_keyed r op ≡ true
read_keyed r m place now p q op cause reads =
    subst (λ o. is_well_keyed r o ≡ true) (sym reads.2) refl

-- a caller's pass stays one where nothing is done, and over two steps
pub stays_itself : (p : PassStanding) → StaysCaller p p
stays_itself p = λ r table is. is

pub stays_on : (p q s : PassStanding) → StaysCaller p q → StaysCaller q s → StaysCaller p s
stays_on p q s first next = λ r table is. next r table (first r table is)
