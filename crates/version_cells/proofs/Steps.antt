-- Facts that each step of a word uses.
use Rattle.std.proofs.Common.{◌≡◌, ◌≢◌, ◌≤◌, ◌+◌, ◌%◌, ◌^◌, ℕ, List, set, sym, ◌∙◌, subst, arith}
use Rattle.std.specs.Prelude.{slice_index}
use Rattle.atomic_table.specs.Table.{State}
use Rattle.version_cells.specs.declared.cells.TheConstants.{MOST_ENTRIES}
use Rattle.version_cells.specs.declared.view.Kind.TheVariants.{Baton, Pass}
use Rattle.version_cells.specs.declared.view.View.{View}
use Rattle.version_cells.specs.Rule.{Rule}
use Rattle.version_cells.proofs.Sums.{unchanged}

-- the rule, as the table states it
abbrev pub Holding : State ℕ View → Type 0
Holding s = Rule s.words s.views

pub counted_up : (n : ℕ) → n ≤ MOST_ENTRIES → (n + 1) % 2 ^ 64 ≡ n + 1
counted_up n h = omega arith

-- a load writes what it found
pub loaded : (words : List ℕ) (views : List View) (i : ℕ) → Rule words views
    → Rule (set words i (slice_index words i)) views
loaded words views i r = subst (λ (ws : List ℕ). Rule ws views) (sym (unchanged words i)) r

pub pass_no_baton : (v : View) → v.kind ≡ Pass → v.kind ≢ Baton
pass_no_baton v k b = let e : Pass ≡ Baton = sym k ∙ b in cc
