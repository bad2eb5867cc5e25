-- Views: what a seat knows, and the views that a world begins with or gains.
-- This jar's own rule: docs/DEFINITIONS.md.
use Rattle.std.specs.Prelude.{◌≡◌, ◌==◌, ◌&&◌, ℕ, List, [], ◌∷◌, Bool, true, false, Option, Some, None}
use mathlib.Core.Option.{some}
use lib.ListN.{get_elem?}
use Rattle.version_cells.specs.declared.view.Memory.{Memory}
use Rattle.version_cells.specs.declared.view.Permit.{Permit}
use Rattle.version_cells.specs.declared.view.Kind.{Kind}
use Rattle.version_cells.specs.declared.view.Kind.TheVariants.{Baton, Pass, Copy, Spent}
use Rattle.version_cells.specs.declared.view.View.{View}

-- the view v stands at the seat by
abbrev pub At : List View → ℕ → View → Type 0
At views by v = get_elem? views by ≡ some v

-- a view's own memory and its notes
abbrev pub memories : View → List Memory
memories v = v.own ∷ v.notes

-- whether a seat is a pass's
abbrev pub is_pass : Kind → Bool
is_pass Baton = false
is_pass Pass = true
is_pass Copy = false
is_pass Spent = false

-- whether a view is that of the pass n
abbrev pub is_pass_of : ℕ → View → Bool
is_pass_of n v = is_pass v.kind && (v.number == n)

-- whether there is a permit, and it is that of the pass n
abbrev pub is_permit_of : ℕ → Option Permit → Bool
is_permit_of n None = false
is_permit_of n (Some p) = p.number == n

-- the uses of a permit, 0 where there is none
abbrev pub uses_of : Option Permit → ℕ
uses_of None = 0
uses_of (Some p) = p.uses

-- the memory of a seat that has seen nothing
abbrev pub no_memory : Memory
no_memory = record { seen = []; last = None; found = 0 }

-- a view with nothing but what is said here
abbrev pub view_of : Kind → Memory → Option Permit → ℕ → View
view_of k m p number = record {
  kind = k;
  own = m;
  notes = [];
  permit = p;
  pending = [];
  next = 0;
  number = number;
  calls = 0;
  away = false;
  looks = [];
  fronts = 0;
}

-- the baton at the start
abbrev pub first_baton : View
first_baton = view_of Baton no_memory None 0

-- a pass when it is made
abbrev pub new_pass : ℕ → View
new_pass n = view_of Pass no_memory None n

-- a copy with this memory, and maybe a permit
abbrev pub copy_with : Memory → Option Permit → View
copy_with m p = view_of Copy m p 0

-- a view that was taken in, which says nothing
abbrev pub spent_view : View
spent_view = view_of Spent no_memory None 0
