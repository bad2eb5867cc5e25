-- Which history a few events have, and that each other one is refused: with another cell, another owner, another entry, an
-- entry too few or too many.
use Rattle.std.proofs.Common.{◌≡◌, ℕ, List, [], ◌∷◌, Option, None, Some, false, refl}
use Rattle.std.specs.Prelude.{codes, ◌==◌, if◌then◌else◌}
use Rattle.jar_values.specs.declared.attributes.Priority.TheVariants.{Medium}
use Rattle.jar_values.specs.declared.attributes.SameSite.TheVariants.{Unspecified}
use Rattle.jar_types.specs.declared.cookie.Cookie.{Cookie}
use Rattle.jar_types.specs.declared.entry.Entry.TheVariants.{Call, Jar}
use Rattle.jar_types.specs.declared.entry.Event.{Event}
use Rattle.jar_types.specs.declared.entry.Event.TheVariants.{Call as CallEvent, Jar as JarEvent}
use Rattle.jar_types.specs.declared.entry.Own.TheVariants.{Whole}
use Rattle.jar_types.specs.declared.op.Op.TheVariants.{Bind, Set}
use Rattle.jar_types.specs.declared.op.Reply.TheVariants.{Cell, Stored, Replaced}
use Rattle.jar_types.specs.States.{opening}
use Rattle.version_cells.specs.declared.listing.Listing.{Listing}
use Rattle.version_cells.specs.Lists.{Lists}

abbrev a : Cookie
a = record {
  key = codes "h.test";
  host = codes "h.test";
  name = codes "a";
  path = codes "/";
  value = codes "1";
  creation = 5;
  access = 5;
  expiry = None;
  secure = false;
  http_only = false;
  same_site = Unspecified;
  priority = Medium;
}

-- another key is bound, then that of the cookie; it is stored, and the jar becomes whole
abbrev events : List Event
events =
    CallEvent 1 0 (Bind (codes "i.test")) ∷ CallEvent 1 0 (Bind (codes "h.test")) ∷ CallEvent 0 5 (Set a false false) ∷ JarEvent (Whole 6) ∷ []

abbrev bound : ℕ → Listing
bound cell = record { cells = []; owner = Some 1; about = Call 1 0 (Bind (if cell == 1 then codes "i.test" else codes "h.test")) (Cell (Some cell)) }

abbrev stored : Listing
stored = record { cells = 2 ∷ []; owner = Some 0; about = Call 0 5 (Set a false false) Stored }

abbrev whole : Listing
whole = record { cells = []; owner = Some 2; about = Jar (Whole 6) }

-- the history that they have, where the cutter's pass is 2
listed : Lists 2 (opening []) events (bound 1 ∷ bound 2 ∷ stored ∷ whole ∷ [])
listed = (record { cells = refl; owner = refl; about = refl }, (record { cells = refl; owner = refl; about = refl }, (record { cells = refl; owner = refl; about = refl }, (record { cells = refl; owner = refl; about = refl }, tt))))

-- each other one is refused
other_cell : Lists 2 (opening []) events (bound 1 ∷ bound 2 ∷ record stored { cells = 1 ∷ [] } ∷ whole ∷ []) → ⊥
other_cell h = let e = h.1.1.0.cells in absurd cc

no_cell : Lists 2 (opening []) events (bound 1 ∷ bound 2 ∷ record stored { cells = [] } ∷ whole ∷ []) → ⊥
no_cell h = let e = h.1.1.0.cells in absurd cc

other_owner : Lists 2 (opening []) events (bound 1 ∷ bound 2 ∷ record stored { owner = None } ∷ whole ∷ []) → ⊥
other_owner h = let e = h.1.1.0.owner in absurd cc

other_entry : Lists 2 (opening []) events (bound 1 ∷ bound 2 ∷ record stored { about = Call 0 5 (Set a false false) Replaced } ∷ whole ∷ []) → ⊥
other_entry h = let e = h.1.1.0.about in absurd cc

one_too_few : Lists 2 (opening []) events (bound 1 ∷ bound 2 ∷ stored ∷ []) → ⊥
one_too_few h = h.1.1.1

one_too_many : Lists 2 (opening []) events (bound 1 ∷ bound 2 ∷ stored ∷ whole ∷ whole ∷ []) → ⊥
one_too_many h = h.1.1.1.1
