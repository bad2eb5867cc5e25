-- What an op needs, with texts that are borrowed: as it is awaited. This jar's own rule: docs/DEFINITIONS.md.
use Rattle.std.specs.Prelude.{Bool, true, false, Option, None, Some}
use Rattle.jar_types.specs.declared.jar_core.Awaited.{Awaited}
use Rattle.jar_types.specs.declared.jar_core.Awaited.TheVariants as awaited
use Rattle.plain_jar.specs.declared.need.Need.{Need}
use Rattle.plain_jar.specs.declared.need.Need.TheVariants as need
use Rattle.plain_jar.specs.declared.standing.Standing.{Standing}
use Rattle.plain_jar.specs.declared.standing.Standing.TheVariants.{Pending, Lost, There}

-- what is awaited
abbrev pub awaited_of : Need → Awaited
awaited_of (need.Key key) = awaited.Key key.now
awaited_of need.All = awaited.All

-- it is told by the text of a key
abbrev pub is_of_key : Need → Bool
is_of_key (need.Key key) = true
is_of_key need.All = false

-- what isn't there, and wasn't lost
abbrev pub pending_in : Standing → Option Awaited
pending_in (Pending need) = Some (awaited_of need)
pending_in (Lost need) = None
pending_in There = None

-- what isn't there, and was lost
abbrev pub lost_in : Standing → Option Awaited
lost_in (Pending need) = None
lost_in (Lost need) = Some (awaited_of need)
lost_in There = None
