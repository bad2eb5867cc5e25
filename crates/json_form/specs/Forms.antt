-- Forms of JSON values, as what they find amiss. The walk visits a value, then its members in
-- ascending order of their names, or its items in order. This jar's own rule: docs/DEFINITIONS.md.
use Rattle.std.specs.Prelude.{◌≡◌, ℕ, List, Option, Result, IfOk, option_map, String, string_bytes}
use Rattle.std.specs.declared.alloc.Global.{Global}
use Rattle.serde_json.specs.Data.{Data}
use Rattle.jar_values.specs.declared.memory.NoMemory.{NoMemory}
use Rattle.json_form.specs.declared.setting.Setting.{Setting}
use Rattle.json_form.specs.declared.setting.Pass.{Pass}
use Rattle.json_form.specs.declared.setting.Pass.TheVariants.{Shapes}

-- a form: the first misfit of a value that is judged in a setting, or none where it fits
abbrev pub Form : Type 0
Form = Setting → Data → Option (List ℕ)

-- the setting of a whole value: nothing is measured or counted yet
abbrev pub outset : Pass → Setting
outset pass = record { pass = pass; length = 0; count = 0 }

-- the first misfit of a whole value in a pass, or none where it fits
abbrev pub misfit : Pass → Form → Data → Option (List ℕ)
misfit pass form d = form (outset pass) d

-- the same setting in the pass of shapes
abbrev pub by_shape : Setting → Setting
by_shape s = record { pass = Shapes; length = s.length; count = s.count }

-- a result is a path, or want of memory
abbrev pub Finds : Result (Option (String Global)) NoMemory → Option (List ℕ) → Type 0
Finds result path = IfOk result (λ found. option_map string_bytes found ≡ path)
