-- The line of a refused input: where, as a JSON Pointer (RFC 6901), and why. This jar's own rule:
-- docs/DEFINITIONS.md.
use Rattle.std.specs.Prelude.{ℕ, List, [], ◌∷◌, ◌++◌, codes}
use Rattle.serde_json.specs.Data.{Data, string, object, no_members, member}
use Rattle.serde_json.specs.Written.{compact_text}
use Rattle.script_text.specs.declared.refused.Refusal.{Refusal}
use Rattle.script_text.specs.declared.refused.Refusal.TheVariants as name
use Rattle.script_text.specs.declared.refused.Refused.{Refused}

-- the word of a refusal
abbrev pub refusal_word : Refusal → List ℕ
refusal_word name.TooLarge = codes "TooLarge"
refusal_word name.NotJson = codes "NotJson"
refusal_word name.Shape = codes "Shape"
refusal_word name.TooMany = codes "TooMany"
refusal_word name.BadMoment = codes "BadMoment"
refusal_word name.BadSuffixes = codes "BadSuffixes"
refusal_word name.BadPlace = codes "BadPlace"
refusal_word name.Deadlock = codes "Deadlock"

-- a refusal of the whole text
abbrev pub at_root : Refusal → Refused
at_root name = record { name = name; path = [] }

-- a refusal as JSON
abbrev pub refusal_data : Refused → Data
refusal_data r =
    object (member (codes "path") (string r.path)
    (member (codes "refused") (string (refusal_word r.name)) no_members))

-- the line of a refusal, which a newline ends
abbrev pub refusal_line : Refused → List ℕ
refusal_line r = compact_text (refusal_data r) ++ (10 ∷ [])

-- the line of a keeper that failed before anything was run
abbrev pub store_fault_line : List ℕ
store_fault_line = codes "{\"path\":\"\",\"refused\":\"StoreFault\"}\n"
