-- Bound keys: the cell of each, and its version. This jar's own rule: docs/DEFINITIONS.md.
use Rattle.std.specs.Prelude.{ℕ, suc, ◌+◌, List, [], ◌∷◌, ◌++◌, length, find, position, Bool, nat_lt, bytes_eq, if◌then◌else◌}
use Rattle.std.specs.Prelude.{Option, None, Some, option_map}
use Rattle.std.specs.List.{list_any}
use Rattle.jar_types.specs.declared.bound_key.BoundKey.{BoundKey}
use Rattle.jar_types.specs.declared.bound_key.TheConstants.{MOST_CELLS}
use Rattle.jar_types.specs.declared.change.Change.{Change}
use Rattle.jar_types.specs.declared.op.Reply.TheVariants.{Cell}
use Rattle.jar_types.specs.States.{JarState, Stepped, replied}

-- the key was bound
abbrev pub is_bound_to : List ℕ → BoundKey → Bool
is_bound_to key b = bytes_eq b.key key

-- the cell of a key, from 1; none where it isn't bound
abbrev pub cell_of : List ℕ → List BoundKey → Option ℕ
cell_of key bound = option_map suc (position (is_bound_to key) bound)

-- the version of a key's cell; none where it isn't bound
abbrev pub version_of : List ℕ → List BoundKey → Option ℕ
version_of key bound = option_map (λ b. b.version) (find (is_bound_to key) bound)

-- some of the changes are of a cookie of the key
abbrev pub changes_key : List ℕ → List Change → Bool
changes_key key changes = list_any (λ c. bytes_eq c.cookie.key key) changes

-- the bound key after an entry that made these changes: its version rises by one where one is its own
abbrev pub turned : List Change → BoundKey → BoundKey
turned changes b = if changes_key b.key changes then record b { version = b.version + 1 } else b

-- the key gets the next cell, where one is left
abbrev pub bound_next : List ℕ → List BoundKey → List BoundKey
bound_next key bound =
    if nat_lt (length bound) MOST_CELLS then bound ++ record { key = key; version = 0 } ∷ [] else bound

-- a key that has a cell keeps it
abbrev pub bound_where : Option ℕ → List ℕ → List BoundKey → List BoundKey
bound_where (Some cell) key bound = bound
bound_where None key bound = bound_next key bound

-- the bound keys, among which the key is where a cell was left for it
abbrev pub bound_with : List ℕ → List BoundKey → List BoundKey
bound_with key bound = bound_where (cell_of key bound) key bound

-- Bind: the key has a cell from then on, where one was left for it
abbrev pub bind_step : JarState → List ℕ → Stepped
bind_step s key =
    let bound = bound_with key s.bound in
    replied (record s { bound = bound }) (Cell (cell_of key bound))
