-- What a plan of loads is seen as, and a key that is asked for. This jar's own rule:
-- docs/DEFINITIONS.md.
use Rattle.std.specs.Prelude.{ℕ, List, Bool, not, ◌&&◌, if◌then◌else◌}
use Rattle.jar_types.specs.Loads.{KeyLoads, is_loaded, is_wanted, is_marked, with_want}
use Rattle.key_loader.specs.declared.group.Group.{Group}

-- hosts by their keys, and the loading of these keys
pub record Planned : Type 0 where
  pub groups : List Group
  pub loads : KeyLoads

-- whether a key may come to be wanted: it is neither loaded, nor wanted, nor marked
abbrev pub may_be_wanted : List ℕ → KeyLoads → Bool
may_be_wanted key l = not (is_loaded key l) && (not (is_wanted key l) && not (is_marked key l))

-- the key is wanted, last, where it may come to be
abbrev pub asked : List ℕ → KeyLoads → KeyLoads
asked key l = if may_be_wanted key l then with_want key l else l
