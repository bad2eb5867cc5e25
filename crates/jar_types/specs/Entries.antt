-- A journal: its entries, and for how many more there is room.
use Rattle.std.specs.Prelude.{ℕ, List}
use Rattle.jar_types.specs.declared.entry.Entry.{Entry}

pub record Entries : Type 0 where
  pub list : List Entry
  pub spare : ℕ
