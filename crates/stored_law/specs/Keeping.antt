-- What is stored after a journal: all changes of rows that its events make, one after another, leave just the rows that are
-- to be stored. This jar's own rule: docs/DEFINITIONS.md.
use Rattle.std.specs.Prelude.{◌≡◌, ℕ, ◌≤◌, List, [], ◌∷◌, ◌++◌, true, option_to_list}
use Rattle.std.specs.List.{AllByRecursion, list_all}
use Rattle.jar_values.specs.declared.moment.TheConstants.{MAX_MOMENT}
use Rattle.jar_types.specs.declared.cookie.Cookie.{Cookie}
use Rattle.jar_types.specs.declared.op.Op.{Op}
use Rattle.jar_types.specs.declared.op.Op.TheVariants.{Bind, Set, Get, Delete, All, Clear, Listen, Changes, Unlisten, Post, Hear}
use Rattle.jar_types.specs.declared.entry.Entry.{Entry}
use Rattle.jar_types.specs.declared.entry.Entry.TheVariants.{Call, Jar}
use Rattle.jar_types.specs.declared.entry.Event.{Event}
use Rattle.jar_types.specs.declared.row.Row.{Row}
use Rattle.jar_types.specs.declared.row.RowChange.{RowChange}
use Rattle.jar_types.specs.Journals.{Rules, events, stored_keys, state_of, IsLegal}
use Rattle.jar_types.specs.RowChanges.{RowsRise, changed_rows}
use Rattle.jar_types.specs.Rows.{is_sound_row, row_of}
use Rattle.jar_types.specs.States.{JarState, opening}
use Rattle.jar_types.specs.Steps.{after, entry_of, rows_at}
use Rattle.jar_types.specs.Stored.{IsHonest, sound_rows, stored_rows}

-- ---- what can be stored

-- the row of the cookie is sound, where it has one; and its creation is a moment, which another cookie may get from it
pub record IsStorable (c : Cookie) : Type 0 where
  pub row : list_all is_sound_row (option_to_list (row_of c)) ≡ true
  pub creation : c.creation ≤ MAX_MOMENT

-- what an op stores at a moment can be stored: a Set its cookie, a Get the moment as an access
abbrev pub OpIsStorable : ℕ → Op → Type 0
OpIsStorable now (Bind key) = Unit {0}
OpIsStorable now (Set cookie script secure) = IsStorable cookie
OpIsStorable now (Get request) = now ≤ MAX_MOMENT
OpIsStorable now (Delete key id) = Unit {0}
OpIsStorable now All = Unit {0}
OpIsStorable now Clear = Unit {0}
OpIsStorable now (Listen scope) = Unit {0}
OpIsStorable now (Changes number) = Unit {0}
OpIsStorable now (Unlisten number) = Unit {0}
OpIsStorable now Post = Unit {0}
OpIsStorable now (Hear actor n) = Unit {0}

abbrev pub EntryIsStorable : Entry → Type 0
EntryIsStorable (Call caller now op reply) = OpIsStorable now op
EntryIsStorable (Jar own) = Unit {0}

-- what each call of a journal stores can be stored
abbrev pub AllStorable : List Entry → Type 0
AllStorable journal = AllByRecursion EntryIsStorable journal

-- ---- what a journal changes

-- the changes of rows that these events make, from a state on
abbrev pub changes_from : JarState → List Event → List RowChange
changes_from s [] = []
changes_from s (v ∷ vs) = rows_at s v ++ changes_from (after s v) vs

-- the changes of rows that the events of a journal make
abbrev pub row_changes_of : Rules → List Entry → List RowChange
row_changes_of r journal = changes_from (opening (stored_keys r)) (events journal)

-- the entry of an event adds the changes that the event makes
abbrev pub RowChangesGoOn : Type 0
RowChangesGoOn =
    (r : Rules) (journal : List Entry) (v : Event)
    → row_changes_of r (journal ++ entry_of (state_of (stored_keys r) journal) v ∷ [])
    ≡ row_changes_of r journal ++ rows_at (state_of (stored_keys r) journal) v

-- ---- what is then stored

-- who held these rows and took all changes of a journal holds, among its sound rows, just those that are to be stored
abbrev pub ChangesAreStored : Type 0
ChangesAreStored =
    (r : Rules) (rows : List Row) (journal : List Entry)
    → RowsRise rows → IsLegal r journal → IsHonest r rows journal → AllStorable journal
    → sound_rows (changed_rows rows (row_changes_of r journal)) ≡ stored_rows r rows journal
