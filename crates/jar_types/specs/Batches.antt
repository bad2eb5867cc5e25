-- Batches of changed rows: what is to be committed, and the batch that is out. This jar's own rule: docs/DEFINITIONS.md.
use Rattle.std.specs.Prelude.{ℕ, List, [], Bool, true, false, ◌&&◌, ◌||◌, ◌==◌, nat_lt, length, map, fold}
use Rattle.std.specs.Prelude.{Option, None, Some, is_none}
use Rattle.jar_types.specs.declared.cookie.CookieId.{CookieId}
use Rattle.jar_types.specs.declared.entry.Own.{Own}
use Rattle.jar_types.specs.declared.entry.Own.TheVariants.{Want, WantAll, Begun, Loaded, Lost, Whole, Taken, Acked, CommitLost}
use Rattle.jar_types.specs.declared.row.RowChange.{RowChange}
use Rattle.jar_types.specs.Ids.{id_cmp}
use Rattle.jar_types.specs.Orders.{put_by}
use Rattle.jar_types.specs.RowChanges.{change_id}

-- the ids whose stored row changed since the last batch was taken, in their order; the place of the batch that is out; and
-- whether the last one that was out was lost
pub record Batches : Type 0 where
  pub touched : List CookieId
  pub out : Option ℕ
  pub lost : Bool

-- nothing was touched or taken
abbrev pub no_batch : Batches
no_batch = record { touched = []; out = None; lost = false }

-- these rows changed
abbrev pub touching : List RowChange → Batches → Batches
touching changes b = record b { touched = fold (λ ids change. put_by id_cmp (change_id change) ids) b.touched changes }

-- what the jar does itself makes of the batches, as the entry of a place
abbrev pub own_batches : ℕ → Own → Batches → Batches
own_batches place (Want key) b = b
own_batches place WantAll b = b
own_batches place (Begun key) b = b
own_batches place (Loaded key cookies) b = b
own_batches place (Lost key) b = b
own_batches place (Whole now) b = b
own_batches place Taken b = record b { touched = []; out = Some place }
own_batches place (Acked taken) b = record b { out = None; lost = false }
own_batches place (CommitLost taken) b = record b { out = None; lost = true }

-- the batch that is out was taken at this place
abbrev pub is_out : ℕ → Option ℕ → Bool
is_out place None = false
is_out place (Some taken) = taken == place

-- whether the batches let the jar do this itself
abbrev pub may_commit : Own → Batches → Bool
may_commit (Want key) b = true
may_commit WantAll b = true
may_commit (Begun key) b = true
may_commit (Loaded key cookies) b = true
may_commit (Lost key) b = true
may_commit (Whole now) b = true
may_commit Taken b = is_none b.out && (nat_lt 0 (length b.touched) || b.lost)
may_commit (Acked place) b = is_out place b.out
may_commit (CommitLost place) b = is_out place b.out
