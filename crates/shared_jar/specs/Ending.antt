-- Batches that have ended: while nobody calls a jar, none is out. This jar's own rule:
-- docs/DEFINITIONS.md.
use Rattle.std.specs.Prelude.{◌≡◌, ℕ, List, fold, None}
use Rattle.jar_types.specs.declared.entry.Entry.{Entry}
use Rattle.jar_types.specs.declared.entry.Entry.TheVariants.{Call, Jar}
use Rattle.jar_types.specs.declared.entry.Own.{Own}
use Rattle.jar_types.specs.declared.entry.Own.TheVariants.{Want, WantAll, Begun, Loaded, Lost, Whole, Taken, Acked, CommitLost}
use Rattle.locked_jar.specs.LockedJars.{LockedJar, journal_of}

-- the place of the last batch that was committed, once the jar did this itself
abbrev pub own_acked : ℕ → Own → ℕ
own_acked last (Want key) = last
own_acked last WantAll = last
own_acked last (Begun key) = last
own_acked last (Loaded key cookies) = last
own_acked last (Lost key) = last
own_acked last (Whole now) = last
own_acked last Taken = last
own_acked last (Acked place) = place
own_acked last (CommitLost place) = last

-- and behind one entry more
abbrev pub acked_after : ℕ → Entry → ℕ
acked_after last (Call caller now op reply) = last
acked_after last (Jar own) = own_acked last own

-- the place of the last batch that was committed by a journal, counted from 1, and 0 for none
abbrev pub last_acked : List Entry → ℕ
last_acked journal = fold acked_after 0 journal

-- no batch is out, and this is the place of the last one that was committed
pub record HasEnded (j : LockedJar) (acked : ℕ) : Type 0 where
  pub none_out : j.state.batches.out ≡ None
  pub acked_is : acked ≡ last_acked (journal_of j.seen)
