-- What statements in a transaction, and its end, leave of a connection.
use Rattle.std.proofs.Common.{◌≡◌, ◌⊎◌, inl, inr, ℕ, List, [], false, IsTrue, refl, sym, subst, ◌∙◌, arith, Option, Some, None, Ok, Err, Result, IfOk, IfErr, Vec, Global, true≢false}
use Rattle.sqlite.specs.Order.{Row as Cells}
use Rattle.sqlite.specs.Tree.{Trees}
use Rattle.sqlite.specs.declared.error.Error.{Error}
use Rattle.sqlite.specs.State.{State, Shows, KeepsCounts, IsUnchanged, IsRolledBack, KeepsCommit, Survives, IsNotRun, RunsCommand, FailsToShow, FailsToQuery, Shown, ShowsRows as ShowsAnswer, IsTooLate, ExecutesInside}
use Rattle.sqlite.specs.Steps.{FailsToCommit}
use Rattle.sqlite.proofs.StateLemmas.{survives_then}
use Rattle.sqlite_resolve.specs.declared.compiled.Compiled.{Compiled}
use Rattle.sqlite_schema.specs.declared.command.Returning.{Returning}
use Rattle.jar_types.specs.declared.row.Row.{Row}
use Rattle.sqlite_keeper.specs.Changing.{begun}
use Rattle.sqlite_keeper.specs.TableRows.{HoldsRows, ShowsRows, ShowsIfOpen}

-- ---- nothing is committed inside a transaction

pub commit_stays : (old new : State) → IsUnchanged old new ⊎ IsRolledBack old new → KeepsCommit old new
commit_stays old new (inl same) = record { was_open = λ _. same.0.was_open; committed = λ _. same.0.committed_is }
commit_stays old new (inr undone) = record { was_open = undone.was_open; committed = λ here. (undone.undone here).1 }

not_run : (old new : State) (sql : List ℕ) (params : Cells) (e : Error) → IsNotRun old new sql params e
    → IsUnchanged old new ⊎ IsRolledBack old new
unfolding IsNotRun
not_run old new sql params e (inl h) = inl h.1
not_run old new sql params e (inr h) = inr h.3

not_made : (old new : State) (sql : List ℕ) (c : Compiled) (params : Cells) (e : Error) → RunsCommand old new sql c params (Err e)
    → IsUnchanged old new ⊎ IsRolledBack old new
not_made old new sql c params e (inl h) = inl h.1
not_made old new sql c params e (inr h) = inr h.3

not_shown : (old new : State) (sql : List ℕ) (c : Compiled) (params : Cells) (e : Error) (r : Option Returning)
    → FailsToShow old new sql c params e r → IsUnchanged old new ⊎ IsRolledBack old new
not_shown old new sql c params e None h = inl h.3
not_shown old new sql c params e (Some what) h = not_made old new sql c params e h

query_refused : (sql : List ℕ) (params : Cells) (old new : State) (e : Error) → FailsToQuery sql params old new e
    → IsUnchanged old new ⊎ IsRolledBack old new
unfolding FailsToQuery
query_refused sql params old new e (inl h) = not_run old new sql params e h
query_refused sql params old new e (inr h) = not_shown old new sql h.0 _ e h.0.returning h.2

-- an answer's connection was open
answer_open : (old new : State) (sql : List ℕ) (c : Compiled) (params : Cells) (rows : List Cells) (r : Option Returning)
    → ShowsAnswer old new sql c params rows r → IsTrue old.is_open
answer_open old new sql c params rows None h = h.3.0.was_open
answer_open old new sql c params rows (Some what) h = h.1.shown.was_open

pub shown_open : (sql : List ℕ) (params : Cells) (old new : State) (rows : List Cells) → Shown sql params old new rows → IsTrue old.is_open
unfolding Shown
shown_open sql params old new rows h = answer_open old new sql h.0 _ rows h.0.returning h.2

answer_stays : (old new : State) (sql : List ℕ) (c : Compiled) (params : Cells) (rows : List Cells) (r : Option Returning)
    → IsTrue old.in_transaction → ShowsAnswer old new sql c params rows r → KeepsCommit old new
answer_stays old new sql c params rows None inside h = commit_stays old new (inl h.3)
answer_stays old new sql c params rows (Some what) inside h =
    record { was_open = λ _. h.1.shown.was_open; committed = λ _. rw inside at h.1.shown.committed_is }

shown_stays : (sql : List ℕ) (params : Cells) (old new : State) (rows : List Cells) → IsTrue old.in_transaction
    → Shown sql params old new rows → KeepsCommit old new
unfolding Shown
shown_stays sql params old new rows inside h = answer_stays old new sql h.0 _ rows h.0.returning inside h.2

pub query_stays : (sql : List ℕ) (params : Cells) (old new : State) (r : Result (Vec Cells Global) Error) → IsTrue old.in_transaction
    → IfOk r (λ out. Shown sql params old new out.items)
    → IfErr r (λ e. FailsToQuery sql params old new e ⊎ IsTooLate sql params old new e) → KeepsCommit old new
query_stays sql params old new (Ok out) inside shows fails = shown_stays sql params old new out.items inside shows
query_stays sql params old new (Err e) inside shows (inl fails) = commit_stays old new (query_refused sql params old new e fails)
query_stays sql params old new (Err e) inside shows (inr late) = absurd (true≢false (sym inside ∙ late.3))

pub statement_stays : (sql : List ℕ) (params : Cells) (old new : State) (e : Error) → ExecutesInside 0 sql params old new (Err e)
    → KeepsCommit old new
statement_stays sql params old new e (inl h) = commit_stays old new h.1
statement_stays sql params old new e (inr h) = commit_stays old new (inl h.2)

pub prepare_stays : (sql : List ℕ) (params : Cells) (old new : State) (e : Error) → IsNotRun old new sql params e → KeepsCommit old new
prepare_stays sql params old new e h = commit_stays old new (not_run old new sql params e h)

-- ---- the end of a transaction

-- a transaction that is rolled back leaves the rows
pub rolled_back : (old mid end : State) → KeepsCommit (begun old) mid → IsRolledBack mid end → (rows : List Row)
    → ShowsIfOpen old rows → ShowsIfOpen end rows
rolled_back old mid end kept undone rows shows here =
    let there = undone.was_open here in
    let back = undone.undone here in
    let was = shows (kept.was_open there) in
    let commit = kept.committed there in
    record {
      holds = subst (λ d. HoldsRows d rows) (was.settled ∙ sym commit ∙ sym back.0) was.holds;
      settled = back.0 ∙ sym back.1;
    }

pub not_ended : (mid end : State) (e : Error) → IsTrue mid.in_transaction → FailsToCommit mid end e → IsRolledBack mid end
not_ended mid end e inside (inl h) = h.3
not_ended mid end e inside (inr h) = absurd (true≢false (sym inside ∙ h.1))

-- what `commit` says of an Ok
abbrev pub Ends : State → State → Type 0
Ends mid end = IsTrue mid.in_transaction × Shows mid end mid.now mid.now false × KeepsCounts mid end × (end.marks ≡ [])

pub committed_shows : (mid end : State) (rows : List Row) → Ends mid end → HoldsRows mid.now rows → ShowsRows end rows
committed_shows mid end rows ends holds = record {
  holds = subst (λ d. HoldsRows d rows) (sym ends.1.now_is) holds;
  settled = ends.1.now_is ∙ sym ends.1.committed_is;
}

-- ---- what survives

pub survives_same : (s : State) → Survives s s (λ _. ⊥)
survives_same s = record {
  clean = omega arith;
  shield = λ h. h;
  counts = omega arith;
  limit = refl;
  closes = λ _ here. inl here;
  crash = λ _ db h. inl h;
}

pub survives_on : (a b c : State) → Survives a b (λ _. ⊥) → Survives b c (λ _. ⊥) → Survives a c (λ _. ⊥)
survives_on a b c one two = survives_then a b c _ _ (λ _. ⊥) (λ _ db none. none) (λ _ db none. none) one two

-- to begin a transaction does nothing to the store
pub survives_begun : (old end : State) (P : Trees → Type 0) → Survives (begun old) end P → Survives old end P
survives_begun old end P s =
    record { clean = s.clean; shield = s.shield; counts = s.counts; limit = s.limit; closes = s.closes; crash = s.crash }
