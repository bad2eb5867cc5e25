-- The statuses that are due for an input: none is that of an input without an answer.
use Rattle.std.proofs.Common.{◌≡◌, ◌⊎◌, ℕ, zero, suc, List, inl, inr, refl, sym, ◌∙◌, subst, arith}
use Rattle.jar_edge.specs.Told.{SourceTold, SinkTold}
use Rattle.jar_types.specs.declared.entry.Entry.{Entry}
use Rattle.script_text.specs.declared.script.Script.{Script}
use Rattle.shared_jar.specs.Faults.{faults_in}
use Rattle.script_run.specs.declared.status.TheConstants.{DONE, REFUSED, READ_FAULT, STORE_FAULT}
use Rattle.script_run.specs.Answers.{KeeperTold, IsDue, IsRun, status_where}
use Rattle.script_run.specs.Tool.{IsDueFor, Writes}

-- the status is one of an answer
abbrev pub IsAnswered : ℕ → Type 0
IsAnswered status = (status ≡ DONE) ⊎ ((status ≡ STORE_FAULT) ⊎ (status ≡ REFUSED))

answered_where : (n : ℕ) → IsAnswered (status_where n)
answered_where zero = inl refl
answered_where (suc n) = inr (inl refl)

answered_report : (status n : ℕ) → status ≡ status_where n → IsAnswered status
answered_report status n same = subst IsAnswered (sym same) (answered_where n)

answered_run : (old new : KeeperTold) (script : Script) (journal : List Entry) (status : ℕ) (text : List ℕ)
    → IsRun old new script journal status text → IsAnswered status
answered_run old new script journal status text (inl report) = answered_report status (faults_in journal) report.status_is
answered_run old new script journal status text (inr unserved) = inr (inl unserved.line.status_is)

answered_bytes : (old new : KeeperTold) (bytes : List ℕ) (journal : List Entry) (status : ℕ) (text : List ℕ)
    → IsDue old new bytes journal status text → IsAnswered status
answered_bytes old new bytes journal status text (inl read) = answered_run old new read.0 journal status text read.2
answered_bytes old new bytes journal status text (inr refused) = inr (inr refused.2.refuses.status_is)

pub answered : (before then : KeeperTold) (old new : SourceTold) (journal : List Entry) (status : ℕ) (text : List ℕ)
    → IsDueFor before then old new journal status text → IsAnswered status
answered before then old new journal status text (same, inl large) = inr (inr large.2.status_is)
answered before then old new journal status text (same, inr read) = answered_bytes before then read.0 journal status text read.3

no_read_fault : (status : ℕ) → IsAnswered status → status ≡ READ_FAULT → ⊥
no_read_fault status (inl done) fault = let same : 4 ≡ 0 = sym fault ∙ done in absurd (omega (arith, same))
no_read_fault status (inr (inl stored)) fault = let same : 4 ≡ 6 = sym fault ∙ stored in absurd (omega (arith, same))
no_read_fault status (inr (inr refused)) fault = let same : 4 ≡ 3 = sym fault ∙ refused in absurd (omega (arith, same))

-- what is written for an answer isn't under the status of a read that failed
pub written_apart : (due : ℕ) (text : List ℕ) (status : ℕ) (old new : SinkTold) → IsAnswered due → Writes due text status old new → status ≡ READ_FAULT → ⊥
written_apart due text status old new is (inl whole) fault = no_read_fault due is (sym whole.0 ∙ fault)
written_apart due text status old new is (inr part) fault = let same : 4 ≡ 5 = sym fault ∙ part.0 in absurd (omega (arith, same))
