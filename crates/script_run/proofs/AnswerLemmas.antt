-- What is due for a script, of values that are those of its run.
use Rattle.std.proofs.Common.{◌≡◌, ℕ, List, sym, subst}
use Rattle.jar_types.specs.declared.entry.Entry.{Entry}
use Rattle.jar_types.specs.declared.row.Row.{Row}
use Rattle.script_text.specs.declared.script.Script.{Script}
use Rattle.script_run.specs.Answers.{KeeperTold, told_of, IsRun}

pub run_same : {T : Type 0} (tells : T → List Row → Type 0) (undisturbed : T → Type 0) (faults : T → ℕ) (old : KeeperTold) (script : Script)
    (k l : T) (journal others : List Entry) (status due : ℕ) (text written : List ℕ)
    → IsRun old (told_of (tells l) (undisturbed l) (faults l)) script others due written
    → k ≡ l → journal ≡ others → status ≡ due → text ≡ written
    → IsRun old (told_of (tells k) (undisturbed k) (faults k)) script journal status text
run_same tells undisturbed faults old script k l journal others status due text written run keeper_is journal_is status_is text_is =
    subst (λ m. IsRun old (told_of (tells m) (undisturbed m) (faults m)) script journal status text) (sym keeper_is)
    (subst (λ j. IsRun old (told_of (tells l) (undisturbed l) (faults l)) script j status text) (sym journal_is)
    (subst (λ s. IsRun old (told_of (tells l) (undisturbed l) (faults l)) script others s text) (sym status_is)
    (subst (λ t. IsRun old (told_of (tells l) (undisturbed l) (faults l)) script others due t) (sym text_is) run)))
