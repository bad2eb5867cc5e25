-- Lemmas on how many steps actors have.
use Rattle.std.proofs.Common.{◌≡◌, ◌<◌, ◌+◌, ◌∙◌, suc, ℕ, List, map, take, get_or, length, codes, ap, sym}
use Rattle.std.proofs.lemmas.List.{length-map}
use Rattle.std.proofs.lemmas.List.Sums.{sum_by_push}
use Rattle.serde_json.specs.View.{view}
use Rattle.serde_json.specs.declared.value.Value.{Value}
use Rattle.script_text.specs.Counts.{step_count}
use Rattle.script_text.specs.Drafts.{DraftActor}
use Rattle.script_text.specs.Readings.{actor_of, step_of}
use Rattle.script_text.specs.Members.{list_at}
use Rattle.script_text.proofs.ReaderLemmas.{take_read}

-- one actor more
pub step_count_more : (vs : List Value) (i : ℕ) (v : Value) (steps : List Value) → i < length vs → v ≡ get_or vs i v
    → map view steps ≡ list_at (codes "steps") (view v)
    → step_count (take (suc i) (map actor_of (map view vs))) ≡ step_count (take i (map actor_of (map view vs))) + length steps
step_count_more vs i v steps lt e is =
    let xs = take i (map actor_of (map view vs)) in
    let many : length (actor_of (view v)).steps ≡ length steps =
    length-map (list_at (codes "steps") (view v)) step_of ∙ (ap length (sym is) ∙ length-map steps view) in
    ap step_count (take_read actor_of vs i v lt e)
    ∙ (sum_by_push (λ (actor : DraftActor). length actor.steps) xs (actor_of (view v)) ∙ ap (λ n. step_count xs + n) many)
