-- Each step from one world to the next keeps the rule.
use Rattle.std.proofs.Common.{◌≡◌, ◌≤◌, ◌+◌, ℕ, List, [], set, refl, sym, ap, ◌∙◌, subst}
use Rattle.std.specs.Prelude.{slice_index}
use Rattle.atomic_table.proofs.Lists.{set_else}
use Rattle.atomic_table.specs.Table.{State}
use Rattle.version_cells.specs.declared.cells.TheConstants.{WORDS, MOST_ENTRIES}
use Rattle.version_cells.specs.declared.view.View.{View}
use Rattle.version_cells.specs.Views.{copy_with}
use Rattle.version_cells.specs.Moves.{after_bump, after_commit, baton_with_copy, pass_with_copy}
use Rattle.version_cells.specs.Rule.{RuleAt, Rule}
use Rattle.version_cells.specs.Reached.{Step, Reached, WordsKeepTheirRule}
use Rattle.version_cells.proofs.Keeping.{seated}
use Rattle.version_cells.proofs.Steps.{counted_up}
use Rattle.version_cells.proofs.Bumping.{bump_kept, fresh_word}
use Rattle.version_cells.proofs.Committing.{commit_kept}
use Rattle.version_cells.proofs.Looking.{look_kept}
use Rattle.version_cells.proofs.Fronting.{front_kept}
use Rattle.version_cells.proofs.Cuts.{makes_pass, gives_permit, copies_pass, copies_baton, lends}
use Rattle.version_cells.proofs.Joining.{baton_takes, pass_takes}
use Rattle.version_cells.proofs.Opening.{opened}
use Rattle.version_cells.proofs.Points.{rule_has_six_points}

world : List ℕ → List View → State ℕ View
world words views = record { words = words; homes = []; views = views }

by_word : (words : List ℕ) (i n m : ℕ) (views : List View) (id : ℕ) (v : View) → n ≡ m
    → RuleAt (set words i n) views id v → Rule (set words i m) views
by_word words i n m views id v e k = (id, v, subst (λ x. RuleAt (set words i x) views id v) e k)

module _ where
  stepped : (words : List ℕ) (views : List View) (words' : List ℕ) (views' : List View)
      → Step words views words' views' → Rule words views → Rule words' views'
  unfolding world
  stepped _ _ _ _ (Step.makes_pass words views id v at kind) r = makes_pass id v kind (world words views) r at
  stepped _ _ _ _ (Step.copies_baton words views id v at kind) r = copies_baton id v kind (world words views) r at
  stepped _ _ _ _ (Step.gives_permit words views id v at kind) r = gives_permit id v kind (world words views) r at
  stepped _ _ _ _ (Step.copies_pass words views id v at kind) r = copies_pass id v kind (world words views) r at
  stepped _ _ _ _ (Step.lends words views id v at kind home) r = lends id v kind home (world words views) r at
  stepped _ _ _ _ (Step.baton_takes words views id other v m p at there apart kind may) r =
      baton_takes id other v m p kind may (world words views) r at apart (set_else views id other (baton_with_copy v (copy_with m p)) apart ∙ there)
  stepped _ _ _ _ (Step.pass_takes words views id other v m p at there apart kind own) r =
      pass_takes id other v m p kind own (world words views) r at apart (set_else views id other (pass_with_copy v (copy_with m p)) apart ∙ there)
  stepped _ _ _ _ (Step.fronts words views id v at kind) r = (r.0, r.1, front_kept words views r.0 r.1 id v r.2 at kind)
  stepped _ _ _ _ (Step.bumps words views id v c at kind cell free) r =
      let k = seated words views r id v at kind in
      let f = fresh_word words views id v c k cell.0 cell.1 free in
      by_word words c _ _ _ id (after_bump v c) (f.1 ∙ ap (λ n. n + 1) (sym f.0)) (bump_kept words views id v c k cell.0 cell.1 free)
  stepped _ _ _ _ (Step.commits words views id v e at kind may) r =
      let k = seated words views r id v at kind in
      by_word words 0 _ _ _ id (after_commit v e)
      (counted_up (slice_index words 0) (subst (λ n. n ≤ MOST_ENTRIES) (sym k.counted) k.room)) (commit_kept words views id v e k may)
  stepped _ _ _ _ (Step.looks words views id v c at kind cell) r = (r.0, r.1, look_kept words views r.0 r.1 id v c r.2 at kind cell.0 cell.1)

ruled : (words : List ℕ) (views : List View) → Reached words views → Rule words views
ruled _ _ (Reached.start words e) = opened words WORDS e refl
ruled _ _ (Reached.then words views words' views' before step) = stepped words views words' views' step (ruled words views before)

pub words_keep_their_rule : WordsKeepTheirRule
words_keep_their_rule words views r = let k = ruled words views r in (k, rule_has_six_points words views k)
