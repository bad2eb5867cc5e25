use Rattle.std.proofs.Common.{◌≡◌, List, [], true, false, ap, sym, ◌∙◌, arith, subst}
use Rattle.std.specs.Prelude.{◌==◌}
use Rattle.jar_types.specs.declared.row.Row.{Row}
use Rattle.shared_jar.specs.Faults.{faults_in}
use Rattle.script_run.specs.Players.{PlayersStanding, run_of}
use Rattle.script_run.specs.Rounds.{flushed, held_where, is_due, rounds}
use Rattle.script_run.specs.Runs.{Run, is_done}
use Rattle.script_run.specs.Services.{FlushedBy, RoundBy, RoundOver}
use Rattle.script_run.specs.Turns.{turns_left}
use Rattle.script_run.proofs.FaultLemmas.{on_ok, on_ok_both}
use Rattle.script_run.proofs.KeyLemmas.{keys_rise}
use Rattle.script_run.proofs.RunLemmas.{counts_then, flush_more, going-ends, going-first, going-keeps, going-more, going-nearer, over-ends-at, over-first-at, over-more-at, playing_at, round_more}
use Rattle.script_run.proofs.rounds.all_rounds.Goals as goal

pub rounds-init : goal.rounds-init
rounds-init g c =
    let K = g.K.Keeper in
    let script = c.args.script.now in
    let old = c.args.jar.now in
    let new = c.one_round.new.jar in
    let hosts = old.vault.stored.hosts in
    let next = run_of new.locked.jar new.vault.kept c.one_round.new.players in
    let made = c.in_ok-one_round.ensures in
    let begins = c.requires.begins in
    let first : RoundBy script hosts (rounds script hosts []) next = subst (λ (r : Run). RoundBy script hosts r next) begins made.round in
    record {
      going = going-first script hosts next first;
      over = λ undisturbed rows e told none.
          over-first-at script hosts rows (K.tells new.vault.keeper) next e
          (subst (λ (r : Run). RoundOver script hosts (K.tells new.vault.keeper) rows r next) begins (made.over undisturbed rows told none));
      since = c.one_round.ensures.since;
      faults = c.one_round.ensures.faults;
      playing = c.one_round.ensures.playing;
      same = c.one_round.ensures.same;
    }

pub rounds-smaller : goal.rounds-smaller
rounds-smaller g c =
    let script = c.args.script.now in
    let hosts = c.args.jar.now.vault.stored.hosts in
    let mid = c.rounds.jar in
    let new = c.one_round-in-rounds.new.jar in
    let r = run_of mid.locked.jar mid.vault.kept c.rounds.players in
    let next = run_of new.locked.jar new.vault.kept c.one_round-in-rounds.new.players in
    let was = c.rounds.invariant.same in
    let value = c.as_slice.ensures.value in
    let view = ap (λ (p : PlayersStanding). p.items) c.players.view_is in
    let lists : c.as_slice.result.now ≡ c.rounds.players.items = cc in
    let told : c.is_done.result ≡ is_done script r = c.is_done.ensures ∙ ap (λ l. turns_left script.actors l == 0) lists in
    let not_yet : is_done script r ≡ false = sym told ∙ (grind arith) in
    let by : RoundBy script hosts r next =
    subst (λ h. RoundBy script h r next) (λ i. (was.0 i).hosts) c.in_ok-one_round-2.ensures.round in
    let keeps = going-keeps script hosts r c.requires.admitted (keys_rise script hosts) c.rounds.invariant.going in
    going-nearer script hosts r next c.requires.admitted keeps not_yet by

pub rounds-preserved : goal.rounds-preserved
rounds-preserved g c =
    let K = g.K.Keeper in
    let script = c.args.script.now in
    let old = c.args.jar.now in
    let hosts = old.vault.stored.hosts in
    let mid = c.rounds.jar in
    let new = c.one_round-in-rounds.new.jar in
    let r = run_of mid.locked.jar mid.vault.kept c.rounds.players in
    let next = run_of new.locked.jar new.vault.kept c.one_round-in-rounds.new.players in
    let so_far = c.rounds.invariant in
    let was = so_far.same in
    let is = c.one_round-in-rounds.ensures.same in
    let value = c.as_slice.ensures.value in
    let view = ap (λ (p : PlayersStanding). p.items) c.players.view_is in
    let lists : c.as_slice.result.now ≡ c.rounds.players.items = cc in
    let told : c.is_done.result ≡ is_done script r = c.is_done.ensures ∙ ap (λ l. turns_left script.actors l == 0) lists in
    let not_yet : is_done script r ≡ false = sym told ∙ (grind arith) in
    let by : RoundBy script hosts r next =
    subst (λ h. RoundBy script h r next) (λ i. (was.0 i).hosts) c.in_ok-one_round-2.ensures.round in
    record {
      going = going-more script hosts r next so_far.going not_yet by;
      over = λ undisturbed rows e tells none.
          let more = round_more script hosts r next by in
          let none_yet : faults_in r.journal ≡ 0 = omega (arith, more, none) in
          let going = so_far.over (c.one_round-in-rounds.ensures.since undisturbed) rows e tells none_yet in
          over-more-at script hosts rows (K.tells mid.vault.keeper) (K.tells new.vault.keeper) r next e going not_yet
          (subst (λ h. RoundOver script h (K.tells new.vault.keeper) going.held r next) (λ i. (was.0 i).hosts)
          (c.in_ok-one_round-2.ensures.over undisturbed going.held going.told none));
      since = λ undisturbed. so_far.since (c.one_round-in-rounds.ensures.since undisturbed);
      faults =
          counts_then old.locked.jar mid.locked.jar new.locked.jar (K.faults old.vault.keeper) (K.faults mid.vault.keeper) (K.faults new.vault.keeper)
          old.vault.starved mid.vault.starved new.vault.starved so_far.faults c.one_round-in-rounds.ensures.faults;
      playing =
          playing_at script old.vault.stored mid.vault.stored old.callers mid.callers old.locked.jar.limit mid.locked.jar.limit
          old.cells mid.cells c.one_round-in-rounds.new.players was.0 was.2 was.3 was.1 c.one_round-in-rounds.ensures.playing;
      same = (is.0 ∙ was.0, is.1 ∙ was.1, is.2 ∙ was.2, is.3 ∙ was.3);
    }

pub returns-clause-ends : goal.returns-clause-ends
returns-clause-ends g c =
    let script = c.args.script.now in
    let hosts = c.args.jar.now.vault.stored.hosts in
    let mid = c.rounds.jar in
    let new = c.flush.new.jar in
    let players = c.rounds.players in
    let r = run_of mid.locked.jar mid.vault.kept players in
    let end = run_of new.locked.jar new.vault.kept players in
    let value = c.as_slice.ensures.value in
    let view = ap (λ (p : PlayersStanding). p.items) c.players.view_is in
    let lists : c.as_slice.result.now ≡ players.items = cc in
    let told : c.is_done.result ≡ is_done script r = c.is_done.ensures ∙ ap (λ l. turns_left script.actors l == 0) lists in
    let done : is_done script r ≡ true = sym told ∙ (grind arith) in
    on_ok c.flush.result
    (λ (flush : (p : PlayersStanding) → FlushedBy true (run_of mid.locked.jar mid.vault.kept p) (run_of new.locked.jar new.vault.kept p)).
    going-ends script hosts r end c.rounds.invariant.going done (flush players))
    c.flush.ensures.flushed

pub returns-clause-over : goal.returns-clause-over
returns-clause-over g c =
    let K = g.K.Keeper in
    let script = c.args.script.now in
    let mid = c.rounds.jar in
    let new = c.flush.new.jar in
    let players = c.rounds.players in
    let r = run_of mid.locked.jar mid.vault.kept players in
    let end = run_of new.locked.jar new.vault.kept players in
    let value = c.as_slice.ensures.value in
    let view = ap (λ (p : PlayersStanding). p.items) c.players.view_is in
    let lists : c.as_slice.result.now ≡ players.items = cc in
    let told : c.is_done.result ≡ is_done script r = c.is_done.ensures ∙ ap (λ l. turns_left script.actors l == 0) lists in
    let done : is_done script r ≡ true = sym told ∙ (grind arith) in
    on_ok_both c.flush.result
    (λ (flush : (p : PlayersStanding) → FlushedBy true (run_of mid.locked.jar mid.vault.kept p) (run_of new.locked.jar new.vault.kept p))
    (both : ((p : PlayersStanding) → faults_in (run_of new.locked.jar new.vault.kept p).journal ≡ 0
    → run_of new.locked.jar new.vault.kept p ≡ flushed true true (run_of mid.locked.jar mid.vault.kept p))
    × ((p : PlayersStanding) (held : List Row) → K.tells mid.vault.keeper held → faults_in (run_of new.locked.jar new.vault.kept p).journal ≡ 0
    → K.tells new.vault.keeper (held_where (is_due true (run_of mid.locked.jar mid.vault.kept p)) (run_of mid.locked.jar mid.vault.kept p) held))).
    λ undisturbed rows e tells none.
    let more = flush_more true r end (flush players) in
    let none_yet : faults_in r.journal ≡ 0 = omega (arith, more, none) in
    let going = c.rounds.invariant.over (c.flush.ensures.since undisturbed) rows e tells none_yet in
    over-ends-at script rows (K.tells mid.vault.keeper) (K.tells new.vault.keeper) r end going done
    (both.1 players going.held going.told none) (both.0 players none))
    c.flush.ensures.flushed
    (on_ok_both c.flush.result (λ a b. (a, b)) c.flush.ensures.over c.flush.ensures.told)
