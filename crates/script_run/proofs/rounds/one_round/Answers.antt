use Rattle.std.proofs.Common.{◌≡◌, List, true, false, sym, arith, subst}
use Rattle.jar_types.specs.declared.row.Row.{Row}
use Rattle.shared_jar.specs.Faults.{faults_in}
use Rattle.script_run.specs.Players.{PlayersStanding, run_of}
use Rattle.script_run.specs.Rounds.{flushed, gives_of, held_where, is_due, loaded, rules_of}
use Rattle.script_run.specs.Services.{FlushedBy, LoadedBy}
use Rattle.script_run.proofs.FaultLemmas.{on_ok, on_ok_both}
use Rattle.script_run.proofs.RunLemmas.{flush_more, playing_at, round_of, round_over_of}
use Rattle.script_run.proofs.rounds.one_round.Goals as goal

pub returns-clause-round : goal.returns-clause-round
returns-clause-round g c =
    let script = c.args.script.now in
    let old = c.args.jar.now in
    let mid = c.try_all.new.jar in
    let next = c.load_next.new.jar in
    let new = c.flush.new.jar in
    let players = c.try_all.new.players in
    let t = run_of mid.locked.jar mid.vault.kept players in
    let u = run_of next.locked.jar next.vault.kept players in
    let end = run_of new.locked.jar new.vault.kept players in
    let is = c.try_all.ensures.same in
    let playing =
    playing_at script mid.vault.stored old.vault.stored mid.callers old.callers mid.locked.jar.limit old.locked.jar.limit mid.cells old.cells players
    (sym (λ i. (is.0 i).stored)) (sym is.2) (sym is.3) (sym is.1) c.try_all.ensures.playing in
    let load : LoadedBy (rules_of script old.vault.stored.hosts) script.start t u =
    subst (λ hosts. LoadedBy (rules_of script hosts) script.start t u) (λ i. (is.0 i).stored.hosts)
    (c.in_ok-load_next.ensures.loaded script players playing.rules_are) in
    on_ok c.flush.result
    (λ (flush : (p : PlayersStanding) → FlushedBy false (run_of next.locked.jar next.vault.kept p) (run_of new.locked.jar new.vault.kept p)).
    round_of script old.vault.stored.hosts (run_of old.locked.jar old.vault.kept c.args.players.now) t u end
    c.in_ok-try_all.ensures.tried load (flush players))
    c.flush.ensures.flushed

pub returns-clause-over : goal.returns-clause-over
returns-clause-over g c =
    let K = g.K.Keeper in
    let script = c.args.script.now in
    let old = c.args.jar.now in
    let mid = c.try_all.new.jar in
    let next = c.load_next.new.jar in
    let new = c.flush.new.jar in
    let players = c.try_all.new.players in
    let t = run_of mid.locked.jar mid.vault.kept players in
    let u = run_of next.locked.jar next.vault.kept players in
    let end = run_of new.locked.jar new.vault.kept players in
    let is = c.try_all.ensures.same in
    let playing =
    playing_at script mid.vault.stored old.vault.stored mid.callers old.callers mid.locked.jar.limit old.locked.jar.limit mid.cells old.cells players
    (sym (λ i. (is.0 i).stored)) (sym is.2) (sym is.3) (sym is.1) c.try_all.ensures.playing in
    on_ok_both c.flush.result
    (λ (flush : (p : PlayersStanding) → FlushedBy false (run_of next.locked.jar next.vault.kept p) (run_of new.locked.jar new.vault.kept p))
    (both : ((p : PlayersStanding) → faults_in (run_of new.locked.jar new.vault.kept p).journal ≡ 0
    → run_of new.locked.jar new.vault.kept p ≡ flushed false true (run_of next.locked.jar next.vault.kept p))
    × ((p : PlayersStanding) (held : List Row) → K.tells next.vault.keeper held → faults_in (run_of new.locked.jar new.vault.kept p).journal ≡ 0
    → K.tells new.vault.keeper (held_where (is_due false (run_of next.locked.jar next.vault.kept p)) (run_of next.locked.jar next.vault.kept p) held))).
    λ undisturbed held tells none.
    let more = flush_more false u end (flush players) in
    let none_yet : faults_in u.journal ≡ 0 = omega (arith, more, none) in
    let told : K.tells mid.vault.keeper held = subst (λ k. K.tells k held) (sym (λ i. (is.0 i).keeper)) tells in
    let load : u ≡ loaded script.start (gives_of (rules_of script old.vault.stored.hosts) held) t =
    subst (λ hosts. u ≡ loaded script.start (gives_of (rules_of script hosts) held) t) (λ i. (is.0 i).stored.hosts)
    (c.in_ok-load_next.ensures.over script players playing.rules_are (c.flush.ensures.since undisturbed) held told none_yet) in
    round_over_of script old.vault.stored.hosts (K.tells new.vault.keeper) held (run_of old.locked.jar old.vault.kept c.args.players.now) t u end
    c.in_ok-try_all.ensures.tried load (both.0 players none)
    (both.1 players held ((c.load_next.ensures.told held).0 told) none))
    c.flush.ensures.flushed
    (on_ok_both c.flush.result (λ a b. (a, b)) c.flush.ensures.over c.flush.ensures.told)
