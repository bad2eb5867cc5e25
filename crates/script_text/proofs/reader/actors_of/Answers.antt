use Rattle.script_text.specs.Readings.{actor_of}
use Rattle.script_text.specs.Placed.{IsActorOf}
use Rattle.script_text.specs.Walk.{actor_urls}
use Rattle.script_text.proofs.ReaderLemmas.{read_more, read_refused}
use Rattle.script_text.proofs.WalkLemmas.{actor_places}
use Rattle.script_text.proofs.reader.actors_of.Goals as goal

pub returns-in-Err : goal.returns-in-Err
returns-in-Err c =
    let rules = c.args.suffixes.now in
    let at = c.loop-value in
    let item = c.value-item.result in
    read_refused rules actor_urls (IsActorOf rules) (actor_places rules) actor_of c.args.values.now at.value-index item at.actors c.in-Err.refusal
    c.loop-value-test.true c.value-item.is at.invariant (rw c.len.ensures at c.in-Err.ensures)

pub loop-value-preserved : goal.loop-value-preserved
loop-value-preserved c =
    let rules = c.args.suffixes.now in
    let at = c.loop-value in
    rw c.in_ok-push-in-Ok.ensures.ok
    (read_more (IsActorOf rules) actor_of c.args.values.now at.value-index c.value-item.result at.actors c.in-Ok.actor
    c.loop-value-test.true c.value-item.is at.invariant c.in-Ok.ensures)
