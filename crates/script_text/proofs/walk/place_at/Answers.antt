use Rattle.script_text.specs.Walk.{url_at}
use Rattle.script_text.proofs.WalkLemmas.{alone}
use Rattle.script_text.proofs.walk.place_at.Goals as goal

pub returns-in_ok-bad_place-in-None-clause-err : goal.returns-in_ok-bad_place-in-None-clause-err
returns-in_ok-bad_place-in-None-clause-err c =
    rw c.in_ok-bad_place-in-None.ensures
    (alone c.args.suffixes.now (url_at c.args.spot c.args.key.now c.args.url.now) (rw c.in-None.is at c.in_ok-place.ensures))
