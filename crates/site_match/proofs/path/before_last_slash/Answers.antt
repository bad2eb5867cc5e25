use Rattle.site_match.proofs.EndLemmas.{before_last-split, before_last-none}
use Rattle.site_match.proofs.path.before_last_slash.Goals as goal

pub returns-in-Some : goal.returns-in-Some
returns-in-Some c = before_last-split c.args.path.now c.in-Some.front.now c.in-Some.field-0-1.now c.in-Some.ensures.cases

pub returns-in-None : goal.returns-in-None
returns-in-None c = before_last-none c.args.path.now c.in-None.ensures.cases
