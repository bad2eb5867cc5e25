use Rattle.shared_jar.proofs.FinishLemmas.{last_home, last_met}
use Rattle.shared_jar.proofs.finish.meet_last.Goals as goal

pub returns-clause-home : goal.returns-clause-home
returns-clause-home g c = last_home c.args.cells.now c.args.locked.now.jar.seen c.args.pass.now c.meet.new.pass c.requires.home c.meet.ensures.pass

pub returns-clause-pass : goal.returns-clause-pass
returns-clause-pass g c = last_met c.args.locked.now.jar.seen c.args.pass.now c.meet.new.pass c.front-front.ensures.begins c.meet.ensures.pass
