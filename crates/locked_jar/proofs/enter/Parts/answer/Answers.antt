use Rattle.std.proofs.Common.{Some, refl}
use Rattle.version_cells.specs.Standing.{listing_of}
use Rattle.locked_jar.proofs.PassLemmas.{answered_by}
use Rattle.locked_jar.proofs.enter.Parts.answer.Goals as goal

pub returns-clause-pass : goal.returns-clause-pass
returns-clause-pass g c =
    let p = c.args.pass.now in
    answered_by p c.lend.new.pass c.meet.new.pass c.args.self.now.baton c.lend.new.baton c.enter.new.self.baton
    (listing_of c.args.ready.cells.items (Some p.view.number) c.args.ready.prepared.entry) c.answered.new.pass
    (record {
      lends = c.lend.ensures.pass;
      takes = c.lend.ensures.baton;
      covers = c.lend.ensures.covers;
      commits = cc;
      owner = refl;
      meets = c.meet.ensures.pass;
      told = c.meet.ensures.met;
      no_cell = c.requires.words.0.no_cell;
      no_permit = c.requires.words.0.no_permit;
    })
    c.answered.ensures c.front-front.ensures.begins c.requires.pass.1
