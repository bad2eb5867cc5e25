use Rattle.std.proofs.Common.{Some, refl}
use Rattle.version_cells.specs.Standing.{listing_of}
use Rattle.locked_jar.proofs.PassLemmas.{added_by}
use Rattle.locked_jar.proofs.enter.Parts.add_own.Goals as goal

pub returns-clause-pass : goal.returns-clause-pass
returns-clause-pass g c =
    let p = c.args.cutter.now in
    added_by p c.lend.new.pass c.meet.new.pass c.args.self.now.baton c.lend.new.baton c.enter.new.self.baton
    (listing_of c.args.ready.cells.items (Some p.view.number) c.args.ready.prepared.entry)
    (record {
      lends = c.lend.ensures.pass;
      takes = c.lend.ensures.baton;
      covers = c.lend.ensures.covers;
      commits = cc;
      owner = refl;
      meets = c.meet.ensures.pass;
      told = c.meet.ensures.met;
      no_cell = c.requires.words.0.no_cell;
      no_permit = c.requires.words.0.no_permit;
    })
