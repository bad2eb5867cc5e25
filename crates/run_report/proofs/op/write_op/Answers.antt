use Rattle.run_report.proofs.op.write_op.Goals as goal

pub returns-in-Set : goal.returns-in-Set
returns-in-Set c = rw c.in-Set.is c.write_set.ensures
