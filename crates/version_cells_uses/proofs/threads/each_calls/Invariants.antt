use Rattle.version_cells_uses.proofs.threads.each_calls.Given as goal

abbrev pub ghosts-each_named : goal.ghosts-each_named
ghosts-each_named g a = record { table = a.cells.now }
