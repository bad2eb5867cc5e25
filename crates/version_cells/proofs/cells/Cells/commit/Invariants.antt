use Rattle.version_cells.specs.Standing.{listing_of}
use Rattle.version_cells.proofs.cells.Cells.commit.Given as goal

abbrev pub ghosts-commit_as : goal.ghosts-commit_as
ghosts-commit_as a = record { listing = listing_of a.moved.now a.owner a.entry.now }
