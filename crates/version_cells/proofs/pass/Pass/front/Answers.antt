use Rattle.std.proofs.Common.{subst}
use Rattle.version_cells.specs.Listings.{StartsWith}
use Rattle.version_cells.specs.Standing.{PassStanding}
use Rattle.version_cells.proofs.Prefixes.{starts_take}
use Rattle.version_cells.proofs.pass.Pass.front.Goals as goal

pub returns-clause-begins : goal.returns-clause-begins
returns-clause-begins c =
    subst (λ (s : PassStanding). StartsWith s.view.own.seen s.front) c.self.view_is (starts_take c.self.inside.front _)
