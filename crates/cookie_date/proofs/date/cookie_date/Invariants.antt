-- The parts so far are those of the tokens so far.
use Rattle.std.proofs.Common.{◌≡◌, map}
use Rattle.cookie_date.specs.Parts.{FitParts, parts_of}
use Rattle.cookie_date.proofs.date.cookie_date.Given as goal

abbrev pub invariant-loop-token : goal.invariant-loop-token
invariant-loop-token l = record {
  can_next : (goal.iterator-loop-token).can_next l.token-iterator;
  is_finite : (goal.iterator-loop-token).is_finite l.token-iterator;
  fit : FitParts l.parts;
  so_far : l.parts ≡ parts_of (map (λ token. token.now) l.yielded);
}
