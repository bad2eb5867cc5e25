-- Entries that the cutter owns, one after another.
use Rattle.std.proofs.Common.{◌≡◌, ◌+◌, ℕ, sym, ap, ◌∙◌, arith}
use Rattle.version_cells.specs.Listings.{owned}
use Rattle.version_cells.specs.Standing.{PassStanding}
use Rattle.locked_jar.specs.LockedJars.{LockedJar}
use Rattle.store_vault.specs.Cutting.{HasCut}

-- so many entries, and then more
pub cut_on : (n m : ℕ) (a b c : LockedJar) (p q r : PassStanding) → HasCut n a b p q → HasCut m b c q r → HasCut (n + m) a c p r
cut_on n m a b c p q r first then = record {
  table = then.table ∙ first.table;
  number = then.number ∙ first.number;
  home = then.home;
  front = then.front ∙ first.front;
  looks = (then.looks.0 ∙ first.looks.0, then.looks.1 ∙ first.looks.1);
  begins = first.begins;
  seen = then.seen;
  owned_before = first.owned_before;
  calls = sum p.view.calls q.view.calls r.view.calls first.calls then.calls;
  owns = ap (λ k. owned k c.seen) (sym first.number) ∙ then.owns;
}
  where
    sum : (x y z : ℕ) → y ≡ x + n → z ≡ y + m → z ≡ x + (n + m)
    sum x y z e f = omega arith
