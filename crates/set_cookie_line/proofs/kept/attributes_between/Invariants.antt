-- The attributes so far are what those texts come to.
use Rattle.std.proofs.Common.{◌≡◌, map}
use Rattle.set_cookie_line.specs.Attribute.{read_attribute}
use Rattle.set_cookie_line.specs.Kept as spec
use Rattle.set_cookie_line.proofs.kept.attributes_between.Given as goal

abbrev pub invariant-loop-attribute : goal.invariant-loop-attribute
invariant-loop-attribute l =
    spec.kept_view l.kept ≡ spec.attributes_of (map read_attribute (map (λ text. text.now) l.yielded))
