use Rattle.std.proofs.Common.{[], ◌∷◌, refl}
use Rattle.std.specs.Prelude.{codes}
use Rattle.std.specs.List.Sorted.{IsStrictlySortedBy}
use Rattle.jar_types.specs.Ids.{text_cmp}
use Rattle.plain_jar.proofs.tests.runs.stored_keys.Goals as goal

two_rise : IsStrictlySortedBy text_cmp (codes "h.test" ∷ codes "i.test" ∷ [])
unfolding IsStrictlySortedBy
two_rise = ((refl, tt), (tt, tt))

pub returns : goal.returns
returns c =
    rw (c.in_ok-push-2.ensures.ok, c.in_ok-push.ensures.ok, c.new-keys.ensures, c.in_ok-of.ensures, c.in_ok-of-2.ensures) two_rise
