use Rattle.std.proofs.Common.{◌≡◌, take}
use Rattle.jar_types.specs.Steps.{loaded_among}
use Rattle.plain_jar.proofs.own.loaded_among.Given as goal

abbrev pub invariant-loop-cookie : goal.invariant-loop-cookie
invariant-loop-cookie l = l.all ≡ loaded_among (take l.cookie-index l.loaded) l.initial.all
