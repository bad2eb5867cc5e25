use Rattle.std.proofs.Common.{◌≡◌, take}
use Rattle.std.specs.Prelude.{filter}
use Rattle.jar_types.specs.Answers.{is_answered}
use Rattle.plain_jar.proofs.answer.found.Given as goal

abbrev pub invariant-loop-cookie : goal.invariant-loop-cookie
invariant-loop-cookie l = l.found.items ≡ filter (is_answered l.request l.now) (take l.cookie-index l.cookies)
