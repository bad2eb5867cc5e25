use Rattle.std.proofs.Common.{◌≡◌, take}
use Rattle.std.specs.Prelude.{map, string_bytes}
use Rattle.jar_types.specs.Answers.{joined, pair_text}
use Rattle.plain_jar.proofs.text.answer_string.Given as goal

abbrev pub invariant-loop-place : goal.invariant-loop-place
invariant-loop-place l = string_bytes l.text ≡ joined (map pair_text (take l.place l.cookies))
