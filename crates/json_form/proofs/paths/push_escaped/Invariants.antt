use Rattle.std.proofs.Common.{◌≡◌, ◌++◌, string_bytes}
use Rattle.json_form.specs.Paths.{escape}
use Rattle.json_form.proofs.paths.push_escaped.Given as goal

-- what is left gives the whole
abbrev pub invariant-loop-character : goal.invariant-loop-character
invariant-loop-character l =
    string_bytes l.path ++ escape l.character-iterator.rest.now ≡ string_bytes l.initial.path ++ escape l.name
