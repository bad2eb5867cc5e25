use Rattle.std.proofs.Common.{◌++◌, string_bytes, encode_utf8}
use Rattle.json_form.specs.Paths.{escape}
use Rattle.json_form.proofs.PathLemmas.{one_more, none_left}
use Rattle.json_form.proofs.paths.push_escaped.Goals as goal

pub loop-character-preserved : goal.loop-character-preserved
loop-character-preserved c =
    one_more (string_bytes c.loop-character.path) (string_bytes c.push_escaped_char.new.path) (encode_utf8 c.in-Some.character)
    c.loop-character.character-iterator.rest.now c.next.new.self.rest.now (string_bytes c.args.path.now ++ escape c.args.name.now)
    c.loop-character.invariant c.in-Some.ensures.steps.0 c.in_ok-push_escaped_char.ensures

pub returns : goal.returns
returns c =
    none_left (string_bytes c.loop-character.path) c.loop-character.character-iterator.rest.now
    (string_bytes c.args.path.now ++ escape c.args.name.now) c.loop-character.invariant c.in-None.ensures.steps.0.0
