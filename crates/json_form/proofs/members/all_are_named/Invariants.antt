use Rattle.std.proofs.Common.{◌≡◌, map}
use Rattle.serde_json.specs.View.{members_view}
use Rattle.json_form.specs.Objects.{all_are_named}
use Rattle.json_form.specs.Meaning.{member_of}
use Rattle.json_form.proofs.members.all_are_named.Given as goal

abbrev pub invariant-loop-name : goal.invariant-loop-name
invariant-loop-name l =
    goal.iterator-loop-name.can_next l.name-iterator
    × goal.iterator-loop-name.is_finite l.name-iterator
    × (all_are_named (map member_of l.members) (members_view l.name-iterator)
    ≡ all_are_named (map member_of l.members) (members_view l.given.entries))
