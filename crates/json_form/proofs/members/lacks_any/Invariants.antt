use Rattle.std.proofs.Common.{◌≡◌, map, drop}
use Rattle.serde_json.specs.View.{members_view}
use Rattle.json_form.specs.Objects.{lacks_any}
use Rattle.json_form.specs.Meaning.{member_of}
use Rattle.json_form.proofs.members.lacks_any.Given as goal

abbrev pub invariant-loop-member : goal.invariant-loop-member
invariant-loop-member l =
    let given = members_view l.given.entries in
    lacks_any (map member_of (drop l.member-index l.members)) given ≡ lacks_any (map member_of l.members) given
