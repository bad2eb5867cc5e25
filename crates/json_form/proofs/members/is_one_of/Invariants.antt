use Rattle.std.proofs.Common.{◌≡◌, map, drop}
use Rattle.std.specs.List.{list_any}
use Rattle.json_form.specs.Objects.{is_named}
use Rattle.json_form.specs.Meaning.{member_of}
use Rattle.json_form.proofs.members.is_one_of.Given as goal

abbrev pub invariant-loop-member : goal.invariant-loop-member
invariant-loop-member l =
    list_any (is_named l.name) (map member_of (drop l.member-index l.members)) ≡ list_any (is_named l.name) (map member_of l.members)
