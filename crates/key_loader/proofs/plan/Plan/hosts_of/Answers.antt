use Rattle.std.proofs.Common.{None, Some, ap, ◌∙◌}
use Rattle.key_loader.specs.declared.group.Group.{Group}
use Rattle.key_loader.specs.Groups.{hosts_of}
use Rattle.key_loader.specs.Planned.{Planned}
use Rattle.key_loader.proofs.HostLemmas.{hosts_at, hosts_missing}
use Rattle.key_loader.proofs.SearchLemmas.{moved_place}
use Rattle.key_loader.proofs.plan.Plan.hosts_of.Goals as goal

pub returns-in-Some : goal.returns-in-Some
returns-in-Some c =
    let key = c.args.key.now in
    let place = c.in-Some.place in
    let groups = c.self.inside.groups.items in
    let at = moved_place key (Some place) c.deref.result.now groups c.deref.ensures.value c.in-Some.ensures in
    ap (λ (g : Group). Some g.hosts) c.index.ensures ∙ hosts_at key groups place c.index.result.now c.self.invariant.0.keys_rise at
    ∙ ap (λ (p : Planned). hosts_of key p.groups) c.self.view_is

pub returns-in-None : goal.returns-in-None
returns-in-None c =
    let key = c.args.key.now in
    let at = moved_place key None c.deref.result.now c.self.inside.groups.items c.deref.ensures.value c.in-None.ensures in
    hosts_missing key c.self.inside.groups.items at ∙ ap (λ (p : Planned). hosts_of key p.groups) c.self.view_is
