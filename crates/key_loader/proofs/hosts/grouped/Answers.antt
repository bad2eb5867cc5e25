use Rattle.std.proofs.Common.{◌≡◌, ◌<◌, ℕ, List, get_or, take, length, sym, ap, ◌∙◌, subst, arith, rules}
use Rattle.std.specs.List.Sorted.{IsStrictlySortedBy}
use Rattle.jar_values.specs.Hosts.{undotted}
use Rattle.jar_types.specs.Ids.{text_cmp}
use Rattle.public_suffix.specs.Suffix.{key_of}
use Rattle.key_loader.specs.Groups.{keys_of, with_host}
use Rattle.key_loader.proofs.HostLemmas.{groups_more, keys_in}
use Rattle.key_loader.proofs.OrderLemmas.{keys_rise}
use Rattle.key_loader.proofs.hosts.grouped.Goals as goal

pub add_host-requires : goal.add_host-requires
add_host-requires c =
    let hosts = take c.loop-host.host-index c.args.hosts.now in
    let same : keys_of c.loop-host.groups.items ≡ c.args.keys = ap keys_of c.loop-host.invariant ∙ keys_in (key_of c.args.suffixes.now) hosts c.args.keys in
    subst (IsStrictlySortedBy text_cmp) (sym (same ∙ c.requires)) (keys_rise (key_of c.args.suffixes.now) c.args.hosts.now)

pub loop-host-preserved : goal.loop-host-preserved
loop-host-preserved c =
    let hosts = c.args.hosts.now in
    let i = c.loop-host.host-index in
    let host = c.host-item.result in
    let key = key_of c.args.suffixes.now in
    let groups = c.loop-host.groups.items in
    let same : c.as_slice-host-items.result.now ≡ hosts = c.as_slice-host-items.ensures in
    let own : c.key-key.result.now ≡ key (undotted host) = c.key-key.ensures ∙ ap key (c.undotted.ensures ∙ ap undotted c.as_str.ensures) in
    let within : i < length hosts = omega (arith, ap length same) in
    let read : host ≡ get_or hosts i host = search rules in
    c.in_ok-add_host.ensures ∙ ap (λ (k : List ℕ). with_host k host groups) own
    ∙ ap (with_host (key (undotted host)) host) c.loop-host.invariant ∙ groups_more key hosts i host c.args.keys within read
