use Rattle.std.proofs.Common.{◌≡◌, ℕ, List, length, ap, ◌∙◌, arith}
use Rattle.std.specs.Prelude.{map}
use Rattle.std.specs.Str.{bytes_eq}
use Rattle.std.proofs.lemmas.List.{take_all}
use Rattle.std.proofs.lemmas.List.Filters.{dedup_is}
use Rattle.jar_values.specs.Hosts.{undotted}
use Rattle.jar_types.specs.Ids.{text_cmp}
use Rattle.jar_types.specs.Orders.{ascending}
use Rattle.public_suffix.specs.Suffix.{key_of}
use Rattle.key_loader.proofs.OrderLemmas.{sorted_is}
use Rattle.key_loader.proofs.hosts.keys_among.Goals as goal

pub returns : goal.returns
returns c =
    let hosts = c.args.hosts.now in
    let key = λ (host : List ℕ). key_of c.args.suffixes.now (undotted host) in
    let same : c.as_slice-host-items.result.now ≡ hosts = c.as_slice-host-items.ensures in
    c.from_vec.ensures ∙ dedup_is bytes_eq _ _ c.dedup.ensures.filtered
    ∙ sorted_is _ _ c.sort_unstable.ensures.permutation c.sort_unstable.ensures.sorted
    ∙ ap (ascending text_cmp) c.loop-host.invariant
    ∙ ap (λ (xs : List (List ℕ)). ascending text_cmp (map key xs)) (take_all c.loop-host.host-index hosts (omega (arith, ap length same)))
