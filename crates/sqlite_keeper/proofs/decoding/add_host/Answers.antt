use Rattle.std.proofs.Common.{◌≡◌, true, [], ◌∷◌, ◌++◌, rules}
use Rattle.jar_keeper.proofs.HostLemmas.{text_total}
use Rattle.jar_types.specs.Ids.{text_cmp}
use Rattle.sqlite_keeper.specs.Rising.{comes_after}
use Rattle.sqlite_keeper.proofs.RisingLemmas.{pushed}
use Rattle.sqlite_keeper.proofs.decoding.add_host.Goals as goal

pub returns-in_ok-push-clause-rises : goal.returns-in_ok-push-clause-rises
returns-in_ok-push-clause-rises c =
    let after : comes_after text_cmp c.args.hosts.now.items c.in_ok-of.field-0 ≡ true = search rules in
    let is : c.push.new.self.items ≡ c.args.hosts.now.items ++ c.in_ok-of.field-0 ∷ [] = search rules in
    pushed text_cmp text_total c.args.hosts.now.items c.push.new.self.items c.in_ok-of.field-0 after is
