use Rattle.std.proofs.Common.{◌≡◌, ◌+◌, false, sym, ap, ◌∙◌, subst}
use Rattle.jar_types.specs.Batches.{own_batches}
use Rattle.jar_types.specs.States.{JarState}
use Rattle.jar_types.specs.Steps.{after, event_of}
use Rattle.jar_types.specs.Waits.{own_takes_memory, takes_memory}
use Rattle.plain_jar.proofs.OwnLemmas.{noted_with, batches_alone}
use Rattle.plain_jar.proofs.content.Content.take_step.Goals as goal

pub returns-in-Jar : goal.returns-in-Jar
returns-in-Jar c =
    let s = c.args.self.now in
    let own = c.in-Jar.own in
    let i = c.self.inside in
    let seen : JarState = record {
      cookies = i.cookies;
      loads = i.loads;
      bound = i.bound;
      posts = i.posts;
      listens = i.listens;
      listeners = i.listeners;
      batches = i.batches;
      calls = i.calls;
      entries = i.entries;
    } in
    let alone : own_takes_memory own ≡ false = subst (λ entry. takes_memory (event_of entry) ≡ false) c.in-Jar.is c.requires.batches in
    c.count_own.ensures ∙ ap (noted_with seen) c.step.ensures
    ∙ ap (λ t. noted_with t (own_batches (t.entries + 1) own t.batches)) c.self.view_is
    ∙ batches_alone s own alone ∙ ap (λ entry. after s (event_of entry)) (sym c.in-Jar.is)
