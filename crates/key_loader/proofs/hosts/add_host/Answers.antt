use Rattle.std.proofs.Common.{◌≡◌, ℕ, List, [], ◌∷◌, ◌++◌, get_or, set, ap, ◌∙◌, subst, Some, None}
use Rattle.key_loader.specs.declared.group.Group.{Group}
use Rattle.key_loader.specs.Groups.{keys_of}
use Rattle.key_loader.specs.Places.{IsPlaceOf}
use Rattle.key_loader.proofs.HostLemmas.{host_missing, host_set, more}
use Rattle.key_loader.proofs.hosts.add_host.Goals as goal

pub returns-in_ok-push : goal.returns-in_ok-push
returns-in_ok-push c =
    let groups = c.args.groups.now.items in
    let key = c.args.key.now in
    let host = c.args.host.now in
    let place = c.in-Some.place in
    let group = c.index_mut.result.now in
    let at : IsPlaceOf key (keys_of groups) (Some place) = subst (λ (gs : List Group). IsPlaceOf key (keys_of gs) (Some place)) c.deref.ensures.value c.in-Some.ensures in
    let read : group ≡ get_or groups place group = c.index_mut.ensures.value in
    let pushed : c.push.new.self ≡ group.hosts ++ host ∷ [] = c.in_ok-push.ensures.ok ∙ ap (λ (h : List ℕ). group.hosts ++ h ∷ []) c.in_ok-copy.ensures in
    ap (λ (hs : List (List ℕ)). set groups place (record { key = group.key; hosts = hs })) pushed
    ∙ ap (λ (g : Group). set groups place (more host g)) read
    ∙ host_set key host groups place group c.requires at

pub returns-in_default : goal.returns-in_default
returns-in_default c =
    let groups = c.args.groups.now.items in
    let key = c.args.key.now in
    host_missing key c.args.host.now groups (subst (λ (gs : List Group). IsPlaceOf key (keys_of gs) None) c.deref.ensures.value c.in_default.ensures)
