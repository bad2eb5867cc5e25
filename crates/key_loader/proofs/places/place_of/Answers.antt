use Rattle.std.proofs.Common.{sym, subst, rules}
use Rattle.std.proofs.lemmas.Fn.{always_returns_same}
use Rattle.jar_types.specs.Ids.{text_cmp}
use Rattle.key_loader.specs.declared.group.Group.{Group}
use Rattle.key_loader.specs.Groups.{keys_of}
use Rattle.key_loader.specs.Places.{IsPlaceOf}
use Rattle.key_loader.proofs.SearchLemmas.{place_found}
use Rattle.key_loader.proofs.places.place_of.Goals as goal

pub returns : goal.returns
returns c =
    let key = c.args.key.now in
    let groups = c.args.groups.now in
    let found = c.binary_search_by.ensures.position (λ (g : Group). text_cmp g.key key) (always_returns_same _ _ _ (λ a r f' k. search rules)) in
    subst (IsPlaceOf key (keys_of groups)) (sym c.ok.ensures.value) (place_found groups key c.binary_search_by.result c.binary_search_by.ensures.bound found c.requires)
