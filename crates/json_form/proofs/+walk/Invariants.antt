-- In each loop what is left gives the answer of the whole.
use Rattle.std.proofs.Common.{◌≡◌, ◌≤◌, map, drop}
use Rattle.std.specs.List.{list_any}
use Rattle.serde_json.specs.View.{view, items_view, members_view}
use Rattle.json_form.specs.Lists.{items_misfit, counted_misfit, count_before}
use Rattle.json_form.specs.Objects.{member_misfit, members_misfit}
use Rattle.json_form.specs.Alternatives.{word_misfit, is_amiss, outline_misfit}
use Rattle.json_form.specs.Meaning.{form_of, member_of, word_of, outline_of}
use Rattle.json_form.proofs.+walk.Given as goal

abbrev pub invariant-lists::items_misfit-loop-value : goal.invariant-lists::items_misfit-loop-value
invariant-lists::items_misfit-loop-value l =
    let left = items_misfit (λ i. form_of l.form l.setting) in
    (l.index ≡ l.value-index) × (left l.value-index (items_view (drop l.value-index l.items)) ≡ left 0 (items_view l.items))

abbrev pub invariant-lists::counted_items_misfit-loop-value : goal.invariant-lists::counted_items_misfit-loop-value
invariant-lists::counted_items_misfit-loop-value l =
    let ds = items_view l.items in
    let left = items_misfit (counted_misfit l.tag l.word (form_of l.form) l.setting ds) in
    (l.index ≡ l.value-index) × (l.count ≤ l.value-index) × (l.count ≡ count_before l.tag l.word l.value-index ds)
    × (left l.value-index (items_view (drop l.value-index l.items)) ≡ left 0 ds)

abbrev pub invariant-objects::members_misfit-loop-name : goal.invariant-objects::members_misfit-loop-name
invariant-objects::members_misfit-loop-name l =
    let left = members_misfit (map member_of l.members) l.setting in
    (goal.iterator-objects::members_misfit-loop-name).can_next l.name-iterator
    × (goal.iterator-objects::members_misfit-loop-name).is_finite l.name-iterator
    × (left (members_view l.name-iterator) ≡ left (members_view l.given.entries))

abbrev pub invariant-objects::member_misfit-loop-member : goal.invariant-objects::member_misfit-loop-member
invariant-objects::member_misfit-loop-member l =
    member_misfit (map member_of (drop l.member-index l.members)) l.name l.setting (view l.value)
    ≡ member_misfit (map member_of l.members) l.name l.setting (view l.value)

abbrev pub invariant-alternatives::word_misfit-loop-known : goal.invariant-alternatives::word_misfit-loop-known
invariant-alternatives::word_misfit-loop-known l =
    word_misfit l.tag (map word_of (drop l.known-index l.words)) l.word l.setting (view l.value)
    ≡ word_misfit l.tag (map word_of l.words) l.word l.setting (view l.value)

abbrev pub invariant-alternatives::any_is_amiss-loop-member : goal.invariant-alternatives::any_is_amiss-loop-member
invariant-alternatives::any_is_amiss-loop-member l =
    let amiss = is_amiss l.setting (members_view l.given.entries) in
    list_any amiss (map member_of (drop l.member-index l.members)) ≡ list_any amiss (map member_of l.members)

abbrev pub invariant-alternatives::outline_misfit-loop-outline : goal.invariant-alternatives::outline_misfit-loop-outline
invariant-alternatives::outline_misfit-loop-outline l =
    let given = members_view l.given.entries in
    outline_misfit (map outline_of (drop l.outline-index l.outlines)) l.setting given
    ≡ outline_misfit (map outline_of l.outlines) l.setting given
