use Rattle.std.proofs.Common.{◌≡◌, ◌+◌, ◌<◌, length, rules, arith, sym, ap, ◌∙◌, is_some, true, false, None, option_map, string_bytes}
use Rattle.serde_json.specs.View.{view, items_view}
use Rattle.json_form.specs.Forms.{by_shape}
use Rattle.json_form.specs.Lists.{has_word, counted_misfit}
use Rattle.json_form.specs.Meaning.{form_of}
use Rattle.json_form.proofs.WalkLemmas.{count_with, count_without, item_passed, either_fits}
use Rattle.json_form.proofs.Described.{of_Either}
use Rattle.json_form.proofs.+walk.Goals as goal
use Rattle.json_form.proofs.+walk.Goals.{lists::counted_items_misfit-then-has_word, lists::counted_items_misfit-else-has_word}

pub walk::misfit_of-returns-in-Shapes : goal.walk::misfit_of-returns-in-Shapes
walk::misfit_of-returns-in-Shapes t c =
    let setting = c.args.setting in
    let d = view c.args.value.now in
    let first = form_of c.in-Either.first.now in
    let second = form_of c.in-Either.second.now in
    let found = c.in_ok-misfit_of-in-Either.field-0 in
    let none : is_some found ≡ false = search rules in
    let same : option_map string_bytes found ≡ first (by_shape setting) d = rw (← c.by_shape.ensures) c.in_ok-misfit_of-in-Either.ensures in
    rw (c.in-Either.is, of_Either) (sym (either_fits first second setting d found same none c.in-Shapes.is))

pub lists::counted_items_misfit-loop-value-preserved : goal.lists::counted_items_misfit-loop-value-preserved
lists::counted_items_misfit-loop-value-preserved t c =
    let tag = c.args.tag.now in
    let word = c.args.word.now in
    let form = form_of c.args.form.now in
    let setting = c.args.setting in
    let vs = c.args.items.now in
    let v = c.value-item.result in
    let k = c.loop-value.value-index in
    let inside : k < length vs = omega arith in
    let before = c.loop-value.invariant in
    let judged = counted_misfit tag word form setting (items_view vs) in
    let fits : judged k (view v) ≡ None = rw (← before.2, ← c.counted_as.ensures) (search rules) in
    let passed = item_passed judged k vs v inside c.value-item.is fits in
    elim c.if-has_word.branch [
      | lists::counted_items_misfit-then-has_word w ↦
          let has : has_word tag word (view v) ≡ true = search rules in
          let count = count_with tag word k vs v inside c.value-item.is has in
          (omega arith, omega arith, w.count-is ∙ ap (λ n. n + 1) before.2 ∙ sym count, passed ∙ before.3)
      | lists::counted_items_misfit-else-has_word w ↦
          let has : has_word tag word (view v) ≡ false = search rules in
          let count = count_without tag word k vs v inside c.value-item.is has in
          (omega arith, omega arith, w.count-is ∙ before.2 ∙ sym count, passed ∙ before.3)
    ]
