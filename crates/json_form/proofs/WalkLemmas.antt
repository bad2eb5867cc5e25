-- Steps of the walk: one more item of a list is judged and counted, and alternatives in the pass of shapes.
use Rattle.std.proofs.Common.{◌≡◌, ℕ, zero, suc, ◌+◌, ◌<◌, List, [], ◌∷◌, length, get_or, drop, Bool, true, false, Option, None, refl, arith, add-one, drop-cons, if◌then◌else◌, Some, is_some, option_map, String, string_bytes, Global, sym, ap, ◌∙◌}
use Rattle.json_form.specs.Alternatives.{either}
use Rattle.json_form.specs.Forms.{Form, by_shape}
use Rattle.json_form.specs.Lists.{has_word, count_before, items_misfit}
use Rattle.json_form.specs.declared.setting.Pass.TheVariants.{Shapes}
use Rattle.json_form.specs.declared.setting.Setting.{Setting}
use Rattle.serde_json.specs.Data.{Data}
use Rattle.serde_json.specs.View.{view, items_view}
use Rattle.serde_json.specs.declared.value.Value.{Value}

-- the count goes on with the item of the index
count_step : (tag word : List ℕ) (k : ℕ) (vs : List Value) (v : Value) → k < length vs
    → count_before tag word (suc k) (items_view vs)
    ≡ (if has_word tag word (view (get_or vs k v)) then suc (count_before tag word k (items_view vs)) else count_before tag word k (items_view vs))
count_step tag word k [] v h = absurd (omega arith)
count_step tag word zero (x ∷ xs) v h = refl
count_step tag word (suc k) (x ∷ xs) v h = rw (count_step tag word k xs v (omega arith)) (both (has_word tag word (view x)) (has_word tag word (view (get_or xs k v))) (count_before tag word k (items_view xs)))
  where
    both : (first later : Bool) (n : ℕ) → (if first then suc (if later then suc n else n) else (if later then suc n else n)) ≡ (if later then suc (if first then suc n else n) else (if first then suc n else n))
    both true true n = refl
    both true false n = refl
    both false true n = refl
    both false false n = refl

-- an item with the word
pub count_with : (tag word : List ℕ) (k : ℕ) (vs : List Value) (v : Value) → k < length vs → v ≡ get_or vs k v
    → has_word tag word (view v) ≡ true → count_before tag word (k + 1) (items_view vs) ≡ count_before tag word k (items_view vs) + 1
count_with tag word k vs v h is has =
    rw (add-one, add-one, count_step tag word k vs v h, ← is, has) refl

-- an item without it
pub count_without : (tag word : List ℕ) (k : ℕ) (vs : List Value) (v : Value) → k < length vs → v ≡ get_or vs k v
    → has_word tag word (view v) ≡ false → count_before tag word (k + 1) (items_view vs) ≡ count_before tag word k (items_view vs)
count_without tag word k vs v h is has = rw (add-one, count_step tag word k vs v h, ← is, has) refl

-- an item that fits is passed
pub item_passed : (judged : ℕ → Data → Option (List ℕ)) (k : ℕ) (vs : List Value) (v : Value) → k < length vs → v ≡ get_or vs k v
    → judged k (view v) ≡ None → items_misfit judged (k + 1) (items_view (drop (k + 1) vs)) ≡ items_misfit judged k (items_view (drop k vs))
item_passed judged k vs v h is fits = rw (add-one, drop-cons vs k v, ← is, fits) refl

none_found : (found : Option (String Global)) (path : Option (List ℕ)) → option_map string_bytes found ≡ path → is_some found ≡ false → path ≡ None
none_found None path same none = sym same
none_found (Some text) path same none = absurd cc

-- what fits the first alternative in the pass of shapes fits
pub either_fits : (first second : Form) (s : Setting) (d : Data) (found : Option (String Global)) → option_map string_bytes found ≡ first (by_shape s) d
    → is_some found ≡ false → s.pass ≡ Shapes → either first second s d ≡ None
either_fits first second s d found same none shapes =
    let here : by_shape s ≡ s = ap (λ pass. record s { pass = pass }) (sym shapes) in
    let fits : first (by_shape s) d ≡ None = none_found found (first (by_shape s) d) same none in
    rw fits (ap (λ t. first t d) (sym here) ∙ fits)
