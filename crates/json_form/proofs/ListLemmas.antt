-- What is known of a list that fits, in any pass.
use Rattle.std.proofs.Common.{◌≡◌, refl, sym, ap, ◌∙◌, ℕ, zero, suc, ◌+◌, List, Option, None, Some, option_map, arith, add-zero}
use Rattle.std.specs.Option.{option_or}
use Rattle.serde_json.specs.Data.{Data, Items, no_items, item}
use Rattle.serde_json.specs.Find.{as_array, get_item}
use Rattle.json_form.specs.Paths.{in_item}
use Rattle.json_form.specs.Forms.{Form}
use Rattle.json_form.specs.Lists.{list_of, list_misfit, measured, measured_misfit, measured_by, counting, counting_misfit, counted_misfit, counted_as, count_before, items_misfit}
use Rattle.json_form.specs.declared.setting.Setting.{Setting}

neither : (i : ℕ) (first rest : Option (List ℕ)) → option_or (option_map (in_item i) first) rest ≡ None → (first ≡ None) × (rest ≡ None)
neither i None rest none = (refl, none)
neither i (Some path) rest none = absurd cc

fits_from : (judged : ℕ → Data → Option (List ℕ)) (start i : ℕ) (ds : Items) (d : Data) → items_misfit judged start ds ≡ None
    → get_item i ds ≡ Some d → judged (start + i) d ≡ None
fits_from judged start i no_items d fits there = absurd cc
fits_from judged start zero (item e ds) d fits there =
    let value : e ≡ d = cc in
    let first = (neither start (judged start e) (items_misfit judged (suc start) ds) fits).0 in
    rw (add-zero, ← value) first
fits_from judged start (suc i) (item e ds) d fits there =
    let index : suc start + i ≡ start + suc i = omega arith in
    let rest = (neither start (judged start e) (items_misfit judged (suc start) ds) fits).1 in
    rw (← index) (fits_from judged (suc start) i ds d rest there)

-- each item fits
item_fits : (judged : ℕ → Data → Option (List ℕ)) (i : ℕ) (ds : Items) (d : Data) → items_misfit judged 0 ds ≡ None
    → get_item i ds ≡ Some d → judged i d ≡ None
item_fits judged i ds d fits there =
    let index : 0 + i ≡ i = omega arith in
    rw (← index) (fits_from judged 0 i ds d fits there)

list_given : (form : Form) (s : Setting) (o : Option Items) → list_misfit form s o ≡ None
    → (ds : Items) × (o ≡ Some ds) × ((i : ℕ) (d : Data) → get_item i ds ≡ Some d → form s d ≡ None)
list_given form s None fits = absurd cc
list_given form s (Some ds) fits = (ds, refl, λ i d there. item_fits (λ i. form s) i ds d fits there)

-- a list of a form: it is there, and each item is of the form
pub list_fits : (form : Form) (s : Setting) (d : Data) → list_of form s d ≡ None
    → (ds : Items) × (as_array d ≡ Some ds) × ((i : ℕ) (e : Data) → get_item i ds ≡ Some e → form s e ≡ None)
list_fits form s d fits = list_given form s (as_array d) fits

measured_given : (form : Form) (s : Setting) (o : Option Items) → measured_misfit form s o ≡ None
    → (ds : Items) × (o ≡ Some ds) × ((i : ℕ) (d : Data) → get_item i ds ≡ Some d → form (measured_by s ds) d ≡ None)
measured_given form s None fits = absurd cc
measured_given form s (Some ds) fits = (ds, refl, λ i d there. item_fits (λ i. form (measured_by s ds)) i ds d fits there)

-- a list that is measured: each item is of the form, where the list's length is known
pub measured_fits : (form : Form) (s : Setting) (d : Data) → measured form s d ≡ None
    → (ds : Items) × (as_array d ≡ Some ds) × ((i : ℕ) (e : Data) → get_item i ds ≡ Some e → form (measured_by s ds) e ≡ None)
measured_fits form s d fits = measured_given form s (as_array d) fits

counting_given : (tag word : List ℕ) (form : Form) (s : Setting) (o : Option Items) → counting_misfit tag word form s o ≡ None
    → (ds : Items) × (o ≡ Some ds) × ((i : ℕ) (d : Data) → get_item i ds ≡ Some d → form (counted_as s (count_before tag word i ds)) d ≡ None)
counting_given tag word form s None fits = absurd cc
counting_given tag word form s (Some ds) fits = (ds, refl, λ i d there. item_fits (counted_misfit tag word form s ds) i ds d fits there)

-- a list of which some items are counted: each item is of the form, where the count of those before it is known
pub counting_fits : (tag word : List ℕ) (form : Form) (s : Setting) (d : Data) → counting tag word form s d ≡ None
    → (ds : Items) × (as_array d ≡ Some ds) × ((i : ℕ) (e : Data) → get_item i ds ≡ Some e → form (counted_as s (count_before tag word i ds)) e ≡ None)
counting_fits tag word form s d fits = counting_given tag word form s (as_array d) fits

-- so for the items that a reader finds
pub item_of : (form : Form) (s : Setting) (d : Data) (ds : Items) (i : ℕ) (e : Data) → list_of form s d ≡ None
    → as_array d ≡ Some ds → get_item i ds ≡ Some e → form s e ≡ None
item_of form s d ds i e fits list there =
    let h = list_fits form s d fits in
    let same : h.0 ≡ ds = cc in
    h.2 i e (ap (get_item i) same ∙ there)

-- in a list that is measured
pub measured_item_of : (form : Form) (s : Setting) (d : Data) (ds : Items) (i : ℕ) (e : Data) → measured form s d ≡ None
    → as_array d ≡ Some ds → get_item i ds ≡ Some e → form (measured_by s ds) e ≡ None
measured_item_of form s d ds i e fits list there =
    let h = measured_fits form s d fits in
    let same : h.0 ≡ ds = cc in
    ap (λ xs. form (measured_by s xs) e) (sym same) ∙ h.2 i e (ap (get_item i) same ∙ there)

-- in a list of which some items are counted
pub counted_item_of : (tag word : List ℕ) (form : Form) (s : Setting) (d : Data) (ds : Items) (i : ℕ) (e : Data) → counting tag word form s d ≡ None
    → as_array d ≡ Some ds → get_item i ds ≡ Some e → form (counted_as s (count_before tag word i ds)) e ≡ None
counted_item_of tag word form s d ds i e fits list there =
    let h = counting_fits tag word form s d fits in
    let same : h.0 ≡ ds = cc in
    ap (λ xs. form (counted_as s (count_before tag word i xs)) e) (sym same) ∙ h.2 i e (ap (get_item i) same ∙ there)
