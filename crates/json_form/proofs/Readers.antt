-- What the lemmas give to one who reads a value that fits.
use Rattle.std.proofs.Common.{◌≡◌, refl, ap, ◌∙◌, ℕ, ◌≤◌, List, [], ◌∷◌, Some, None}
use Rattle.std.specs.Prelude.{codes, option_and_then}
use Rattle.serde_json.specs.Data.{Data, Items}
use Rattle.serde_json.specs.Find.{get, get_item, as_str, as_array}
use Rattle.json_form.specs.Forms.{misfit, outset}
use Rattle.json_form.specs.Leaves.{text, whole, moment, whole_of}
use Rattle.json_form.specs.Lists.{list_of}
use Rattle.json_form.specs.Objects.{Member, object, must, may}
use Rattle.json_form.specs.Alternatives.{Word, tagged, on}
use Rattle.json_form.specs.declared.setting.Pass.TheVariants.{Shapes, Moments}
use Rattle.json_form.proofs.LeafLemmas.{whole_is, moment_is}
use Rattle.json_form.proofs.ListLemmas.{item_of}
use Rattle.json_form.proofs.ObjectLemmas.{required_fits}
use Rattle.json_form.proofs.AlternativeLemmas.{tagged_as}

abbrev point : List Member
point = must (codes "x") (whole 0 9) ∷ may (codes "label") text ∷ []

abbrev disc : List Member
disc = must (codes "kind") text ∷ must (codes "radius") (whole 1 9) ∷ []

abbrev figures : List Word
figures = on (codes "dot") (object (must (codes "kind") text ∷ [])) ∷ on (codes "disc") (object disc) ∷ []

-- a point that fits has a number at `x`
x_of : (d : Data) → misfit Shapes (object point) d ≡ None → (n : ℕ) × (option_and_then whole_of (get (codes "x") d) ≡ Some n) × (n ≤ 9)
x_of d fits =
    let s = outset Shapes in
    let x = required_fits point s d (codes "x") fits refl in
    let n = whole_is 0 9 s x.0 refl x.2 in
    (n.0, ap (option_and_then whole_of) x.1 ∙ n.1, n.3)

-- a disc that fits has a number at `radius`
radius_of : (d : Data) → misfit Shapes (tagged (codes "kind") figures) d ≡ None → option_and_then as_str (get (codes "kind") d) ≡ Some (codes "disc")
    → (n : ℕ) × (option_and_then whole_of (get (codes "radius") d) ≡ Some n) × (1 ≤ n)
radius_of d fits kind =
    let s = outset Shapes in
    let is_disc = (tagged_as (codes "kind") figures s d (codes "disc") fits kind).1 in
    let r = required_fits disc s d (codes "radius") is_disc refl in
    let n = whole_is 1 9 s r.0 refl r.2 in
    (n.0, ap (option_and_then whole_of) r.1 ∙ n.1, n.2)

-- a moment of a list that fits in the pass of moments is one
moment_of : (d e : Data) (ds : Items) (i : ℕ) → misfit Moments (list_of moment) d ≡ None → as_array d ≡ Some ds → get_item i ds ≡ Some e
    → (n : ℕ) × (whole_of e ≡ Some n) × (n ≤ 253402300799999)
moment_of d e ds i fits list there =
    let s = outset Moments in
    moment_is s e refl (item_of moment s d ds i e fits list there)
