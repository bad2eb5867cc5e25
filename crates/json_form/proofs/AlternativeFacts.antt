-- Each form of several at a JSON text that is of it and one that isn't.
use Rattle.std.proofs.Common.{refl, [], ◌∷◌}
use Rattle.std.specs.Prelude.{codes}
use Rattle.std.specs.Fmt.{digits}
use Rattle.serde_json.proofs.OnLiterals.{serde_json_on_literals}
use Rattle.json_form.specs.Forms.{Form}
use Rattle.json_form.specs.Leaves.{null, flag, text, one_word, whole, moment}
use Rattle.json_form.specs.Lists.{list_of}
use Rattle.json_form.specs.Objects.{object, must, key}
use Rattle.json_form.specs.Alternatives.{or_null, if_has, tagged, on, either, one_of}
use Rattle.json_form.specs.declared.setting.Pass.TheVariants.{Shapes, Moments}
use Rattle.json_form.proofs.Facts.{Fits, Amiss}

null_or_flag : Fits Shapes (or_null flag) (codes "null")
    × Fits Shapes (or_null flag) (codes "true")
    × Amiss Shapes (or_null flag) (codes "0") []
unfolding serde_json_on_literals
null_or_flag = (refl, refl, refl)

abbrev by_unit : Form
by_unit = if_has (codes "unit") (object (must (codes "unit") text ∷ must (codes "size") flag ∷ [])) (object (must (codes "size") null ∷ []))

with_or_without : Fits Shapes by_unit (codes "{\"unit\":\"\",\"size\":true}")
    × Fits Shapes by_unit (codes "{\"size\":null}")
    × Amiss Shapes by_unit (codes "{\"unit\":\"\",\"size\":null}") (codes "/size")
    × Amiss Shapes by_unit (codes "{\"size\":true}") (codes "/size")
unfolding serde_json_on_literals
with_or_without = (refl, refl, refl, refl)

abbrev disc : Form
disc = object (must (codes "kind") text ∷ must (codes "radius") (whole 1 9) ∷ [])

abbrev figure : Form
figure = tagged (codes "kind")
    (on (codes "dot") (object (must (codes "kind") text ∷ [])) ∷ on (codes "disc") disc ∷ [])

tags : Fits Shapes figure (codes "{\"kind\":\"disc\",\"radius\":1}")
    × Amiss Shapes figure (codes "{\"kind\":\"dot\",\"radius\":1}") (codes "/radius")
    × Amiss Shapes figure (codes "{\"radius\":1}") []
unfolding serde_json_on_literals
tags = (refl, refl, refl)

-- where the tag is amiss, nothing else is looked at
unknown_tags : Amiss Shapes figure (codes "{\"a\":0,\"kind\":\"line\"}") (codes "/kind")
    × Amiss Shapes figure (codes "{\"a\":0,\"kind\":0}") (codes "/kind")
    × Amiss Shapes figure (codes "0") []
unfolding serde_json_on_literals
unknown_tags = (refl, refl, refl)

-- the second alternative says what is amiss
eithers : Fits Shapes (either flag (list_of flag)) (codes "true")
    × Fits Shapes (either flag (list_of flag)) (codes "[true]")
    × Amiss Shapes (either flag (list_of flag)) (codes "[0]") (codes "/0")
unfolding serde_json_on_literals digits
eithers = (refl, refl, refl)

-- an alternative is chosen by its shape in the pass of moments too
chosen_by_shape : Amiss Moments (either moment (list_of moment)) (codes "-1") []
    × Amiss Moments (either flag moment) (codes "-1") []
    × Fits Moments (either flag moment) (codes "true")
unfolding serde_json_on_literals
chosen_by_shape = (refl, refl, refl)

abbrev ends : Form
ends = one_of ((must (codes "at") moment ∷ []) ∷ (must (codes "at") flag ∷ key (codes "why") (one_word (codes "late" ∷ [])) ∷ []) ∷ (must (codes "at") text ∷ key (codes "why") (one_word (codes "lost" ∷ [])) ∷ []) ∷ [])

-- the first outline whose members are there, and whose keys fit, judges the others
outlines : Fits Shapes ends (codes "{\"at\":1}")
    × Fits Shapes ends (codes "{\"at\":\"\",\"why\":\"lost\"}")
    × Amiss Shapes ends (codes "{\"at\":\"\",\"why\":\"late\"}") (codes "/at")
unfolding serde_json_on_literals
outlines = (refl, refl, refl)

-- an object that has none of them is itself amiss
no_outline : Amiss Shapes ends (codes "{\"at\":1,\"why\":\"later\"}") []
    × Amiss Shapes ends (codes "{\"why\":\"late\"}") []
    × Amiss Shapes ends (codes "{\"at\":1,\"z\":1}") []
    × Amiss Shapes ends (codes "1") []
unfolding serde_json_on_literals
no_outline = (refl, refl, refl, refl)

outline_moments : Amiss Moments ends (codes "{\"at\":-1}") (codes "/at")
unfolding serde_json_on_literals
outline_moments = refl
