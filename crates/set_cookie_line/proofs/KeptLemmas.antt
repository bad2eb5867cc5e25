-- One attribute more at the end of a line.
use Rattle.std.proofs.Common.{◌≡◌, ℕ, Bool, true, false, List, [], ◌∷◌, ◌++◌, Option, Some, None, map, ◌||◌, refl, sym, ap, ◌∙◌}
use Rattle.std.specs.Option.{option_or}
use Rattle.std.specs.List.{list_any}
use Rattle.std.specs.Borrow.{Bor}
use Rattle.std.proofs.lemmas.List.{map-append}
use Rattle.std.proofs.lemmas.List.Recursion.{or_push}
use Rattle.set_cookie_line.specs.Attribute as attribute
use Rattle.set_cookie_line.specs.Attribute.{Attribute, read_attribute}
use Rattle.set_cookie_line.specs.Kept.{last_of, attributes_of, with_attribute}

or_assoc : {A : Type 0} (x y z : Option A) → option_or (option_or x y) z ≡ option_or x (option_or y z)
or_assoc (Some a) y z = refl
or_assoc None y z = refl

or_none : {A : Type 0} (x : Option A) → option_or x None ≡ x
or_none (Some a) = refl
or_none None = refl

-- the last of a list with one more at the end
last_push : {A : Type 0} (part : Attribute → Option A) (list : List Attribute) (last : Attribute)
    → last_of part (list ++ last ∷ []) ≡ option_or (part last) (last_of part list)
last_push part [] last = sym (or_none (part last))
last_push part (first ∷ later) last =
    ap (λ o. option_or o (part first)) (last_push part later last)
    ∙ or_assoc (part last) (last_of part later) (part first)

any_push : (test : Attribute → Bool) (list : List Attribute) (last : Attribute)
    → list_any test (list ++ last ∷ []) ≡ (list_any test list || test last)
any_push test list last = or_push (list_any test) test refl (λ _ _. refl) list last

or_true : (b : Bool) → (b || true) ≡ true
or_true true = refl
or_true false = refl

or_false : (b : Bool) → (b || false) ≡ b
or_false true = refl
or_false false = refl

-- the attributes of a list with one more at the end
pub attributes_push : (list : List Attribute) (last : Attribute)
    → attributes_of (list ++ last ∷ []) ≡ with_attribute (attributes_of list) last
attributes_push list (attribute.expires moment) = simp (last_push, any_push, or_false)
attributes_push list (attribute.max_age seconds) = simp (last_push, any_push, or_false)
attributes_push list (attribute.domain domain) = simp (last_push, any_push, or_false)
attributes_push list (attribute.path path) = simp (last_push, any_push, or_false)
attributes_push list attribute.secure = simp (last_push, any_push, or_false, or_true)
attributes_push list attribute.http_only = simp (last_push, any_push, or_false, or_true)
attributes_push list (attribute.same_site same_site) = simp (last_push, any_push, or_false)
attributes_push list (attribute.priority priority) = simp (last_push, any_push, or_false)
attributes_push list attribute.dropped = simp (last_push, any_push, or_false)

-- the attributes of texts with one more at the end
pub texts_push : (texts : List (Bor (List ℕ))) (last : Bor (List ℕ))
    → map read_attribute (map (λ text. text.now) (texts ++ last ∷ []))
    ≡ map read_attribute (map (λ text. text.now) texts) ++ read_attribute last.now ∷ []
texts_push texts last = simp map-append
