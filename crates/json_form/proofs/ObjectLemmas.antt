-- What is known of the members of an object that fits, in any pass.
use Rattle.std.proofs.Common.{◌≡◌, ℕ, List, [], ◌∷◌, Ordering, Less, Equal, Greater, Bool, true, false, not, ◌&&◌, bytes_eq, is_some, Option, None, Some, option_map, is_eq, nat_cmp, refl, sym, ap, ◌∙◌, if◌then◌else◌, ◌||◌}
use Rattle.std.specs.Option.{option_or}
use Rattle.std.specs.List.{list_any}
use Rattle.std.specs.Ordering.{match_ordering}
use Rattle.std.specs.Cmp.Lexicographic.{slice_cmp}
use Rattle.std.proofs.lemmas.Map.Text.{is_eq-slice_cmp}
use Rattle.std.proofs.lemmas.Slice.Eq.{bytes_eq-Decides}
use Rattle.serde_json.specs.Data.{Data, null, boolean, number, string, array, Members, no_members, member}
use Rattle.serde_json.specs.Data as json
use Rattle.serde_json.specs.Find.{get, get_member}
use Rattle.json_form.specs.Paths.{in_member}
use Rattle.json_form.specs.Objects.{Member, object, lacks_any, is_required, is_named, member_misfit, members_misfit}
use Rattle.json_form.specs.declared.setting.Setting.{Setting}

neither : (name : List ℕ) (first rest : Option (List ℕ)) → option_or (option_map (in_member name) first) rest ≡ None → (first ≡ None) × (rest ≡ None)
neither name None rest none = (refl, none)
neither name (Some path) rest none = absurd cc

at_order : (o : Ordering) (ms : List Member) (s : Setting) (name l : List ℕ) (d e : Data) (found : Option Data) → slice_cmp nat_cmp name l ≡ o
    → member_misfit ms l s e ≡ None → (found ≡ Some d → member_misfit ms name s d ≡ None)
    → match_ordering o found (Some e) found ≡ Some d → member_misfit ms name s d ≡ None
at_order Less ms s name l d e found is here later there = later there
at_order Equal ms s name l d e found is here later there =
    let same : name ≡ l = (bytes_eq-Decides name l).0 (sym (is_eq-slice_cmp name l) ∙ ap is_eq is) in
    let value : e ≡ d = cc in
    rw (same, sym value) here
at_order Greater ms s name l d e found is here later there = later there

-- a member of those that fit is of the form of its name
pub given_fits : (ms : List Member) (s : Setting) (given : Members) (name : List ℕ) (d : Data) → members_misfit ms s given ≡ None
    → get_member name given ≡ Some d → member_misfit ms name s d ≡ None
given_fits ms s no_members name d fits there = absurd cc
given_fits ms s (member l e more) name d fits there =
    let h = neither l (member_misfit ms l s e) (members_misfit ms s more) fits in
    at_order (slice_cmp nat_cmp name l) ms s name l d e (get_member name more) refl h.0 (λ k. given_fits ms s more name d h.1 k) there

none_missing : (lacks : Bool) (ms : List Member) (s : Setting) (given : Members) → (if lacks then Some [] else members_misfit ms s given) ≡ None
    → (lacks ≡ false) × (members_misfit ms s given ≡ None)
none_missing true ms s given fits = absurd cc
none_missing false ms s given fits = (refl, fits)

-- an object that fits has members, of which none is missing and each fits
object_given : (ms : List Member) (s : Setting) (d : Data) → object ms s d ≡ None
    → (given : Members) × (d ≡ json.object given) × (lacks_any ms given ≡ false) × (members_misfit ms s given ≡ None)
object_given ms s null fits = absurd cc
object_given ms s (boolean b) fits = absurd cc
object_given ms s (number n) fits = absurd cc
object_given ms s (string t) fits = absurd cc
object_given ms s (array ds) fits = absurd cc
object_given ms s (json.object given) fits =
    let h = none_missing (lacks_any ms given) ms s given fits in
    (given, refl, h.0, h.1)

-- a member of an object that fits is of the form of its name
pub member_fits : (ms : List Member) (s : Setting) (d : Data) (name : List ℕ) (value : Data) → object ms s d ≡ None
    → get name d ≡ Some value → member_misfit ms name s value ≡ None
member_fits ms s d name value fits there =
    let h = object_given ms s d fits in
    given_fits ms s h.0 name value h.3 (ap (get name) (sym h.1) ∙ there)

-- a member has to be there
abbrev pub requires_member : List ℕ → List Member → Bool
requires_member name ms = list_any (λ m. is_required m.presence && bytes_eq m.name name) ms

both_false : (x y : Bool) → x || y ≡ false → (x ≡ false) × (y ≡ false)
both_false true y h = absurd cc
both_false false y h = (refl, h)

is_not_false : (x : Bool) → not x ≡ false → x ≡ true
is_not_false true h = refl
is_not_false false h = absurd cc

-- the first of several members is the one that is asked for, or it is among the others
first_or_other : (required same lacks others : Bool) (m name : List ℕ) (given : Members) → (same ≡ true → m ≡ name)
    → (required && not (is_some (get_member m given))) || lacks ≡ false → (required && same) || others ≡ true
    → (lacks ≡ false → others ≡ true → is_some (get_member name given) ≡ true) → is_some (get_member name given) ≡ true
first_or_other true true lacks others m name given named none is other =
    let there = is_not_false (is_some (get_member m given)) (both_false (not (is_some (get_member m given))) lacks none).0 in
    ap (λ k. is_some (get_member k given)) (sym (named refl)) ∙ there
first_or_other true false lacks others m name given named none is other =
    other (both_false (not (is_some (get_member m given))) lacks none).1 is
first_or_other false same lacks others m name given named none is other = other none is

-- a required member is there, where none is missing
pub is_there : (ms : List Member) (given : Members) (name : List ℕ) → lacks_any ms given ≡ false → requires_member name ms ≡ true → is_some (get_member name given) ≡ true
is_there [] given name none required = absurd cc
is_there (m ∷ ms) given name none required =
    first_or_other (is_required m.presence) (bytes_eq m.name name) (lacks_any ms given) (requires_member name ms) m.name name given
    (λ same. (bytes_eq-Decides m.name name).0 same) none required (λ a b. is_there ms given name a b)

value_of : (o : Option Data) → is_some o ≡ true → (value : Data) × (o ≡ Some value)
value_of None there = absurd cc
value_of (Some value) there = (value, refl)

-- a required member of an object that fits is there, and is of the form of its name
pub required_fits : (ms : List Member) (s : Setting) (d : Data) (name : List ℕ) → object ms s d ≡ None → requires_member name ms ≡ true
    → (value : Data) × (get name d ≡ Some value) × (member_misfit ms name s value ≡ None)
required_fits ms s d name fits required =
    let h = object_given ms s d fits in
    let v = value_of (get_member name h.0) (is_there ms h.0 name h.2 required) in
    let there : get name d ≡ Some v.0 = ap (get name) h.1 ∙ v.1 in
    (v.0, there, member_fits ms s d name v.0 fits there)

unnamed : (ms : List Member) (s : Setting) (name : List ℕ) (d : Data) → list_any (is_named name) ms ≡ false → member_misfit ms name s d ≡ Some []
unnamed [] s name d none = refl
unnamed (m ∷ ms) s name d none =
    let h = both_false (bytes_eq m.name name) (list_any (is_named name) ms) none in
    rw h.0 (unnamed ms s name d h.1)

absent : (ms : List Member) (s : Setting) (d : Data) (name : List ℕ) (found : Option Data) → get name d ≡ found → object ms s d ≡ None
    → list_any (is_named name) ms ≡ false → found ≡ None
absent ms s d name None there fits none = refl
absent ms s d name (Some value) there fits none =
    let amiss : Some [] ≡ None = sym (unnamed ms s name value none) ∙ member_fits ms s d name value fits there in
    absurd cc

-- a member that the form doesn't name isn't there
pub unnamed_is_absent : (ms : List Member) (s : Setting) (d : Data) (name : List ℕ) → object ms s d ≡ None
    → list_any (is_named name) ms ≡ false → get name d ≡ None
unnamed_is_absent ms s d name fits none = absent ms s d name (get name d) refl fits none
