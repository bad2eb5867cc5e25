-- Paths at the names of RFC 6901, the limits' numbers, and each form of values, lists and objects at
-- a JSON text that is of it and one that isn't.
use Rattle.std.proofs.Common.{◌≡◌, refl, ap, ℕ, ◌-◌, ◌^◌, List, [], ◌∷◌, length, Some, None}
use Rattle.std.specs.Prelude.{codes, nat_lt}
use Rattle.std.specs.Fmt.{digits}
use Rattle.serde_json.specs.Data.{string}
use Rattle.serde_json.proofs.OnLiterals.{serde_json_on_literals}
use Rattle.jar_values.specs.declared.moment.TheConstants.{MAX_MOMENT}
use Rattle.jar_values.specs.declared.text.TheConstants.{TEXT_END}
use Rattle.json_form.specs.Paths.{here_unless}
use Rattle.json_form.specs.Forms.{Form, misfit}
use Rattle.json_form.specs.Leaves.{null, flag, text, one_word, whole, moment, below_length, up_to_count}
use Rattle.json_form.specs.Lists.{list_of, measured, counting}
use Rattle.json_form.specs.Objects.{object, must, may}
use Rattle.json_form.specs.declared.setting.Pass.TheVariants.{Shapes, Moments}
use Rattle.json_form.proofs.Facts.{Fits, Amiss}

-- a text has fewer than 2^30 bytes
text_end : TEXT_END ≡ 1073741824
text_end = refl

-- a moment is at most the last millisecond of the year 9999
last_moment : MAX_MOMENT ≡ 253402300799999
last_moment = refl

long_text : (t : List ℕ) → length t ≡ 1073741824 → misfit Shapes text (string t) ≡ Some []
long_text t long = ap (λ n. here_unless (nat_lt n TEXT_END)) long

short_text : (t : List ℕ) → length t ≡ 1073741823 → misfit Shapes text (string t) ≡ None
short_text t short = ap (λ n. here_unless (nat_lt n TEXT_END)) short

-- ---- values without parts

nulls : Fits Shapes null (codes "null")
    × Amiss Shapes null (codes "0") []
    × Fits Moments null (codes "0")
unfolding serde_json_on_literals
nulls = (refl, refl, refl)

flags : Fits Shapes flag (codes "false")
    × Amiss Shapes flag (codes "\"false\"") []
unfolding serde_json_on_literals
flags = (refl, refl)

texts : Fits Shapes text (codes "\"\"")
    × Amiss Shapes text (codes "null") []
unfolding serde_json_on_literals
texts = (refl, refl)

abbrev colours : Form
colours = one_word (codes "red" ∷ codes "green" ∷ [])

words : Fits Shapes colours (codes "\"green\"")
    × Amiss Shapes colours (codes "\"gree\"") []
    × Amiss Shapes colours (codes "1") []
unfolding serde_json_on_literals
words = (refl, refl, refl)

wholes : Fits Shapes (whole 1 10) (codes "1")
    × Fits Shapes (whole 1 10) (codes "10")
    × Amiss Shapes (whole 1 10) (codes "0") []
    × Amiss Shapes (whole 1 10) (codes "11") []
unfolding serde_json_on_literals
wholes = (refl, refl, refl, refl)

-- a number with a fraction or an exponent is none
not_whole : Amiss Shapes (whole 0 10) (codes "1.0") []
    × Amiss Shapes (whole 0 10) (codes "1e0") []
    × Amiss Shapes moment (codes "1.5") []
unfolding serde_json_on_literals
not_whole = (refl, refl, refl)

-- 2^64 - 1 is the last whole number
last_whole : Fits Shapes (whole 0 (2 ^ 64 - 1)) (codes "18446744073709551615")
    × Amiss Shapes moment (codes "18446744073709551616") []
unfolding serde_json_on_literals
last_whole = (refl, refl)

-- a number below 0 or past the last moment is of the form of a moment, and none
moments : Fits Shapes moment (codes "-1")
    × Amiss Moments moment (codes "-1") []
    × Fits Moments moment (codes "253402300799999")
    × Amiss Moments moment (codes "253402300800000") []
unfolding serde_json_on_literals
moments = (refl, refl, refl, refl)

-- outside of a list nothing is below its length, or counted
alone : Amiss Shapes below_length (codes "0") []
    × Amiss Shapes up_to_count (codes "1") []
unfolding serde_json_on_literals
alone = (refl, refl)

-- ---- lists

lists : Fits Shapes (list_of flag) (codes "[]")
    × Amiss Shapes (list_of flag) (codes "[true,0,0]") (codes "/1")
    × Amiss Shapes (list_of flag) (codes "{}") []
unfolding serde_json_on_literals digits
lists = (refl, refl, refl)

-- an index of two digits
eleventh : Amiss Shapes (list_of null) (codes "[null,null,null,null,null,null,null,null,null,null,0]") (codes "/10")
unfolding serde_json_on_literals digits
eleventh = refl

lengths : Fits Shapes (measured below_length) (codes "[1,0]")
    × Amiss Shapes (measured below_length) (codes "[1,2]") (codes "/1")
unfolding serde_json_on_literals digits
lengths = (refl, refl)

-- a list of births, and of deaths that name a birth before them
abbrev lives : Form
lives = counting (codes "is") (codes "birth") (object (must (codes "is") text ∷ may (codes "of") up_to_count ∷ []))

counts : Fits Shapes lives (codes "[{\"is\":\"birth\"},{\"is\":\"death\",\"of\":1}]")
    × Amiss Shapes lives (codes "[{\"is\":\"birth\",\"of\":1}]") (codes "/0/of")
    × Amiss Shapes lives (codes "[{\"is\":\"birth\"},{\"is\":\"death\",\"of\":2}]") (codes "/1/of")
unfolding serde_json_on_literals digits
counts = (refl, refl, refl)

-- ---- objects

abbrev point : Form
point = object (must (codes "x") (whole 0 9) ∷ must (codes "y") (whole 0 9) ∷ may (codes "label") text ∷ [])

objects : Fits Shapes point (codes "{\"y\":1,\"x\":0}")
    × Fits Shapes point (codes "{\"y\":1,\"x\":0,\"label\":\"\"}")
    × Amiss Shapes point (codes "[0,1]") []
unfolding serde_json_on_literals
objects = (refl, refl, refl)

-- a missing member names its object, an unknown one itself, and of several the least name comes first
members : Amiss Shapes point (codes "{\"x\":10,\"z\":0}") []
    × Amiss Shapes point (codes "{\"y\":1,\"x\":0,\"z\":0}") (codes "/z")
    × Amiss Shapes point (codes "{\"y\":10,\"x\":10,\"label\":0}") (codes "/label")
unfolding serde_json_on_literals
members = (refl, refl, refl)

abbrev empty : Form
empty = object []

-- RFC 6901, section 5: names and their pointers
names : Amiss Shapes empty (codes "{\"\":0}") (codes "/")
    × Amiss Shapes empty (codes "{\"a/b\":0}") (codes "/a~1b")
    × Amiss Shapes empty (codes "{\"m~n\":0}") (codes "/m~0n")
    × Amiss Shapes empty (codes "{\"c%d\":0}") (codes "/c%d")
    × Amiss Shapes empty (codes "{\" \":0}") (codes "/ ")
unfolding serde_json_on_literals
names = (refl, refl, refl, refl, refl)

-- RFC 6901, section 3: `~1` in a name isn't `/`
tilde_one : Amiss Shapes empty (codes "{\"~1\":0}") (codes "/~01")
unfolding serde_json_on_literals
tilde_one = refl
