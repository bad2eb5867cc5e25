-- Lemmas on lists that are read one by one.
use Rattle.std.proofs.Common.{◌≡◌, ◌<◌, ◌++◌, ◌+◌, zero, suc, ℕ, List, [], ◌∷◌, map, take, drop, get_or, length, refl, ap, sym, subst, arith, add-one, All}
use Rattle.public_suffix.specs.Rule.{SuffixRule}
use Rattle.serde_json.specs.Data.{Data}
use Rattle.serde_json.specs.View.{view}
use Rattle.serde_json.specs.declared.value.Value.{Value}
use Rattle.script_text.specs.declared.refused.ScriptRefusal.{ScriptRefusal}
use Rattle.script_text.specs.Walk.{WalkedUrl, urls_from, IsSomePlace, RefusesUrls}
use Rattle.script_text.specs.Placed.{OneByOne}
use Rattle.script_text.proofs.WalkLemmas.{one_by_one_push, length-one_by_one, list_refused}

-- a list at one of its elements
take_next : {A X : Type 0} (g : A → X) (xs : List A) (i : ℕ) (x : A) → i < length xs → x ≡ get_or xs i x
    → take (suc i) (map g xs) ≡ take i (map g xs) ++ g x ∷ []
take_next g [] i x lt e = absurd (omega arith)
take_next g (y ∷ ys) zero x lt e = ap (λ z. g z ∷ []) (sym e)
take_next g (y ∷ ys) (suc i) x lt e = ap (λ l. g y ∷ l) (take_next g ys i x (omega arith) e)

split_at : {A X : Type 0} (g : A → X) (xs : List A) (i : ℕ) (x : A) → i < length xs → x ≡ get_or xs i x
    → map g xs ≡ take i (map g xs) ++ g x ∷ drop (suc i) (map g xs)
split_at g [] i x lt e = absurd (omega arith)
split_at g (y ∷ ys) zero x lt e = ap (λ z. g z ∷ map g ys) (sym e)
split_at g (y ∷ ys) (suc i) x lt e = ap (λ l. g y ∷ l) (split_at g ys i x (omega arith) e)

-- what a value reads as
abbrev read_as : {X : Type 0} → (Data → X) → Value → X
read_as g v = g (view v)

map_twice : {X : Type 0} (g : Data → X) (vs : List Value) → map (read_as g) vs ≡ map g (map view vs)
map_twice g [] = refl
map_twice g (v ∷ vs) = ap (λ l. g (view v) ∷ l) (map_twice g vs)

-- one more of those that values read as
pub take_read : {X : Type 0} (g : Data → X) (vs : List Value) (i : ℕ) (v : Value) → i < length vs → v ≡ get_or vs i v
    → take (suc i) (map g (map view vs)) ≡ take i (map g (map view vs)) ++ g (view v) ∷ []
take_read g vs i v lt e = subst (λ xs. take (suc i) xs ≡ take i xs ++ g (view v) ∷ []) (map_twice g vs) (take_next (read_as g) vs i v lt e)

-- one more is read
pub read_more : {X Y : Type 0} (R : X → Y → Type 0) (g : Data → X) (vs : List Value) (i : ℕ) (v : Value) (ys : List Y) (y : Y)
    → i < length vs → v ≡ get_or vs i v → OneByOne R (take i (map g (map view vs))) ys → R (g (view v)) y
    → OneByOne R (take (i + 1) (map g (map view vs))) (ys ++ y ∷ [])
read_more R g vs i v ys y lt e h f =
    rw (add-one, take_read g vs i v lt e) (one_by_one_push R (take i (map g (map view vs))) ys (g (view v)) y h f)

-- what refuses one of them refuses them all
pub read_refused : {X Y : Type 0} (rules : List SuffixRule) (urls : ℕ → X → List WalkedUrl) (R : X → Y → Type 0)
    → ((i : ℕ) (x : X) (y : Y) → R x y → All (IsSomePlace rules) (urls i x))
    → (g : Data → X) (vs : List Value) (i : ℕ) (v : Value) (ys : List Y) (e : ScriptRefusal)
    → i < length vs → v ≡ get_or vs i v → OneByOne R (take i (map g (map view vs))) ys
    → RefusesUrls rules (urls (length ys) (g (view v))) e → RefusesUrls rules (urls_from urls 0 (map g (map view vs))) e
read_refused rules urls R each g vs i v ys e lt at h refused =
    let xs = map g (map view vs) in
    let all : xs ≡ take i xs ++ g (view v) ∷ drop (suc i) xs =
    subst (λ l. l ≡ take i l ++ g (view v) ∷ drop (suc i) l) (map_twice g vs) (split_at (read_as g) vs i v lt at) in
    let here : RefusesUrls rules (urls (length (take i xs)) (g (view v))) e =
    subst (λ n. RefusesUrls rules (urls n (g (view v))) e) (length-one_by_one R (take i xs) ys h) refused in
    subst (λ l. RefusesUrls rules (urls_from urls 0 l) e) (sym all)
    (list_refused rules urls R each (take i xs) (drop (suc i) xs) ys (g (view v)) e h here)
