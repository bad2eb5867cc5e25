-- What the members of a value read as that are of the form, and the words of its tags.
use Rattle.std.proofs.Common.{◌≡◌, ◌∙◌, zero, suc, ℕ, List, [], ◌∷◌, map, length, bytes_eq, nat_lt, codes, Bool, true, false, Option, Some, None, option_map, option_and_then, refl, ap, sym, subst, if◌then◌else◌}
use Rattle.std.specs.Prelude.{unwrap_or}
use Rattle.std.proofs.lemmas.Bool.{both_ways, false_from_ne_true}
use Rattle.std.proofs.lemmas.Slice.Eq.{bytes_eq-Decides}
use Rattle.serde_json.specs.Data.{Data, Items, no_items, item}
use Rattle.serde_json.specs.Find.{get, as_str}
use Rattle.json_form.specs.declared.setting.Setting.{Setting}
use Rattle.json_form.specs.Alternatives.{Word, word_misfit}
use Rattle.json_form.specs.Leaves.{whole_of}
use Rattle.json_form.specs.Lists.{count_before, has_word, is_text_of}
use Rattle.jar_values.specs.declared.text.TheConstants.{TEXT_END}
use Rattle.script_text.specs.declared.word.Word.{Word as StepWord}
use Rattle.script_text.specs.Readings.{word_of, what_by, what_of, step_of}
use Rattle.script_text.specs.Members.{short_text, text_of, text_at, number_of, number_at, list_of}
use Rattle.script_text.proofs.PlacedLemmas.{draft_listens, draft_listens_before}

-- the text of a member, by what it is
text_from : (o : Option Data) → unwrap_or (option_map text_of o) [] ≡ short_text (unwrap_or (option_and_then as_str o) [])
text_from None = refl
text_from (Some v) = refl

-- the text of a member that is one
pub text_is_there : (key : List ℕ) (d : Data) (t : List ℕ) → option_and_then as_str (get key d) ≡ Some t → text_at key d ≡ short_text t
text_is_there key d t e = text_from (get key d) ∙ ap (λ o. short_text (unwrap_or o [])) e

-- the number of a member that is one
pub number_is_there : (key : List ℕ) (d v : Data) (n : ℕ) → get key d ≡ Some v → whole_of v ≡ Some n → number_at key d ≡ n
number_is_there key d v n e f = ap (λ o. unwrap_or (option_map number_of o) 0) e ∙ ap (λ o. unwrap_or o 0) f

-- ---- words

-- what holds of each word of a table, where the form of the word fits
abbrev pub EachWord : (Word → Type 0) → List Word → Type 0
EachWord Q [] = Unit {0}
EachWord Q (w ∷ ws) = Q w × EachWord Q ws

at_word : (b : Bool) (k t : List ℕ) (found rest : Option (List ℕ)) (P : List ℕ → Type 0) → bytes_eq k t ≡ b
    → (found ≡ None → P k) → (rest ≡ None → P t) → (if b then found else rest) ≡ None → P t
at_word true k t found rest P e here later fits = subst P ((bytes_eq-Decides k t).0 e) (here fits)
at_word false k t found rest P e here later fits = later fits

-- it holds of the word that a tag has
pub by_word : (tag : List ℕ) (words : List Word) (t : List ℕ) (s : Setting) (d : Data) (P : List ℕ → Type 0)
    → EachWord (λ w. w.form s d ≡ None → P w.word) words → word_misfit tag words t s d ≡ None → P t
by_word tag [] t s d P each fits = absurd cc
by_word tag (w ∷ ws) t s d P each fits =
    at_word (bytes_eq w.word t) w.word t (w.form s d) (word_misfit tag ws t s d) P refl each.0 (by_word tag ws t s d P each.1) fits

-- ---- listens

pick : (b : Bool) (t k : List ℕ) (w rest : StepWord) (P : List ℕ → StepWord → Type 0) → bytes_eq t k ≡ b → P k w
    → (bytes_eq t k ≡ false → P t rest) → P t (if b then w else rest)
pick true t k w rest P e here later = subst (λ u. P u w) (sym ((bytes_eq-Decides t k).0 e)) here
pick false t k w rest P e here later = later e

-- a step listens where its word is `listen`
listens_by_word : (d : Data) (t : List ℕ) → draft_listens (what_by (word_of t) d) ≡ bytes_eq t (codes "listen")
listens_by_word d t =
    let P : List ℕ → StepWord → Type 0 = λ u w. draft_listens (what_by w d) ≡ bytes_eq u (codes "listen") in
    pick _ t (codes "set") _ _ P refl refl (λ _.
    pick _ t (codes "get") _ _ P refl refl (λ _.
    pick _ t (codes "delete") _ _ P refl refl (λ _.
    pick _ t (codes "all") _ _ P refl refl (λ _.
    pick _ t (codes "clear") _ _ P refl refl (λ _.
    pick _ t (codes "listen") _ _ P refl refl (λ other.
    pick _ t (codes "changes") _ _ P refl refl (λ _.
    pick _ t (codes "unlisten") _ _ P refl refl (λ _.
    pick _ t (codes "hear") _ _ P refl refl (λ _.
    pick _ t (codes "read") _ _ P refl refl (λ _.
    pick _ t (codes "write") _ _ P refl refl (λ _. sym other)))))))))))

short_by : (b : Bool) (t : List ℕ) → nat_lt (length t) TEXT_END ≡ b → bytes_eq (if b then t else []) (codes "listen") ≡ bytes_eq t (codes "listen")
short_by true t e = refl
short_by false t e =
    sym (false_from_ne_true (bytes_eq t (codes "listen")) (λ is.
    let same : t ≡ codes "listen" = (bytes_eq-Decides t (codes "listen")).0 is in
    let short : nat_lt (length t) TEXT_END ≡ true = ap (λ u. nat_lt (length u) TEXT_END) same in
    both_ways (nat_lt (length t) TEXT_END) e short))

word_by : (o : Option (List ℕ)) → bytes_eq (short_text (unwrap_or o [])) (codes "listen") ≡ is_text_of (codes "listen") o
word_by None = refl
word_by (Some t) = short_by (nat_lt (length t) TEXT_END) t refl

listens_as_word : (d : Data) → draft_listens (what_of d) ≡ has_word (codes "op") (codes "listen") d
listens_as_word d =
    listens_by_word d (text_at (codes "op") d) ∙ (ap (λ t. bytes_eq t (codes "listen")) (text_from (get (codes "op") d))
    ∙ word_by (option_and_then as_str (get (codes "op") d)))

-- the items before an index that have the word are the listens before it
pub counted_listens : (ds : Items) (n : ℕ) → count_before (codes "op") (codes "listen") n ds ≡ draft_listens_before (map step_of (list_of ds)) n
counted_listens no_items zero = refl
counted_listens no_items (suc n) = refl
counted_listens (item d ds) zero = refl
counted_listens (item d ds) (suc n) =
    ap (λ k. if has_word (codes "op") (codes "listen") d then suc k else k) (counted_listens ds n)
    ∙ ap (λ b. if b then suc (draft_listens_before (map step_of (list_of ds)) n) else draft_listens_before (map step_of (list_of ds)) n) (sym (listens_as_word d))
