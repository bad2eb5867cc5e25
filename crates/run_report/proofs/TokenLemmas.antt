-- How the tokens of a report follow one another, and what is printed for them.
use Rattle.std.proofs.Common.{◌≡◌, ◌∙◌, ap, ap₂, subst, ℕ, List, [], ◌∷◌, ◌++◌, Ok, append_assoc}
use Rattle.json.specs.Token.{Token, key}
use Rattle.json.specs.Print.{print}
use Rattle.json.specs.Written.{Written, Writes}
use Rattle.serde_json.specs.Data.{Data, string}
use Rattle.serde_json.specs.Written.{compact_text}
use Rattle.serde_json.proofs.Texts.{print-outline}
use Rattle.run_report.specs.Values.{count_data, list_data}
use Rattle.run_report.specs.Tokens.{data_tokens, Extends}

-- one token
pub token : {E : Type 0} {old new : Written} {t : Token} {u : Unit {0}} → Writes {E = E} (Ok u) old new t → Extends old new (t ∷ [])
token w = record { before = w.room.0; behind = w.ok }

-- some tokens, and then others
pub and_then : {old middle new : Written} {first others : List Token} → Extends old middle first → Extends middle new others
    → Extends old new (first ++ others)
and_then {old} {middle} {new} {first} {others} p q =
    record {
      before = q.before ∙ p.before;
      behind = q.behind ∙ (ap (λ ts. ts ++ others) p.behind ∙ append_assoc old.tokens first others);
    }

-- a word that is said otherwise
pub named : {old new : Written} {name word said : List ℕ} → Extends old new (key name ∷ data_tokens (string word)) → word ≡ said
    → Extends old new (key name ∷ data_tokens (string said))
named {old} {new} {name} e same = subst (λ w. Extends old new (key name ∷ data_tokens (string w))) same e

-- a number that is said otherwise
pub counted : {old new : Written} {name : List ℕ} {n said : ℕ} → Extends old new (key name ∷ data_tokens (count_data n)) → n ≡ said
    → Extends old new (key name ∷ data_tokens (count_data said))
counted {old} {new} {name} e same = subst (λ n. Extends old new (key name ∷ data_tokens (count_data n))) same e

-- a list that is said otherwise
pub listed : {T : Type 0} (data_of : T → Data) {old new : Written} {list said : List T}
    → Extends old new (data_tokens (list_data data_of list)) → list ≡ said → Extends old new (data_tokens (list_data data_of said))
listed data_of {old} {new} e same = subst (λ xs. Extends old new (data_tokens (list_data data_of xs))) same e

-- what is printed where a value was written alone
pub printed : (d : Data) {old new : Written} → Extends old new (data_tokens d) → old.before ≡ [] → old.tokens ≡ []
    → new.before ++ print new.tokens ≡ compact_text d
printed d e nothing fresh =
    ap₂ (λ bytes ts. bytes ++ print ts) (e.before ∙ nothing) (e.behind ∙ ap (λ ts. ts ++ data_tokens d) fresh) ∙ print-outline d
