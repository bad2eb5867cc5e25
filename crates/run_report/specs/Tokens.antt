-- How a report is written: the tokens of its JSON, one after another. No public clause cites these.
use Rattle.std.specs.Prelude.{◌≡◌, ℕ, List, ◌∷◌, ◌++◌, Result, OnOk}
use Rattle.json.specs.Token.{Token, key}
use Rattle.json.specs.Tree.{json_tokens}
use Rattle.json.specs.Written.{Written}
use Rattle.serde_json.specs.Data.{Data}
use Rattle.serde_json.specs.Written.{outline}

-- the tokens of a value
abbrev pub data_tokens : Data → List Token
data_tokens d = json_tokens (outline d)

-- these tokens were written behind the others
pub record Extends (old new : Written) (tokens : List Token) : Type 0 where
  pub before : new.before ≡ old.before
  pub behind : new.tokens ≡ old.tokens ++ tokens

-- a value was written behind what stood, where memory was there
abbrev pub WritesData : {E : Type 0} → Result (Unit {0}) E → Written → Written → Data → Type 0
WritesData r old new d = OnOk r (Extends old new (data_tokens d))

-- a member of an object was written behind what stood, where memory was there
abbrev pub WritesMember : {E : Type 0} → Result (Unit {0}) E → Written → Written → List ℕ → Data → Type 0
WritesMember r old new name d = OnOk r (Extends old new (key name ∷ data_tokens d))
