-- Forms at JSON texts, in words: what is read of a text, and what is amiss in it.
use Rattle.std.proofs.Common.{◌≡◌, ℕ, List, Some, None}
use Rattle.std.specs.Prelude.{option_map}
use Rattle.serde_json.specs.Read.{read}
use Rattle.json_form.specs.Forms.{Form, misfit}
use Rattle.json_form.specs.declared.setting.Pass.{Pass}

-- the text is JSON, of a value that fits
abbrev pub Fits : Pass → Form → List ℕ → Type 0
Fits pass form text = option_map (misfit pass form) (read text) ≡ Some None

-- the text is JSON, of a value in which this path is amiss
abbrev pub Amiss : Pass → Form → List ℕ → List ℕ → Type 0
Amiss pass form text path = option_map (misfit pass form) (read text) ≡ Some (Some path)
