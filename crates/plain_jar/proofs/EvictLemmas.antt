-- Where no cookie is to go, all stay.
use Rattle.std.proofs.Common.{◌≡◌, List, [], ◌∷◌, length, true, false, refl, sym, ap, ◌∙◌, arith}
use Rattle.std.specs.Prelude.{◌==◌}
use Rattle.std.proofs.lemmas.Bool.{ne_eqb}
use Rattle.jar_types.specs.declared.cookie.Cookie.{Cookie}
use Rattle.jar_types.specs.Evictions.{evict}

all_stay : (cookies : List Cookie) → cookies ≡ (evict [] cookies).cookies
all_stay [] = refl
all_stay (c ∷ cs) = ap (λ ds. c ∷ ds) (all_stay cs)

pub none_gone : (gone cookies : List Cookie) → (length gone == 0) ≡ true → cookies ≡ (evict gone cookies).cookies
none_gone [] cookies none = all_stay cookies
none_gone (g ∷ gs) cookies none = let e : false ≡ true = sym (ne_eqb (length (g ∷ gs)) 0 (λ e. absurd (omega (arith, e)))) ∙ none in absurd cc
