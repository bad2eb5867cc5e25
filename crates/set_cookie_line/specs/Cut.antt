-- Texts cut at a separator.
use Rattle.std.specs.Prelude.{ℕ, ◌+◌, ◌==◌, List, take, drop, position, Option, Some, None}

-- the text before this place, and the text after it
abbrev pub cut_at : List ℕ → Option ℕ → List ℕ × Option (List ℕ)
cut_at text None = (text, None)
cut_at text (Some place) = (take place text, Some (drop (place + 1) text))

-- the text before the first separator, and the text after it where there is a separator
abbrev pub cut : ℕ → List ℕ → List ℕ × Option (List ℕ)
cut separator text = cut_at text (position (λ byte. byte == separator) text)
