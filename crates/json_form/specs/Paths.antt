-- Where a value lies within another: JSON Pointers (RFC 6901).
use Rattle.std.specs.Prelude.{ℕ, List, [], ◌∷◌, ◌++◌, Bool, ◌==◌, codes, decimal, Option, None, Some, if◌then◌else◌}

-- a byte of a name: `~` and `/` are escaped (section 3)
abbrev pub escape_byte : ℕ → List ℕ
escape_byte b = if b == 126 then codes "~0" else (if b == 47 then codes "~1" else b ∷ [])

-- a name, escaped
abbrev pub escape : List ℕ → List ℕ
escape [] = []
escape (b ∷ bs) = escape_byte b ++ escape bs

-- the path that goes on inside the member of a name
abbrev pub in_member : List ℕ → List ℕ → List ℕ
in_member name path = 47 ∷ (escape name ++ path)

-- the path that goes on inside the item of an index (section 4)
abbrev pub in_item : ℕ → List ℕ → List ℕ
in_item index path = 47 ∷ (decimal index ++ path)

-- the value itself, whose path is empty, unless it fits
abbrev pub here_unless : Bool → Option (List ℕ)
here_unless fits = if fits then None else Some []
