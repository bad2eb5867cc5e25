-- The words that the program takes, without its own name. This jar's own rule: docs/DEFINITIONS.md.
use Rattle.std.specs.Prelude.{◌==◌, ◌&&◌, ◌||◌, ℕ, List, [], ◌∷◌, drop, length, Bool, false, cond, not, Option, Some, None, is_some, bytes_eq, nat_eq, codes}
use Rattle.std.specs.List.{starts_with}

-- a file's name isn't empty, and doesn't begin with a hyphen
abbrev pub is_file : List ℕ → Bool
is_file [] = false
is_file (byte ∷ bytes) = not (byte == 0x2D)

-- the text, where it is a file's name
abbrev pub file_of : List ℕ → Option (List ℕ)
file_of name = cond (is_file name) (Some name) None

-- what a word that names the store in one begins with
abbrev pub store_is : List ℕ
store_is = codes "--store="

-- the file of the word `--store=FILE`
abbrev pub file_in : List ℕ → Option (List ℕ)
file_in word = cond (starts_with nat_eq word store_is) (file_of (drop (length store_is) word)) None

-- the command that runs a script on one thread
abbrev pub is_serial : List ℕ → Bool
is_serial word = bytes_eq word (codes "serial")

-- the file of a store: FILE of `serial --store FILE` and `serial --store=FILE`
abbrev pub store_file : List (List ℕ) → Option (List ℕ)
store_file [] = None
store_file (command ∷ []) = None
store_file (command ∷ word ∷ []) = cond (is_serial command) (file_in word) None
store_file (command ∷ word ∷ name ∷ []) = cond (is_serial command && bytes_eq word (codes "--store")) (file_of name) None
store_file (command ∷ word ∷ name ∷ other ∷ words) = None

-- the words are `serial` alone
abbrev pub is_bare : List (List ℕ) → Bool
is_bare [] = false
is_bare (command ∷ []) = is_serial command
is_bare (command ∷ word ∷ words) = false

-- the words are those of `serial`, with a store or without one
abbrev pub runs_serial : List (List ℕ) → Bool
runs_serial words = is_bare words || is_some (store_file words)
