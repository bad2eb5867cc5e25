-- What a renderer's write asks of the jar, or its first refusal.
-- This jar's own rule: docs/DEFINITIONS.md.
use Rattle.std.specs.Prelude.{◌≡◌, ◌≢◌, ℕ, List, true, Option, Result, Ok, Err, IsOk, if◌then◌else◌}
use Rattle.canonical_cookie.specs.declared.refusal.CookieRefusal.{CookieRefusal}
use Rattle.canonical_cookie.specs.declared.refusal.CookieRefusal.TheVariants as cookie_refusal
use Rattle.canonical_cookie.specs.Making.{made}
use Rattle.jar_types.specs.declared.cookie.Cookie.{Cookie}
use Rattle.jar_types.specs.declared.op.Op.{Op}
use Rattle.jar_types.specs.declared.op.Op.TheVariants as op
use Rattle.public_suffix.specs.Rule.{SuffixRule}
use Rattle.set_cookie_line.specs.declared.line.Line.{Line}
use Rattle.set_cookie_line.specs.declared.line.LineRefusal.{LineRefusal}
use Rattle.set_cookie_line.specs.declared.line.LineRefusal.TheVariants as line_refusal
use Rattle.set_cookie_line.specs.Line.{read_line}
use Rattle.site_match.specs.declared.place.Place.{Place}
use Rattle.site_match.specs.Contexts.{fetch_context}
use Rattle.site_match.specs.Schemes.{is_secure}
use Rattle.restricted_manager.specs.declared.write.WriteRefusal.{WriteRefusal}
use Rattle.restricted_manager.specs.declared.write.WriteRefusal.TheVariants as refusal
use Rattle.restricted_manager.specs.Managers.{ManagerStanding}
use Rattle.restricted_manager.specs.Documents.{asked_place, is_same_origin}

-- what a write at a place asks, whose cookie comes to this: to store it, by a script, on a connection
-- that is secure as the place's scheme
abbrev pub write_of_cookie : Place → Result Cookie CookieRefusal → Result Op WriteRefusal
write_of_cookie place (Ok cookie) = Ok (op.Set cookie true (is_secure place.scheme))
write_of_cookie place (Err why) = Err (refusal.Cookie why)

-- what a write at a place and a moment asks, whose line reads as this
abbrev pub write_of_line : List SuffixRule → Option Place → Place → ℕ → Result Line LineRefusal → Result Op WriteRefusal
write_of_line rules site place now (Ok line) =
    write_of_cookie place (made rules line place (fetch_context place site) true now)
write_of_line rules site place now (Err why) = Err (refusal.Line why)

-- what a write of a text at a place and a moment asks, or its first refusal
abbrev pub write_at : List SuffixRule → ManagerStanding → Place → List ℕ → ℕ → Result Op WriteRefusal
write_at rules manager place text now =
    if is_same_origin place manager.document
    then write_of_line rules manager.site place now (read_line text)
    else Err refusal.OriginMismatch

-- the result is what the write asks or its first refusal, or want of memory where neither the origin nor
-- the line refuses
abbrev pub WritesAt : List SuffixRule → ManagerStanding → Place → List ℕ → ℕ → Result Op WriteRefusal → Type 0
WritesAt rules manager place text now (Ok asked) = write_at rules manager place text now ≡ Ok asked
WritesAt rules manager place text now (Err refusal.OriginMismatch) =
    write_at rules manager place text now ≡ Err refusal.OriginMismatch
WritesAt rules manager place text now (Err (refusal.Line why)) =
    (write_at rules manager place text now ≡ Err (refusal.Line why)) × (why ≢ line_refusal.NoMemory)
WritesAt rules manager place text now (Err (refusal.Cookie why)) =
    (write_at rules manager place text now ≡ Err (refusal.Cookie why))
    × (why ≢ cookie_refusal.NoMemory)
WritesAt rules manager place text now (Err refusal.NoMemory) =
    (is_same_origin place manager.document ≡ true) × IsOk (read_line text)

-- what a write of a text gives, whose place is the document's where it names none
abbrev pub WritesCookie : List SuffixRule → ManagerStanding → Option Place → List ℕ → ℕ → Result Op WriteRefusal → Type 0
WritesCookie rules manager url text now result =
    WritesAt rules manager (asked_place manager.document url) text now result

-- ---- that no public clause cites

-- the result is what a write of a read line asks at a place of the document's origin or its cookie's
-- refusal, or want of memory
abbrev pub SetsCookie : List SuffixRule → Option Place → Place → Line → ℕ → Result Op WriteRefusal → Type 0
SetsCookie rules site place line now (Ok asked) =
    write_of_line rules site place now (Ok line) ≡ Ok asked
SetsCookie rules site place line now (Err refusal.OriginMismatch) = ⊥
SetsCookie rules site place line now (Err (refusal.Line why)) = ⊥
SetsCookie rules site place line now (Err (refusal.Cookie why)) =
    (write_of_line rules site place now (Ok line) ≡ Err (refusal.Cookie why))
    × (why ≢ cookie_refusal.NoMemory)
SetsCookie rules site place line now (Err refusal.NoMemory) = Unit {0}
