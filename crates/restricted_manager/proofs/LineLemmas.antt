-- Want of memory is no refusal that a text reads as.
use Rattle.std.proofs.Common.{◌≢◌, ℕ, ◌+◌, ◌&&◌, ◌==◌, nat_lt, List, length, Bool, true, false, Some, None, Err, if◌then◌else◌}
use Rattle.std.specs.List.{list_any}
use Rattle.jar_values.specs.declared.names.TheConstants.{MAX_PAIR_BYTES}
use Rattle.jar_values.specs.Bytes.{is_control}
use Rattle.set_cookie_line.specs.declared.line.Line.{Line}
use Rattle.set_cookie_line.specs.declared.line.LineRefusal.TheVariants.{Control, Empty, TooLong, NoMemory}
use Rattle.set_cookie_line.specs.Line.{read_line, unless_refused, line_name, line_value, line_of, line_attributes}

-- what three tests refuse isn't want of memory
named_refusal : (control empty long : Bool) (line : Line)
    → unless_refused (if control then Some Control else (if empty then Some Empty else (if long then Some TooLong else None))) line ≢ Err NoMemory
named_refusal true empty long line = λ h. cc
named_refusal false true long line = λ h. cc
named_refusal false false true line = λ h. cc
named_refusal false false false line = λ h. cc

pub reads_without_want : (text : List ℕ) → read_line text ≢ Err NoMemory
unfolding read_line
reads_without_want text =
    named_refusal (list_any is_control text)
    (length (line_name text) == 0 && length (line_value text) == 0)
    (nat_lt MAX_PAIR_BYTES (length (line_name text) + length (line_value text)))
    (line_of (line_name text) (line_value text) (line_attributes text))
