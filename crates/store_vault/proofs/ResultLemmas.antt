-- What holds of an Ok.
use Rattle.std.specs.Prelude.{Result, Ok, Err, IfOk}

-- a fact of its value that follows from another
pub if_ok : {T E : Type 0} {P Q : T → Type 0} → (r : Result T E) → ((value : T) → P value → Q value) → IfOk r P → IfOk r Q
if_ok (Ok value) f p = f value p
if_ok (Err error) f p = p
