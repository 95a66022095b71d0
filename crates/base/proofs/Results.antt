-- What holds of a result that is there.
use Rattle.std.specs.Prelude.{IfOk, Result, Ok, Err}

pub if_ok : {X E : Type 0} {P Q : X → Type 0} (r : Result X E) → ((x : X) → P x → Q x) → IfOk r P → IfOk r Q
if_ok (Ok x) f p = f x p
if_ok (Err e) f p = tt
