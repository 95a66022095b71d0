-- What the passes of a generated frame do.
use Rattle.std.specs.Prelude.{ℕ, zero, suc, List, [], ◌∷◌, ◌+◌, ◌*◌, ◌/◌, ◌%◌, ◌==◌, if◌then◌else◌}
use Rattle.base.specs.declared.op.Fun.TheVariants.{Add, Xor}
use Rattle.base.specs.declared.op.Op.{Op}
use Rattle.base.specs.declared.op.Op.TheVariants.{CopyImage, Ramp, Map, Combine, Box3}

-- w(i), of which pass i is made: each follows from the one before it
abbrev pub drawn : ℕ → ℕ → ℕ
drawn number zero = number % 65537
drawn number (suc i) = (75 * drawn number i + 74) % 65537

-- the kind of pass i, 0 to 4; the first one has nothing to read
abbrev pub kind_of : ℕ → ℕ → ℕ
kind_of w i = if i == 0 then 0 else w % 5

-- one of the resources before resource i, where there is one
abbrev pub earlier : ℕ → ℕ → ℕ
earlier n i = if i == 0 then 0 else n % i

abbrev pub first_source : ℕ → ℕ → ℕ
first_source w i = earlier (w / 5) i

abbrev pub second_source : ℕ → ℕ → ℕ
second_source w i = earlier (w / 25) i

-- the operation of a kind on resources a and b
abbrev pub op_by : {R : Type 0} → ℕ → ℕ → R → R → R → Op R
op_by kind w a b dst =
    if kind == 0 then Ramp dst w 1 64
    else (if kind == 1 then Map a dst Add w
    else (if kind == 2 then Combine a b dst Xor
    else (if kind == 3 then Box3 a dst
    else CopyImage a dst 0 0 0 0 64 64)))

-- the resources that it reads, a before b, each once
abbrev pub reads_by : ℕ → ℕ → ℕ → List ℕ
reads_by kind a b =
    if kind == 0 then []
    else (if kind == 2 then (if a == b then a ∷ [] else a ∷ b ∷ [])
    else a ∷ [])
