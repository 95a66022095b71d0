-- What a closure that paints rows has to accept and to give.
use Rattle.std.specs.Prelude.{◌≡◌, ℕ, List, ◌+◌, ◌*◌, ◌≤◌, ◌++◌, length}
use Rattle.base.specs.Shapes.{texel_bytes}
use Rattle.base.specs.Texels.{band}
use Rattle.base.specs.declared.shape.Texel.{Texel}
use denote.Ref.{MutBor}

-- so many rows from one on, among some
abbrev pub IsBand : Texel → ℕ → ℕ → ℕ → ℕ → ℕ → List ℕ → Type 0
IsBand t width first count from n bytes = (first ≤ from) × (from + n ≤ first + count) × (length bytes ≡ texel_bytes t * (width * n))

-- it may be called with each band of these rows
abbrev pub AcceptsBands : (ℕ → ℕ → MutBor (List ℕ) → Type 0) → Texel → ℕ → ℕ → ℕ → Type 0
AcceptsBands pre t width first count = (from n : ℕ) (out : MutBor (List ℕ)) → IsBand t width first count from n out.now → pre from n out

-- and paints the picture p
abbrev pub Paints : (ℕ → ℕ → MutBor (List ℕ) → Unit {0} → MutBor (List ℕ) → Type 0) → Texel → ℕ → ℕ → ℕ → (ℕ → ℕ → ℕ) → Type 0
Paints post t width first count p = (from n : ℕ) (out done : MutBor (List ℕ)) → IsBand t width first count from n out.now → post from n out tt done → done.now ≡ band t width from n p

-- these bytes are its rows, whatever picture that is
abbrev pub ArePainted : (ℕ → ℕ → MutBor (List ℕ) → Unit {0} → MutBor (List ℕ) → Type 0) → Texel → ℕ → ℕ → ℕ → List ℕ → Type 0
ArePainted post t width first count bytes = (p : ℕ → ℕ → ℕ) → Paints post t width first count p → bytes ≡ band t width first count p

-- so are those that follow these
abbrev pub FollowPainted : (ℕ → ℕ → MutBor (List ℕ) → Unit {0} → MutBor (List ℕ) → Type 0) → Texel → ℕ → ℕ → ℕ → List ℕ → List ℕ → Type 0
FollowPainted post t width first count old new = (p : ℕ → ℕ → ℕ) → Paints post t width first count p → new ≡ old ++ band t width first count p
