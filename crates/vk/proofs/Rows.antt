-- Loops over the rows of a table.
use Rattle.std.proofs.Common.{arith, ◌≢◌, ◌≡◌, ℕ, suc, ◌+◌, ◌-◌, ◌<◌, true, false, List, ◌∷◌, length, get_or, slice_get, drop, map, Option, Some, sym, ap, ◌∙◌, add-one, drop-cons, if◌then◌else◌}
use Rattle.std.specs.Str.{bytes_eq}
use Rattle.std.proofs.lemmas.List.{drop-map}
use Rattle.bitflags.specs.Sets.{Row}
use Rattle.vk.specs.Sets.{has}
use Rattle.vk.specs.Texts.{bits_named, names_of}

-- the rows from place i on begin with that of x
pub rows_at : {X : Type 0} (xs : List X) (view : X → Row) (i : ℕ) (x : X) → i < length xs → x ≡ get_or xs i x → drop i (map view xs) ≡ view x ∷ drop (i + 1) (map view xs)
rows_at xs view i x lt is =
    rw add-one (drop-map view i xs ∙ ap (map view) (drop-cons xs i x lt) ∙ ap (λ y. view y ∷ map view (drop (suc i) xs)) (sym is) ∙ ap (λ ys. view x ∷ ys) (sym (drop-map view (suc i) xs)))

-- THE ROW OF A NAME

pub named_here : {X : Type 0} (xs : List X) (view : X → Row) (i : ℕ) (x : X) (name : List ℕ) (total : Option ℕ) → i < length xs → x ≡ get_or xs i x → bytes_eq (view x).0 name ≡ true → bits_named (drop i (map view xs)) name ≡ total → Some (view x).1 ≡ total
named_here xs view i x name total lt is same so_far =
    sym (ap (λ b. if b then Some (view x).1 else bits_named (drop (i + 1) (map view xs)) name) same) ∙ sym (ap (λ rows. bits_named rows name) (rows_at xs view i x lt is)) ∙ so_far

pub named_on : {X : Type 0} (xs : List X) (view : X → Row) (i : ℕ) (x : X) (name : List ℕ) (total : Option ℕ) → i < length xs → x ≡ get_or xs i x → bytes_eq (view x).0 name ≡ false → bits_named (drop i (map view xs)) name ≡ total → bits_named (drop (i + 1) (map view xs)) name ≡ total
named_on xs view i x name total lt is other so_far =
    sym (ap (λ b. if b then Some (view x).1 else bits_named (drop (i + 1) (map view xs)) name) other) ∙ sym (ap (λ rows. bits_named rows name) (rows_at xs view i x lt is)) ∙ so_far

-- THE NAMES OF A SET

-- place k among the names from place i on, the first of them being that of x
pub put_here : {X : Type 0} (xs : List X) (view : X → Row) (i : ℕ) (x : X) (set k : ℕ) (total : Option (List ℕ)) → i < length xs → x ≡ get_or xs i x → has set (view x).1 ≡ true → k ≡ 0 → slice_get (names_of (drop i (map view xs)) set) k ≡ total → Some (view x).0 ≡ total
put_here xs view i x set k total lt is there first so_far =
    let names = names_of (drop (i + 1) (map view xs)) set in
    let here : names_of (drop i (map view xs)) set ≡ (view x).0 ∷ names = ap (λ rows. names_of rows set) (rows_at xs view i x lt is) ∙ ap (λ b. if b then (view x).0 ∷ names else names) there in
    sym (ap (slice_get ((view x).0 ∷ names)) first) ∙ sym (ap (λ ns. slice_get ns k) here) ∙ so_far

pub put_past : {X : Type 0} (xs : List X) (view : X → Row) (i : ℕ) (x : X) (set k left : ℕ) (total : Option (List ℕ)) → i < length xs → x ≡ get_or xs i x → has set (view x).1 ≡ true → k ≢ 0 → left ≡ k - 1 → slice_get (names_of (drop i (map view xs)) set) k ≡ total → slice_get (names_of (drop (i + 1) (map view xs)) set) left ≡ total
put_past xs view i x set k left total lt is there some less so_far =
    let names = names_of (drop (i + 1) (map view xs)) set in
    let here : names_of (drop i (map view xs)) set ≡ (view x).0 ∷ names = ap (λ rows. names_of rows set) (rows_at xs view i x lt is) ∙ ap (λ b. if b then (view x).0 ∷ names else names) there in
    let more : suc left ≡ k = omega (arith, some, less) in
    ap (slice_get ((view x).0 ∷ names)) more ∙ sym (ap (λ ns. slice_get ns k) here) ∙ so_far

pub put_on : {X : Type 0} (xs : List X) (view : X → Row) (i : ℕ) (x : X) (set k left : ℕ) (total : Option (List ℕ)) → i < length xs → x ≡ get_or xs i x → has set (view x).1 ≡ false → left ≡ k → slice_get (names_of (drop i (map view xs)) set) k ≡ total → slice_get (names_of (drop (i + 1) (map view xs)) set) left ≡ total
put_on xs view i x set k left total lt is other same so_far =
    let names = names_of (drop (i + 1) (map view xs)) set in
    let here : names_of (drop i (map view xs)) set ≡ names = ap (λ rows. names_of rows set) (rows_at xs view i x lt is) ∙ ap (λ b. if b then (view x).0 ∷ names else names) other in
    ap (slice_get names) same ∙ sym (ap (λ ns. slice_get ns k) here) ∙ so_far
