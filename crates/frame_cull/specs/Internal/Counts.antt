-- Reference counts.
use Rattle.std.specs.Prelude.{suc, map, ◌≡◌, ◌<◌, ◌+◌, ◌-◌, ◌++◌, ◌∷◌, ◌==◌, ℕ, List, [], length, slice_index_or, slice_set, Bool, true, false, if◌then◌else◌}
use Rattle.std.specs.List.{All, Contains, count_by, sum_by}
use Rattle.frame_cull.specs.Versions.{row_at}

-- BY ROWS: ENTRY q HAS THE SOURCES OF PASS q

abbrev pub RowLeads : List (List ℕ) → ℕ → ℕ → Type 0
RowLeads sources p q = (q < length sources) × Contains (row_at sources q) p

pub data RowReaches (sources : List (List ℕ)) : ℕ → ℕ → Type 0 where
  stays : {p : ℕ} → RowReaches sources p p
  goes : {p q r : ℕ} → RowLeads sources p q → RowReaches sources q r → RowReaches sources p r

abbrev pub is_root : List Bool → ℕ → Bool
is_root roots p = slice_index_or roots p false

-- a pass from which a root is reached
abbrev pub IsNeeded : List (List ℕ) → List Bool → ℕ → Type 0
IsNeeded sources roots p = (q : ℕ) × RowReaches sources p q × (is_root roots q ≡ true)

-- sources come before
abbrev pub IsForward : List (List ℕ) → Type 0
IsForward sources = (q : ℕ) (d : List ℕ) → q < length sources → All (λ p. p < q) (slice_index_or sources q d)

-- COUNTS

-- how often w stands in a list
abbrev pub times : ℕ → List ℕ → ℕ
times w xs = count_by (λ x. x == w) xs

abbrev pub count_of : List ℕ → ℕ → ℕ
count_of refs w = slice_index_or refs w 0

abbrev pub lowered : List ℕ → ℕ → List ℕ
lowered refs w = slice_set refs w (count_of refs w - 1)

-- the counts when each pass of a row has lost one reader, and the stack with those that lost the last
abbrev pub refs_after : List ℕ → List ℕ → List ℕ
refs_after [] refs = refs
refs_after (w ∷ row) refs = refs_after row (lowered refs w)

abbrev pub stack_after : List ℕ → List ℕ → List ℕ → List ℕ
stack_after [] refs stack = stack
stack_after (w ∷ row) refs stack = stack_after row (lowered refs w) (if count_of refs w - 1 == 0 then stack ++ w ∷ [] else stack)

-- a pass is kept with its row, or waits on the stack with its row, or is out without it
pub data State (refs : ℕ) (waiting : ℕ) (row : List ℕ) (source : List ℕ) : Type 0 where
  kept : 0 < refs → waiting ≡ 0 → row ≡ source → State refs waiting row source
  waits : refs ≡ 0 → waiting ≡ 1 → row ≡ source → State refs waiting row source
  out : refs ≡ 0 → waiting ≡ 0 → row ≡ [] → State refs waiting row source

abbrev pub root_count : List Bool → ℕ → ℕ
root_count roots w = if is_root roots w then 1 else 0

-- The rows are the sources whose readers are still counted; the others are empty.
pub record Counts (sources : List (List ℕ)) (roots : List Bool) (refs : List ℕ) (stack : List ℕ) : Type 0 where
  pub rows : List (List ℕ)
  pub size : length rows ≡ length sources
  pub refs_size : length refs ≡ length sources
  pub counted : (w : ℕ) → w < length sources → count_of refs w ≡ root_count roots w + sum_by (times w) rows
  pub states : (q : ℕ) → q < length sources → State (count_of refs q) (times q stack) (slice_index_or rows q []) (row_at sources q)
  pub inside : All (λ p. p < length sources) stack

-- the counts of the roots alone; those when a row's passes have each one reader more; those with all rows
abbrev pub root_counts : List Bool → List ℕ
root_counts roots = map (λ root. if root then 1 else 0) roots

abbrev pub raised : List ℕ → List ℕ → List ℕ
raised [] refs = refs
raised (w ∷ row) refs = raised row (slice_set refs w (count_of refs w + 1))

abbrev pub counted : List (List ℕ) → List ℕ → List ℕ
counted [] refs = refs
counted (row ∷ rows) refs = counted rows (raised row refs)

-- the positions, from i on, of the counts that are 0
abbrev pub idle_from : ℕ → List ℕ → List ℕ
idle_from i [] = []
idle_from i (count ∷ refs) = if count == 0 then i ∷ idle_from (suc i) refs else idle_from (suc i) refs
