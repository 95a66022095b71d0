-- The copy of an export leaves all bytes of the unit in its buffer.
use Rattle.std.proofs.Common.{◌≡◌, ◌≢◌, ℕ, ◌+◌, ◌-◌, ◌≤◌, ◌<◌, List, [], ◌++◌, length, map, take, drop, refl, sym, ap, ◌∙◌, subst, append-nil, arith}
use Rattle.std.specs.List.{All, slice_range}
use Rattle.std.proofs.lemmas.List.{drop_all, take_all, length-set, get_or-set_same, get_or-set_other}
use Rattle.base.specs.Applied.{replaced, applied, bytes_at, after_op}
use Rattle.base.specs.Operands.{sources_of, destination_of, operands_of, mapped}
use Rattle.base.specs.Shapes.{bytes_of, shape_at}
use Rattle.base.specs.declared.shape.Shape.{Shape}
use Rattle.base.specs.declared.shape.Shape.TheVariants.{Buffer, Image}
use Rattle.compile_groups.proofs.Operands.{copy_destination}
use Rattle.compile_groups.specs.Commands.{copy_out}

pub copy_mapped : (f : ℕ → ℕ) (s : Shape) (src dst : ℕ) → mapped f (copy_out s src dst) ≡ copy_out s (f src) (f dst)
copy_mapped f (Buffer size) src dst = refl
copy_mapped f (Image w h t) src dst = refl

pub copy_operands : (P : ℕ → Type 0) (s : Shape) (src dst : ℕ) → All P (operands_of (copy_out s src dst)) → P src × P dst
copy_operands P (Buffer size) src dst all = (all 0 src (omega arith), all 1 src (omega arith))
copy_operands P (Image w h t) src dst all = (all 0 src (omega arith), all 1 src (omega arith))

-- all bytes of a list, from its start
pub whole_range : (bytes : List ℕ) (from size : ℕ) → from ≡ 0 → length bytes ≡ size → slice_range bytes from (from + size) ≡ bytes
whole_range bytes from size none e =
    let all : length bytes ≤ 0 + size - 0 = omega (arith, e) in
    ap (λ n. slice_range bytes n (n + size)) none ∙ take_all (0 + size - 0) bytes all

all_replaced : (old bytes : List ℕ) (size : ℕ) → length old ≡ size → replaced old 0 size bytes ≡ bytes
all_replaced old bytes size e =
    let none : drop (0 + size) old ≡ [] = drop_all (0 + size) old (omega (arith, e)) in
    ap (λ l. (take 0 old ++ bytes) ++ l) none ∙ append-nil bytes

module _ (shapes : List Shape) (state : List (List ℕ)) (s : Shape) (src dst : ℕ) where
  abbrev copied : List (List ℕ)
  copied = after_op shapes state (copy_out s src dst)

  abbrev stored : List ℕ
  stored = applied shapes (copy_out s src dst) (map (bytes_at state) (sources_of (copy_out s src dst))) (bytes_at state (destination_of (copy_out s src dst)))

  pub copy_count : length (after_op shapes state (copy_out s src dst)) ≡ length state
  copy_count = length-set state (destination_of (copy_out s src dst)) stored

  pub copy_other : (r : ℕ) → r ≢ dst → bytes_at (after_op shapes state (copy_out s src dst)) r ≡ bytes_at state r
  copy_other r other = get_or-set_other state (destination_of (copy_out s src dst)) r stored [] (λ e. other (e ∙ copy_destination s src dst))

  pub copy_at : shape_at shapes src ≡ s → length (bytes_at state src) ≡ bytes_of s → length (bytes_at state dst) ≡ bytes_of s → dst < length state → bytes_at (after_op shapes state (copy_out s src dst)) dst ≡ bytes_at state src
  copy_at same from into room =
      ap (bytes_at copied) (sym (copy_destination s src dst))
      ∙ get_or-set_same state (destination_of (copy_out s src dst)) stored [] (subst (λ d. d < length state) (sym (copy_destination s src dst)) room)
      ∙ moved s same from into
    where
      moved : (t : Shape) → shape_at shapes src ≡ t → length (bytes_at state src) ≡ bytes_of t → length (bytes_at state dst) ≡ bytes_of t → applied shapes (copy_out t src dst) (map (bytes_at state) (sources_of (copy_out t src dst))) (bytes_at state (destination_of (copy_out t src dst))) ≡ bytes_at state src
      moved (Buffer size) same from into = all_replaced (bytes_at state dst) (slice_range (bytes_at state src) 0 (0 + size)) size into ∙ whole_range (bytes_at state src) 0 size refl from
      moved (Image w h t) same from into = all_replaced (bytes_at state dst) (bytes_at state src) (bytes_of (shape_at shapes src)) (into ∙ ap bytes_of (sym same))
