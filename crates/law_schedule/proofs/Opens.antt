-- Stages of roles are stages of all commands, and so are sets that name them.
use Rattle.std.proofs.Common.{◌≡◌, ◌⊎◌, inl, inr, ℕ, zero, suc, ◌==◌, not, if◌then◌else◌, true, false, List, [], ◌∷◌, get_or, Some, refl, sym, ap, ◌∙◌, bit_and, bit_or, eqb-true}
use Rattle.std.specs.Prelude.{slice_get}
use Rattle.std.specs.Int.Bits.{and_zero_r}
use Rattle.std.proofs.lemmas.Bool.{cases_Bool, false≢true}
use Rattle.std.proofs.lemmas.Nat.{and_comm, and_assoc, and_or_self, or_comm}
use Rattle.base.specs.Touches.{destination_role}
use Rattle.base.specs.declared.role.Role.{Role}
use Rattle.base.specs.declared.role.Role.TheVariants.{CopyRead, CopyWrite, ClearWrite, Sampled, StorageRead, StorageWrite, Attachment}
use Rattle.vk.specs.Roles.{role_stage}
use Rattle.vk.specs.Sets.{has, meets, union_from}
use Rattle.vk.specs.Stages.{Stage, host, stages, stage_part, expand}
use Rattle.vk.specs.declared.masks.Masks.{Masks}
use Rattle.law_plan.specs.Crossings.{wait_stages, signal_stages}
use Rattle.law_schedule.specs.Opens.{AreOpen, HasRole}
use Rattle.check_order.specs.Nodes.{item_node, barrier_node}
use Rattle.program.specs.Barriers.{masks_of}
use Rattle.program.specs.declared.program.Item.{Item}
use Rattle.program.specs.declared.program.Item.TheVariants.{Command, Global, BufferBarrier, ImageBarrier, Release, Acquire}
use Rattle.program.specs.declared.program.Program.{Program}

-- SETS THAT MEET

meets_swapped : (a b : ℕ) → meets a b ≡ meets b a
meets_swapped a b = ap (λ z. not (z == 0)) (and_comm a b)

-- a union meets what its parts meet
meets_second : (a b s : ℕ) → meets b s ≡ true → meets (bit_or a b) s ≡ true
meets_second a b s m = go (cases_Bool (bit_and (bit_or a b) s == 0))
  where
    none : bit_and (bit_or a b) s ≡ 0 → bit_and b s ≡ 0
    none e = ap (λ z. bit_and z s) (sym (and_or_self b a) ∙ and_comm (bit_or a b) b) ∙ and_assoc s b (bit_or a b) ∙ ap (λ z. bit_and b z) e ∙ and_zero_r b

    go : ((bit_and (bit_or a b) s == 0) ≡ true) ⊎ ((bit_and (bit_or a b) s == 0) ≡ false) → meets (bit_or a b) s ≡ true
    go (inl e) = absurd (false≢true (sym (ap (λ z. not (z == 0)) (none (eqb-true (bit_and (bit_or a b) s) 0 e))) ∙ m))
    go (inr e) = ap not e

meets_first : (a b s : ℕ) → meets a s ≡ true → meets (bit_or a b) s ≡ true
meets_first a b s m = ap (λ z. meets z s) (or_comm a b) ∙ meets_second b a s m

union_kept : {Row : Type 0} (gives : Row → ℕ) (s : ℕ) (rows : List Row) (set : ℕ) → meets set s ≡ true → meets (union_from set gives rows) s ≡ true
union_kept gives s [] set m = m
union_kept gives s (row ∷ rows) set m = union_kept gives s rows (bit_or set (gives row)) (meets_first set (gives row) s m)

union_row : {Row : Type 0} (gives : Row → ℕ) (s : ℕ) (rows : List Row) (set k : ℕ) (row : Row) → slice_get rows k ≡ Some row → meets (gives row) s ≡ true → meets (union_from set gives rows) s ≡ true
union_row gives s [] set k row e m = absurd cc
union_row gives s (first ∷ rows) set zero row e m = let same : first ≡ row = cc in union_kept gives s rows (bit_or set (gives first)) (meets_second set (gives first) s (ap (λ z. meets (gives z) s) same ∙ m))
union_row gives s (first ∷ rows) set (suc k) row e m = union_row gives s rows (bit_or set (gives first)) k row e m

-- STAGES

stage_meets : (set s k : ℕ) (stage : Stage) → slice_get stages k ≡ Some stage → has set stage.bit ≡ true → meets stage.stands_for s ≡ true → meets (expand set) s ≡ true
stage_meets set s k stage e h m = union_row (stage_part set) s stages 0 k stage e (ap (λ b. meets (if b then stage.stands_for else 0) s) h ∙ m)

abbrev row : ℕ → Stage
row k = get_or stages k (record { name = []; bit = 0; stands_for = 0; families = [] })

role_meets : (role : Role) (set s : ℕ) → has set (role_stage role) ≡ true → meets (role_stage role) s ≡ true → meets (expand set) s ≡ true
role_meets CopyRead set s h m = stage_meets set s 5 (row 5) refl h m
role_meets CopyWrite set s h m = stage_meets set s 5 (row 5) refl h m
role_meets ClearWrite set s h m = stage_meets set s 6 (row 6) refl h m
role_meets Sampled set s h m = stage_meets set s 1 (row 1) refl h m
role_meets StorageRead set s h m = stage_meets set s 1 (row 1) refl h m
role_meets StorageWrite set s h m = stage_meets set s 1 (row 1) refl h m
role_meets (Attachment load) set s h m = stage_meets set s 0 (row 0) refl h m

role_waits : (role : Role) → meets wait_stages (role_stage role) ≡ true
role_waits CopyRead = refl
role_waits CopyWrite = refl
role_waits ClearWrite = refl
role_waits Sampled = refl
role_waits StorageRead = refl
role_waits StorageWrite = refl
role_waits (Attachment load) = refl

role_signals : (role : Role) → meets (role_stage role) signal_stages ≡ true
role_signals CopyRead = refl
role_signals CopyWrite = refl
role_signals ClearWrite = refl
role_signals Sampled = refl
role_signals StorageRead = refl
role_signals StorageWrite = refl
role_signals (Attachment load) = refl

waits : (set : ℕ) → HasRole set → meets wait_stages (expand set) ≡ true
waits set R = meets_swapped wait_stages (expand set) ∙ role_meets R.0 set wait_stages R.1 (meets_swapped (role_stage R.0) wait_stages ∙ role_waits R.0)

signals : (set : ℕ) → HasRole set ⊎ (has set host ≡ true) → meets (expand set) signal_stages ≡ true
signals set (inl R) = role_meets R.0 set signal_stages R.1 (role_signals R.0)
signals set (inr h) = stage_meets set signal_stages 3 (row 3) refl h refl

barrier_is : (q : ℕ) (item : Item) (masks : Masks) → masks_of item ≡ Some masks → item_node q item ≡ barrier_node q masks
barrier_is q (Command op) masks e = absurd cc
barrier_is q (Global m) masks e = let same : m ≡ masks = cc in ap (barrier_node q) same
barrier_is q (BufferBarrier piece m) masks e = let same : m ≡ masks = cc in ap (barrier_node q) same
barrier_is q (ImageBarrier piece layouts m) masks e = let same : m ≡ masks = cc in ap (barrier_node q) same
barrier_is q (Release t) masks e = let same : t.masks ≡ masks = cc in ap (barrier_node q) same
barrier_is q (Acquire t) masks e = let same : t.masks ≡ masks = cc in ap (barrier_node q) same

pub are_open : (P : Program) → AreOpen P
are_open P = record {
  command = λ n q op S. record {
    into = ap (λ z. meets wait_stages z.src_stages.0) S.node ∙ role_waits (destination_role op);
    out = ap (λ z. meets z.dst_stages.0 signal_stages) S.node ∙ role_signals (destination_role op);
  };
  barrier = λ n q item masks e S src dst. let is = S.node ∙ barrier_is q item masks e in record {
    into = ap (λ z. meets wait_stages z.src_stages.0) is ∙ waits masks.src_stages.0 src;
    out = ap (λ z. meets z.dst_stages.0 signal_stages) is ∙ signals masks.dst_stages.0 dst;
  };
}
