-- The stages that masks stand for are five.
use Rattle.std.proofs.Common.{◌≡◌, ◌⊎◌, inl, inr, ℕ, zero, suc, ◌*◌, ◌^◌, ◌<◌, ◌≤◌, ◌==◌, max, Bool, true, false, not, List, [], ◌∷◌, bit_and, bit_or, if◌then◌else◌, refl, sym, ap, ◌∙◌, ⊎_elim, eq-eqb, arith}
use Rattle.std.proofs.lemmas.Bool.{cases_eq, cases_lt}
use Rattle.std.proofs.lemmas.Nat.{and_comm}
use Rattle.std.proofs.lemmas.Nat.Bits.{and_pow, bit_at_or, bit_at-lt, bit_at-zero, bit_at-pow_other}
use Rattle.std.specs.Int.{bit_at}
use Rattle.base.proofs.Booleans.{clash}
use Rattle.vk.specs.Sets.{has, meets, union_from}
use Rattle.vk.specs.Stages.{color_attachment_output, compute_shader, host, copy, clear, Stage, stages, stage_part, expand}
use Rattle.vk.specs.declared.stages.Stages.{Stages}
use Rattle.check_access_order.specs.Stages.{IsStage}
use Rattle.check_table.specs.Channels.{stage_at}

abbrev pub five : List Stages
five =
    record { 0 = color_attachment_output }
    ∷ record { 0 = compute_shader }
    ∷ record { 0 = host }
    ∷ record { 0 = copy }
    ∷ record { 0 = clear }
    ∷ []

pub one_bit : (i : ℕ) → i < 5 → IsStage (stage_at five i).0
one_bit zero lt = inr (10, refl)
one_bit (suc zero) lt = inr (11, refl)
one_bit (suc (suc zero)) lt = inr (14, refl)
one_bit (suc (suc (suc zero))) lt = inr (32, refl)
one_bit (suc (suc (suc (suc zero)))) lt = inr (35, refl)
one_bit (suc (suc (suc (suc (suc i))))) lt = absurd (omega (arith, lt))

-- one of the five has the bit
abbrev IsOne : ℕ → Type 0
IsOne bit = (i : ℕ) × (i < 5) × ((stage_at five i).0 ≡ 2 ^ bit)

-- each bit of the set is one of the five
abbrev pub OfFive : ℕ → Type 0
OfFive set = (bit : ℕ) → bit_at set bit ≡ 1 → IsOne bit

pub nothing : OfFive 0
nothing bit h = let z = bit_at-zero bit in absurd (omega (arith, h, z))

single : (i k : ℕ) → i < 5 → (stage_at five i).0 ≡ 2 ^ k → OfFive (2 ^ k)
single i k lt e bit h = ⊎_elim
    (λ s. (i, lt, e ∙ ap (λ b. 2 ^ b) (sym s)))
    (λ ne. let z = bit_at-pow_other k bit ne in absurd (omega (arith, h, z)))
    (cases_eq bit k)

one_greatest : (u v : ℕ) → u < 2 → v < 2 → max u v ≡ 1 → (u ≡ 1) ⊎ (v ≡ 1)
one_greatest u v p q e = ⊎_elim (λ (lt : u < 1). inr (omega (arith, p, q, e, lt))) (λ (ge : 1 ≤ u). inl (omega (arith, p, ge))) (cases_lt u 1)

pub union : (a b : ℕ) → OfFive a → OfFive b → OfFive (bit_or a b)
union a b f g bit h = ⊎_elim (f bit) (g bit) (one_greatest (bit_at a bit) (bit_at b bit) (bit_at-lt a bit) (bit_at-lt b bit) (sym (bit_at_or a b bit) ∙ h))

part : (there : Bool) (set : ℕ) → OfFive set → OfFive (if there then set else 0)
part true set f = f
part false set f = nothing

colors : OfFive color_attachment_output
colors = single 0 10 (omega arith) refl

shaders : OfFive compute_shader
shaders = single 1 11 (omega arith) refl

pub hosts : OfFive host
hosts = single 2 14 (omega arith) refl

copies : OfFive copy
copies = single 3 32 (omega arith) refl

clears : OfFive clear
clears = single 4 35 (omega arith) refl

-- the five have each bit that the rows stand for
abbrev StandForFive : List Stage → Type 0
StandForFive [] = Unit {0}
StandForFive (row ∷ rows) = OfFive row.stands_for × StandForFive rows

over : (set mask : ℕ) (rows : List Stage) → OfFive set → StandForFive rows → OfFive (union_from set (stage_part mask) rows)
over set mask [] f all = f
over set mask (row ∷ rows) f all =
    over (bit_or set (stage_part mask row)) mask rows (union set (stage_part mask row) f (part (has mask row.bit) row.stands_for all.0)) all.1

pub expanded : (mask : ℕ) → OfFive (expand mask)
expanded mask = over 0 mask stages nothing (colors, (shaders, (transfers, (hosts, (commands, (copies, (clears, tt)))))))
  where
    transfers : OfFive (bit_or copy clear)
    transfers = union copy clear copies clears

    commands : OfFive (bit_or (bit_or (bit_or color_attachment_output compute_shader) copy) clear)
    commands = union (bit_or (bit_or color_attachment_output compute_shader) copy) clear (union (bit_or color_attachment_output compute_shader) copy (union color_attachment_output compute_shader colors shaders) copies) clears

-- what a set meets
in_set : (set bit : ℕ) → meets set (2 ^ bit) ≡ true → bit_at set bit ≡ 1
in_set set bit h = go (bit_at set bit) refl (bit_at-lt set bit)
  where
    gone : 0 * 2 ^ bit ≡ 0
    gone = omega arith

    go : (b : ℕ) → bit_at set bit ≡ b → b < 2 → bit_at set bit ≡ 1
    go zero e lt = absurd (clash (sym (ap not (eq-eqb (bit_and set (2 ^ bit)) 0 (and_pow set bit ∙ ap (λ b. b * 2 ^ bit) e ∙ gone))) ∙ h))
    go (suc zero) e lt = e
    go (suc (suc b)) e lt = absurd (omega (arith, lt))

pub meets_five : (set bit : ℕ) → OfFive set → meets set (2 ^ bit) ≡ true → IsOne bit
meets_five set bit f h = f bit (in_set set bit h)

pub five_meets : (set bit : ℕ) → OfFive set → meets (2 ^ bit) set ≡ true → IsOne bit
five_meets set bit f h = meets_five set bit f (ap (λ t. not (t == 0)) (and_comm set (2 ^ bit)) ∙ h)
