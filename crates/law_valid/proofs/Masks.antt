-- The masks round groups: each side has a stage, supports its accesses, and has stages of the queue's family alone.
use Rattle.std.proofs.Common.{◌≡◌, ℕ, ◌-◌, ◌<◌, ◌==◌, not, Bool, true, false, List, length, if◌then◌else◌, bit_or, refl, sym, ap, ◌∙◌, subst, eq-eqb, eqb-true, arith}
use Rattle.std.specs.List.{All}
use Rattle.std.proofs.lemmas.Bool.{and_from}
use Rattle.base.proofs.Booleans.{clash}
use Rattle.base.specs.declared.shape.Family.{Family}
use Rattle.base.specs.declared.shape.Family.TheVariants.{Graphics, Compute, Transfer}
use Rattle.vk.specs.Families.{family_number, on_family}
use Rattle.vk.specs.Support.{supports}
use Rattle.vk.specs.declared.masks.Masks.{Masks}
use Rattle.compile_groups.specs.Groups.{family_of}
use Rattle.compile_groups.specs.Uses.{no_use}
use Rattle.compile_groups.specs.declared.grouping.Grouping.{Grouping}
use Rattle.compile_groups.specs.declared.unit_use.Use.{Use}
use Rattle.program.specs.Barriers.{has_stages, both_have_stages, both_supported, both_on_family}
use Rattle.compile_barriers.specs.Masks.{barrier_masks, release_masks, entry_masks, host_masks}
use Rattle.compile_barriers.specs.Prologues.{first, last}
use Rattle.compile_barriers.specs.Unions.{stages_on, accesses_on, writes_on, is_elsewhere}
use Rattle.law_valid.proofs.Bits.{Inside, empty_inside, inside_left, inside_right, inside_self, supports_none, on_family_union}
use Rattle.law_valid.proofs.Members.{some_stage, supports_writes, supports_accesses, stages_family, none_elsewhere}
use Rattle.law_valid.proofs.Uses.{FitsIn}

-- on a queue of the family
pub record AreGood (family : Family) (masks : Masks) : Type 0 where
  pub stages : both_have_stages masks ≡ true
  pub supported : both_supported masks ≡ true
  pub on_family : both_on_family family masks ≡ true

-- more stages are some
more_stages : (a b : ℕ) → Inside a b → has_stages a ≡ true → has_stages b ≡ true
more_stages a b h e = go (b == 0) refl
  where
    go : (t : Bool) → (b == 0) ≡ t → not t ≡ true
    go false f = refl
    go true f = absurd (clash (sym (ap not (eq-eqb a 0 (empty_inside a b h (eqb-true b 0 f)))) ∙ e))

no_stage : (family : Family) → on_family 0 (family_number family) ≡ true
no_stage Graphics = refl
no_stage Compute = refl
no_stage Transfer = refl

module _ (G : Grouping) where
  abbrev FamilyOn : ℕ → Family
  FamilyOn q = family_of G.families q

  first_stage : (B : List Use) → All (FitsIn G) B → 0 < length B → has_stages (stages_on B (first B).queue) ≡ true
  first_stage B fit some = some_stage G B fit 0 no_use some

  last_stage : (A : List Use) → All (FitsIn G) A → 0 < length A → has_stages (stages_on A (last A).queue) ≡ true
  last_stage A fit some = some_stage G A fit (length A - 1) no_use (omega (arith, some))

  pub entry_good : (B : List Use) → All (FitsIn G) B → 0 < length B → AreGood (FamilyOn (first B).queue) (entry_masks B (first B).queue)
  entry_good B fit some =
      let q : ℕ = (first B).queue in
      let stages : ℕ = stages_on B q in
      record {
        stages = and_from (has_stages stages) (has_stages stages) (first_stage B fit some) (first_stage B fit some);
        supported = and_from (supports stages 0) (supports stages (accesses_on B q)) (supports_none stages) (supports_accesses G B fit q stages (inside_self stages));
        on_family = and_from (on_family stages (family_number (FamilyOn q))) (on_family stages (family_number (FamilyOn q))) (stages_family G B fit q) (stages_family G B fit q);
      }

  pub release_good : (A : List Use) → All (FitsIn G) A → 0 < length A → AreGood (FamilyOn (last A).queue) (release_masks A (last A).queue)
  release_good A fit some =
      let q : ℕ = (last A).queue in
      let stages : ℕ = stages_on A q in
      record {
        stages = and_from (has_stages stages) (has_stages stages) (last_stage A fit some) (last_stage A fit some);
        supported = and_from (supports stages (writes_on A q)) (supports stages 0) (supports_writes G A fit q stages (inside_self stages)) (supports_none stages);
        on_family = and_from (on_family stages (family_number (FamilyOn q))) (on_family stages (family_number (FamilyOn q))) (stages_family G A fit q) (stages_family G A fit q);
      }

  -- what other queues did is waited for in the stages of the uses after it
  some_source : (A B : List Use) (q : ℕ) → All (FitsIn G) A → 0 < length A → has_stages (stages_on B q) ≡ true → has_stages (bit_or (stages_on A q) (if is_elsewhere A q then stages_on B q else 0)) ≡ true
  some_source A B q fit some h = go (is_elsewhere A q) refl
    where
      go : (b : Bool) → is_elsewhere A q ≡ b → has_stages (bit_or (stages_on A q) (if b then stages_on B q else 0)) ≡ true
      go true e = more_stages (stages_on B q) (bit_or (stages_on A q) (stages_on B q)) (inside_right (stages_on A q) (stages_on B q)) h
      go false e = more_stages (stages_on A q) (bit_or (stages_on A q) 0) (inside_left (stages_on A q) 0) (subst (λ p. has_stages (stages_on A p) ≡ true) (none_elsewhere A q 0 no_use some e) (some_stage G A fit 0 no_use some))

  source_family : (A B : List Use) (q : ℕ) → All (FitsIn G) A → All (FitsIn G) B → on_family (bit_or (stages_on A q) (if is_elsewhere A q then stages_on B q else 0)) (family_number (FamilyOn q)) ≡ true
  source_family A B q fit-A fit-B = on_family_union (stages_on A q) (if is_elsewhere A q then stages_on B q else 0) (family_number (FamilyOn q)) (stages_family G A fit-A q) (go (is_elsewhere A q))
    where
      go : (b : Bool) → on_family (if b then stages_on B q else 0) (family_number (FamilyOn q)) ≡ true
      go true = stages_family G B fit-B q
      go false = no_stage (FamilyOn q)

  pub barrier_good : (A B : List Use) → All (FitsIn G) A → All (FitsIn G) B → 0 < length A → 0 < length B → AreGood (FamilyOn (first B).queue) (barrier_masks A B (first B).queue)
  barrier_good A B fit-A fit-B some-A some-B =
      let q : ℕ = (first B).queue in
      let own : ℕ = stages_on A q in
      let other : ℕ = if is_elsewhere A q then stages_on B q else 0 in
      let source : ℕ = bit_or own other in
      let destination : ℕ = stages_on B q in
      record {
        stages = and_from (has_stages source) (has_stages destination) (some_source A B q fit-A some-A (first_stage B fit-B some-B)) (first_stage B fit-B some-B);
        supported = and_from (supports source (writes_on A q)) (supports destination (accesses_on B q)) (supports_writes G A fit-A q source (inside_left own other)) (supports_accesses G B fit-B q destination (inside_self destination));
        on_family = and_from (on_family source (family_number (FamilyOn q))) (on_family destination (family_number (FamilyOn q))) (source_family A B q fit-A fit-B) (stages_family G B fit-B q);
      }

pub host_good : (family : Family) → AreGood family host_masks
host_good Graphics = record { stages = refl; supported = refl; on_family = refl }
host_good Compute = record { stages = refl; supported = refl; on_family = refl }
host_good Transfer = record { stages = refl; supported = refl; on_family = refl }
