-- The passes of a declared window.
use Rattle.std.proofs.Common.{◌≡◌, ℕ, suc, ◌+◌, ◌-◌, ◌++◌, List, [], ◌∷◌, map, nat_lt, true, false, Some, None, unwrap_or, if◌then◌else◌, refl, sym, ap, ap₂, ◌∙◌, arith}
use Rattle.std.specs.List.{AllByRecursion, flat_map, position, range_with_len}
use Rattle.std.specs.Option.{option_map_or}
use Rattle.std.specs.Str.{bytes_eq}
use Rattle.base.proofs.Absence.{or_first, or_second}
use Rattle.base.specs.Operands.{mapped}
use Rattle.base.specs.Walks.{first_in}
use Rattle.base.specs.declared.op.Op.{Op}
use Rattle.frame.specs.Numbered.{numbered_pass, queue_number, write_each, writes_of}
use Rattle.frame.specs.Units.{Numbering, layer_unit, no_units, span_in, stretch_of, unit_of, units_in, units_of}
use Rattle.frame.specs.Unknowns.{unknown_in}
use Rattle.frame.specs.declared.frame.Frame.{Frame}
use Rattle.frame.specs.declared.frame.Pass.{Pass}
use Rattle.frame.specs.declared.frame.Write.{Write}
use Rattle.frame.specs.declared.numbered.NumberedPass.{NumberedPass}
use Rattle.frame.specs.declared.numbered.Stretch.{Stretch}
use Rattle.law_window.proofs.KnownPass.{known_pass}
use Rattle.law_window.proofs.Renamed.{pass_moved}
use Rattle.law_window.proofs.Stretches.{moved_stretch}
use Rattle.law_window.specs.NamedJoins.{NamedCarry, named_copy, named_join, named_renewal, whole}
use Rattle.law_window.specs.Names.{numbered_name}
use Rattle.law_window.specs.Passes.{renamed_passes}
use Rattle.law_window.specs.Joins.{Carry, copy_of, join_of, renewal}
use Rattle.law_window.specs.Moved.{moved}

-- THE PASSES OF ONE FRAME

module _ (small large : Numbering) (rename : List ℕ → List ℕ) (n : ℕ) (moves : (name : List ℕ) (s : Stretch) → stretch_of small name ≡ Some s → stretch_of large (rename name) ≡ Some (moved_stretch n s)) (some : (name : List ℕ) (s : Stretch) → stretch_of small name ≡ Some s → nat_lt 0 s.layers ≡ true) (frame window : Frame) (queues : window.queues ≡ frame.queues) where
  same_queue : (name : List ℕ) → queue_number window name ≡ queue_number frame name
  same_queue name = ap (λ qs. unwrap_or (position (λ q. bytes_eq q.name name) qs) 0) queues

  pub passes_moved : (i k p : ℕ) (passes : List Pass) → first_in (unknown_in frame small) p passes ≡ None → map (numbered_pass window large) (renamed_passes i k rename passes) ≡ map (moved n) (map (numbered_pass frame small) passes)
  passes_moved i k p [] none = refl
  passes_moved i k p (pass ∷ passes) none = ap₂ (λ q qs. q ∷ qs) (pass_moved small large rename n moves some frame window (numbered_name i k) pass (known_pass frame small p pass (or_first (unknown_in frame small p pass) (first_in (unknown_in frame small) (suc p) passes) none)) (same_queue pass.queue)) (passes_moved i (suc k) (suc p) passes (or_second (unknown_in frame small p pass) (first_in (unknown_in frame small) (suc p) passes) none))

-- A JOIN PASS

-- the name is that of a resource of one layer
pub record IsSingle (n : Numbering) (name : List ℕ) : Type 0 where
  pub stretch : Stretch
  pub stands : stretch_of n name ≡ Some stretch
  pub single : stretch.layers ≡ 1

abbrev pub carry_of : Numbering → NamedCarry → Carry
carry_of n c = record { from = unit_of n (whole c.from); to = unit_of n (whole c.to); size = c.size }

module _ (n : Numbering) where
  -- the one unit of such a name
  pub one_unit : (name : List ℕ) → IsSingle n name → units_of n (whole name) ≡ unit_of n (whole name) ∷ []
  one_unit name S =
      let size : S.stretch.first + S.stretch.layers - S.stretch.first ≡ 1 = omega (arith, S.single) in
      ap (λ o. units_in (option_map_or (span_in None) o no_units)) S.stands
      ∙ ap (range_with_len S.stretch.first) size
      ∙ sym (ap (λ u. u ∷ []) (ap (λ o. option_map_or (λ s. layer_unit s 0) o 0) S.stands ∙ first S.stretch S.single))
    where
      first : (s : Stretch) → s.layers ≡ 1 → layer_unit s 0 ≡ s.first
      first s e = ap (λ m. if nat_lt 0 m then s.first + 0 else 0) e ∙ omega arith

  abbrev pub AreSingle : List NamedCarry → Type 0
  AreSingle all = AllByRecursion (λ c. IsSingle n c.from × IsSingle n c.to) all

  join_reads : (all : List NamedCarry) → AreSingle all → flat_map (units_of n) (map (λ c. whole c.from) all) ≡ map (λ c. c.from) (map (carry_of n) all)
  join_reads [] single = refl
  join_reads (c ∷ all) single = ap₂ (λ a b. a ++ b) (one_unit c.from single.0.0) (join_reads all single.1)

  join_writes : (all : List NamedCarry) → AreSingle all → flat_map (writes_of n) (map named_renewal all) ≡ map renewal (map (carry_of n) all)
  join_writes [] single = refl
  join_writes (c ∷ all) single = ap₂ (λ a b. a ++ b) (ap (map (write_each true)) (one_unit c.to single.0.1)) (join_writes all single.1)

  join_ops : (all : List NamedCarry) → map (mapped (unit_of n)) (map named_copy all) ≡ map copy_of (map (carry_of n) all)
  join_ops [] = refl
  join_ops (c ∷ all) = ap (λ os. copy_of (carry_of n c) ∷ os) (join_ops all)

  -- the numbered join pass
  pub join_numbered : (window : Frame) (i : ℕ) (queue : List ℕ) (all : List NamedCarry) → queue_number window queue ≡ 0 → AreSingle all → numbered_pass window n (named_join i queue all) ≡ join_of (map (carry_of n) all)
  join_numbered window i queue all first single = same first (join_reads all single) (join_writes all single) (join_ops all)
    where
      same : {q r : ℕ} {rs ss : List ℕ} {ws vs : List (Write ℕ)} {os ps : List (Op ℕ)} → q ≡ r → rs ≡ ss → ws ≡ vs → os ≡ ps → ◌≡◌ {A = NumberedPass} (record { queue = q; reads = rs; writes = ws; ops = os; side_effect = false }) (record { queue = r; reads = ss; writes = vs; ops = ps; side_effect = false })
      same a b c d = cc
