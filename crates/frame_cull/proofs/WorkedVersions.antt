-- Worked rows: the versions of a small frame, and what is culled of it.
use Rattle.std.proofs.Common.{◌≡◌, ℕ, zero, suc, ◌<◌, List, [], ◌∷◌, true, false, Option, Some, None, refl, sym, subst, slice_index_or, arith}
use Rattle.base.proofs.Absence.{none_some}
use Rattle.base.specs.declared.shape.Family.TheVariants.{Graphics}
use Rattle.frame.specs.Numbered.{NumberedFrame}
use Rattle.frame.specs.Units.{Unit}
use Rattle.frame.specs.declared.frame.Write.{Write}
use Rattle.frame.specs.declared.numbered.NumberedPass.{NumberedPass}
use Rattle.frame_cull.specs.Culled.{Reaches, here, on, Matters, has_effect, makes_export, Culled}
use Rattle.frame_cull.specs.Versions.{versions, all_versions, latest_maker, read_by, written_by, sources}

-- whatever the shapes of the units are, and how queues share them
module _ (any : Unit) where
  abbrev unit : Option (List ℕ) → Unit
  unit bytes = record { shape = any.shape; sharing = any.sharing; imported = bytes }

  abbrev new : ℕ → Write ℕ
  new u = record { what = u; fresh = true }

  abbrev change : ℕ → Write ℕ
  change u = record { what = u; fresh = false }

  abbrev pass : List ℕ → List (Write ℕ) → NumberedPass
  pass reads writes = record { queue = 0; reads = reads; writes = writes; ops = []; side_effect = false }

  -- an import 0 and a buffer 1: pass 0 makes 1 from 0, pass 1 changes 0, pass 2 reads both, and then 1 is exported
  abbrev small : NumberedFrame
  small = record {
    units = unit (Some (5 ∷ [])) ∷ unit None ∷ [];
    queues = Graphics ∷ [];
    passes = pass (0 ∷ []) (new 1 ∷ []) ∷ pass [] (change 0 ∷ []) ∷ pass (0 ∷ 1 ∷ []) [] ∷ [];
    exports = 1 ∷ [];
  }

  -- the import's version has no pass, and its change is the next
  of_import : versions small 3 0 ≡ None ∷ Some 1 ∷ []
  of_import = refl

  of_buffer : versions small 3 1 ≡ Some 0 ∷ []
  of_buffer = refl

  before_the_change : versions small 1 0 ≡ None ∷ []
  before_the_change = refl

  read_first : read_by small 0 ≡ 0 ∷ []
  read_first = refl

  read_last : read_by small 2 ≡ 1 ∷ 0 ∷ []
  read_last = refl

  changed : written_by small 1 ≡ 1 ∷ []
  changed = refl

  -- nobody made the import
  of_the_change : sources small 1 ≡ []
  of_the_change = refl

  of_the_reader : sources small 2 ≡ 1 ∷ 0 ∷ []
  of_the_reader = refl

  -- pass 0 is kept for the export
  kept : Reaches small 0 0 × Matters small 0
  kept = (here, makes_export (record { unit = 1; exported = (0, omega arith, refl); last = refl }))

  -- the change leads to the reader alone
  leads : Reaches small 1 2
  leads = on {q = 2} (record { within = omega arith; unit = 0; uses = (0, omega arith, refl); made_here = refl }) here

  -- A PASS THAT WRITES NOTHING

  abbrev idle : NumberedFrame
  idle = record {
    units = unit (Some (5 ∷ [])) ∷ [];
    queues = Graphics ∷ [];
    passes = pass (0 ∷ []) [] ∷ [];
    exports = 0 ∷ [];
  }

  false_true : false ≡ true → ⊥
  false_true e = cc

  no_maker : (u k : ℕ) → k < 1 → slice_index_or (0 ∷ []) k u ≡ u → latest_maker (all_versions idle u) ≡ Some 0 → ⊥
  no_maker u zero lt is last = none_some (subst (λ x. latest_maker (all_versions idle x) ≡ Some 0) (sym is) last)
  no_maker u (suc k) lt is last = omega arith

  culled : Culled idle 0
  culled zero lt reach (has_effect e) = false_true e
  culled zero lt reach (makes_export M) = no_maker M.unit M.exported.0 M.exported.1 M.exported.2 M.last
  culled (suc q) lt reach matters = omega arith
