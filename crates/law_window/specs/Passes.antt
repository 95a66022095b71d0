-- The passes of a frame with other names for what they name, and for themselves.
use Rattle.std.specs.Prelude.{ℕ, suc, List, [], ◌∷◌, map}
use Rattle.base.specs.Operands.{mapped}
use Rattle.frame.specs.declared.frame.Pass.{Pass}
use Rattle.frame.specs.declared.frame.Spot.{Spot}
use Rattle.frame.specs.declared.frame.Write.{Write}
use Rattle.law_window.specs.Names.{numbered_name}

abbrev pub renamed_spot : (List ℕ → List ℕ) → Spot → Spot
renamed_spot rename spot = record { name = rename spot.name; layer = spot.layer }

abbrev pub renamed_write : (List ℕ → List ℕ) → Write Spot → Write Spot
renamed_write rename write = record { what = renamed_spot rename write.what; fresh = write.fresh }

abbrev pub renamed_pass : (List ℕ → List ℕ) → List ℕ → Pass → Pass
renamed_pass rename name pass = record {
  name = name;
  queue = pass.queue;
  reads = map (renamed_spot rename) pass.reads;
  writes = map (renamed_write rename) pass.writes;
  ops = map (mapped (renamed_spot rename)) pass.ops;
  side_effect = pass.side_effect;
}

-- the passes of frame i from pass k on
abbrev pub renamed_passes : ℕ → ℕ → (List ℕ → List ℕ) → List Pass → List Pass
renamed_passes i k rename [] = []
renamed_passes i k rename (pass ∷ passes) = renamed_pass rename (numbered_name i k) pass ∷ renamed_passes i (suc k) rename passes
