-- What is computed for a command.
use Rattle.std.proofs.Common.{◌≡◌, ℕ, List, [], ◌∷◌, length, Some, None, refl, sym, ap, ◌∙◌, subst, arith}
use Rattle.std.specs.Prelude.{slice_index_or}
use Rattle.std.proofs.lemmas.List.{length-append, take_all}
use Rattle.base.specs.Applied.{applied}
use Rattle.base.specs.Operands.{sources_of, destination_of}
use Rattle.base.specs.declared.op.Op.{Op}
use Rattle.base.specs.declared.shape.Shape.{Shape}
use Rattle.device_clear.specs.Simpler.{Reads, IsSimpler, left_of}
use Rattle.device_clear.specs.declared.simpler.Simpler.{Simpler}
use Rattle.device.specs.Internal.Loads.{IsRunnable, IsWork}
use Rattle.device.specs.declared.work.Work.{Work}
use Rattle.device_model.specs.Outputs.{no_old}

-- what runs is read
pub reads : (shapes : List Shape) (op : Op ℕ) (loaded : List (List ℕ)) → IsRunnable shapes op loaded → Reads shapes op loaded
reads shapes op loaded R = record { operands = R.operands; fitting = R.fitting; sources = R.sources; sized = R.sized }

-- the command's own operation
pub works_itself : (shapes : List Shape) (op : Op ℕ) (loaded : List (List ℕ)) (work : Work) → IsRunnable shapes op loaded → work ≡ record { other = None; bytes = loaded } → IsWork shapes op loaded work
works_itself shapes op loaded work R is = subst (IsWork shapes op loaded) (sym is) (record { runnable = R; same = refl; destination = refl })

-- a simpler one
pub works_simpler : (shapes : List Shape) (op : Op ℕ) (loaded : List (List ℕ)) (simpler : Simpler) (work : Work) → IsSimpler shapes op loaded simpler → work ≡ record { other = Some simpler.op; bytes = left_of loaded simpler.source } → IsWork shapes op loaded work
works_simpler shapes op loaded simpler work S is =
    let other = simpler.op in
    let left = left_of loaded simpler.source in
    let R = S.reads in
    subst (IsWork shapes op loaded) (sym is)
    (record {
      runnable = record {
        operands = R.operands;
        fitting = R.fitting;
        sources = R.sources;
        few = omega (arith, S.all, length-append (sources_of other) (destination_of other ∷ []));
        sized = R.sized;
      };
      same =
          ap (λ (xs : List (List ℕ)). applied shapes other xs (slice_index_or left (length (sources_of other)) (no_old shapes other))) (take_all (length (sources_of other)) left (omega (arith, S.all)))
          ∙ S.same (slice_index_or loaded (length (sources_of op)) (no_old shapes op)) (slice_index_or left (length (sources_of other)) (no_old shapes other));
      destination = S.destination;
    })
