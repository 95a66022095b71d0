-- The laws, carried to a running device.
use Rattle.std.proofs.Common.{◌≡◌, ◌⊎◌, inl, inr, ℕ, zero, suc, ◌<◌, true, List, [], ◌∷◌, ◌++◌, length, map, get_or, slice_index, None, if◌then◌else◌, refl, sym, ap, ◌∙◌, ⊎_elim, arith}
use Rattle.std.specs.Option.{option_map_or}
use Rattle.std.proofs.lemmas.Bool.{false≢true, and_from}
use Rattle.std.proofs.lemmas.List.{map-append}
use Rattle.base.specs.declared.cache_move.CacheMove.{CacheMove}
use Rattle.base.specs.declared.event.Event.{Event}
use Rattle.base.specs.declared.event.Event.TheVariants.{Begin, End, Sync, Move, Host}
use Rattle.check_program.specs.Sound.{IsSound}
use Rattle.device_model.specs.Devices.{Device, opening_byte, opening, told, state_of, view_in, fresh, did, is_ready, IsComplete, NoneBegun, NeverStands}
use Rattle.device_model.specs.Histories.{moved}
use Rattle.device_model.specs.Laws.{HoldsImports, Simulated, AllDone, GoesOn}
use Rattle.device_model.specs.Moves.{MovesBy}
use Rattle.device_model.specs.Ready.{is_command, kind_at, read_node}
use Rattle.device_model.specs.Runs.{StepsOn, GoesOnBy, Runs}
use Rattle.device_model.specs.States.{State, opened}
use Rattle.device_model.specs.Steps.{begun, made, ended, synced, hosted, lines_moved, step, Told, after}
use Rattle.device_model.proofs.Control.{ready_within}
use Rattle.device_model.proofs.Programs.{commands}
use Rattle.device_model.proofs.Progress.{progressed}
use Rattle.device_model.proofs.HostNodes.{read_within}
use Rattle.device_model.proofs.Simulation.{simulated}
use Rattle.check_order.specs.Edges.{is_sync, is_host, node_at}
use Rattle.check_order.specs.Orders.{Order}
use Rattle.program.specs.FirstFault.{first_fault}
use Rattle.program.specs.declared.program.Program.{Program}
use Rattle.check_access.specs.Views.{view_of}

-- EVENTS

after_join : (program : Program) (s : State) (xs ys : List Told) → after program s (xs ++ ys) ≡ after program (after program s xs) ys
after_join program s [] ys = refl
after_join program s (x ∷ xs) ys = after_join program (step program s x.event x.junk) xs ys

pub steps_on : (d : Device) → StepsOn d
unfolding state_of
steps_on d event =
    ap (after d.program (opened (opening d.program d.fill))) (map-append (told d.fill) d.history (event ∷ []))
    ∙ after_join d.program (opened (opening d.program d.fill)) (map (told d.fill) d.history) (told d.fill event ∷ [])

pub goes_on_by : (d : Device) (n : ℕ) → GoesOnBy d n
goes_on_by d n = record {
  begins = λ c r. steps_on d (Begin n) ∙ ap (λ b. if b then begun (view_in d) (state_of d) n (d.fill ∷ []) else state_of d) (and_from (is_command (kind_at (view_in d) n)) (is_ready d n) c r);
  ends = λ b. steps_on d (End n) ∙ ap (λ b. if b then ended (view_in d) (state_of d) n (made d.program (state_of d) n (d.fill ∷ [])) else state_of d) b;
  syncs = λ k r. steps_on d (Sync n) ∙ ap (λ b. if b then synced (view_in d) (state_of d) n (d.fill ∷ []) else state_of d) (and_from (is_sync (kind_at (view_in d) n)) (is_ready d n) k r);
  reads = λ h r. steps_on d (Host n) ∙ ap (λ b. if b then hosted (view_in d) (state_of d) n (d.fill ∷ []) else state_of d) (and_from (is_host (kind_at (view_in d) n)) (is_ready d n) h r);
}

-- CACHE MOVES

-- how many are left does not matter
pub moved_as : (d : Device) (event : Event) → state_of (moved d event) ≡ state_of (did d event)
unfolding state_of
moved_as d event = refl

pub moves_by : (d : Device) (m : CacheMove) → MovesBy d m
moves_by d m may = moved_as d (Move m) ∙ steps_on d (Move m) ∙ ap (λ b. if b then lines_moved (state_of d) m else state_of d) may

-- THE OPENING

pub opens : (program : Program) (fill moves : ℕ) → state_of (fresh program fill moves) ≡ opened (opening program fill)
unfolding state_of
opens program fill moves = refl

pub opening_holds : (program : Program) (fill : ℕ) → HoldsImports program (opening program fill)
opening_holds program fill k bytes e i lt = ap (λ o. option_map_or (opening_byte fill i) o fill) e ∙ same_default bytes i fill lt
  where
    same_default : (xs : List ℕ) (i d : ℕ) → i < length xs → get_or xs i d ≡ slice_index xs i
    same_default [] i d lt = absurd (omega (arith, lt))
    same_default (x ∷ xs) zero d lt = refl
    same_default (x ∷ xs) (suc i) d lt = same_default xs i d (omega (arith, lt))

-- A DEVICE OF A PROGRAM WITHOUT A FAULT

module _ (d : Device) (none : first_fault d.program ≡ None) where
  laws : IsSound d.program → (order : List ℕ) → Order (view_of d.program).nodes order → Simulated d.program order (state_of d)
  unfolding state_of
  laws sound order O = simulated d.program (commands d.program none) sound order O (opening d.program d.fill) (opening_holds d.program d.fill) (map (told d.fill) d.history)

  goes : IsSound d.program → AllDone (view_of d.program) (state_of d) ⊎ GoesOn (view_of d.program) (state_of d)
  unfolding state_of
  goes sound = progressed d.program (commands d.program none) sound (opening d.program d.fill) (opening_holds d.program d.fill) (map (told d.fill) d.history)

  stands : NeverStands d
  stands sound quiet = ⊎_elim (λ all. inl all) (λ g. inr (g.0, ⊎_elim (λ r. absurd (false≢true (sym (quiet (node_at (view_in d).nodes g.0).queue g.0 (ready_within (view_in d) (state_of d) g.0 r) refl) ∙ r))) (λ b. b) g.1)) (goes sound)

  next : IsSound d.program → NoneBegun d → IsComplete d ⊎ ((n : ℕ) × (is_ready d n ≡ true))
  next sound idle = ⊎_elim (λ all. inl all) (λ g. inr (g.0, ⊎_elim (λ r. r) (λ b. absurd (false≢true (sym (idle g.0) ∙ b))) g.1)) (goes sound)

  pub runs : Runs d
  runs = record {
    steps = steps_on d;
    goes = goes_on_by d;
    loads = λ n b sound order O. (laws sound order O).loaded n b;
    stores = λ n b sound order O. (laws sound order O).made n (d.fill ∷ []) b;
    read = λ k lt done sound order O. (laws sound order O).hosts k lt done;
    all_read = λ all k lt sound order O. (laws sound order O).hosts k lt (all (read_node d.program k) (read_within d.program k lt));
    stands = stands;
    next = next;
  }
