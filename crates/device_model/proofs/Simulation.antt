-- The law of devices, for each sound program.
use Rattle.std.proofs.Common.{◌≡◌, ℕ, ◌<◌, true, false, not, slice_get, if◌then◌else◌, List, [], length, Some, sym, ap, ◌∙◌, subst, ⊎_elim}
use Rattle.std.specs.Option.{option_map, option_map_or}
use Rattle.std.proofs.lemmas.Bool.{cases_Bool, and_from}
use Rattle.law_runs.proofs.Devices.{device_simulated}
use Rattle.law_runs.specs.Device.{DeviceSimulated}
use Rattle.law_runs.specs.Apart as law
use Rattle.law_runs.specs.Runs.{reads}
use Rattle.law_runs.specs.Systems.{is_load}
use Rattle.base.specs.Applied.{bytes_at}
use Rattle.base.specs.Operands.{destination_of}
use Rattle.base.specs.Shapes.{bytes_of}
use Rattle.device_cache.specs.Lines.{Bytes}
use Rattle.check_program.specs.Apart.{inputs, after_node, apart, bytes_before, output, host_bytes}
use Rattle.check_program.specs.Sound.{IsSound}
use Rattle.check_order.specs.Orders.{Order}
use Rattle.device_model.proofs.Commands.{Commands}
use Rattle.device_model.proofs.Control.{begun_started}
use Rattle.device_model.proofs.Formed.{At, at_first}
use Rattle.device_model.proofs.Going.{Carries, history, loaded_back}
use Rattle.device_model.proofs.Lawful.{picked_same, law_formed, law_sound, law_order}
use Rattle.device_model.proofs.Meaning.{loads_same, held_sized, apart_same, before_node_same}
use Rattle.device_model.proofs.SystemOf.{doing_of, command_at, is_started, access_of, is_taken, placed, out_of, law_of, device_of}
use Rattle.device_model.proofs.Viewed.{to_law}
use Rattle.device_model.specs.Laws.{HoldsImports, Simulated}
use Rattle.device_model.specs.Outputs.{stored}
use Rattle.device_model.specs.Ready.{read_node}
use Rattle.device_model.specs.States.{is_idle, is_begun, is_done, State, opened, junk_bytes}
use Rattle.device_model.specs.Steps.{store_of, made, Told, after}
use Rattle.program.specs.declared.program.Program.{Program}
use Rattle.check_access.specs.ValidView.{Has}
use Rattle.check_access.specs.Views.{View, view_of, accesses_of, piece_at}
use Rattle.check_access.specs.declared.access.Access.{Access}

module _ (program : Program) (C : Commands program) (sound : IsSound program) (order : List ℕ) (O : Order (view_of program).nodes order) (main : Bytes) (holds : HoldsImports program main) where
  abbrev V : View
  V = view_of program

  module _ (told : List Told) where
    abbrev s : State
    s = after program (opened main) told

    Q : Carries program C.formed (after program (opened main) told)
    Q = (history program C.formed main told).1

    right : DeviceSimulated (law_of program) main order (device_of (view_of program) (after program (opened main) told))
    right = device_simulated (law_of program) (law_formed program C) (law_sound program C sound) order (law_order program C order O) main (device_of V (after program (opened main) told)) (history program C.formed main told).0

    unmarked : (n : ℕ) → (after program (opened main) told).marked n ≡ false
    unmarked n = ⊎_elim (λ e. absurd (right.unmarked n 0 e)) (λ e. e) (cases_Bool (s.marked n))

    loaded : (n : ℕ) → is_begun ((after program (opened main) told).phase n) ≡ true → (after program (opened main) told).loaded n ≡ inputs program order n
    loaded n b =
        sym (loaded_back program C.formed s Q n [] b)
        ∙ picked_same (accesses_of V n) (placed (accesses_of V n) (s.loaded n)) (law.loads_in (law_of program) (law.bytes_before (law_of program) main order n) n) each
        ∙ loads_same program C n (Q.commands n b) (law.bytes_before (law_of program) main order n) (bytes_before program order n) (before_node_same program C main holds order n)
      where
        each : (k : ℕ) (a : Access) → slice_get (accesses_of V n) k ≡ Some a → is_taken a ≡ true → placed (accesses_of V n) ((after program (opened main) told).loaded n) k ≡ law.loads_in (law_of program) (law.bytes_before (law_of program) main order n) n k
        each k a at t = right.loaded n k (access_of V n a) (to_law V (out_of program) n k a at) t started ∙ sym (ap (λ o. option_map_or (λ a. if is_load a.doing then law.bytes_before (law_of program) main order n a.piece else []) o []) (to_law V (out_of program) n k a at) ∙ ap (λ z. if z then law.bytes_before (law_of program) main order n a.piece else []) t)
          where
            started : is_started V (after program (opened main) told) n ≡ true
            started = and_from (not (is_idle (s.phase n))) (command_at V n) (ap not (begun_started (s.phase n) b)) (Q.commands n b)

    outputs : (n : ℕ) (junk : List ℕ) → is_begun ((after program (opened main) told).phase n) ≡ true → output program order n ≡ Some (made program (after program (opened main) told) n junk)
    outputs n junk b =
        let op = C.command n (Q.within n b) (Q.commands n b) in
        let stores : stored program n ((after program (opened main) told).loaded n) ≡ bytes_at (after_node program (bytes_before program order n) n) (destination_of op.0) =
        ap (stored program n) (loaded n b) ∙ C.made n op.0 (bytes_before program order n) op.1 (held_sized program C order n) in
        ap (λ o. option_map (λ op. bytes_at (after_node program (bytes_before program order n) n) (destination_of op)) o) op.1
        ∙ ap (λ b. Some b) (sym (ap (λ z. if z then junk_bytes junk (bytes_of (piece_at V (store_of V n).piece).shape) else stored program n ((after program (opened main) told).loaded n)) (unmarked n) ∙ stores))

    hosts : (k : ℕ) → k < length program.readbacks → is_done ((after program (opened main) told).phase (read_node program k)) ≡ true → host_bytes program order k ≡ Some ((after program (opened main) told).host (read_node program k))
    hosts k lt h =
        let r = C.read k lt in
        let n = read_node program k in
        let has : Has V n r.2.access = subst (λ l. At l r.2.access) (sym r.2.only) (at_first r.2.access []) in
        ap (λ o. option_map (bytes_at (apart program order)) o) r.1
        ∙ ap (λ b. Some b) (ap (bytes_at (apart program order)) (sym r.2.piece) ∙ sym (apart_same program C main holds order r.2.access.piece (C.formed.shaped.known n has.0 r.2.access has.1)) ∙ sym (right.read n (access_of V n r.2.access) (has.0, to_law V (out_of program) n has.0 r.2.access has.1) (ap (λ k. reads (doing_of k)) (C.formed.shaped.host n has.0 r.2.access has.1 r.2.host)) h))

    pub simulated : Simulated program order (after program (opened main) told)
    simulated = record { loaded = loaded; unmarked = unmarked; made = outputs; hosts = hosts }
