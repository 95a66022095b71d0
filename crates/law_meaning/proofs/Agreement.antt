-- A sound program can be run to its end, and what the host has read by then is what it reads in every order.
use Rattle.std.proofs.Common.{◌≡◌, ⊎_elim, ℕ, zero, suc, ◌<◌, ◌≤◌, true, length, None, refl, sym, ap, ◌∙◌, subst, arith}
use Rattle.std.specs.Option.{option_map}
use Rattle.std.proofs.lemmas.Bool.{cases_lt}
use Rattle.std.proofs.lemmas.Option.{slice_get_past}
use Rattle.base.specs.Applied.{bytes_at}
use Rattle.base.specs.declared.event.Event.TheVariants.{Begin, End, Sync, Host}
use Rattle.check_program.specs.Apart.{apart}
use Rattle.check_program.specs.Sound.{IsSound}
use Rattle.law_meaning.specs.Laws.{OrdersAgree}
use Rattle.device_model.proofs.Cases.{one_of_three}
use Rattle.device_model.specs.Devices.{Device, opening, state_of, view_in, fresh, did, is_ready, IsComplete, NoneBegun}
use Rattle.device_model.specs.Ready.{kind_at}
use Rattle.device_model.specs.Rounds.{to_do, Round, IsRound, CountsDown}
use Rattle.device_model.specs.Runs.{Runs}
use Rattle.device_model.specs.States.{is_begun, State, opened}
use Rattle.program.specs.FirstFault.{first_fault}
use Rattle.program.specs.declared.program.Program.{Program}

-- a device of the same program, with all nodes done
record Finishes (d : Device) : Type 0 where
  end : Device
  same : end.program ≡ d.program
  complete : IsComplete end

module _ (runs : (d : Device) → first_fault d.program ≡ None → Runs d) (rounds : (d : Device) → NoneBegun d → (n : ℕ) → IsRound d n) (counts : (d : Device) → CountsDown d) (opens : (program : Program) (fill moves : ℕ) → state_of (fresh program fill moves) ≡ opened (opening program fill)) where
  finishes : (m : ℕ) (d : Device) → first_fault d.program ≡ None → IsSound d.program → NoneBegun d → to_do d ≡ m → Finishes d
  finishes zero d none sound idle left = record { end = d; same = refl; complete = (counts d).none left }
  finishes (suc m) d none sound idle left = ⊎_elim
      (λ complete. record { end = d; same = refl; complete = complete })
      (λ next. round (λ e same new. finishes m e (subst (λ p. first_fault p ≡ None) (sym same) none) (subst IsSound (sym same) sound) new.idle (let less = new.less in omega (arith, less, left))) next.0 next.1)
      ((runs d none).next sound idle)
    where
      round : ((e : Device) → e.program ≡ d.program → Round d e → Finishes e) → (n : ℕ) → is_ready d n ≡ true → Finishes d
      round more n ready = ⊎_elim
          (λ k. ends (did (did d (Begin n)) (End n)) refl ((rounds d idle n).command (record { kind = k; ready = ready })))
          (λ other. ⊎_elim
          (λ k. ends (did d (Sync n)) refl ((rounds d idle n).sync (record { kind = k; ready = ready })))
          (λ k. ends (did d (Host n)) refl ((rounds d idle n).host (record { kind = k; ready = ready })))
          other)
          (one_of_three (kind_at (view_in d) n))
        where
          ends : (e : Device) → e.program ≡ d.program → Round d e → Finishes d
          ends e same new = let f = more e same new in record { end = f.end; same = f.same ∙ same; complete = f.complete }

  reads_alike : (d : Device) → first_fault d.program ≡ None → IsSound d.program → IsComplete d → OrdersAgree d.program
  reads_alike d none sound complete one other O P k = ⊎_elim
      (λ (lt : k < length d.program.readbacks). let read = (runs d none).all_read complete k lt sound in read one O ∙ sym (read other P))
      (λ (past : length d.program.readbacks ≤ k).
      let nothing = slice_get_past d.program.readbacks k past in
      ap (option_map (bytes_at (apart d.program one))) nothing ∙ sym (ap (option_map (bytes_at (apart d.program other))) nothing))
      (cases_lt k (length d.program.readbacks))

  pub agree : (program : Program) → first_fault program ≡ None → IsSound program → OrdersAgree program
  agree program none sound =
      let start = fresh program 0 0 in
      let f = finishes (to_do start) start none sound (λ n. ap (λ (s : State). is_begun (s.phase n)) (opens program 0 0)) refl in
      subst OrdersAgree f.same (reads_alike f.end (subst (λ p. first_fault p ≡ None) (sym f.same) none) (subst IsSound (sym f.same) sound) f.complete)
