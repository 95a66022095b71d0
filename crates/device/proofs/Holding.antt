-- What a device holds of begun commands and of host reads, where one node goes on.
use Rattle.std.proofs.Common.{◌≡◌, ◌≢◌, ℕ, ◌<◌, List, [], length, get_or, slice_get, slice_set, Option, Some, None, sym, ap, ◌∙◌, subst, ⊎_elim}
use Rattle.std.proofs.lemmas.Bool.{cases_eq}
use Rattle.std.proofs.lemmas.List.{get_or-set_same, get_or-set_other, length-set}
use Rattle.base.specs.Shapes.{bytes_of}
use Rattle.device.specs.Internal.Loads.{HasPending, HasPendingAll, pending_at, HasReadAll}
use Rattle.device.specs.declared.pending.Pending.{Pending}
use Rattle.device_model.specs.Ready.{read_node}
use Rattle.device_model.specs.States.{is_begun, is_done, State}
use Rattle.program.specs.declared.program.Program.{Program}
use Rattle.check_access.specs.Views.{view_of, piece_at}

still : (program : Program) (s r : State) (n : ℕ) (pending : Option Pending) → is_begun (r.phase n) ≡ is_begun (s.phase n) → r.loaded n ≡ s.loaded n → HasPending program s n pending → HasPending program r n pending
still program s r n None e l h = e ∙ h
still program s r n (Some pending) e l h = record { begun = e ∙ h.begun; command = h.command; loaded = h.loaded ∙ sym l; room = h.room; work = h.work }

module _ (program : Program) (list : List (Option Pending)) (s r : State) (H : HasPendingAll program list s) where
  -- where no other command is begun, and none has ended
  pub pending_still : ((n : ℕ) → is_begun (r.phase n) ≡ is_begun (s.phase n)) → ((n : ℕ) → r.loaded n ≡ s.loaded n) → HasPendingAll program list r
  pending_still phase loaded n = still program s r n (pending_at list n) (phase n) (loaded n) (H n)

  -- where another is, or has
  pub pending_set : (n : ℕ) (pending : Option Pending) → n < length list → HasPending program r n pending → ((k : ℕ) → k ≢ n → is_begun (r.phase k) ≡ is_begun (s.phase k)) → ((k : ℕ) → k ≢ n → r.loaded k ≡ s.loaded k) → HasPendingAll program (slice_set list n pending) r
  pending_set n pending inside here phase loaded k = ⊎_elim
      (λ (e : k ≡ n). subst (λ z. HasPending program r z (pending_at (slice_set list n pending) z)) (sym e) (subst (HasPending program r n) (sym (get_or-set_same list n pending None inside)) here))
      (λ (ne : k ≢ n). subst (HasPending program r k) (sym (get_or-set_other list n k pending None ne)) (still program s r k (pending_at list k) (phase k ne) (loaded k ne) (H k)))
      (cases_eq k n)

module _ (program : Program) (list : List (List ℕ)) (s r : State) (H : HasReadAll program list s) where
  -- where no host read is done
  pub reads_still : ((k p : ℕ) → slice_get program.readbacks k ≡ Some p → r.phase (read_node program k) ≡ s.phase (read_node program k)) → ((n : ℕ) → r.host n ≡ s.host n) → HasReadAll program list r
  reads_still phase host = record {
    count = H.count;
    each = λ k p e. let h = H.each k p e in record {
      room = h.room;
      bytes = λ d. h.bytes (ap is_done (sym (phase k p e)) ∙ d) ∙ sym (host (read_node program k));
    };
  }

  -- where one is
  pub reads_set : (n : ℕ) (bytes : List ℕ) → n < length list → ((p : ℕ) → slice_get program.readbacks n ≡ Some p → length bytes ≡ bytes_of (piece_at (view_of program) p).shape) → bytes ≡ r.host (read_node program n) → ((k : ℕ) → k ≢ n → r.phase (read_node program k) ≡ s.phase (read_node program k)) → ((k : ℕ) → k ≢ n → r.host (read_node program k) ≡ s.host (read_node program k)) → HasReadAll program (slice_set list n bytes) r
  reads_set n bytes inside long is phase host = record {
    count = length-set list n bytes ∙ H.count;
    each = λ k p e. ⊎_elim
        (λ (q : k ≡ n).
        let at : get_or (slice_set list n bytes) k [] ≡ bytes = ap (λ z. get_or (slice_set list n bytes) z []) q ∙ get_or-set_same list n bytes [] inside in
        record {
          room = ap length at ∙ long p (ap (slice_get program.readbacks) (sym q) ∙ e);
          bytes = λ d. at ∙ is ∙ ap (λ z. r.host (read_node program z)) (sym q);
        })
        (λ (ne : k ≢ n).
        let h = H.each k p e in
        let at : get_or (slice_set list n bytes) k [] ≡ get_or list k [] = get_or-set_other list n k bytes [] ne in
        record {
          room = ap length at ∙ h.room;
          bytes = λ d. at ∙ h.bytes (ap is_done (sym (phase k ne)) ∙ d) ∙ sym (host k ne);
        })
        (cases_eq k n);
  }
