-- Any bytes in the place of those that an operation leaves nothing of.
use Rattle.std.proofs.Common.{subst, map, ◌≡◌, ◌≢◌, ℕ, ◌<◌, ◌==◌, inl, List, [], ◌∷◌, length, slice_index_or, slice_set, true, false, refl, sym, ap, ◌∙◌, ⊎_elim}
use Rattle.std.proofs.lemmas.Bool.Decides.{eqb_tells}
use Rattle.std.proofs.lemmas.List.{length-map, length-set, get_or-set_same, get_or-set_other, set-set}
use Rattle.base.proofs.Operands.{destination_long}
use Rattle.base.specs.Applied.{applied, bytes_at, after_op}
use Rattle.base.specs.Operands.{sources_of, destination_of, mapped}
use Rattle.base.specs.Shapes.{bytes_of, shape_at}
use Rattle.base.specs.declared.op.Op.{Op}
use Rattle.frame.specs.Valid.{shapes_in}
use Rattle.frame.specs.Numbered.{NumberedFrame}
use Rattle.frame_meaning.proofs.Runs.{destination_within, same_sources, still_sized}
use Rattle.frame_meaning.proofs.Settling.{carried}
use Rattle.frame_meaning.specs.Internal.Held.{IsAt, Stands, is_wanted}
use Rattle.frame_meaning.specs.Meaning.{after_ops}
use Rattle.frame_meaning.specs.Internal.Sizes.{AreSized, IsRunnable}
use Rattle.kernel.specs.Anew.{IgnoresOld}

pub destination_there : (n : NumberedFrame) (op : Op ℕ) → IsRunnable (shapes_in n) op → destination_of op < length n.units
destination_there n op runnable = subst (λ m. destination_of op < m) (length-map n.units (λ u. u.shape)) (destination_within op (length (shapes_in n)) runnable.operands)

module _ (n : NumberedFrame) (op : Op ℕ) (room : List ℕ) (runnable : IsRunnable (shapes_in n) op) (ignores : IgnoresOld (mapped (shape_at (shapes_in n)) op)) (long : length room ≡ bytes_of (shape_at (shapes_in n) (destination_of op))) where
  abbrev dst : ℕ
  dst = destination_of op

  abbrev with_room : List (List ℕ) → List (List ℕ)
  with_room bytes = slice_set bytes dst room

  inside : dst < length (shapes_in n)
  inside = destination_within op (length (shapes_in n)) runnable.operands

  roomy : (bytes : List (List ℕ)) → length bytes ≡ length (shapes_in n) → bytes_at (with_room bytes) dst ≡ room
  roomy bytes count = get_or-set_same bytes dst room [] (subst (λ m. dst < m) (sym count) inside)

  same_step : (bytes : List (List ℕ)) → AreSized (shapes_in n) bytes → after_op (shapes_in n) (with_room bytes) op ≡ after_op (shapes_in n) bytes op
  same_step bytes S =
      set-set bytes dst room (applied (shapes_in n) op (map (bytes_at (with_room bytes)) (sources_of op)) (bytes_at (with_room bytes) dst))
      ∙ ap (slice_set bytes dst) (ap (λ s. applied (shapes_in n) op s (bytes_at (with_room bytes) dst)) (same_sources bytes op room runnable.not_in_place) ∙ forgotten)
    where
      sources : List (List ℕ)
      sources = map (bytes_at bytes) (sources_of op)

      forgotten : applied (shapes_in n) op (map (bytes_at bytes) (sources_of op)) (bytes_at (with_room bytes) dst) ≡ applied (shapes_in n) op (map (bytes_at bytes) (sources_of op)) (bytes_at bytes dst)
      forgotten = ignores (slice_index_or (map (bytes_at bytes) (sources_of op)) 0 []) (slice_index_or (map (bytes_at bytes) (sources_of op)) 1 []) (slice_index_or (map (bytes_at bytes) (sources_of op)) 2 []) (bytes_at (with_room bytes) dst) (bytes_at bytes dst)
          (destination_long (shapes_in n) op (length (bytes_at (with_room bytes) dst)) (ap length (roomy bytes S.count) ∙ long))
          (destination_long (shapes_in n) op (length (bytes_at bytes dst)) (S.sized dst inside))

  pub room_serves : (rest : List (Op ℕ)) (held new : List (List ℕ)) → new ≡ with_room held → IsAt n (op ∷ rest) held → IsAt n (op ∷ rest) new
  room_serves rest held new is at = record {
    bytes = with_room at.bytes;
    sized = still_sized (shapes_in n) at.bytes (with_room at.bytes) dst room at.sized refl (ap length (roomy at.bytes at.sized.count) ∙ long);
    count = ap length is ∙ length-set held dst room ∙ at.count;
    stand = λ unit lt wants. ⊎_elim (at_it unit) (at_other unit lt wants) (eqb_tells unit dst);
    leads = ap (λ b. after_ops (shapes_in n) b rest) (same_step at.bytes at.sized) ∙ at.leads;
  }
    where
      at_it : (unit : ℕ) → ((unit == dst) ≡ true) × (unit ≡ dst) → Stands n.units new (with_room at.bytes) unit
      at_it unit h = subst (Stands n.units new (with_room at.bytes)) (sym h.1) (inl (ap (λ b. bytes_at b dst) is ∙ roomy held (at.count ∙ sym (length-map n.units (λ u. u.shape))) ∙ sym (roomy at.bytes at.sized.count)))

      at_other : (unit : ℕ) → unit < length n.units → is_wanted n.exports (op ∷ rest) unit ≡ true → ((unit == dst) ≡ false) × (unit ≢ dst) → Stands n.units new (with_room at.bytes) unit
      at_other unit lt wants h = carried n.units held at.bytes new (with_room at.bytes) unit (at.stand unit lt wants) (ap (λ b. bytes_at b unit) is ∙ get_or-set_other held dst unit room [] h.1) (get_or-set_other at.bytes dst unit room [] h.1)
