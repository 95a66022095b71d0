-- The passes of a valid frame are good where its units stand among others.
use Rattle.std.proofs.Common.{◌≡◌, ℕ, ◌+◌, ◌<◌, ◌||◌, List, [], ◌∷◌, ◌++◌, length, map, get_or, slice_get, Bool, true, false, Some, refl, sym, ap, ap₂, subst, ◌∙◌, append_assoc}
use Rattle.std.specs.List.{All, list_any}
use Rattle.std.proofs.lemmas.List.{append-nil, map-append}
use Rattle.std.proofs.lemmas.List.Elements.{All-head, All-map, All-tail}
use Rattle.base.specs.Fits.{fits}
use Rattle.base.specs.Operands.{sources_of, destination_of, operands_of, mapped}
use Rattle.base.specs.Shapes.{shape_at}
use Rattle.base.specs.declared.op.Op.{Op}
use Rattle.base.specs.declared.shape.Shape.{Shape}
use Rattle.frame.specs.Valid.{IsValid, IsValidOp, IsValidPass, has_contents, is_import, renews, shapes_in}
use Rattle.frame.specs.Numbered.{NumberedFrame}
use Rattle.frame.specs.Uses.{reads_it, starts_whole, writes_it}
use Rattle.frame.specs.declared.numbered.NumberedPass.{NumberedPass}
use Rattle.base.proofs.Operands.{destination_mapped, runs_mapped, sources_mapped}
use Rattle.frame.proofs.OneByOne.{AllGood, contents_renewed, contents_stay, one_by_one}
use Rattle.law_window.proofs.Tests.{in_place_moved, reads_moved, renewed_moved, shaped_moved, starts_moved, writes_moved}
use Rattle.law_window.specs.Moved.{moved, moved_write}

-- A FRAME AMONG OTHERS

module _ (frame W : NumberedFrame) (shapes-before shapes-after : List Shape) (E : shapes_in W ≡ shapes-before ++ (shapes_in frame ++ shapes-after)) (Q : W.queues ≡ frame.queues) (start : List NumberedPass) (contents : (x : ℕ) → is_import frame.units x ≡ true → has_contents W.units start (length shapes-before + x) ≡ true) where
  abbrev n : ℕ
  n = length shapes-before

  abbrev move : ℕ → ℕ
  move x = n + x

  abbrev Inside : Op ℕ → Type 0
  Inside op = All (λ x. x < length (shapes_in frame)) (operands_of op)

  pub there : (before : List NumberedPass) (x : ℕ) → has_contents frame.units before x ≡ true → has_contents W.units (start ++ map (moved n) before) (move x) ≡ true
  there before x e = by_import (is_import frame.units x) refl e
    where
      by_import : (b : Bool) → is_import frame.units x ≡ b → (b || list_any (renews x) before) ≡ true → has_contents W.units (start ++ map (moved n) before) (move x) ≡ true
      by_import true is e = contents_stay W start (map (moved n) before) (move x) (contents x is)
      by_import false is e = contents_renewed W start (map (moved n) before) (move x) (renewed_moved n before x ∙ e)

  good_op : (pass : NumberedPass) (op : Op ℕ) → Inside op → IsValidOp frame pass op → IsValidOp W (moved n pass) (mapped move op)
  good_op pass op inside G = record {
    on_queue = λ family is. runs_mapped move family op ∙ G.on_queue family (subst (λ q. slice_get q pass.queue ≡ Some family) Q is);
    declared_sources = subst (All (λ x. (writes_it (moved n pass) x || reads_it (moved n pass) x) ≡ true)) (sym (sources_mapped move op)) (All-map (λ x. (writes_it (moved n pass) x || reads_it (moved n pass) x) ≡ true) move (sources_of op) (λ k d lt. ap₂ (λ a b. a || b) (writes_moved n pass (get_or (sources_of op) k d)) (reads_moved n pass (get_or (sources_of op) k d)) ∙ G.declared_sources k d lt));
    declared_destination = ap (writes_it (moved n pass)) (destination_mapped move op) ∙ writes_moved n pass (destination_of op) ∙ G.declared_destination;
    fitting = ap (λ s. fits (mapped (shape_at s) (mapped move op))) E ∙ ap fits (shaped_moved shapes-before (shapes_in frame) shapes-after op inside) ∙ G.fitting;
    not_in_place = in_place_moved n op ∙ G.not_in_place;
  }

  good_pass : (before : List NumberedPass) (pass : NumberedPass) → All Inside pass.ops → IsValidPass frame before pass → IsValidPass W (start ++ map (moved n) before) (moved n pass)
  good_pass before pass inside G =
      let so_far = start ++ map (moved n) before in
      record {
        reads_there = All-map (λ x. has_contents W.units so_far x ≡ true) move pass.reads (λ k d lt. there before (get_or pass.reads k d) (G.reads_there k d lt));
        changes_there = All-map (λ w. w.fresh ≡ false → has_contents W.units so_far w.what ≡ true) (moved_write n) pass.writes (λ k d lt old. there before (get_or pass.writes k d).what (G.changes_there k d lt old));
        new_whole = All-map (λ w. w.fresh ≡ true → starts_whole (shapes_in W) (map (mapped move) pass.ops) w.what ≡ true) (moved_write n) pass.writes (λ k d lt new. ap (λ s. starts_whole s (map (mapped move) pass.ops) (move (get_or pass.writes k d).what)) E ∙ starts_moved shapes-before (shapes_in frame) shapes-after pass.ops (get_or pass.writes k d).what inside ∙ G.new_whole k d lt new);
        new_unread = All-map (λ w. w.fresh ≡ true → reads_it (moved n pass) w.what ≡ false) (moved_write n) pass.writes (λ k d lt new. reads_moved n pass (get_or pass.writes k d).what ∙ G.new_unread k d lt new);
        ops_good = All-map (IsValidOp W (moved n pass)) (mapped move) pass.ops (λ k d lt. good_op pass (get_or pass.ops k d) (inside k d lt) (G.ops_good k d lt));
      }

  good_passes : (before passes : List NumberedPass) → All (λ pass. All Inside pass.ops) passes → AllGood frame before passes → AllGood W (start ++ map (moved n) before) (map (moved n) passes)
  good_passes before [] inside G = tt
  good_passes before (pass ∷ passes) inside G = (
    good_pass before pass (All-head (λ p. All Inside p.ops) pass passes inside) G.0,
    subst (λ b. AllGood W b (map (moved n) passes)) (ap (λ b. start ++ b) (map-append (moved n) before (pass ∷ [])) ∙ sym (append_assoc start (map (moved n) before) (moved n pass ∷ []))) (good_passes (before ++ pass ∷ []) passes (All-tail (λ p. All Inside p.ops) pass passes inside) G.1),
  )

  pub all_moved : IsValid frame → All (λ pass. All Inside pass.ops) frame.passes → AllGood W start (map (moved n) frame.passes)
  all_moved G inside = subst (λ b. AllGood W b (map (moved n) frame.passes)) (append-nil start) (good_passes [] frame.passes inside (one_by_one frame [] frame.passes G.passes_good))
