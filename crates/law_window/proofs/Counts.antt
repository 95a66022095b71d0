-- What the limits leave of a frame, counted by its numbers.
use Rattle.std.proofs.Common.{subst, ◌≡◌, ◌≤◌, None, sym}
use Rattle.std.proofs.lemmas.List.{length-map}
use Rattle.base.proofs.Rooms.{all_fit}
use Rattle.frame.proofs.Exports.{few_each, within_room}
use Rattle.frame.proofs.Small.{exports_none, few_units, length_units, ops_none, passes_few, rects_none, total_none}
use Rattle.frame.proofs.Totals.{all_rects_same, bytes_same, ops_same, rects_fit}
use Rattle.frame.specs.Limits.{all_bytes, exported, limit_broken, op_count}
use Rattle.frame.specs.Numbered.{numbered, numbered_pass}
use Rattle.frame.specs.Units.{numbering, units_of}
use Rattle.frame.specs.declared.frame.Frame.{Frame}
use Rattle.law_window.specs.Small.{IsSmall}

pub small_by_limits : (frame : Frame) → limit_broken frame ≡ None → IsSmall (numbered frame)
small_by_limits frame none =
    let n = numbering frame in
    record {
      units = subst (λ m. m ≤ 256) (sym (length_units frame.resources)) (few_units frame none);
      bytes = subst (λ m. m ≤ 268435456) (sym (bytes_same frame.resources)) (all_fit all_bytes frame.resources 268435456 0 (total_none frame none));
      passes = subst (λ m. m ≤ 256) (sym (length-map frame.passes (numbered_pass frame n))) (passes_few frame none);
      ops = subst (λ m. m ≤ 256) (sym (ops_same frame n frame.passes)) (all_fit op_count frame.passes 256 0 (ops_none frame none));
      rects = subst (λ m. m ≤ 4096) (sym (all_rects_same frame n frame.passes)) (rects_fit frame.passes (rects_none frame none));
      exports = within_room (exported frame) (units_of n) (few_each frame) frame.exports 32 0 (exports_none frame none);
    }
