-- A pass of which nothing is unknown, wherever it stands.
use Rattle.std.proofs.Common.{◌≡◌, ℕ, suc, ◌+◌, List, [], ◌∷◌, get_or, not, true, Some, None, if◌then◌else◌, ap, ap₂}
use Rattle.std.specs.List.{All, AllByRecursion, position}
use Rattle.std.specs.Option.{option_map, option_or}
use Rattle.std.proofs.lemmas.Bool.{not_from_true}
use Rattle.base.proofs.Absence.{all_pass, first_none, has_it, map_none, or_first, or_second, passes_test}
use Rattle.base.specs.Operands.{operands_of}
use Rattle.base.specs.Walks.{first_in}
use Rattle.base.specs.declared.op.Op.{Op}
use Rattle.frame.proofs.Sufficient.{none_found, none_in}
use Rattle.frame.specs.Members.{member_at}
use Rattle.frame.specs.Units.{Numbering}
use Rattle.frame.specs.Unknowns.{has_queue, is_known, is_known_unit, unknown_at, unknown_in, unknown_operand}
use Rattle.frame.specs.declared.frame.Frame.{Frame}
use Rattle.frame.specs.declared.frame.Pass.{Pass}
use Rattle.frame.specs.declared.frame.Spot.{Spot}
use Rattle.frame.specs.declared.location.Location.TheVariants as at

pub record IsKnownPass (frame : Frame) (n : Numbering) (pass : Pass) : Type 0 where
  pub queue : has_queue frame pass.queue ≡ true
  pub reads : All (λ spot. is_known n spot ≡ true) pass.reads
  pub writes : All (λ w. is_known n w.what ≡ true) pass.writes
  pub ops : All (λ op. All (λ spot. is_known_unit n spot ≡ true) (operands_of op)) pass.ops

module _ (frame : Frame) (n : Numbering) where
  pub none_unknown : (p : ℕ) (pass : Pass) → IsKnownPass frame n pass → unknown_in frame n p pass ≡ None
  none_unknown p pass K =
      ap₂ option_or (passes_test (has_queue frame pass.queue) (at.PassQueue p) K.queue)
      (ap₂ option_or (ap (option_map (λ k. at.Read p k)) (none_found (λ spot. not (is_known n spot)) pass.reads (λ k d lt. not_from_true (is_known n (get_or pass.reads k d)) (K.reads k d lt))))
      (ap₂ option_or (ap (option_map (λ k. at.Write p k)) (none_found (λ w. not (is_known n w.what)) pass.writes (λ k d lt. not_from_true (is_known n (get_or pass.writes k d).what) (K.writes k d lt))))
      (none_in (unknown_operand n p) pass.ops (λ k d lt. none_in (unknown_at n p k (get_or pass.ops k d)) (operands_of (get_or pass.ops k d)) (λ j e less. passes_test (is_known_unit n (get_or (operands_of (get_or pass.ops k d)) j e)) (at.Operand p k (member_at (get_or pass.ops k d) j)) (K.ops k d lt j e less))))))

  known_at : (p k : ℕ) (op : Op Spot) → unknown_operand n p k op ≡ None → All (λ spot. is_known_unit n spot ≡ true) (operands_of op)
  known_at p k op none = λ j e less. has_it (is_known_unit n (get_or (operands_of op) j e)) (at.Operand p k (member_at op (0 + j))) (first_none (unknown_at n p k op) 0 (operands_of op) none j e less)

  pub known_pass : (p : ℕ) (pass : Pass) → unknown_in frame n p pass ≡ None → IsKnownPass frame n pass
  known_pass p pass none =
      let in_queue = if has_queue frame pass.queue then None else Some (at.PassQueue p) in
      let in_reads = option_map (λ k. at.Read p k) (position (λ spot. not (is_known n spot)) pass.reads) in
      let in_writes = option_map (λ k. at.Write p k) (position (λ w. not (is_known n w.what)) pass.writes) in
      let in_ops = first_in (unknown_operand n p) 0 pass.ops in
      let after_queue = or_second in_queue (option_or in_reads (option_or in_writes in_ops)) none in
      let after_reads = or_second in_reads (option_or in_writes in_ops) after_queue in
      record {
        queue = has_it (has_queue frame pass.queue) (at.PassQueue p) (or_first in_queue (option_or in_reads (option_or in_writes in_ops)) none);
        reads = all_pass (is_known n) pass.reads (map_none (λ k. at.Read p k) (position (λ spot. not (is_known n spot)) pass.reads) (or_first in_reads (option_or in_writes in_ops) after_queue));
        writes = all_pass (λ w. is_known n w.what) pass.writes (map_none (λ k. at.Write p k) (position (λ w. not (is_known n w.what)) pass.writes) (or_first in_writes in_ops after_reads));
        ops = λ k d lt. known_at p (0 + k) (get_or pass.ops k d) (first_none (unknown_operand n p) 0 pass.ops (or_second in_writes in_ops after_reads) k d lt);
      }

pub all_known : (frame : Frame) (n : Numbering) (p : ℕ) (passes : List Pass) → first_in (unknown_in frame n) p passes ≡ None → AllByRecursion (IsKnownPass frame n) passes
all_known frame n p [] none = tt
all_known frame n p (pass ∷ passes) none = (
  known_pass frame n p pass (or_first (unknown_in frame n p pass) (first_in (unknown_in frame n) (suc p) passes) none),
  all_known frame n (suc p) passes (or_second (unknown_in frame n p pass) (first_in (unknown_in frame n) (suc p) passes) none),
)
