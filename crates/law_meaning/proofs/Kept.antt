-- The commands of a frame: operations of kept passes, and then the copies of its exports.
use Rattle.std.proofs.Common.{◌≡◌, ℕ, ◌+◌, ◌<◌, Bool, true, false, List, [], ◌∷◌, ◌++◌, length, map, if◌then◌else◌, refl, ap, ◌∙◌, subst, length-append, arith}
use Rattle.std.specs.List.{All}
use Rattle.std.proofs.lemmas.List.{map-append, map-id, get_or_append_left, get_or-append-add}
use Rattle.std.proofs.lemmas.List.Elements.{All-append, All-head, All-tail, All-map, All-nil}
use Rattle.std.proofs.lemmas.Simd.{map-map}
use Rattle.base.specs.Operands.{operands_of}
use Rattle.base.specs.declared.op.Op.{Op}
use Rattle.base.specs.declared.shape.Shape.{Shape}
use Rattle.law_meaning.specs.Kept.{kept_passes}
use Rattle.frame.specs.Numbered.{IsWithin}
use Rattle.frame.specs.declared.numbered.NumberedPass.{NumberedPass}
use Rattle.compile_groups.specs.Commands.{on_queue, pass_commands, kept_commands}
use Rattle.compile_groups.specs.declared.command.Command.{Command}
use Rattle.frame_meaning.proofs.Remaining.{after_ops-append}
use Rattle.frame_meaning.specs.Meaning.{after_ops, after_passes}

abbrev pub ops_of : List Command → List (Op ℕ)
ops_of commands = map (λ command. command.op) commands

pass_ops : (pass : NumberedPass) → ops_of (pass_commands pass) ≡ pass.ops
pass_ops pass = map-map (λ (c : Command). c.op) (on_queue pass.queue) pass.ops ∙ map-id pass.ops

pub kept_run : (shapes : List Shape) (passes : List NumberedPass) (kept : List Bool) (bytes : List (List ℕ)) → after_ops shapes bytes (ops_of (kept_commands passes kept)) ≡ after_passes shapes bytes (kept_passes passes kept)
kept_run shapes [] kept bytes = refl
kept_run shapes (pass ∷ passes) [] bytes = refl
kept_run shapes (pass ∷ passes) (keep ∷ kept) bytes = go keep (kept_run shapes passes kept)
  where
    go : (b : Bool) → ((bytes : List (List ℕ)) → after_ops shapes bytes (ops_of (kept_commands passes kept)) ≡ after_passes shapes bytes (kept_passes passes kept)) → after_ops shapes bytes (ops_of ((if b then pass_commands pass else []) ++ kept_commands passes kept)) ≡ after_passes shapes bytes (if b then pass ∷ kept_passes passes kept else kept_passes passes kept)
    go true more =
        ap (after_ops shapes bytes) (map-append (λ (c : Command). c.op) (pass_commands pass) (kept_commands passes kept) ∙ ap (λ l. l ++ ops_of (kept_commands passes kept)) (pass_ops pass))
        ∙ after_ops-append shapes pass.ops (ops_of (kept_commands passes kept)) bytes
        ∙ more (after_ops shapes bytes pass.ops)
    go false more = more bytes

-- over units of the frame
abbrev Within : ℕ → Command → Type 0
Within n command = All (λ r. r < n) (operands_of command.op)

pub kept_within : (queues n : ℕ) (passes : List NumberedPass) (kept : List Bool) → All (IsWithin queues n) passes → All (λ command. All (λ r. r < n) (operands_of command.op)) (kept_commands passes kept)
kept_within queues n [] kept all = All-nil (Within n)
kept_within queues n (pass ∷ passes) [] all = All-nil (Within n)
kept_within queues n (pass ∷ passes) (keep ∷ kept) all = All-append (Within n) (if keep then pass_commands pass else []) (kept_commands passes kept) (first keep) (kept_within queues n passes kept (All-tail (IsWithin queues n) pass passes all))
  where
    first : (b : Bool) → All (Within n) (if b then pass_commands pass else [])
    first true = All-map (Within n) (on_queue pass.queue) pass.ops ((All-head (IsWithin queues n) pass passes all).ops)
    first false = All-nil (Within n)

-- PARTS OF LISTS

module _ {X : Type 0} (P : X → Type 0) where
  pub all_left : (xs ys : List X) → All P (xs ++ ys) → All P xs
  all_left xs ys all = λ i d lt. subst P (get_or_append_left xs ys d i lt) (all i d (omega (arith, lt, length-append xs ys)))

  pub all_right : (xs ys : List X) → All P (xs ++ ys) → All P ys
  all_right xs ys all = λ i d lt. subst P (get_or-append-add xs ys i d) (all (length xs + i) d (omega (arith, lt, length-append xs ys)))
