-- Events come one after another.
use Rattle.std.proofs.Common.{◌≡◌, ◌+◌, Bool, true, false, List, [], ◌∷◌, ◌++◌, length, if◌then◌else◌, refl, sym, ap, ◌∙◌, append_assoc, arith}
use Rattle.std.proofs.lemmas.List.{append-nil, length-append}
use Rattle.std.proofs.lemmas.List.Elements.{filter-append}
use Rattle.base.specs.declared.event.Event.{Event}
use Rattle.device_model.specs.Devices.{Device}
use Rattle.device_model.specs.Histories.{is_move, moves_in, GoesNowhere, GoesOnByNode, GoesOnByMove, Joins}

pub went_nowhere : (d : Device) → GoesNowhere d
went_nowhere d = record { program = refl; fill = refl; history = sym (append-nil d.history); moves = omega arith }

one_kept : (b : Bool) (event : Event) → length (if b then event ∷ [] else []) ≡ (if b then 1 else 0)
one_kept true event = refl
one_kept false event = refl

with_one : (events : List Event) (event : Event) → length (moves_in (events ++ event ∷ [])) ≡ length (moves_in events) + (if is_move event then 1 else 0)
with_one events event =
    ap length (filter-append is_move events (event ∷ []))
    ∙ length-append (moves_in events) (moves_in (event ∷ []))
    ∙ ap (λ k. length (moves_in events) + k) (one_kept (is_move event) event)

pub went_node : (old new : Device) (events : List Event) (event : Event) → GoesOnByNode old new events event
went_node old new events event went node = record {
  program = went.program;
  fill = went.fill;
  history = ap (λ h. h ++ event ∷ []) went.history ∙ append_assoc old.history events (event ∷ []);
  moves = let more = with_one events event ∙ ap (λ b. length (moves_in events) + (if b then 1 else 0)) node in let so_far = went.moves in omega (arith, more, so_far);
}

pub went_move : (old new : Device) (events : List Event) (event : Event) → GoesOnByMove old new events event
went_move old new events event went move may = record {
  program = went.program;
  fill = went.fill;
  history = ap (λ h. h ++ event ∷ []) went.history ∙ append_assoc old.history events (event ∷ []);
  moves = let more = with_one events event ∙ ap (λ b. length (moves_in events) + (if b then 1 else 0)) move in let so_far = went.moves in omega (arith, more, so_far, may);
}

pub joins : (old middle new : Device) (first second : List Event) → Joins old middle new first second
joins old middle new first second went more = record {
  program = more.program ∙ went.program;
  fill = more.fill ∙ went.fill;
  history = more.history ∙ ap (λ h. h ++ second) went.history ∙ append_assoc old.history first second;
  moves = let a = went.moves in let b = more.moves in let both = ap length (filter-append is_move first second) ∙ length-append (moves_in first) (moves_in second) in omega (arith, a, b, both);
}
