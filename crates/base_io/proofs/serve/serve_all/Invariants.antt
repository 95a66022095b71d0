use Rattle.std.proofs.Common.{◌≤◌, vec_len, vec_capacity}
use Rattle.base_io.proofs.Serving.{IsServing}
use Rattle.base_io.proofs.serve.serve_all.Given as goal

abbrev pub invariant-loop-place : goal.invariant-loop-place
invariant-loop-place g l =
    record {
      so_far : IsServing (λ b. (goal.Tap-dyn g (b.vtable, b.value)).heard b.value) (λ b. (goal.Tap-dyn g (b.vtable, b.value)).finished b.value) l.events l.fn.taps.items l.place l.at l.taps.items l.spent.items l.places.items;
      spent_room : vec_len l.fn.taps ≤ vec_capacity l.spent;
      places_room : vec_len l.fn.taps ≤ vec_capacity l.places;
      spent_few : vec_len l.spent ≤ l.place;
      places_few : vec_len l.places ≤ l.place;
    }
