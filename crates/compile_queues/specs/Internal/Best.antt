-- The best queue of those that were tried.
use Rattle.std.specs.Prelude.{◌≡◌, ◌≢◌, ◌⊎◌, ◌<◌, ◌≤◌, ℕ, Bool, List, true, slice_index_or}
use Rattle.compile_queues.specs.Choice.{Costs}
use Rattle.compile_queues.specs.Queues.{serves}
use Rattle.frame.specs.Numbered.{NumberedFrame}
use Rattle.frame_cull.specs.Versions.{pass_at}

-- of the present queue and those below a bound that run the pass: this one, at that cost
pub record IsBest (runs : ℕ → Bool) (Priced : ℕ → ℕ → Type 0) (present bound queue cost : ℕ) : Type 0 where
  pub runs_it : runs queue ≡ true
  pub is_cost : Priced queue cost
  pub seen : (queue ≡ present) ⊎ (queue < bound)
  pub least : (other more : ℕ) → (other ≡ present) ⊎ (other < bound) → runs other ≡ true → Priced other more → cost ≤ more
  pub first : (other : ℕ) → (other ≡ present) ⊎ (other < bound) → runs other ≡ true → Priced other cost → (queue ≡ present) ⊎ ((other ≢ present) × (queue ≤ other))

-- of the queues for a pass, where passes are on these
abbrev pub IsBestFor : NumberedFrame → List ℕ → ℕ → ℕ → ℕ → ℕ → Type 0
IsBestFor frame qs p bound queue cost = IsBest (serves frame.queues (pass_at frame p)) (Costs frame qs p) (slice_index_or qs p 0) bound queue cost
