-- The masks round a group have what each of its uses does on their queue.
use Rattle.std.proofs.Common.{◌≡◌, ℕ, ◌==◌, List, if◌then◌else◌, bit_or, eq-eqb}
use Rattle.std.specs.List.{Contains}
use Rattle.std.proofs.lemmas.List.Elements.{All-contains}
use Rattle.compile_record.proofs.Contained.{contains_filter}
use Rattle.law_sound.proofs.Barriers.{IsSource, IsDestination}
use Rattle.compile_groups.specs.declared.unit_use.Use.{Use}
use Rattle.compile_barriers.specs.Masks.{barrier_masks, release_masks, entry_masks}
use Rattle.compile_barriers.specs.Unions.{on, stages_on, accesses_on, writes_on, is_elsewhere}
use Rattle.law_valid.proofs.Bits.{Inside, inside_then, inside_left, over_each}

module _ (A : List Use) (q : ℕ) (u : Use) (h : Contains A u) (own : u.queue ≡ q) where
  has : Contains (on q A) u
  has = contains_filter (λ (v : Use). v.queue == q) A u h (eq-eqb u.queue q own)

  in_stages : Inside u.stage.0 (stages_on A q)
  in_stages = All-contains (λ (v : Use). Inside v.stage.0 (stages_on A q)) (on q A) u (over_each (λ (v : Use). v.stage.0) (on q A)) has

  in_accesses : Inside u.accesses.0 (accesses_on A q)
  in_accesses = All-contains (λ (v : Use). Inside v.accesses.0 (accesses_on A q)) (on q A) u (over_each (λ (v : Use). v.accesses.0) (on q A)) has

  in_writes : Inside u.writes.0 (writes_on A q)
  in_writes = All-contains (λ (v : Use). Inside v.writes.0 (writes_on A q)) (on q A) u (over_each (λ (v : Use). v.writes.0) (on q A)) has

  -- a barrier takes what the uses before it do on its queue
  pub barrier_takes : (B : List Use) → IsSource u (barrier_masks A B q)
  barrier_takes B = record {
    stage = inside_then u.stage.0 (stages_on A q) (bit_or (stages_on A q) (if is_elsewhere A q then stages_on B q else 0)) in_stages (inside_left (stages_on A q) (if is_elsewhere A q then stages_on B q else 0));
    writes = in_writes;
  }

  pub release_takes : IsSource u (release_masks A q)
  release_takes = record { stage = in_stages; writes = in_writes }

  -- and gives to what those after it do
  pub barrier_gives : (before : List Use) → IsDestination u (barrier_masks before A q)
  barrier_gives before = record { stage = in_stages; accesses = in_accesses }

  pub entry_gives : IsDestination u (entry_masks A q)
  entry_gives = record { stage = in_stages; accesses = in_accesses }
