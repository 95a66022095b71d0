use Rattle.std.proofs.Common.{◌≡◌, ◌≢◌, ◌∙◌, ℕ, ◌+◌, ◌<◌, ◌≤◌, Bool, true, false, ⊎_elim, ne_eqb, List, [], ◌∷◌, ◌++◌, length, refl, sym, ap, subst, arith}
use Rattle.std.specs.Prelude.{if◌then◌else◌, ◌==◌}
use Rattle.std.proofs.lemmas.Bool.{cases_eq}
use Rattle.std.proofs.lemmas.List.{get_or_read}
use Rattle.base.specs.Maxima.{max_memory_bytes}
use Rattle.device_cache.specs.declared.memory.Memory.{Memory}
use Rattle.device_cache.specs.declared.segment.Segment.{Segment}
use Rattle.device_cache.specs.Tables.{slot_at}
use Rattle.device_cache.specs.Internal.Opened.{IsOpened, open_segment}
use Rattle.device_cache.specs.Internal.Uses.{uses}
use Rattle.device_cache.proofs.Counting.{opened_uses}
use Rattle.device_cache.proofs.Growing.{opened_step, nothing_opened, next_sum, next_sum_le}
use Rattle.device_cache.proofs.opening.lay_out.Goals as goal

pub loop-memory-init : goal.loop-memory-init
loop-memory-init c =
    let slots = c.args.slots.now in
    let P : List Memory → Type 0 = λ ms. IsOpened slots 0 0 ms [] in
    let Q : List Segment → Type 0 = λ ss. IsOpened slots 0 0 c.args.memories.now.items ss in
    let none : (slot : ℕ) → uses slot c.args.segments.now.items ≡ 0 = λ slot. ap (uses slot) c.requires.segments in
    record {
      opened = subst Q (sym c.requires.segments) (subst P (sym c.requires.memories) (nothing_opened slots));
      once = λ slot. omega (arith, none slot);
      later = λ slot _. none slot;
      total = refl;
      memories = omega (arith, ap length c.requires.memories);
      segments = omega (arith, ap length c.requires.segments);
      memories_capacity = refl;
      capacity = refl;
    }

within : (c : goal.After-add_memory-arg-in-loop-memory-1) → c.loop-memory.total + c.len-len.result ≤ max_memory_bytes
within c =
    let slots = c.args.slots.now in
    let n = c.loop-memory.memory in
    let there : n + 1 < length slots = omega (arith, c.loop-memory-test.true) in
    let size : length (slot_at slots (n + 1)) ≡ c.len-len.result = sym (c.len-len.ensures ∙ ap length (get_or_read slots (n + 1) c.index-slots-slot.result there c.index-slots-slot.is [])) in
    omega (arith, next_sum_le slots n there, size, c.loop-memory.invariant.total, c.requires.small)

pub overflow_cast-len : goal.overflow_cast-len
overflow_cast-len c = omega (arith, within c)

pub add_memory-total-requires-clause-total : goal.add_memory-total-requires-clause-total
add_memory-total-requires-clause-total c = within c

least : (b : Bool) → (let one : ℕ = if b then 1 else 0 in one ≤ 1)
least true = omega arith
least false = omega arith

pub loop-memory-preserved : goal.loop-memory-preserved
loop-memory-preserved c =
    let slots = c.args.slots.now in
    let n = c.loop-memory.memory in
    let len = c.len-len.result in
    let i = c.loop-memory.invariant in
    let e = c.add_memory-total.ensures in
    let there : n + 1 < length slots = omega (arith, c.loop-memory-test.true) in
    let size : length (slot_at slots (n + 1)) ≡ len = sym (c.len-len.ensures ∙ ap length (get_or_read slots (n + 1) c.index-slots-slot.result there c.index-slots-slot.is [])) in
    let P : ℕ → Type 0 = λ t. IsOpened slots (n + 1) t c.add_memory-total.new.memories.items c.add_memory-total.new.segments.items in
    let Q : List Memory → Type 0 = λ ms. IsOpened slots (n + 1) (c.loop-memory.total + len) ms (if len == 0 then c.loop-memory.segments.items else c.loop-memory.segments.items ++ open_segment (n + 1) c.loop-memory.total len ∷ []) in
    let own : ℕ → ℕ = λ slot. if n + 1 == slot then 1 else 0 in
    let other : (slot : ℕ) → n + 1 ≢ slot → own slot ≡ 0 = λ slot ne. ap (λ (b : Bool). if b then 1 else 0) (ne_eqb (n + 1) slot ne) in
    let own_least : (slot : ℕ) → own slot ≤ 1 = λ slot. least (n + 1 == slot) in
    let more : (slot : ℕ) → uses slot c.add_memory-total.new.segments.items ≤ uses slot c.loop-memory.segments.items + own slot = λ slot. omega (arith, ap (uses slot) e.segment, opened_uses c.loop-memory.segments.items (n + 1) c.loop-memory.total len slot (len == 0)) in
    let R : List Segment → Type 0 = λ ss. IsOpened slots (n + 1) (c.loop-memory.total + len) c.add_memory-total.new.memories.items ss in
    record {
      opened = subst P (sym e.total) (subst R (sym e.segment) (subst Q (sym e.memory) (opened_step slots n c.loop-memory.total len c.loop-memory.memories.items c.loop-memory.segments.items i.opened there size)));
      once = λ slot. ⊎_elim
          (λ (same : n + 1 ≡ slot). omega (arith, more slot, i.later slot (omega (arith, same)), own_least slot))
          (λ (ne : n + 1 ≢ slot). omega (arith, more slot, i.once slot, other slot ne))
          (cases_eq (n + 1) slot);
      later = λ slot lt. omega (arith, more slot, i.later slot (omega (arith, lt)), other slot (λ (same : n + 1 ≡ slot). omega (arith, lt, same)));
      total = omega (arith, e.total, i.total, next_sum slots n there, size);
      memories = omega (arith, i.memories, e.memories_len);
      segments = omega (arith, i.segments, e.segments_len);
      memories_capacity = e.memories_capacity ∙ i.memories_capacity;
      capacity = e.segments_capacity ∙ i.capacity;
    }
