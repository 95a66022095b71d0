-- What becomes of the bytes of a table becomes of those of the state.
use Rattle.std.proofs.Common.{◌≡◌, ℕ, ◌+◌, ◌-◌, ◌<◌, ◌≤◌, ◌==◌, ◌&&◌, nat_le, nat_lt, true, List, map, if◌then◌else◌, sym, ap, ap₂, subst, ◌∙◌, ⊎_elim, eqb-true, arith}
use Rattle.std.specs.Prelude.{slice_index}
use Rattle.std.specs.List.{range_with_len}
use Rattle.std.proofs.lemmas.Bool.{and_parts, cases_Bool, leb-true, ltb-true}
use Rattle.std.proofs.lemmas.List.FromFn.{fill_by_all, length-map-range_with_len, get_or-map-range_with_len}
use Rattle.device_cache.specs.Effects as effects
use Rattle.device_cache.specs.Effects.{Caches, put, write_back, fill, drop_clean, load, read_main, stored_in}
use Rattle.base.specs.declared.cache_move.MoveKind.{MoveKind}
use Rattle.base.specs.declared.cache_move.MoveKind.TheVariants.{WriteBack, Fill, DropLine}
use Rattle.base.specs.declared.memory_range.MemoryRange.{MemoryRange}
use Rattle.device_cache.specs.Lines.{Dirty, range, is_in, seen, written, cleaned, filled, dropped}
use Rattle.device.specs.Internal.Tables.{memory_size, HasBytes}
use Rattle.device_model.specs.States.{State}
use Rattle.device_model.specs.Steps.{written_back, lines_filled, lines_dropped, moved_by}
use Rattle.program.specs.declared.program.Program.{Program}

pub same_bytes : (n : ℕ) (f g : ℕ → ℕ) → ((k : ℕ) → k < n → f k ≡ g k) → map f (range_with_len 0 n) ≡ map g (range_with_len 0 n)
same_bytes n f g h = fill_by_all g (map f (range_with_len 0 n)) n 0 (length-map-range_with_len f 0 n) (λ k lt. get_or-map-range_with_len f 0 n k k 0 lt (omega arith) ∙ h k lt)

pub in_range : (r : MemoryRange) (m i : ℕ) → is_in r m i ≡ true → (r.memory ≡ m) × ((r.start ≤ i) × (i < r.start + r.len))
in_range r m i e =
    let a = and_parts (r.memory == m) (nat_le r.start i && nat_lt i (r.start + r.len)) e in
    let b = and_parts (nat_le r.start i) (nat_lt i (r.start + r.len)) a.1 in
    (eqb-true r.memory m a.0, (leb-true r.start i b.0, ltb-true i (r.start + r.len) b.1))

module _ (program : Program) (c : Caches) (s : State) (B : HasBytes program c s) where
  -- what an agent sees of a range of a memory, and what main has there
  pub loads_alike : (agent m start len : ℕ) → start + len ≤ memory_size program m → load agent (range m start len) c ≡ map (λ k. seen (s.line agent m (start + k)) (s.main m (start + k))) (range_with_len 0 len)
  loads_alike agent m start len within = same_bytes len (λ k. seen (c.line agent m (start + k)) (c.main m (start + k))) (λ k. seen (s.line agent m (start + k)) (s.main m (start + k))) (λ k lt. ap₂ seen (B.line agent m (start + k)) (B.main m (start + k) (omega (arith, within, lt))))

  pub reads_alike : (m start len : ℕ) → start + len ≤ memory_size program m → read_main (range m start len) c ≡ map (λ k. s.main m (start + k)) (range_with_len 0 len)
  reads_alike m start len within = same_bytes len (λ k. c.main m (start + k)) (λ k. s.main m (start + k)) (λ k lt. B.main m (start + k) (omega (arith, within, lt)))

  writes_back : (agent : ℕ) (r : MemoryRange) → HasBytes program (write_back agent r c) (written_back s agent r)
  writes_back agent r = record {
    main = λ m i lt. ap₂ (λ l v. if is_in r m i then written l v else v) (B.line agent m i) (B.main m i lt);
    line = λ g m i. ap (λ l. if (g == agent) && is_in r m i then cleaned l else l) (B.line g m i);
  }

  drops : (agent : ℕ) (r : MemoryRange) → HasBytes program (drop_clean agent r c) (lines_dropped s agent r)
  drops agent r = record { main = B.main; line = λ g m i. ap (λ l. if (g == agent) && is_in r m i then dropped l else l) (B.line g m i) }

  fills : (agent : ℕ) (r : MemoryRange) → r.start + r.len ≤ memory_size program r.memory → HasBytes program (fill agent r c) (lines_filled s agent r)
  fills agent r within = record {
    main = B.main;
    line = λ g m i. ⊎_elim
        (λ e.
        let p = in_range r m i (and_parts (g == agent) (is_in r m i) e).1 in
        let inside : i < memory_size program m = subst (λ z. i < memory_size program z) p.0 (omega (arith, within, p.1.1)) in
        ap₂ (λ l v. if (g == agent) && is_in r m i then filled l v else l) (B.line g m i) (B.main m i inside))
        (λ e. ap (λ b. if b then filled (c.line g m i) (c.main m i) else c.line g m i) e ∙ B.line g m i ∙ sym (ap (λ b. if b then filled (s.line g m i) (s.main m i) else s.line g m i) e))
        (cases_Bool ((g == agent) && is_in r m i));
  }

  -- lines of an agent move
  pub moves : (agent : ℕ) (r : MemoryRange) → r.start + r.len ≤ memory_size program r.memory → (kind : MoveKind) → HasBytes program (effects.moved_by kind agent r c) (moved_by kind s agent r)
  moves agent r within WriteBack = writes_back agent r
  moves agent r within Fill = fills agent r within
  moves agent r within DropLine = drops agent r

  pub stores : (agent : ℕ) (r : MemoryRange) (bytes : List ℕ) → HasBytes program (put agent r bytes c) (record s { line = stored_in agent r bytes s.line })
  stores agent r bytes = record { main = B.main; line = λ g m i. ap (λ l. if (g == agent) && is_in r m i then Dirty (slice_index bytes (i - r.start)) else l) (B.line g m i) }
