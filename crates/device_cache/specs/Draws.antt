-- Which moves of cache lines a tender draws, as a function of its generator.
use Rattle.std.specs.Prelude.{ℕ, zero, suc, ◌+◌, ◌-◌, ◌%◌, ◌<◌, ◌≤◌, Bool, List, [], ◌∷◌, length, slice_index_or, min, nat_lt, nat_eq, if◌then◌else◌, filter, ◌&&◌}
use Rattle.std.specs.List.{enumerate_from}
use Rattle.rand_pcg.specs.Lcg.{Lcg, started, increment_of}
use Rattle.rand_pcg.specs.Pcg.{pcg32, multiplier_64}
use Rattle.base.specs.CacheMoves.{cache_move}
use Rattle.base.specs.declared.cache_move.CacheMove.{CacheMove}
use Rattle.base.specs.declared.cache_move.MoveKind.{MoveKind}
use Rattle.base.specs.declared.cache_move.MoveKind.TheVariants.{WriteBack, Fill, DropLine}
use Rattle.base.specs.declared.event.Event.{Event}
use Rattle.base.specs.declared.event.Event.TheVariants.{Move}
use Rattle.device_cache.specs.declared.words.Words.{Words}

-- the generator of a seed, on stream 0
unfoldable pub seeded : ℕ → Lcg
seeded seed = started 64 multiplier_64 seed (increment_of 64 0)

-- the next word, and the generator after it
unfoldable pub word : Lcg → ℕ
word g = (pcg32 g).0

unfoldable pub later : Lcg → Lcg
later g = (pcg32 g).1

-- the next five words, and the generator after them
abbrev pub words_of : Lcg → Words
words_of g = record { kind = word g; agent = word (later g); memory = word (later (later g)); start = word (later (later (later g))); len = word (later (later (later (later g)))) }

unfoldable pub after_five : Lcg → Lcg
after_five g = later (later (later (later (later g))))

-- the memories that have a byte, in rising number, each with its size
abbrev pub filled : List ℕ → List (ℕ × ℕ)
filled sizes = filter (λ p. nat_lt 0 p.1) (enumerate_from 0 sizes)

-- there is an agent, and a memory has a byte
abbrev pub may_draw : ℕ → List ℕ → Bool
may_draw agents sizes = nat_lt 0 agents && nat_lt 0 (length (filled sizes))

abbrev pub kind_of : ℕ → MoveKind
kind_of word = if nat_eq (word % 3) 0 then WriteBack else (if nat_eq (word % 3) 1 then Fill else DropLine)

-- the move of five words, in a memory with its size: at most 4096 bytes
abbrev pub move_in : ℕ → Words → ℕ × ℕ → CacheMove
move_in agents w (memory, size) =
    let start = w.start % size in
    cache_move (kind_of w.kind) (w.agent % agents) memory start (1 + w.len % min 4096 (size - start))

abbrev pub move_of : ℕ → List ℕ → Words → CacheMove
move_of agents sizes w = move_in agents w (slice_index_or (filled sizes) (w.memory % length (filled sizes)) (0, 1))

-- the move that the next five words give
unfoldable pub drawn : ℕ → List ℕ → Lcg → CacheMove
drawn agents sizes g = move_of agents sizes (words_of g)

-- the next so many moves, or none where none can be drawn
abbrev pub moves_from : Lcg → ℕ → ℕ → List ℕ → List Event
moves_from g zero agents sizes = []
moves_from g (suc count) agents sizes = if may_draw agents sizes then Move (drawn agents sizes g) ∷ moves_from (after_five g) count agents sizes else []

-- the first moves of a seed's tender
abbrev pub moves_of : ℕ → ℕ → ℕ → List ℕ → List Event
moves_of seed count agents sizes = moves_from (seeded seed) count agents sizes

-- of a known agent, in a range of at least one byte of a memory
pub record Moves (agents : ℕ) (sizes : List ℕ) (m : CacheMove) : Type 0 where
  pub known : m.agent < agents
  pub there : m.range.memory < length sizes
  pub some : 0 < m.range.len
  pub within : m.range.start + m.range.len ≤ slice_index_or sizes m.range.memory 0
