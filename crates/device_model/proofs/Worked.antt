-- Runs of small programs: a sound one, and three on which a wrong byte is read.
use Rattle.std.proofs.Common.{◌≡◌, ℕ, zero, suc, ◌<◌, ◌||◌, nat_lt, not, Bool, true, List, [], ◌∷◌, length, Some, None, refl, sym, ◌∙◌, subst, arith}
use Rattle.std.specs.List.{range_with_len, list_all}
use Rattle.std.proofs.lemmas.Bool.{false≢true, ltb-true}
use Rattle.base.proofs.Absence.{some_same}
use Rattle.base.specs.CacheMoves.{cache_move}
use Rattle.base.specs.Texels.{band, low_bytes}
use Rattle.base.specs.declared.cache_move.MoveKind.TheVariants.{WriteBack, Fill}
use Rattle.base.specs.declared.event.Event.{Event}
use Rattle.base.specs.declared.event.Event.TheVariants.{Begin, End, Sync, Move, Host}
use Rattle.base.specs.declared.op.Op.TheVariants.{FillBuffer, CopyBuffer}
use Rattle.base.specs.declared.shape.Family.TheVariants.{Graphics}
use Rattle.base.specs.declared.shape.Shape.TheVariants.{Buffer}
use Rattle.vk.specs.Accesses.{transfer_read, transfer_write, host_read}
use Rattle.vk.specs.Stages.{clear, copy, host, all_commands}
use Rattle.vk.specs.declared.sharing.Sharing.TheVariants.{Exclusive}
use Rattle.device_cache.specs.Lines.{Bytes}
use Rattle.check_program.proofs.Ranges.{among_range, range_among, distinct_range, earlier_range, each_of}
use Rattle.check_program.proofs.Sample.{sample, sample_sound, in_order, host_sevens as host_sevens_apart}
use Rattle.check_program.specs.Apart.{inputs}
use Rattle.check_program.specs.Sound.{IsSound}
use Rattle.device_model.proofs.Programs.{commands}
use Rattle.device_model.proofs.Simulation.{simulated}
use Rattle.device_model.specs.Laws.{HoldsImports}
use Rattle.device_model.specs.States.{is_begun, is_done, State, opened}
use Rattle.device_model.specs.declared.phase.Phase.TheVariants.{Idle}
use Rattle.device_model.specs.Steps.{Told, after}
use Rattle.check_order.proofs.Within.{edge_within}
use Rattle.check_order.specs.Edges.{edge, is_wait, node_at}
use Rattle.check_order.specs.Orders.{Order}
use Rattle.check_order.specs.declared.node.Node.{Node}
use Rattle.program.specs.FirstFault.{first_fault}
use Rattle.program.specs.declared.program.Item.{Item}
use Rattle.program.specs.declared.program.Item.TheVariants.{Command, Global}
use Rattle.program.specs.declared.program.Memory.TheVariants.{Plain}
use Rattle.program.specs.declared.program.Program.{Program}
use Rattle.check_access.specs.Views.{view_of}

-- one queue with these items and a signal, over two buffers of four bytes; the host reads the second
abbrev pub submission : List Item → Program
submission items = record {
  memories = Plain 512 ∷ [];
  pieces = record { shape = Buffer 4; memory = 0; offset = 0; sharing = Exclusive } ∷ record { shape = Buffer 4; memory = 0; offset = 256; sharing = Exclusive } ∷ [];
  queues = record {
    family = Graphics;
    batches = record { waits = []; items = items; signal = Some (record { value = 1; stages = record { 0 = all_commands } }) } ∷ [];
  } ∷ [];
  readbacks = 1 ∷ [];
}

abbrev pub fill : Item
fill = Command (FillBuffer 0 0 4 7)

abbrev pub copied : Item
copied = Command (CopyBuffer 0 1 0 0 4)

abbrev pub barrier : ℕ → ℕ → ℕ → ℕ → Item
barrier from by to for = Global (record { src_stages = record { 0 = from }; src_accesses = record { 0 = by }; dst_stages = record { 0 = to }; dst_accesses = record { 0 = for } })

-- main begins with fives, and all junk is nines
abbrev fives : Bytes
fives m i = 5

abbrev told : List Event → List Told
told [] = []
told (event ∷ events) = record { event = event; junk = 9 ∷ [] } ∷ told events

abbrev ran : Program → List Event → State
ran program events = after program (opened fives) (told events)

-- no memory is an import
sample_imports : HoldsImports sample fives
sample_imports zero bytes e i lt = absurd cc
sample_imports (suc k) bytes e i lt = absurd cc

-- A SOUND PROGRAM

abbrev good : Program
good = submission (fill ∷ barrier clear transfer_write copy transfer_read ∷ copied ∷ barrier copy transfer_write host host_read ∷ [])

-- a line that is filled too early goes away where the stores are made visible
reads_sevens : (ran good (Move (cache_move Fill 5 0 0 4) ∷ Begin 0 ∷ End 0 ∷ Sync 1 ∷ Begin 2 ∷ [])).loaded 2 ≡ (7 ∷ 0 ∷ 0 ∷ 0 ∷ []) ∷ []
unfolding band low_bytes lib.Count.count_trailing_zeros
reads_sevens = refl

host_sevens : (ran good (Begin 0 ∷ End 0 ∷ Sync 1 ∷ Move (cache_move WriteBack 7 0 0 4) ∷ Begin 2 ∷ End 2 ∷ Sync 3 ∷ Sync 4 ∷ Host 5 ∷ [])).host 5 ≡ 7 ∷ 0 ∷ 0 ∷ 0 ∷ []
unfolding band low_bytes lib.Count.count_trailing_zeros
host_sevens = refl

-- an event that is not enabled changes nothing
waits_for_it : (ran good (Begin 0 ∷ Sync 1 ∷ Begin 2 ∷ [])).phase 1 ≡ Idle
unfolding lib.Count.count_trailing_zeros
waits_for_it = refl

-- the law speaks of a program: what the host reads of it, whatever events come
sample_read : (events : List Event) → is_done ((ran sample events).phase 3) ≡ true → (ran sample events).host 3 ≡ 7 ∷ 0 ∷ 0 ∷ 0 ∷ []
sample_read events done = some_same (sym ((simulated sample (commands sample refl) sample_sound (range_with_len 0 4) in_order fives sample_imports (told events)).hosts 0 (omega arith) done) ∙ host_sevens_apart)

-- PROGRAMS THAT ARE NOT SOUND

-- without a barrier the copy may begin while the fill is under way, and loads junk
abbrev unordered : Program
unordered = submission (fill ∷ copied ∷ [])

loads_junk : (ran unordered (Begin 0 ∷ Begin 1 ∷ [])).loaded 1 ≡ (9 ∷ 9 ∷ 9 ∷ 9 ∷ []) ∷ []
unfolding band low_bytes lib.Count.count_trailing_zeros
loads_junk = refl

-- where the fill is not made available, the copy loads what was there before
abbrev unavailable : Program
unavailable = submission (fill ∷ barrier clear 0 copy transfer_read ∷ copied ∷ [])

loads_fives : (ran unavailable (Begin 0 ∷ End 0 ∷ Sync 1 ∷ Begin 2 ∷ [])).loaded 2 ≡ (5 ∷ 5 ∷ 5 ∷ 5 ∷ []) ∷ []
unfolding band low_bytes lib.Count.count_trailing_zeros
loads_fives = refl

-- where it is not made visible, the copy may load a line that was filled before
abbrev invisible : Program
invisible = submission (fill ∷ barrier clear transfer_write copy 0 ∷ copied ∷ [])

loads_lines : (ran invisible (Move (cache_move Fill 5 0 0 4) ∷ Begin 0 ∷ End 0 ∷ Sync 1 ∷ Begin 2 ∷ [])).loaded 2 ≡ (5 ∷ 5 ∷ 5 ∷ 5 ∷ []) ∷ []
unfolding band low_bytes lib.Count.count_trailing_zeros
loads_lines = refl

-- the commands one after another load what is filled
loads_sevens : inputs unavailable (range_with_len 0 5) 2 ≡ (7 ∷ 0 ∷ 0 ∷ 0 ∷ []) ∷ []
unfolding band low_bytes
loads_sevens = refl

-- BY THE LAW THEY ARE NOT SOUND

-- numbers are an order where edges rise and nothing waits
goes_ahead : List Node → ℕ → ℕ → Bool
goes_ahead nodes x n = not (edge nodes x n) || nat_lt x n

ahead : (nodes : List Node) (count : ℕ) → length nodes ≡ count → list_all (λ x. list_all (goes_ahead nodes x) (range_with_len 0 count)) (range_with_len 0 count) ≡ true → (x n : ℕ) → edge nodes x n ≡ true → x < n
unfolding goes_ahead
ahead nodes count size all x n e =
    let within = edge_within nodes x n e in
    let row = each_of (λ x. list_all (goes_ahead nodes x) (range_with_len 0 count)) (range_with_len 0 count) all x (range_among 0 count x (omega arith) (omega (arith, within.0, size))) in
    let one = each_of (goes_ahead nodes x) (range_with_len 0 count) row n (range_among 0 count n (omega arith) (omega (arith, within.1, size))) in
    ltb-true x n (subst (λ t. (not t || nat_lt x n) ≡ true) e one)

numbered : (nodes : List Node) (count : ℕ) → length nodes ≡ count → list_all (λ x. list_all (goes_ahead nodes x) (range_with_len 0 count)) (range_with_len 0 count) ≡ true → list_all (λ n. not (is_wait (node_at nodes n).kind)) (range_with_len 0 count) ≡ true → Order nodes (range_with_len 0 count)
numbered nodes count size all quiet = record {
  once = distinct_range 0 count;
  all = λ n lt. range_among 0 count n (omega arith) (omega (arith, lt, size));
  only = λ n h. let p = among_range 0 count n h in omega (arith, p.1, size);
  turns = record {
    queue = λ x n h queued lt same. let p = among_range 0 count n h in earlier_range 0 count x n (omega arith) lt (omega (arith, p.1));
    met = λ n h e. absurd (false≢true (subst (λ t. not t ≡ true) e (each_of (λ n. not (is_wait (node_at nodes n).kind)) (range_with_len 0 count) quiet n h)));
  };
  forward = λ x n h e. let p = among_range 0 count n h in earlier_range 0 count x n (omega arith) (ahead nodes count size all x n e) (omega (arith, p.1));
}

no_imports : (items : List Item) → HoldsImports (submission items) fives
no_imports items zero bytes e i lt = absurd cc
no_imports items (suc k) bytes e i lt = absurd cc

-- what is loaded is not what the commands load one after another
not_sound : (items : List Item) (events : List Event) (count n : ℕ) → first_fault (submission items) ≡ None → Order (view_of (submission items)).nodes (range_with_len 0 count) → is_begun ((ran (submission items) events).phase n) ≡ true → ((ran (submission items) events).loaded n ≡ inputs (submission items) (range_with_len 0 count) n → ⊥) → IsSound (submission items) → ⊥
not_sound items events count n none O begun other sound = other ((simulated (submission items) (commands (submission items) none) sound (range_with_len 0 count) O fives (no_imports items) (told events)).loaded n begun)

pub unavailable_unsound : IsSound unavailable → ⊥
unfolding band low_bytes lib.Count.count_trailing_zeros goes_ahead
unavailable_unsound = not_sound (fill ∷ barrier clear 0 copy transfer_read ∷ copied ∷ []) (Begin 0 ∷ End 0 ∷ Sync 1 ∷ Begin 2 ∷ []) 5 2 refl (numbered (view_of unavailable).nodes 5 refl refl refl) refl (λ e. differ (sym loads_fives ∙ e ∙ loads_sevens))
  where
    differ : ◌≡◌ {A = List (List ℕ)} ((5 ∷ 5 ∷ 5 ∷ 5 ∷ []) ∷ []) ((7 ∷ 0 ∷ 0 ∷ 0 ∷ []) ∷ []) → ⊥
    differ e = cc
