-- A worked row, and programs that do not meet the relations.
use Rattle.std.proofs.Common.{◌≡◌, ◌⊎◌, inl, inr, ℕ, zero, suc, ◌<◌, Bool, true, false, List, [], ◌∷◌, map, get_or, Some, None, refl, sym, ap, ◌∙◌, arith}
use Rattle.std.specs.List.{list_any}
use Rattle.std.specs.Prelude.{slice_get}
use Rattle.std.proofs.lemmas.Bool.{false≢true, or_parts}
use Rattle.base.specs.declared.op.Fun.TheVariants.{Add}
use Rattle.base.specs.declared.op.Op.TheVariants.{Ramp, Map, ImageToBuffer}
use Rattle.base.specs.declared.shape.Family.TheVariants.{Graphics, Compute}
use Rattle.base.specs.declared.shape.Shape.TheVariants.{Image}
use Rattle.base.specs.declared.shape.Texel.TheVariants.{R32}
use Rattle.vk.specs.Accesses.{transfer_read, transfer_write, host_read, shader_sampled_read, shader_storage_write}
use Rattle.vk.specs.Stages.{compute_shader, copy, host, all_commands}
use Rattle.vk.specs.declared.layout.Layout.TheVariants.{Undefined, General, ShaderReadOnly, TransferSrc}
use Rattle.vk.specs.declared.layout.Layouts.{Layouts}
use Rattle.vk.specs.declared.sharing.Sharing.TheVariants.{Exclusive}
use Rattle.compile_barriers.specs.Under.{Heap}
use Rattle.compile_groups.specs.Groups.{grouping}
use Rattle.compile_groups.specs.declared.command.Command.{Command}
use Rattle.compile_groups.specs.declared.grouping.Grouping.{Grouping}
use Rattle.frame.specs.Numbered.{NumberedFrame}
use Rattle.law_record.specs.Begun.{IsBeginning, IsCutUp}
use Rattle.law_record.specs.Needed.{AreItems}
use Rattle.law_record.specs.Reasons.{Reason, Runs, Turn, Release, Acquire, Discard, Shows, queue_for}
use Rattle.law_record.specs.Rising.{WaitsRise}
use Rattle.law_record.specs.Signalled.{IsWaitedFor, IsLast, SignalsCount}
use Rattle.law_record.specs.Spots.{spot, spot_for}
use Rattle.law_record.specs.Table.{four, item_for}
use Rattle.program.specs.Entries.{Entry, OfWait, OfItem, OfSignal, OfHost, entries_of}
use Rattle.program.specs.declared.program.Batch.{Batch}
use Rattle.program.specs.declared.program.Item.{Item}
use Rattle.program.specs.declared.program.Item.TheVariants as item
use Rattle.program.specs.declared.program.Program.{Program}
use Rattle.program.specs.declared.program.Signal.{Signal}
use Rattle.program.specs.declared.program.Transfer.{Transfer}
use Rattle.program.specs.declared.program.WaitFor.{WaitFor}

-- AN IMAGE IS MADE ON A COMPUTE QUEUE AND READ ON A GRAPHICS QUEUE

abbrev frame : NumberedFrame
frame = record {
  units = record { shape = Image 4 4 R32; sharing = Exclusive; imported = None } ∷ record { shape = Image 4 4 R32; sharing = Exclusive; imported = None } ∷ [];
  queues = Graphics ∷ Compute ∷ [];
  passes =
      record { queue = 1; reads = []; writes = record { what = 0; fresh = true } ∷ []; ops = Ramp 0 1 1 4 ∷ []; side_effect = false }
      ∷ record { queue = 0; reads = 0 ∷ []; writes = record { what = 1; fresh = true } ∷ []; ops = Map 0 1 Add 1 ∷ []; side_effect = false }
      ∷ [];
  exports = 1 ∷ [];
}

abbrev G : Grouping
G = grouping frame (true ∷ true ∷ [])

abbrev heap : Heap
heap = record { ordered = λ a b. false; offsets = 0 ∷ 256 ∷ [] }

abbrev mapping : Command
mapping = record { queue = 0; op = Map 0 1 Add 1; export = None }

abbrev copying : Command
copying = record { queue = 0; op = ImageToBuffer 1 2 0; export = Some 0 }

-- groups 0 and 1 are of the first image, 2 and 3 of the second
abbrev on_graphics : List Reason
on_graphics = Acquire 0 ∷ Discard 2 ∷ Runs 1 mapping ∷ Turn 2 ∷ Runs 2 copying ∷ Shows 2 copying ∷ []

queues : map (queue_for G) (Discard 0 ∷ Release 0 ∷ on_graphics) ≡ 1 ∷ 1 ∷ 0 ∷ 0 ∷ 0 ∷ 0 ∷ 0 ∷ 0 ∷ []
queues = refl

abbrev to_read : Layouts
to_read = record { from = General; to = ShaderReadOnly }

abbrev acquire : Transfer
acquire = record { piece = 0; from_family = Compute; to_family = Graphics; layouts = Some to_read; masks = four compute_shader 0 compute_shader shader_sampled_read }

abbrev release : Transfer
release = record { piece = 0; from_family = Compute; to_family = Graphics; layouts = Some to_read; masks = four compute_shader shader_storage_write compute_shader 0 }

items :
    map (item_for G heap) on_graphics
    ≡ item.Acquire acquire
    ∷ item.ImageBarrier 1 (record { from = Undefined; to = General }) (four compute_shader 0 compute_shader shader_storage_write)
    ∷ item.Command (Map 0 1 Add 1)
    ∷ item.ImageBarrier 1 (record { from = General; to = TransferSrc }) (four compute_shader shader_storage_write copy transfer_read)
    ∷ item.Command (ImageToBuffer 1 2 0)
    ∷ item.BufferBarrier 2 (four copy transfer_write host host_read)
    ∷ []
items = refl

released : item_for G heap (Release 0) ≡ item.Release release
released = refl

-- each sooner than the next
spots : map (spot_for G) on_graphics ≡ spot 1 1 0 0 ∷ spot 1 1 1 1 ∷ spot 1 2 0 0 ∷ spot 2 1 0 0 ∷ spot 2 2 0 0 ∷ spot 2 4 0 0 ∷ []
spots = refl

-- WITHOUT THE ACQUIRE

abbrev is_acquire : Item → Bool
is_acquire (item.Command op) = false
is_acquire (item.Global masks) = false
is_acquire (item.BufferBarrier piece masks) = false
is_acquire (item.ImageBarrier piece layouts masks) = false
is_acquire (item.Release transfer) = false
is_acquire (item.Acquire transfer) = true

abbrev acquires : Entry → Bool
acquires (OfItem q it) = is_acquire it
acquires (OfWait q wait) = false
acquires (OfSignal q signal) = false
acquires (OfHost piece) = false

none_at : (entries : List Entry) (n q : ℕ) (transfer : Transfer) → list_any acquires entries ≡ false → slice_get entries n ≡ Some (OfItem q (item.Acquire transfer)) → ⊥
none_at [] n q transfer none e = cc
none_at (entry ∷ entries) zero q transfer none e =
    let same : entry ≡ OfItem q (item.Acquire transfer) = cc in
    false≢true (sym (or_parts (acquires entry) (list_any acquires entries) none).0 ∙ ap acquires same)
none_at (entry ∷ entries) (suc n) q transfer none e = none_at entries n q transfer (or_parts (acquires entry) (list_any acquires entries) none).1 e

-- no program without an acquire is one of this frame
no_acquire : (program : Program) (node : Reason → ℕ) → list_any acquires (entries_of program) ≡ false → AreItems G heap program node → ⊥
no_acquire program node none A = none_at (entries_of program) (node (Acquire 0)) 0 acquire none (A.each (Acquire 0) (refl, refl))

-- BATCHES, WAITS AND SIGNALS

abbrev x : Item
x = item.Global (four 0 0 0 0)

abbrev wait : ℕ → WaitFor
wait value = record { queue = 1; value = value; stages = record { 0 = all_commands } }

abbrev signal : ℕ → Signal
signal value = record { value = value; stages = record { 0 = all_commands } }

abbrev one : Batch
one = record { waits = []; items = x ∷ []; signal = None }

-- two items in two batches
no_cut : IsCutUp (one ∷ one ∷ []) → ⊥
no_cut C = go (C.each 0 one one refl refl)
  where
    go : IsBeginning one one → ⊥
    go (inl e) = false≢true e
    go (inr (i, w)) = omega (arith, w)

abbrev of_batches : List Batch → Program
of_batches batches = record { memories = []; pieces = []; queues = record { family = Graphics; batches = batches } ∷ []; readbacks = [] }

abbrev waiting : ℕ → Batch
waiting value = record { waits = wait value ∷ []; items = x ∷ []; signal = None }

-- two waits for one value
no_rise : WaitsRise (of_batches (waiting 1 ∷ waiting 1 ∷ [])) → ⊥
no_rise W = let less : 1 < 1 = W.values 0 2 0 (wait 1) (wait 1) refl refl refl (omega arith) in omega (arith, less)

abbrev signalling : ℕ → Batch
signalling value = record { waits = []; items = x ∷ []; signal = Some (signal value) }

-- one value twice
no_count : SignalsCount (of_batches (signalling 1 ∷ signalling 1 ∷ [])) → ⊥
no_count S = let same : 1 ≡ 2 = ap (λ l. get_or l 1 0) (S.counted 0) in omega (arith, same)

-- a signal that nobody waits for, and that is not the last
no_due : SignalsCount (of_batches (signalling 1 ∷ signalling 2 ∷ [])) → ⊥
no_due S = go (S.due 1 0 (signal 1) refl).due
  where
    no_wait : (n q : ℕ) (w : WaitFor) → slice_get (entries_of (of_batches (signalling 1 ∷ signalling 2 ∷ []))) n ≡ Some (OfWait q w) → ⊥
    no_wait zero q w e = cc
    no_wait (suc zero) q w e = cc
    no_wait (suc (suc zero)) q w e = cc
    no_wait (suc (suc (suc zero))) q w e = cc
    no_wait (suc (suc (suc (suc n)))) q w e = cc

    go : IsWaitedFor (of_batches (signalling 1 ∷ signalling 2 ∷ [])) 0 1 ⊎ IsLast (of_batches (signalling 1 ∷ signalling 2 ∷ [])) 0 1 → ⊥
    go (inl W) = no_wait W.place W.queue W.wait W.there
    go (inr last) = let le = last 2 (OfItem 0 x) refl refl in omega (arith, le)
