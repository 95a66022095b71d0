-- Worked rows: what stands round the groups of small frames.
use Rattle.std.proofs.Common.{◌≡◌, ℕ, ◌==◌, ◌&&◌, true, false, List, [], ◌∷◌, map, Some, None, refl}
use Rattle.base.specs.declared.op.Fun.TheVariants.{Add}
use Rattle.base.specs.declared.op.Op.{Op}
use Rattle.base.specs.declared.op.Op.TheVariants.{FillBuffer, CopyBuffer, Ramp, Map}
use Rattle.base.specs.declared.shape.Family.TheVariants as families
use Rattle.base.specs.declared.shape.Shape.{Shape}
use Rattle.base.specs.declared.shape.Shape.TheVariants.{Buffer, Image}
use Rattle.base.specs.declared.shape.Texel.TheVariants.{R32}
use Rattle.vk.specs.Accesses.{shader_sampled_read, shader_storage_write, transfer_read, transfer_write}
use Rattle.vk.specs.Stages.{compute_shader, copy, clear}
use Rattle.vk.specs.declared.sharing.Sharing.{Sharing}
use Rattle.vk.specs.declared.sharing.Sharing.TheVariants.{Exclusive, Concurrent}
use Rattle.frame.specs.Units as frames
use Rattle.frame.specs.declared.frame.Write.{Write}
use Rattle.frame.specs.declared.numbered.NumberedPass.{NumberedPass}
use Rattle.compile_groups.specs.Groups.{grouping}
use Rattle.compile_groups.specs.declared.grouping.Grouping.{Grouping}
use Rattle.compile_barriers.specs.Masks.{masks, no_masks}
use Rattle.compile_barriers.specs.Prologues.{prologue_of, prologues}
use Rattle.compile_barriers.specs.Under.{Heap}
use Rattle.compile_barriers.specs.declared.prologue.PrologueKind.{PrologueKind}
use Rattle.compile_barriers.specs.declared.prologue.PrologueKind.TheVariants.{Nothing, Barrier, Transfer, Alias, Init}

-- FRAMES

abbrev unit : Shape → Sharing → frames.Unit
unit shape sharing = record { shape = shape; sharing = sharing; imported = None }

abbrev bytes : Sharing → frames.Unit
bytes sharing = unit (Buffer 16) sharing

abbrev fresh : ℕ → Write ℕ
fresh what = record { what = what; fresh = true }

abbrev pass : ℕ → List ℕ → List (Write ℕ) → List (Op ℕ) → NumberedPass
pass queue reads writes ops = record { queue = queue; reads = reads; writes = writes; ops = ops; side_effect = false }

abbrev filled : ℕ → ℕ → NumberedPass
filled queue dst = pass queue [] (fresh dst ∷ []) (FillBuffer dst 0 16 7 ∷ [])

abbrev copied : ℕ → ℕ → ℕ → NumberedPass
copied queue src dst = pass queue (src ∷ []) (fresh dst ∷ []) (CopyBuffer src dst 0 0 16 ∷ [])

-- all units in bytes of their own
abbrev apart : Heap
apart = record { ordered = λ a b. false; offsets = 0 ∷ 256 ∷ 512 ∷ 768 ∷ [] }

abbrev kinds : Grouping → Heap → List PrologueKind
kinds G heap = map (λ prologue. prologue.kind) (prologues G heap)

-- AN IMAGE IS HANDED FROM COMPUTE TO GRAPHICS

abbrev ramped : Grouping
ramped = grouping (record {
  units = unit (Image 4 4 R32) Exclusive ∷ unit (Image 4 4 R32) Exclusive ∷ [];
  queues = families.Graphics ∷ families.Compute ∷ [];
  passes = pass 1 [] (fresh 0 ∷ []) (Ramp 0 1 1 4 ∷ []) ∷ pass 0 (0 ∷ []) (fresh 1 ∷ []) (Map 0 1 Add 1 ∷ []) ∷ [];
  exports = 1 ∷ [];
}) (true ∷ true ∷ [])

ramped_kinds : kinds ramped apart ≡ Init ∷ Transfer ∷ Init ∷ Barrier ∷ []
ramped_kinds = refl

-- an acquire on graphics, and a release on compute
handed_on : prologue_of ramped apart 1 ≡ record { queue = 0; group = 1; kind = Transfer; masks = masks compute_shader 0 compute_shader shader_sampled_read; release = Some (masks compute_shader shader_storage_write compute_shader 0); release_queue = Some 1 }
handed_on = refl

-- A BUFFER IS READ BY TWO FAMILIES

abbrev read_twice : Sharing → Grouping
read_twice sharing = grouping (record {
  units = bytes sharing ∷ bytes Exclusive ∷ bytes Exclusive ∷ [];
  queues = families.Graphics ∷ families.Transfer ∷ [];
  passes = filled 0 0 ∷ copied 1 0 1 ∷ copied 0 0 2 ∷ [];
  exports = [];
}) (true ∷ true ∷ true ∷ [])

-- one barrier, on the queue of the first reader. It has the stages after it on both sides, since it waits for the fill.
shared : prologue_of (read_twice Concurrent) apart 1 ≡ record { queue = 1; group = 1; kind = Barrier; masks = masks copy 0 copy transfer_read; release = None; release_queue = None }
shared = refl

-- an exclusive one is handed on twice
exclusive_kinds : kinds (read_twice Exclusive) apart ≡ Nothing ∷ Transfer ∷ Transfer ∷ Nothing ∷ Nothing ∷ []
exclusive_kinds = refl

-- A RELEASE AFTER READERS ON TWO QUEUES OF ONE FAMILY

abbrev released : Grouping
released = grouping (record {
  units = bytes Exclusive ∷ bytes Exclusive ∷ bytes Exclusive ∷ bytes Exclusive ∷ [];
  queues = families.Graphics ∷ families.Graphics ∷ families.Transfer ∷ [];
  passes = filled 0 0 ∷ copied 0 0 1 ∷ copied 1 0 2 ∷ copied 2 0 3 ∷ [];
  exports = [];
}) (true ∷ true ∷ true ∷ true ∷ [])

-- it is on the queue of the last reader
released_after : (prologue_of released apart 2).release_queue ≡ Some 1
released_after = refl

-- A BUFFER LIES WHERE ANOTHER ONE LAY

abbrev reused : Grouping
reused = grouping (record {
  units = bytes Exclusive ∷ bytes Exclusive ∷ bytes Exclusive ∷ [];
  queues = families.Graphics ∷ [];
  passes = filled 0 0 ∷ copied 0 0 1 ∷ filled 0 2 ∷ [];
  exports = [];
}) (true ∷ true ∷ true ∷ [])

abbrev on_top : Heap
on_top = record { ordered = λ a b. a == 0 && b == 2; offsets = 0 ∷ 256 ∷ 0 ∷ [] }

-- after the copy out of the first one, which writes nothing there
reused_prologue : prologue_of reused on_top 3 ≡ record { queue = 0; group = 3; kind = Alias; masks = masks copy 0 clear transfer_write; release = None; release_queue = None }
reused_prologue = refl

-- AN IMPORT

abbrev imported : Grouping
imported = grouping (record {
  units = record { shape = Buffer 4; sharing = Exclusive; imported = Some (1 ∷ 0 ∷ 0 ∷ 0 ∷ []) } ∷ [];
  queues = families.Transfer ∷ [];
  passes = [];
  exports = 0 ∷ [];
}) []

imported_prologue : prologue_of imported apart 0 ≡ record { queue = 0; group = 0; kind = Nothing; masks = no_masks; release = None; release_queue = None }
imported_prologue = refl
