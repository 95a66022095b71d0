-- Worked rows: the first fault of written-out files, pieces with layers, and masks.
use Rattle.std.proofs.Common.{◌≡◌, ℕ, [], ◌∷◌, None, Some, Ok, Err, codes, refl}
use Rattle.std.specs.Str.{is_utf8, chars}
use Rattle.serde_json.proofs.OnLiterals.{serde_json_on_literals}
use Rattle.base.specs.declared.path.Leg.TheVariants.{Member, Position}
use Rattle.base.specs.declared.shape.Family.TheVariants.{Graphics}
use Rattle.base.specs.declared.shape.Shape.TheVariants.{Buffer, Image}
use Rattle.base.specs.declared.shape.Texel.TheVariants.{R8}
use Rattle.vk.specs.declared.sharing.Sharing.TheVariants.{Exclusive, Concurrent}
use Rattle.program.specs.Faults.{not_json, misshapen}
use Rattle.program.specs.declared.program.Item.TheVariants.{Global}
use Rattle.program.specs.declared.program.Memory.TheVariants.{Plain}
use Rattle.program.specs.declared.program.Piece.{Piece}
use Rattle.file_program.specs.BarrierMasks.{masks_at}
use Rattle.file_program.specs.Batches.{batch_at, queue_at}
use Rattle.file_program.specs.Files.{program_of}
use Rattle.file_program.specs.Items.{item_at, kind_at, global_at}
use Rattle.file_program.specs.Masks.{stages_of, stages_text, accesses_of}
use Rattle.file_program.specs.Memories.{memory_at, plain_at}
use Rattle.file_program.specs.Pieces.{row_of, entry_at}
use Rattle.file_program.specs.Programs.{parts_at, program_at}
use Rattle.file_program.specs.Transfers.{both_at, layouts_at, transfer_at}

nothing : program_of [] ≡ Err not_json
unfolding serde_json_on_literals is_utf8 chars
nothing = refl

half_an_object : program_of (codes "{\"format\":2") ≡ Err not_json
unfolding serde_json_on_literals is_utf8 chars
half_an_object = refl

no_object : program_of (codes "[[]]") ≡ Err (misshapen [])
unfolding serde_json_on_literals is_utf8 chars program_at
no_object = refl

-- a format that is neither 1 nor 2 is refused before all else
later_format : program_of (codes "{\"a\":0,\"format\":3}") ≡ Err (misshapen (Member (codes "format") ∷ []))
unfolding serde_json_on_literals is_utf8 chars program_at
later_format = refl

no_memories : program_of (codes "{\"format\":1}") ≡ Err (misshapen (Member (codes "memories") ∷ []))
unfolding serde_json_on_literals is_utf8 chars program_at parts_at
no_memories = refl

-- with `size` there is no `import`
size_and_import : program_of (codes "{\"format\":1,\"memories\":[{\"size\":0,\"import\":\"\"}]}") ≡ Err (misshapen (Member (codes "memories") ∷ Position 0 ∷ Member (codes "import") ∷ []))
unfolding serde_json_on_literals is_utf8 chars program_at parts_at memory_at plain_at
size_and_import = refl

-- one layout alone
from_alone : program_of (codes "{\"format\":1,\"memories\":[],\"pieces\":[],\"queues\":[{\"family\":\"graphics\",\"batches\":[{\"items\":[{\"item\":\"release\",\"piece\":0,\"from_family\":\"graphics\",\"to_family\":\"compute\",\"from\":\"GENERAL\"}]}]}]}") ≡ Err (misshapen (Member (codes "queues") ∷ Position 0 ∷ Member (codes "batches") ∷ Position 0 ∷ Member (codes "items") ∷ Position 0 ∷ Member (codes "to") ∷ []))
unfolding serde_json_on_literals is_utf8 chars program_at parts_at queue_at batch_at item_at kind_at transfer_at layouts_at both_at
from_alone = refl

-- three layers of six bytes each
abbrev piece_from : ℕ → Piece
piece_from offset = record { shape = Image 2 3 R8; memory = 0; offset = offset; sharing = Exclusive }

three_layers : row_of 3 (piece_from 3) ≡ Some (piece_from 3 ∷ piece_from 256 ∷ piece_from 512 ∷ [])
three_layers = refl

-- the last start that a u32 holds is 4,294,967,040
last_start : row_of 2 (piece_from 4294967034) ≡ Some (piece_from 4294967034 ∷ piece_from 4294967040 ∷ [])
last_start = refl

past_it : row_of 2 (piece_from 4294967035) ≡ None
past_it = refl

late_layer : program_of (codes "{\"format\":2,\"memories\":[],\"pieces\":[{\"image\":[2,3],\"texel\":\"r8\",\"layers\":2,\"memory\":0,\"offset\":4294967295}]}") ≡ Err (misshapen (Member (codes "pieces") ∷ Position 0 ∷ Member (codes "layers") ∷ []))
unfolding serde_json_on_literals is_utf8 chars program_at parts_at entry_at
late_layer = refl

two_stages : stages_of (codes "CLEAR|COPY|COPY") ≡ Some (record { 0 = 0x900000000 })
two_stages = refl

bar_at_the_end : stages_of (codes "COPY|") ≡ None
bar_at_the_end = refl

no_stage : stages_of [] ≡ Some (record { 0 = 0 })
no_stage = refl

stage_as_access : accesses_of (codes "COPY") ≡ None
stage_as_access = refl

in_rising_order : stages_text (record { 0 = 0x900000000 }) ≡ codes "COPY|CLEAR"
in_rising_order = refl

one_barrier : program_of (codes "{\"format\":2,\"memories\":[{\"size\":8}],\"pieces\":[{\"buffer\":4,\"memory\":0,\"offset\":0,\"sharing\":\"concurrent\"}],\"queues\":[{\"family\":\"graphics\",\"batches\":[{\"items\":[{\"item\":\"global\",\"src_stage\":\"COPY\",\"src_access\":\"\",\"dst_stage\":\"HOST\",\"dst_access\":\"HOST_READ\"}]}]}],\"readbacks\":[0]}") ≡ Ok (record {
  memories = Plain 8 ∷ [];
  pieces = record { shape = Buffer 4; memory = 0; offset = 0; sharing = Concurrent } ∷ [];
  queues = record { family = Graphics; batches = record { waits = []; items = Global (record { src_stages = record { 0 = 0x100000000 }; src_accesses = record { 0 = 0 }; dst_stages = record { 0 = 0x4000 }; dst_accesses = record { 0 = 0x2000 } }) ∷ []; signal = None } ∷ [] } ∷ [];
  readbacks = 0 ∷ [];
})
unfolding serde_json_on_literals is_utf8 chars program_at parts_at memory_at plain_at entry_at queue_at batch_at item_at kind_at global_at masks_at
one_barrier = refl
