-- Commands that are one operation have one stage.
use Rattle.std.proofs.Common.{◌≡◌, ℕ, ◌^◌, ◌<◌, ◌≤◌, Bool, true, false, List, [], ◌∷◌, length, map, get_or, Option, Some, None, refl, sym, ap, subst, ⊎_elim}
use Rattle.std.proofs.lemmas.Bool.{cases_lt}
use Rattle.std.proofs.lemmas.List.{get_or-map, get_or_past, length-map}
use Rattle.std.proofs.lemmas.List.Elements.{All-nil, All-append, All-map}
use Rattle.std.specs.List.{All}
use Rattle.std.specs.Option.{option_map_or}
use Rattle.base.proofs.Absence.{some_same}
use Rattle.base.proofs.Booleans.{clash}
use Rattle.base.proofs.Lists.{each_of, entry_of, one}
use Rattle.base.specs.Operands.{sources_of}
use Rattle.base.specs.Shapes.{shape_at}
use Rattle.base.specs.Touches.{kernel_role, source_role, source_touch, destination_role, destination_touch, touches_of}
use Rattle.base.specs.declared.op.Op.{Op}
use Rattle.base.specs.declared.op.Op.TheVariants.{FillBuffer, ClearImage, CopyBuffer, CopyImage, BufferToImage, ImageToBuffer, Ramp, Map, Combine, Select, Convert, Box3, Halve, Histogram, Draw}
use Rattle.base.specs.declared.role.Role.{Role}
use Rattle.base.specs.declared.role.Role.TheVariants.{CopyRead, CopyWrite, ClearWrite, Sampled, StorageRead, StorageWrite, Attachment}
use Rattle.base.specs.declared.shape.Shape.{Shape}
use Rattle.base.specs.declared.shape.Shape.TheVariants.{Buffer, Image}
use Rattle.base.specs.declared.touch.Touch.{Touch}
use Rattle.vk.specs.Agents.{agents}
use Rattle.vk.specs.Roles.{role_stage, load_access, store_access, op_stage}
use Rattle.vk.specs.Stages.{color_attachment_output, compute_shader, copy, clear}
use Rattle.check_order.specs.Edges.{is_host, node_at}
use Rattle.check_order.specs.Nodes.{entry_node, no_node}
use Rattle.check_order.specs.declared.kind.Kind.TheVariants as kinds
use Rattle.check_order.specs.declared.node.Node.{Node}
use Rattle.program.specs.Entries.{Entry, OfWait, OfItem, OfSignal, OfHost, entries_of}
use Rattle.program.specs.Rules.{shapes_of}
use Rattle.program.specs.declared.program.Item.{Item}
use Rattle.program.specs.declared.program.Item.TheVariants as items
use Rattle.program.specs.declared.program.Program.{Program}
use Rattle.check_access.specs.Effects.{touch_load, touch_store, touch_accesses, command_accesses, no_effect, entry_effect}
use Rattle.check_access.specs.Views.{View, view_of, effect_at, accesses_of}
use Rattle.check_access.specs.declared.access.Access.{Access}
use Rattle.check_access.specs.declared.effect.Effect.{Effect}
use Rattle.check_access_order.specs.Single.{Single}
use Rattle.check_access_order.specs.Stages.{bit_stage, stage_of}

-- ROLES

role_bit : (role : Role) → (k : ℕ) × (role_stage role ≡ 2 ^ k)
role_bit CopyRead = (32, refl)
role_bit CopyWrite = (32, refl)
role_bit ClearWrite = (35, refl)
role_bit Sampled = (11, refl)
role_bit StorageRead = (11, refl)
role_bit StorageWrite = (11, refl)
role_bit (Attachment load) = (10, refl)

-- the agent of an access in a stage is one of that stage
abbrev IsOf : ℕ → ℕ → Type 0
IsOf stage kind = bit_stage (agents stage kind) ≡ stage

absent : {P : Type 0} (kind : ℕ) → None ≡ Some kind → P
absent kind e = absurd cc

load_of : (role : Role) (whole : Bool) (kind : ℕ) → load_access role whole ≡ Some kind → IsOf (role_stage role) kind
load_of CopyRead whole kind e = subst (IsOf copy) (some_same e) refl
load_of CopyWrite true kind e = absent kind e
load_of CopyWrite false kind e = subst (IsOf copy) (some_same e) refl
load_of ClearWrite true kind e = absent kind e
load_of ClearWrite false kind e = subst (IsOf clear) (some_same e) refl
load_of Sampled whole kind e = subst (IsOf compute_shader) (some_same e) refl
load_of StorageRead whole kind e = subst (IsOf compute_shader) (some_same e) refl
load_of StorageWrite whole kind e = absent kind e
load_of (Attachment true) whole kind e = subst (IsOf color_attachment_output) (some_same e) refl
load_of (Attachment false) whole kind e = absent kind e

store_of : (role : Role) (kind : ℕ) → store_access role ≡ Some kind → IsOf (role_stage role) kind
store_of CopyRead kind e = absent kind e
store_of CopyWrite kind e = subst (IsOf copy) (some_same e) refl
store_of ClearWrite kind e = subst (IsOf clear) (some_same e) refl
store_of Sampled kind e = absent kind e
store_of StorageRead kind e = absent kind e
store_of StorageWrite kind e = subst (IsOf compute_shader) (some_same e) refl
store_of (Attachment load) kind e = subst (IsOf color_attachment_output) (some_same e) refl

-- OPERANDS

abbrev InStage : ℕ → Access → Type 0
InStage stage a = stage_of a.kind ≡ Some stage

part : (P : Access → Type 0) (f : ℕ → List Access) (o : Option ℕ) → ((kind : ℕ) → o ≡ Some kind → All P (f kind)) → All P (option_map_or f o [])
part P f None h = All-nil P
part P f (Some kind) h = h kind refl

touch_stage : (shapes : List Shape) (q : ℕ) (t : Touch) → All (InStage (role_stage t.role)) (touch_accesses shapes q t)
touch_stage shapes q t =
    let P = InStage (role_stage t.role) in
    All-append P (option_map_or (touch_load shapes q t) (load_access t.role t.whole) []) (option_map_or (touch_store shapes q t) (store_access t.role) [])
    (part P (touch_load shapes q t) (load_access t.role t.whole) (λ kind e. one P _ (ap (λ s. Some s) (load_of t.role t.whole kind e))))
    (part P (touch_store shapes q t) (store_access t.role) (λ kind e. one P _ (ap (λ s. Some s) (store_of t.role kind e))))

abbrev Alike : Op ℕ → Touch → Type 0
Alike op t = role_stage t.role ≡ op_stage op

kernel_stage : (shape : Shape) → role_stage (kernel_role shape) ≡ compute_shader
kernel_stage (Buffer size) = refl
kernel_stage (Image width height texel) = refl

each_source : (shapes : List Shape) (op : Op ℕ) → ((shape : Shape) → role_stage (source_role op shape) ≡ op_stage op) → All (Alike op) (map (source_touch shapes op) (sources_of op))
each_source shapes op h = All-map (Alike op) (source_touch shapes op) (sources_of op) (λ k d lt. h (shape_at shapes (get_or (sources_of op) k d)))

sources : (shapes : List Shape) (op : Op ℕ) → All (Alike op) (map (source_touch shapes op) (sources_of op))
sources shapes (FillBuffer dst offset size word) = All-nil (Alike (FillBuffer dst offset size word))
sources shapes (ClearImage dst value) = All-nil (Alike (ClearImage dst value))
sources shapes (CopyBuffer src dst src_offset dst_offset size) = each_source shapes (CopyBuffer src dst src_offset dst_offset size) (λ shape. refl)
sources shapes (CopyImage src dst src_x src_y dst_x dst_y width height) = each_source shapes (CopyImage src dst src_x src_y dst_x dst_y width height) (λ shape. refl)
sources shapes (BufferToImage src dst offset) = each_source shapes (BufferToImage src dst offset) (λ shape. refl)
sources shapes (ImageToBuffer src dst offset) = each_source shapes (ImageToBuffer src dst offset) (λ shape. refl)
sources shapes (Ramp dst base dx dy) = each_source shapes (Ramp dst base dx dy) kernel_stage
sources shapes (Map src dst fun value) = each_source shapes (Map src dst fun value) kernel_stage
sources shapes (Combine a b dst fun) = each_source shapes (Combine a b dst fun) kernel_stage
sources shapes (Select mask a b dst) = each_source shapes (Select mask a b dst) kernel_stage
sources shapes (Convert src dst) = each_source shapes (Convert src dst) kernel_stage
sources shapes (Box3 src dst) = each_source shapes (Box3 src dst) kernel_stage
sources shapes (Halve src dst) = each_source shapes (Halve src dst) kernel_stage
sources shapes (Histogram src dst) = each_source shapes (Histogram src dst) kernel_stage
sources shapes (Draw dst clears rects) = All-nil (Alike (Draw dst clears rects))

touches : (shapes : List Shape) (op : Op ℕ) → All (Alike op) (touches_of shapes op)
touches shapes op = All-append (Alike op) (map (source_touch shapes op) (sources_of op)) (destination_touch shapes op ∷ []) (sources shapes op) (one (Alike op) (destination_touch shapes op) refl)

accesses : (shapes : List Shape) (q : ℕ) (op : Op ℕ) → All (InStage (op_stage op)) (command_accesses shapes q op)
accesses shapes q op = each_of (InStage (op_stage op)) (touch_accesses shapes q) (touches_of shapes op)
    (λ k d lt. subst (λ s. All (InStage s) (touch_accesses shapes q (get_or (touches_of shapes op) k d))) (touches shapes op k d lt) (touch_stage shapes q (get_or (touches_of shapes op) k d)))

-- ENTRIES

-- as a command's one stage
record Lone (node : Node) (effect : Effect) : Type 0 where
  pub bit : ℕ
  pub one : node.dst_stages.0 ≡ 2 ^ bit
  pub same : node.src_stages.0 ≡ node.dst_stages.0
  pub accesses : All (InStage node.dst_stages.0) effect.accesses

entry_lone : (queues : ℕ) (shapes : List Shape) (e : Entry) → (entry_node queues e).kind ≡ kinds.Command → Lone (entry_node queues e) (entry_effect shapes e)
entry_lone queues shapes (OfItem q (items.Command op)) k =
    let b = role_bit (destination_role op) in
    record { bit = b.0; one = b.1; same = refl; accesses = accesses shapes q op }
entry_lone queues shapes (OfItem q (items.Global masks)) k = absurd cc
entry_lone queues shapes (OfItem q (items.BufferBarrier piece masks)) k = absurd cc
entry_lone queues shapes (OfItem q (items.ImageBarrier piece layouts masks)) k = absurd cc
entry_lone queues shapes (OfItem q (items.Release transfer)) k = absurd cc
entry_lone queues shapes (OfItem q (items.Acquire transfer)) k = absurd cc
entry_lone queues shapes (OfWait q wait) k = absurd cc
entry_lone queues shapes (OfSignal q signal) k = absurd cc
entry_lone queues shapes (OfHost piece) k = absurd cc

abbrev NoStages : Node → Type 0
NoStages node = is_host node.kind ≡ true → (node.src_stages.0 ≡ 0) × (node.dst_stages.0 ≡ 0)

item_host : (q : ℕ) (item : Item) (queues : ℕ) → NoStages (entry_node queues (OfItem q item))
item_host q (items.Command op) queues h = absurd (clash h)
item_host q (items.Global masks) queues h = absurd (clash h)
item_host q (items.BufferBarrier piece masks) queues h = absurd (clash h)
item_host q (items.ImageBarrier piece layouts masks) queues h = absurd (clash h)
item_host q (items.Release transfer) queues h = absurd (clash h)
item_host q (items.Acquire transfer) queues h = absurd (clash h)

entry_host : (queues : ℕ) (e : Entry) → NoStages (entry_node queues e)
entry_host queues (OfHost piece) h = (refl, refl)
entry_host queues (OfWait q wait) h = absurd (clash h)
entry_host queues (OfSignal q signal) h = absurd (clash h)
entry_host queues (OfItem q item) h = item_host q item queues h

-- PROGRAMS

module _ (program : Program) where
  abbrev V : View
  V = view_of program

  abbrev shapes : List Shape
  shapes = shapes_of program

  abbrev queues : ℕ
  queues = length program.queues

  abbrev entry : ℕ → Entry
  entry n = get_or (entries_of program) n (OfHost 0)

  node_is : (n : ℕ) → n < length (entries_of program) → node_at V.nodes n ≡ entry_node queues (entry n)
  node_is n lt = get_or-map (entry_node queues) (entries_of program) n (OfHost 0) no_node lt

  effect_is : (n : ℕ) → n < length (entries_of program) → effect_at V n ≡ entry_effect shapes (entry n)
  effect_is n lt = get_or-map (entry_effect shapes) (entries_of program) n (OfHost 0) no_effect lt

  lone : (n : ℕ) → n < length V.nodes → (node_at V.nodes n).kind ≡ kinds.Command → Lone (node_at V.nodes n) (effect_at V n)
  lone n lt k =
      let below : n < length (entries_of program) = subst (λ m. n < m) (length-map (entries_of program) (entry_node queues)) lt in
      subst (λ x. Lone x (effect_at V n)) (sym (node_is n below))
      (subst (λ u. Lone (entry_node queues (entry n)) u) (sym (effect_is n below))
      (entry_lone queues shapes (entry n) (subst (λ x. x.kind ≡ kinds.Command) (node_is n below) k)))

  host : (n : ℕ) → NoStages (node_at V.nodes n)
  host n = ⊎_elim
      (λ (lt : n < length (entries_of program)). subst NoStages (sym (node_is n lt)) (entry_host queues (entry n)))
      (λ (ge : length (entries_of program) ≤ n). subst NoStages (sym (get_or_past V.nodes n no_node (subst (λ m. m ≤ n) (sym (length-map (entries_of program) (entry_node queues))) ge))) (λ h. absurd (clash h)))
      (cases_lt n (length (entries_of program)))

  pub single : Single V
  single = record {
    command = λ n lt k.
        let l = lone n lt k in
        record { bit = l.bit; one = l.one; same = l.same; accesses = λ a h. entry_of (InStage (node_at V.nodes n).dst_stages.0) (accesses_of V n) h.0 a l.accesses h.1 };
    host = host;
  }
