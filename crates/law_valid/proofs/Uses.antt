-- What holds of each use of a command: its stage is one of the queue's family and supports its accesses, and an image is in a
-- known layout.
use Rattle.std.proofs.Common.{◌≡◌, ◌==◌, ◌++◌, ℕ, suc, Bool, true, false, List, [], ◌∷◌, map, length, get_or, if◌then◌else◌, Option, IfSome, refl, sym, subst, arith}
use Rattle.std.specs.List.{All}
use Rattle.std.specs.Prelude.{is_some, is_none}
use Rattle.std.proofs.lemmas.List.Elements.{All-nil, All-head, All-tail, All-append, All-map}
use Rattle.base.proofs.Lists.{entry_of, one}
use Rattle.base.specs.Operands.{sources_of}
use Rattle.base.specs.Runs.{runs, has_kernels, is_graphics}
use Rattle.base.specs.Shapes.{is_image, shape_at}
use Rattle.base.specs.Touches.{kernel_role, source_role, destination_role, source_touch, destination_touch, touches_of}
use Rattle.base.specs.declared.op.Op.{Op}
use Rattle.base.specs.declared.op.Op.TheVariants.{FillBuffer, ClearImage, CopyBuffer, CopyImage, BufferToImage, ImageToBuffer, Ramp, Map, Combine, Select, Convert, Box3, Halve, Histogram, Draw}
use Rattle.base.specs.declared.role.Role.{Role}
use Rattle.base.specs.declared.role.Role.TheVariants.{CopyRead, CopyWrite, ClearWrite, Sampled, StorageRead, StorageWrite, Attachment}
use Rattle.base.specs.declared.shape.Family.{Family}
use Rattle.base.specs.declared.shape.Family.TheVariants.{Graphics, Compute, Transfer}
use Rattle.base.specs.declared.shape.Shape.{Shape}
use Rattle.base.specs.declared.shape.Shape.TheVariants.{Buffer, Image}
use Rattle.base.specs.declared.touch.Touch.{Touch}
use Rattle.vk.specs.Families.{family_number, on_family}
use Rattle.vk.specs.Layouts.{is_undefined}
use Rattle.vk.specs.Roles.{role_stage, role_layout, layout_wanted}
use Rattle.vk.specs.Support.{supports}
use Rattle.vk.specs.declared.layout.Layout.{Layout}
use Rattle.compile_groups.specs.Groups.{family_of}
use Rattle.compile_groups.specs.Laws.{IsSourced}
use Rattle.compile_groups.specs.Uses.{role_writes, role_accesses, use_of, is_first_named, uses_from, command_uses}
use Rattle.compile_groups.specs.declared.command.Command.{Command}
use Rattle.compile_groups.specs.declared.grouping.Grouping.{Grouping}
use Rattle.compile_groups.specs.declared.unit_use.Use.{Use}

-- a layout for an image alone, and a known one
pub record IsLaidOut (shape : Shape) (layout : Option Layout) : Type 0 where
  pub image : is_some layout ≡ is_image shape
  pub known : IfSome layout (λ l. is_undefined l ≡ false)

pub record IsFit (shapes : List Shape) (family : Family) (u : Use) : Type 0 where
  pub stage : (u.stage.0 == 0) ≡ false
  pub accesses : supports u.stage.0 u.accesses.0 ≡ true
  pub writes : supports u.stage.0 u.writes.0 ≡ true
  pub on_family : on_family u.stage.0 (family_number family) ≡ true
  pub layout : IsLaidOut (shape_at shapes u.unit) u.layout

-- ROLES

role-stage : (role : Role) → (role_stage role == 0) ≡ false
role-stage CopyRead = refl
role-stage CopyWrite = refl
role-stage ClearWrite = refl
role-stage Sampled = refl
role-stage StorageRead = refl
role-stage StorageWrite = refl
role-stage (Attachment load) = refl

role-writes : (role : Role) → supports (role_stage role) (role_writes role) ≡ true
role-writes CopyRead = refl
role-writes CopyWrite = refl
role-writes ClearWrite = refl
role-writes Sampled = refl
role-writes StorageRead = refl
role-writes StorageWrite = refl
role-writes (Attachment load) = refl

role-accesses : (role : Role) (whole : Bool) → supports (role_stage role) (role_accesses role whole) ≡ true
role-accesses CopyRead whole = refl
role-accesses CopyWrite true = refl
role-accesses CopyWrite false = refl
role-accesses ClearWrite true = refl
role-accesses ClearWrite false = refl
role-accesses Sampled whole = refl
role-accesses StorageRead whole = refl
role-accesses StorageWrite whole = refl
role-accesses (Attachment true) whole = refl
role-accesses (Attachment false) whole = refl

pub role-layout : (role : Role) → is_undefined (role_layout role) ≡ false
role-layout CopyRead = refl
role-layout CopyWrite = refl
role-layout ClearWrite = refl
role-layout Sampled = refl
role-layout StorageRead = refl
role-layout StorageWrite = refl
role-layout (Attachment load) = refl

laid_out : (shape : Shape) (role : Role) → IsLaidOut shape (layout_wanted shape role)
laid_out (Buffer size) role = record { image = refl; known = tt }
laid_out (Image width height texel) role = record { image = refl; known = role-layout role }

-- OPERATIONS

abbrev HasStage : Family → Role → Type 0
HasStage family role = on_family (role_stage role) (family_number family) ≡ true

copy-read : (family : Family) → HasStage family CopyRead
copy-read Graphics = refl
copy-read Compute = refl
copy-read Transfer = refl

copy-write : (family : Family) → HasStage family CopyWrite
copy-write Graphics = refl
copy-write Compute = refl
copy-write Transfer = refl

clear-write : (family : Family) → HasStage family ClearWrite
clear-write Graphics = refl
clear-write Compute = refl
clear-write Transfer = refl

kernel-read : (family : Family) (shape : Shape) → has_kernels family ≡ true → HasStage family (kernel_role shape)
kernel-read Graphics (Buffer size) e = refl
kernel-read Graphics (Image width height texel) e = refl
kernel-read Compute (Buffer size) e = refl
kernel-read Compute (Image width height texel) e = refl
kernel-read Transfer shape e = absurd cc

kernel-write : (family : Family) → has_kernels family ≡ true → HasStage family StorageWrite
kernel-write Graphics e = refl
kernel-write Compute e = refl
kernel-write Transfer e = absurd cc

drawn : (family : Family) (load : Bool) → is_graphics family ≡ true → HasStage family (Attachment load)
drawn Graphics load e = refl
drawn Compute load e = absurd cc
drawn Transfer load e = absurd cc

sources_on_family : (shapes : List Shape) (family : Family) (op : Op ℕ) → runs op family ≡ true → All (λ n. HasStage family (source_role op (shape_at shapes n))) (sources_of op)
sources_on_family shapes family (FillBuffer dst offset size word) e = λ k d lt. absurd (omega (arith, lt))
sources_on_family shapes family (ClearImage dst value) e = λ k d lt. absurd (omega (arith, lt))
sources_on_family shapes family (CopyBuffer src dst src_offset dst_offset size) e = λ k d lt. copy-read family
sources_on_family shapes family (CopyImage src dst src_x src_y dst_x dst_y width height) e = λ k d lt. copy-read family
sources_on_family shapes family (BufferToImage src dst offset) e = λ k d lt. copy-read family
sources_on_family shapes family (ImageToBuffer src dst offset) e = λ k d lt. copy-read family
sources_on_family shapes family (Ramp dst base dx dy) e = λ k d lt. absurd (omega (arith, lt))
sources_on_family shapes family (Map src dst fun value) e = λ k d lt. kernel-read family (shape_at shapes (get_or (src ∷ []) k d)) e
sources_on_family shapes family (Combine a b dst fun) e = λ k d lt. kernel-read family (shape_at shapes (get_or (a ∷ b ∷ []) k d)) e
sources_on_family shapes family (Select mask a b dst) e = λ k d lt. kernel-read family (shape_at shapes (get_or (mask ∷ a ∷ b ∷ []) k d)) e
sources_on_family shapes family (Convert src dst) e = λ k d lt. kernel-read family (shape_at shapes (get_or (src ∷ []) k d)) e
sources_on_family shapes family (Box3 src dst) e = λ k d lt. kernel-read family (shape_at shapes (get_or (src ∷ []) k d)) e
sources_on_family shapes family (Halve src dst) e = λ k d lt. kernel-read family (shape_at shapes (get_or (src ∷ []) k d)) e
sources_on_family shapes family (Histogram src dst) e = λ k d lt. kernel-read family (shape_at shapes (get_or (src ∷ []) k d)) e
sources_on_family shapes family (Draw dst clear rects) e = λ k d lt. absurd (omega (arith, lt))

destination_on_family : (family : Family) (op : Op ℕ) → runs op family ≡ true → HasStage family (destination_role op)
destination_on_family family (FillBuffer dst offset size word) e = clear-write family
destination_on_family family (ClearImage dst value) e = clear-write family
destination_on_family family (CopyBuffer src dst src_offset dst_offset size) e = copy-write family
destination_on_family family (CopyImage src dst src_x src_y dst_x dst_y width height) e = copy-write family
destination_on_family family (BufferToImage src dst offset) e = copy-write family
destination_on_family family (ImageToBuffer src dst offset) e = copy-write family
destination_on_family family (Ramp dst base dx dy) e = kernel-write family e
destination_on_family family (Map src dst fun value) e = kernel-write family e
destination_on_family family (Combine a b dst fun) e = kernel-write family e
destination_on_family family (Select mask a b dst) e = kernel-write family e
destination_on_family family (Convert src dst) e = kernel-write family e
destination_on_family family (Box3 src dst) e = kernel-write family e
destination_on_family family (Halve src dst) e = kernel-write family e
destination_on_family family (Histogram src dst) e = kernel-write family e
destination_on_family family (Draw dst clear rects) e = drawn family (is_none clear) e

touches_on_family : (shapes : List Shape) (family : Family) (op : Op ℕ) → runs op family ≡ true → All (λ t. HasStage family t.role) (touches_of shapes op)
touches_on_family shapes family op e =
    All-append (λ (t : Touch). HasStage family t.role) (map (source_touch shapes op) (sources_of op)) (destination_touch shapes op ∷ [])
    (All-map (λ (t : Touch). HasStage family t.role) (source_touch shapes op) (sources_of op) (sources_on_family shapes family op e))
    (one (λ (t : Touch). HasStage family t.role) (destination_touch shapes op) (destination_on_family family op e))

-- USES

module _ (shapes : List Shape) (family : Family) where
  fit : (c q k : ℕ) (touch : Touch) → HasStage family touch.role → IsFit shapes family (use_of shapes c q k touch)
  fit c q k touch h = record {
    stage = role-stage touch.role;
    accesses = role-accesses touch.role touch.whole;
    writes = role-writes touch.role;
    on_family = h;
    layout = laid_out (shape_at shapes touch.what) touch.role;
  }

  uses_fit : (units c q k : ℕ) (named : List ℕ) (touches : List Touch) → All (λ t. HasStage family t.role) touches → All (IsFit shapes family) (uses_from shapes units c q k named touches)
  uses_fit units c q k named [] all = All-nil (IsFit shapes family)
  uses_fit units c q k named (touch ∷ touches) all =
      All-append (IsFit shapes family) (if is_first_named units named touch.what then use_of shapes c q k touch ∷ [] else []) (uses_from shapes units c q (suc k) (named ++ touch.what ∷ []) touches)
      (own (is_first_named units named touch.what))
      (uses_fit units c q (suc k) (named ++ touch.what ∷ []) touches (All-tail (λ (t : Touch). HasStage family t.role) touch touches all))
    where
      own : (b : Bool) → All (IsFit shapes family) (if b then use_of shapes c q k touch ∷ [] else [])
      own true = one (IsFit shapes family) (use_of shapes c q k touch) (fit c q k touch (All-head (λ (t : Touch). HasStage family t.role) touch touches all))
      own false = All-nil (IsFit shapes family)

-- the queue of each command runs its operation
abbrev pub Runs : Grouping → Command → Type 0
Runs G command = runs command.op (family_of G.families command.queue) ≡ true

-- as its queue's family has it
abbrev pub FitsIn : Grouping → Use → Type 0
FitsIn G u = IsFit G.shapes (family_of G.families u.queue) u

pub sourced_fit : (G : Grouping) → All (Runs G) G.commands → (u : Use) → IsSourced G u → FitsIn G u
sourced_fit G runs u S =
    let run = entry_of (Runs G) G.commands u.command S.command runs S.there in
    let family : Family = family_of G.families S.command.queue in
    subst (λ q. IsFit G.shapes (family_of G.families q) u) (sym S.queue)
    (entry_of (IsFit G.shapes family) (command_uses G.shapes (length G.sharings) u.command S.command) S.entry u (uses_fit G.shapes family (length G.sharings) u.command S.command.queue 0 [] (touches_of G.shapes S.command.op) (touches_on_family G.shapes family S.command.op run)) S.is)
