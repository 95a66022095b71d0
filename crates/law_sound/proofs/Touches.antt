-- What a command touches: each access is by a touch of an operand, all in one stage, and one unit is touched in one way.
use Rattle.std.proofs.Common.{◌≡◌, ◌⊎◌, inl, inr, ⊎_elim, ℕ, ◌==◌, ◌++◌, zero, suc, Bool, false, List, [], ◌∷◌, map, get_or, Some, refl, sym, ap, ap₂, ◌∙◌, subst, eq-eqb, arith}
use Rattle.std.specs.List.{All, Contains, flat_map}
use Rattle.std.specs.Option.{option_map_or}
use Rattle.std.proofs.lemmas.List.{map-append}
use Rattle.std.proofs.lemmas.List.Elements.{All-append, All-map, All-contains, All-contains_itself, Contains-get_or, Contains-append_left, Contains-append_right, Contains-append_cases}
use Rattle.std.proofs.lemmas.List.Folds.{flat_map-map, list_any_at}
use Rattle.std.proofs.lemmas.Simd.{map-map}
use Rattle.base.proofs.Booleans.{clash}
use Rattle.base.proofs.Lists.{each_of, map_same, one}
use Rattle.base.proofs.Operands.{sources_mapped, destination_mapped, mapped_twice, mapped_same, source_role_mapped, destination_role_mapped}
use Rattle.base.specs.InPlace.{in_place}
use Rattle.base.specs.Operands.{sources_of, destination_of, operands_of, mapped}
use Rattle.base.specs.Shapes.{shape_at}
use Rattle.base.specs.Touches.{kernel_role, source_role, destination_role, source_touch, destination_touch, touches_of}
use Rattle.base.specs.Wholes.{is_whole}
use Rattle.base.specs.declared.op.Op.{Op}
use Rattle.base.specs.declared.op.Op.TheVariants.{FillBuffer, ClearImage, CopyBuffer, CopyImage, BufferToImage, ImageToBuffer, Ramp, Map, Combine, Select, Convert, Box3, Halve, Histogram, Draw}
use Rattle.base.specs.declared.role.Role.{Role}
use Rattle.base.specs.declared.role.Role.TheVariants.{CopyRead, CopyWrite, ClearWrite, Sampled, StorageRead, StorageWrite, Attachment}
use Rattle.base.specs.declared.shape.Shape.{Shape}
use Rattle.base.specs.declared.shape.Shape.TheVariants.{Buffer, Image}
use Rattle.base.specs.declared.touch.Touch.{Touch}
use Rattle.vk.specs.Accesses.{transfer_read, transfer_write, shader_sampled_read, shader_storage_read, shader_storage_write, color_attachment_write}
use Rattle.vk.specs.Roles.{role_stage, op_stage, load_access, store_access, layout_wanted}
use Rattle.compile_record.proofs.Contained.{contains_map, contains_part}
use Rattle.law_schedule.proofs.Full.{if_some}
use Rattle.check_access.specs.Effects.{access, role_agent, touch_load, touch_store, touch_accesses, command_accesses}
use Rattle.check_access.specs.declared.access.Access.{Access}
use Rattle.check_access.specs.declared.access.AccessKind.TheVariants.{Load, Store}

-- ONE STAGE

kernel_stage : (shape : Shape) → role_stage (kernel_role shape) ≡ role_stage StorageWrite
kernel_stage (Buffer size) = refl
kernel_stage (Image width height texel) = refl

source_stages : (shapes : List Shape) (op : Op ℕ) → All (λ n. role_stage (source_role op (shape_at shapes n)) ≡ op_stage op) (sources_of op)
source_stages shapes (FillBuffer dst offset size word) = λ k d lt. absurd (omega (arith, lt))
source_stages shapes (ClearImage dst value) = λ k d lt. absurd (omega (arith, lt))
source_stages shapes (CopyBuffer src dst src_offset dst_offset size) = λ k d lt. refl
source_stages shapes (CopyImage src dst src_x src_y dst_x dst_y width height) = λ k d lt. refl
source_stages shapes (BufferToImage src dst offset) = λ k d lt. refl
source_stages shapes (ImageToBuffer src dst offset) = λ k d lt. refl
source_stages shapes (Ramp dst base dx dy) = λ k d lt. absurd (omega (arith, lt))
source_stages shapes (Map src dst fun value) = λ k d lt. kernel_stage (shape_at shapes (get_or (src ∷ []) k d))
source_stages shapes (Combine a b dst fun) = λ k d lt. kernel_stage (shape_at shapes (get_or (a ∷ b ∷ []) k d))
source_stages shapes (Select mask a b dst) = λ k d lt. kernel_stage (shape_at shapes (get_or (mask ∷ a ∷ b ∷ []) k d))
source_stages shapes (Convert src dst) = λ k d lt. kernel_stage (shape_at shapes (get_or (src ∷ []) k d))
source_stages shapes (Box3 src dst) = λ k d lt. kernel_stage (shape_at shapes (get_or (src ∷ []) k d))
source_stages shapes (Halve src dst) = λ k d lt. kernel_stage (shape_at shapes (get_or (src ∷ []) k d))
source_stages shapes (Histogram src dst) = λ k d lt. kernel_stage (shape_at shapes (get_or (src ∷ []) k d))
source_stages shapes (Draw dst clear rects) = λ k d lt. absurd (omega (arith, lt))

-- each operand is touched in the stage of the operation
pub touch_stages : (shapes : List Shape) (op : Op ℕ) → All (λ t. role_stage t.role ≡ op_stage op) (touches_of shapes op)
touch_stages shapes op = All-append (λ (t : Touch). role_stage t.role ≡ op_stage op) (map (source_touch shapes op) (sources_of op)) (destination_touch shapes op ∷ [])
    (All-map (λ (t : Touch). role_stage t.role ≡ op_stage op) (source_touch shapes op) (sources_of op) (source_stages shapes op))
    (one (λ (t : Touch). role_stage t.role ≡ op_stage op) (destination_touch shapes op) refl)

-- ONE WAY

-- a touch of a source, or that of the destination
abbrev Sorted : List Shape → Op ℕ → Touch → Type 0
Sorted shapes op t = ((t ≡ source_touch shapes op t.what) × Contains (sources_of op) t.what) ⊎ (t ≡ destination_touch shapes op)

sorted : (shapes : List Shape) (op : Op ℕ) → All (Sorted shapes op) (touches_of shapes op)
sorted shapes op = All-append (Sorted shapes op) (map (source_touch shapes op) (sources_of op)) (destination_touch shapes op ∷ [])
    (All-map (Sorted shapes op) (source_touch shapes op) (sources_of op) (λ k d lt. inl (refl, All-contains_itself (sources_of op) k d lt)))
    (one (Sorted shapes op) (destination_touch shapes op) (inr refl))

-- what is touched is an operand
pub touch_operand : (shapes : List Shape) (op : Op ℕ) (t : Touch) → Contains (touches_of shapes op) t → Contains (operands_of op) t.what
touch_operand shapes op t h = ⊎_elim
    (λ s. Contains-append_left (sources_of op) (destination_of op ∷ []) t.what s.1)
    (λ e. Contains-append_right (sources_of op) (destination_of op ∷ []) t.what (0, omega arith, sym (ap (λ (z : Touch). z.what) e)))
    (All-contains (Sorted shapes op) (touches_of shapes op) t (sorted shapes op) h)

-- and each operand is touched
pub record IsTouch (touches : List Touch) (r : ℕ) : Type 0 where
  pub touch : Touch
  pub there : Contains touches touch
  pub what : touch.what ≡ r

pub operand_touch : (shapes : List Shape) (op : Op ℕ) (r : ℕ) → Contains (operands_of op) r → IsTouch (touches_of shapes op) r
operand_touch shapes op r h = ⊎_elim
    (λ s. record { touch = source_touch shapes op r; there = Contains-append_left (map (source_touch shapes op) (sources_of op)) (destination_touch shapes op ∷ []) (source_touch shapes op r) (contains_map (source_touch shapes op) (sources_of op) r s); what = refl })
    (λ d. record { touch = destination_touch shapes op; there = Contains-append_right (map (source_touch shapes op) (sources_of op)) (destination_touch shapes op ∷ []) (destination_touch shapes op) (0, omega arith, refl); what = All-contains (λ n. n ≡ r) (destination_of op ∷ []) (destination_of op) (single d) (0, omega arith, refl) })
    (Contains-append_cases (sources_of op) (destination_of op ∷ []) r h)
  where
    single : Contains (destination_of op ∷ []) r → All (λ n. n ≡ r) (destination_of op ∷ [])
    single (zero, lt, at) = one (λ n. n ≡ r) (destination_of op) at
    single (suc k, lt, at) = absurd (omega (arith, lt))

pub destination_there : (shapes : List Shape) (op : Op ℕ) → Contains (touches_of shapes op) (destination_touch shapes op)
destination_there shapes op = Contains-append_right (map (source_touch shapes op) (sources_of op)) (destination_touch shapes op ∷ []) (destination_touch shapes op) (0, omega arith, refl)

-- the destination is no source
no_source : (op : Op ℕ) → in_place op ≡ false → (n : ℕ) → Contains (sources_of op) n → n ≡ destination_of op → ⊥
no_source op none n h e = clash (sym none ∙ list_any_at (λ s. s == destination_of op) (sources_of op) h.0 n h.1 (ap (λ s. s == destination_of op) h.2 ∙ eq-eqb n (destination_of op) e))

-- what touches one unit is one touch
pub alike : (shapes : List Shape) (op : Op ℕ) → in_place op ≡ false → (s t : Touch) → Contains (touches_of shapes op) s → Contains (touches_of shapes op) t → s.what ≡ t.what → s ≡ t
alike shapes op none s t hs ht e = go (All-contains (Sorted shapes op) (touches_of shapes op) s (sorted shapes op) hs) (All-contains (Sorted shapes op) (touches_of shapes op) t (sorted shapes op) ht)
  where
    go : Sorted shapes op s → Sorted shapes op t → s ≡ t
    go (inl x) (inl y) = x.0 ∙ ap (source_touch shapes op) e ∙ sym y.0
    go (inl x) (inr y) = absurd (no_source op none s.what x.1 (e ∙ ap (λ (z : Touch). z.what) y))
    go (inr x) (inl y) = absurd (no_source op none t.what y.1 (sym e ∙ ap (λ (z : Touch). z.what) x))
    go (inr x) (inr y) = x ∙ sym y

-- TOUCHES OF PIECES

-- the same touch of what f gives for its unit
abbrev pub moved : (ℕ → ℕ) → Touch → Touch
moved f t = record { what = f t.what; role = t.role; whole = t.whole }

module _ (shapes pieces : List Shape) (f : ℕ → ℕ) (op : Op ℕ) (same : All (λ r. shape_at pieces (f r) ≡ shape_at shapes r) (operands_of op)) where
  -- a touch of a source
  abbrev piece_touch : ℕ → Touch
  piece_touch n = source_touch pieces (mapped f op) (f n)

  source_moved : (n : ℕ) → shape_at pieces (f n) ≡ shape_at shapes n → piece_touch n ≡ moved f (source_touch shapes op n)
  source_moved n e = ap (λ role. record { what = f n; role = role; whole = false }) (source_role_mapped f op (shape_at pieces (f n)) ∙ ap (source_role op) e)

  sources_same : All (λ n. shape_at pieces (f n) ≡ shape_at shapes n) (sources_of op)
  sources_same = λ k d lt.
      let at = All-contains (λ r. shape_at pieces (f r) ≡ shape_at shapes r) (operands_of op) (get_or (sources_of op) k d) same in
      at (Contains-append_left (sources_of op) (destination_of op ∷ []) (get_or (sources_of op) k d) (Contains-get_or (sources_of op) k d lt))

  sources_moved : map (source_touch pieces (mapped f op)) (sources_of (mapped f op)) ≡ map (moved f) (map (source_touch shapes op) (sources_of op))
  sources_moved =
      ap (map (source_touch pieces (mapped f op))) (sources_mapped f op)
      ∙ map-map (source_touch pieces (mapped f op)) f (sources_of op)
      ∙ map_same piece_touch (λ n. moved f (source_touch shapes op n)) (sources_of op) (λ k d lt. source_moved (get_or (sources_of op) k d) (sources_same k d lt))
      ∙ sym (map-map (moved f) (source_touch shapes op) (sources_of op))

  destination_moved : destination_touch pieces (mapped f op) ≡ moved f (destination_touch shapes op)
  destination_moved =
      let whole : is_whole (mapped (shape_at pieces) (mapped f op)) ≡ is_whole (mapped (shape_at shapes) op) = ap is_whole (mapped_twice (shape_at pieces) f op ∙ mapped_same (λ r. shape_at pieces (f r)) (shape_at shapes) op same) in
      ap (λ n. record { what = n; role = destination_role (mapped f op); whole = is_whole (mapped (shape_at pieces) (mapped f op)) }) (destination_mapped f op)
      ∙ ap₂ (λ role w. record { what = f (destination_of op); role = role; whole = w }) (destination_role_mapped f op) whole

  pub touches_moved : touches_of pieces (mapped f op) ≡ map (moved f) (touches_of shapes op)
  touches_moved =
      ap₂ (λ sources destination. sources ++ destination ∷ []) sources_moved destination_moved
      ∙ sym (map-append (moved f) (map (source_touch shapes op) (sources_of op)) (destination_touch shapes op ∷ []))

-- ACCESSES

-- each touch loads or stores
pub acts : (role : Role) (whole : Bool) → ((bits : ℕ) × (load_access role whole ≡ Some bits)) ⊎ ((bits : ℕ) × (store_access role ≡ Some bits))
acts CopyRead whole = inl (transfer_read, refl)
acts CopyWrite whole = inr (transfer_write, refl)
acts ClearWrite whole = inr (transfer_write, refl)
acts Sampled whole = inl (shader_sampled_read, refl)
acts StorageRead whole = inl (shader_storage_read, refl)
acts StorageWrite whole = inr (shader_storage_write, refl)
acts (Attachment load) whole = inr (color_attachment_write, refl)

-- an access on queue q that is by a touch
pub data IsOf (shapes : List Shape) (q : ℕ) (t : Touch) (a : Access) : Type 0 where
  a_load : (bits : ℕ) → load_access t.role t.whole ≡ Some bits → a ≡ access t.what (Load (role_agent q t.role bits) (layout_wanted (shape_at shapes t.what) t.role)) → IsOf shapes q t a
  a_store : (bits : ℕ) → store_access t.role ≡ Some bits → a ≡ access t.what (Store (role_agent q t.role bits) (layout_wanted (shape_at shapes t.what) t.role)) → IsOf shapes q t a

touch_each : (shapes : List Shape) (q : ℕ) (t : Touch) → All (IsOf shapes q t) (touch_accesses shapes q t)
touch_each shapes q t = All-append (IsOf shapes q t) (option_map_or (touch_load shapes q t) (load_access t.role t.whole) []) (option_map_or (touch_store shapes q t) (store_access t.role) [])
    (if_some (IsOf shapes q t) (touch_load shapes q t) (load_access t.role t.whole) (λ bits e. one (IsOf shapes q t) (access t.what (Load (role_agent q t.role bits) (layout_wanted (shape_at shapes t.what) t.role))) (a_load bits e refl)))
    (if_some (IsOf shapes q t) (touch_store shapes q t) (store_access t.role) (λ bits e. one (IsOf shapes q t) (access t.what (Store (role_agent q t.role bits) (layout_wanted (shape_at shapes t.what) t.role))) (a_store bits e refl)))

-- of a command: by one of the touches of its operation, moved to pieces
pub record IsTouched (shapes pieces : List Shape) (f : ℕ → ℕ) (q : ℕ) (op : Op ℕ) (a : Access) : Type 0 where
  pub touch : Touch
  pub there : Contains (touches_of shapes op) touch
  pub is : IsOf pieces q (moved f touch) a

pub touched_each : (shapes pieces : List Shape) (f : ℕ → ℕ) (q : ℕ) (op : Op ℕ) → All (λ r. shape_at pieces (f r) ≡ shape_at shapes r) (operands_of op) → All (IsTouched shapes pieces f q op) (command_accesses pieces q (mapped f op))
touched_each shapes pieces f q op same =
    subst (All (IsTouched shapes pieces f q op)) (sym (ap (flat_map (touch_accesses pieces q)) (touches_moved shapes pieces f op same) ∙ flat_map-map (touch_accesses pieces q) (moved f) (touches_of shapes op)))
    (each_of (IsTouched shapes pieces f q op) (λ t. touch_accesses pieces q (moved f t)) (touches_of shapes op)
    (λ k d lt. λ j e l. record { touch = get_or (touches_of shapes op) k d; there = Contains-get_or (touches_of shapes op) k d lt; is = touch_each pieces q (moved f (get_or (touches_of shapes op) k d)) j e l }))

-- OF EACH TOUCH AN ACCESS

-- a touch that stores
pub storing : (shapes : List Shape) (q : ℕ) (t : Touch) (bits : ℕ) → store_access t.role ≡ Some bits → Contains (touch_accesses shapes q t) (access t.what (Store (role_agent q t.role bits) (layout_wanted (shape_at shapes t.what) t.role)))
storing shapes q t bits e =
    let a : Access = access t.what (Store (role_agent q t.role bits) (layout_wanted (shape_at shapes t.what) t.role)) in
    Contains-append_right (option_map_or (touch_load shapes q t) (load_access t.role t.whole) []) (option_map_or (touch_store shapes q t) (store_access t.role) []) a
    (subst (λ o. Contains (option_map_or (touch_store shapes q t) o []) a) (sym e) (0, omega arith, refl))

-- a touch makes an access of its unit that loads or stores
pub record Acting (shapes : List Shape) (q : ℕ) (t : Touch) : Type 0 where
  pub one : Access
  pub there : Contains (touch_accesses shapes q t) one
  pub is : IsOf shapes q t one

pub acting : (shapes : List Shape) (q : ℕ) (t : Touch) → Acting shapes q t
acting shapes q t = go (acts t.role t.whole)
  where
    load_list : List Access
    load_list = option_map_or (touch_load shapes q t) (load_access t.role t.whole) []

    store_list : List Access
    store_list = option_map_or (touch_store shapes q t) (store_access t.role) []

    go : ((bits : ℕ) × (load_access t.role t.whole ≡ Some bits)) ⊎ ((bits : ℕ) × (store_access t.role ≡ Some bits)) → Acting shapes q t
    go (inl (bits, e)) =
        let a : Access = access t.what (Load (role_agent q t.role bits) (layout_wanted (shape_at shapes t.what) t.role)) in
        record {
          one = a;
          there = Contains-append_left load_list store_list a (subst (λ o. Contains (option_map_or (touch_load shapes q t) o []) a) (sym e) (0, omega arith, refl));
          is = a_load bits e refl;
        }
    go (inr (bits, e)) =
        let a : Access = access t.what (Store (role_agent q t.role bits) (layout_wanted (shape_at shapes t.what) t.role)) in
        record {
          one = a;
          there = Contains-append_right load_list store_list a (subst (λ o. Contains (option_map_or (touch_store shapes q t) o []) a) (sym e) (0, omega arith, refl));
          is = a_store bits e refl;
        }

-- of a command by a touch of its operation
pub touched_there : (shapes pieces : List Shape) (f : ℕ → ℕ) (q : ℕ) (op : Op ℕ) → All (λ r. shape_at pieces (f r) ≡ shape_at shapes r) (operands_of op) → (t : Touch) → Contains (touches_of shapes op) t → (a : Access) → Contains (touch_accesses pieces q (moved f t)) a → Contains (command_accesses pieces q (mapped f op)) a
touched_there shapes pieces f q op same t h a k =
    subst (λ accesses. Contains accesses a) (sym (ap (flat_map (touch_accesses pieces q)) (touches_moved shapes pieces f op same) ∙ flat_map-map (touch_accesses pieces q) (moved f) (touches_of shapes op)))
    (contains_part (λ s. touch_accesses pieces q (moved f s)) (touches_of shapes op) t a h k)
