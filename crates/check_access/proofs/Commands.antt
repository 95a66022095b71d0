-- What the accesses of a command are: loads, and one store last, by agents of its queue.
use Rattle.std.proofs.Common.{◌≡◌, ◌<◌, ℕ, true, List, [], ◌∷◌, ◌++◌, length, map, get_or, slice_get, Option, Some, None, refl, sym, ap, ◌∙◌, subst, arith}
use Rattle.std.specs.List.{All, flat_map}
use Rattle.std.specs.Option.{option_map_or}
use Rattle.std.proofs.lemmas.Grind.{flat_map-append}
use Rattle.std.proofs.lemmas.List.{get_or-map, length-map, map-append}
use Rattle.std.proofs.lemmas.List.Elements.{All-nil, All-append, All-map}
use Rattle.base.specs.Operands.{sources_of, destination_of, operands_of}
use Rattle.base.specs.Shapes.{shape_at}
use Rattle.base.specs.Touches.{touches_of, kernel_role, source_role, source_touch, destination_touch}
use Rattle.base.specs.declared.op.Op.{Op}
use Rattle.base.specs.declared.op.Op.TheVariants.{CopyBuffer, CopyImage, BufferToImage, ImageToBuffer}
use Rattle.base.specs.declared.shape.Shape.{Shape}
use Rattle.base.specs.declared.shape.Shape.TheVariants.{Buffer, Image}
use Rattle.base.specs.declared.touch.Touch.{Touch}
use Rattle.program.proofs.Within.{all_below}
use Rattle.program.specs.Ranges.{has_operands}
use Rattle.base.proofs.Lists.{each_of, entry_of, one}
use Rattle.check_access.proofs.Endings.{if_some, Ends, Quiet, alone, quiet_first}
use Rattle.vk.specs.Roles.{load_access, store_access, layout_wanted}
use Rattle.check_access.specs.ValidView.{IsByQueue}
use Rattle.check_access.specs.Effects.{access, role_agent, touch_load, touch_store, touch_accesses, command_accesses}
use Rattle.check_access.specs.declared.access.Access.{Access}
use Rattle.check_access.specs.declared.access.AccessKind.TheVariants.{Load, Store}

-- WHICH PIECES THEY ARE OF

same_sources : (shapes : List Shape) (op : Op ℕ) (xs : List ℕ) → map (λ t. t.what) (map (source_touch shapes op) xs) ≡ xs
same_sources shapes op [] = refl
same_sources shapes op (x ∷ xs) = ap (λ l. x ∷ l) (same_sources shapes op xs)

touched : (shapes : List Shape) (op : Op ℕ) → map (λ t. t.what) (touches_of shapes op) ≡ operands_of op
touched shapes op =
    map-append (λ t. t.what) (map (source_touch shapes op) (sources_of op)) (destination_touch shapes op ∷ [])
    ∙ ap (λ l. l ++ destination_of op ∷ []) (same_sources shapes op (sources_of op))

pub touch_count : (shapes : List Shape) (op : Op ℕ) → length (touches_of shapes op) ≡ length (operands_of op)
touch_count shapes op = sym (length-map (touches_of shapes op) (λ t. t.what)) ∙ ap length (touched shapes op)

touches_known : (n : ℕ) (shapes : List Shape) (op : Op ℕ) → All (λ r. r < n) (operands_of op) → All (λ t. t.what < n) (touches_of shapes op)
touches_known n shapes op all = λ k d lt.
    let e : length (operands_of op) ≡ length (touches_of shapes op) = sym (touch_count shapes op) in
    let is : get_or (operands_of op) k d.what ≡ (get_or (touches_of shapes op) k d).what =
    sym (ap (λ l. get_or l k d.what) (touched shapes op)) ∙ get_or-map (λ t. t.what) (touches_of shapes op) k d d.what lt in
    subst (λ r. r < n) is (all k d.what (omega (arith, e, lt)))

pub operand_known : (shapes : List Shape) (op : Op ℕ) (k : ℕ) (t : Touch) → has_operands shapes op ≡ true → slice_get (touches_of shapes op) k ≡ Some t → t.what < length shapes
operand_known shapes op k t known is =
    entry_of (λ t. t.what < length shapes) (touches_of shapes op) k t (touches_known (length shapes) shapes op (all_below (length shapes) (operands_of op) known)) is

-- WHAT HOLDS OF EACH

abbrev loaded : List Shape → ℕ → Touch → ℕ → Access
loaded shapes q t kind = access t.what (Load (role_agent q t.role kind) (layout_wanted (shape_at shapes t.what) t.role))

abbrev stored : List Shape → ℕ → Touch → ℕ → Access
stored shapes q t kind = access t.what (Store (role_agent q t.role kind) (layout_wanted (shape_at shapes t.what) t.role))

touch_each : (P : Access → Type 0) (shapes : List Shape) (q : ℕ) (t : Touch) → ((kind : ℕ) → P (loaded shapes q t kind)) → ((kind : ℕ) → P (stored shapes q t kind)) → All P (touch_accesses shapes q t)
touch_each P shapes q t load store =
    All-append P (option_map_or (touch_load shapes q t) (load_access t.role t.whole) []) (option_map_or (touch_store shapes q t) (store_access t.role) [])
    (if_some P (touch_load shapes q t) (load_access t.role t.whole) (λ kind. one P (loaded shapes q t kind) (load kind)))
    (if_some P (touch_store shapes q t) (store_access t.role) (λ kind. one P (stored shapes q t kind) (store kind)))

pub by_own_agents : (shapes : List Shape) (q : ℕ) (op : Op ℕ) → All (λ a. IsByQueue q a.kind) (command_accesses shapes q op)
by_own_agents shapes q op =
    each_of (λ a. IsByQueue q a.kind) (touch_accesses shapes q) (touches_of shapes op)
    (λ k d lt. touch_each (λ a. IsByQueue q a.kind) shapes q (get_or (touches_of shapes op) k d) (λ kind. refl) (λ kind. refl))

pub to_known_pieces : (shapes : List Shape) (q : ℕ) (op : Op ℕ) → has_operands shapes op ≡ true → All (λ a. a.piece < length shapes) (command_accesses shapes q op)
to_known_pieces shapes q op known =
    let n = length shapes in
    let all = touches_known n shapes op (all_below n (operands_of op) known) in
    each_of (λ a. a.piece < n) (touch_accesses shapes q) (touches_of shapes op)
    (λ k d lt. touch_each (λ a. a.piece < n) shapes q (get_or (touches_of shapes op) k d) (λ kind. all k d lt) (λ kind. all k d lt))

-- THE STORE COMES LAST

kernel_stores_not : (shape : Shape) → store_access (kernel_role shape) ≡ None
kernel_stores_not (Buffer size) = refl
kernel_stores_not (Image width height texel) = refl

source_stores_not : (op : Op ℕ) (shape : Shape) → store_access (source_role op shape) ≡ None
source_stores_not (CopyBuffer src dst src_offset dst_offset size) shape = refl
source_stores_not (CopyImage src dst src_x src_y dst_x dst_y width height) shape = refl
source_stores_not (BufferToImage src dst offset) shape = refl
source_stores_not (ImageToBuffer src dst offset) shape = refl
source_stores_not op shape = kernel_stores_not shape

source_loads : (shapes : List Shape) (q : ℕ) (op : Op ℕ) (n : ℕ) → All Quiet (touch_accesses shapes q (source_touch shapes op n))
source_loads shapes q op n =
    let t : Touch = source_touch shapes op n in
    All-append Quiet (option_map_or (touch_load shapes q t) (load_access t.role t.whole) []) (option_map_or (touch_store shapes q t) (store_access t.role) [])
    (if_some Quiet (touch_load shapes q t) (load_access t.role t.whole) (λ kind. one Quiet (loaded shapes q t kind) (refl, refl)))
    (subst (λ o. All Quiet (option_map_or (touch_store shapes q t) o [])) (sym (source_stores_not op (shape_at shapes n))) (All-nil Quiet))

touch_ends : (shapes : List Shape) (q : ℕ) (t : Touch) (load store : Option ℕ) → Ends ((option_map_or (touch_load shapes q t) load [] ++ option_map_or (touch_store shapes q t) store []) ++ [])
touch_ends shapes q t None None = tt
touch_ends shapes q t None (Some store) = alone (stored shapes q t store)
touch_ends shapes q t (Some load) None = alone (loaded shapes q t load)
touch_ends shapes q t (Some load) (Some store) = (λ c. absurd cc, λ c. absurd cc, alone (stored shapes q t store))

pub store_last : (shapes : List Shape) (q : ℕ) (op : Op ℕ) → Ends (command_accesses shapes q op)
store_last shapes q op =
    let sources = map (source_touch shapes op) (sources_of op) in
    let last : Touch = destination_touch shapes op in
    subst Ends (sym (flat_map-append (touch_accesses shapes q) sources (last ∷ [])))
    (quiet_first (flat_map (touch_accesses shapes q) sources) (flat_map (touch_accesses shapes q) (last ∷ []))
    (each_of Quiet (touch_accesses shapes q) sources
    (All-map (λ t. All Quiet (touch_accesses shapes q t)) (source_touch shapes op) (sources_of op) (λ k d lt. source_loads shapes q op (get_or (sources_of op) k d))))
    (touch_ends shapes q last (load_access last.role last.whole) (store_access last.role)))
