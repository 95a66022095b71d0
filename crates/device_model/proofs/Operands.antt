-- The accesses of a command: a load for each source and, where some old bytes stay, one of the destination, and then its store.
use Rattle.std.proofs.Common.{◌≡◌, ◌⊎◌, inl, inr, ℕ, ◌+◌, ◌*◌, ◌<◌, ◌%◌, ◌^◌, Bool, true, false, not, List, [], ◌∷◌, ◌++◌, map, Some, None, if◌then◌else◌, refl, sym, ap, ◌∙◌, subst, ⊎_elim, arith}
use Rattle.std.specs.Prelude.{◌/◌}
use Rattle.std.specs.Int.{trailing_zeros}
use Rattle.std.specs.Int.Width.{w16}
use Rattle.std.specs.List.{filter, flat_map}
use Rattle.std.proofs.lemmas.Bool.{false≢true}
use Rattle.std.proofs.lemmas.Grind.{flat_map-append}
use Rattle.std.proofs.lemmas.List.{map-append, append-nil}
use Rattle.std.proofs.lemmas.List.Elements.{filter-append}
use Rattle.base.specs.Operands.{sources_of, destination_of, mapped}
use Rattle.base.specs.Shapes.{shape_at}
use Rattle.base.specs.Touches.{kernel_role, source_role, destination_role, source_touch, destination_touch}
use Rattle.base.specs.Wholes.{is_whole}
use Rattle.base.specs.declared.op.Op.{Op}
use Rattle.base.specs.declared.op.Op.TheVariants.{FillBuffer, ClearImage, CopyBuffer, CopyImage, BufferToImage, ImageToBuffer, Ramp, Map, Combine, Select, Convert, Box3, Halve, Histogram, Draw}
use Rattle.base.specs.declared.role.Role.{Role}
use Rattle.base.specs.declared.role.Role.TheVariants.{CopyRead, CopyWrite, ClearWrite, Sampled, StorageRead, StorageWrite, Attachment}
use Rattle.base.specs.declared.shape.Shape.{Shape}
use Rattle.base.specs.declared.shape.Shape.TheVariants.{Buffer, Image}
use Rattle.base.specs.declared.touch.Touch.{Touch}
use Rattle.device_model.specs.Agents.{agent_at, agent_number}
use Rattle.device_model.proofs.Cases.{is_store, IsNumbered}
use Rattle.device_model.proofs.Formed.{At, at_first, at_rest, at_cases, at_none}
use Rattle.check_access.specs.AccessKinds.{loads}
use Rattle.check_access.specs.Effects.{touch_accesses, command_accesses}
use Rattle.check_access.specs.declared.access.Access.{Access}
use Rattle.check_access.specs.declared.access.Agent.{Agent}
use Rattle.check_access.specs.declared.access.Agent.TheVariants.{Of}
use Rattle.check_access.specs.declared.access.AccessKind.{AccessKind}
use Rattle.check_access.specs.declared.access.AccessKind.TheVariants.{Load, Store, Transition, Discard, Release, Acquire}

-- AGENTS

-- one of the eight agents of the queue
abbrev pub IsOne : ℕ → Agent → Type 0
IsOne q agent = (k : ℕ) × (k < 8) × (agent ≡ Of q (2 ^ k)) × (trailing_zeros w16 (2 ^ k) ≡ k)

abbrev pub ByOne : ℕ → AccessKind → Type 0
ByOne q (Load agent layout) = IsOne q agent
ByOne q (Store agent layout) = IsOne q agent
ByOne q (Transition layouts) = ⊥
ByOne q (Discard layout) = ⊥
ByOne q (Release handover) = ⊥
ByOne q (Acquire handover) = ⊥

one_numbered : (q queues : ℕ) (agent : Agent) → q < queues → IsOne q agent → (agent_at (agent_number agent) ≡ agent) × (agent_number agent < 8 * queues)
one_numbered q queues agent lt one =
    let k = one.0 in
    let small : k < 8 = one.1 in
    let number : 8 * q + trailing_zeros w16 (2 ^ k) ≡ 8 * q + k = ap (λ z. 8 * q + z) one.3 in
    let high : (8 * q + k) / 8 ≡ q = omega (arith, small) in
    let low : (8 * q + k) % 8 ≡ k = omega (arith, small) in (
      ap (λ a. agent_at (agent_number a)) one.2 ∙ ap agent_at number ∙ ap (λ z. Of z (2 ^ ((8 * q + k) % 8))) high ∙ ap (λ z. Of q (2 ^ z)) low ∙ sym one.2,
      subst (λ n. n < 8 * queues) (sym (ap agent_number one.2 ∙ number)) (omega (arith, small, lt)),
    )

pub numbered : (q queues : ℕ) (d : AccessKind) → q < queues → ByOne q d → IsNumbered (8 * queues) d
numbered q queues (Load agent layout) lt h = one_numbered q queues agent lt h
numbered q queues (Store agent layout) lt h = one_numbered q queues agent lt h
numbered q queues (Transition layouts) lt h = absurd h
numbered q queues (Discard layout) lt h = absurd h
numbered q queues (Release handover) lt h = absurd h
numbered q queues (Acquire handover) lt h = absurd h

-- ONE OPERAND

pub record LoadOf (q n : ℕ) (a : Access) : Type 0 where
  pub loads : loads a.kind ≡ true
  pub piece : a.piece ≡ n
  pub one : ByOne q a.kind

pub record StoreOf (q n : ℕ) (a : Access) : Type 0 where
  pub store : is_store a.kind ≡ true
  pub loads_not : loads a.kind ≡ false
  pub piece : a.piece ≡ n
  pub one : ByOne q a.kind

abbrev Reading : Role → Type 0
Reading CopyRead = Unit {0}
Reading CopyWrite = ⊥
Reading ClearWrite = ⊥
Reading Sampled = Unit {0}
Reading StorageRead = Unit {0}
Reading StorageWrite = ⊥
Reading (Attachment load) = ⊥

abbrev touch : ℕ → Role → Bool → Touch
touch n role whole = record { what = n; role = role; whole = whole }

reads_one : (shapes : List Shape) (q n : ℕ) (role : Role) (whole : Bool) → Reading role → (a : Access) × (touch_accesses shapes q (touch n role whole) ≡ a ∷ []) × LoadOf q n a
unfolding lib.Count.count_trailing_zeros
reads_one shapes q n CopyRead whole h = (_, refl, record { loads = refl; piece = refl; one = (5, omega arith, refl, refl) })
reads_one shapes q n Sampled whole h = (_, refl, record { loads = refl; piece = refl; one = (0, omega arith, refl, refl) })
reads_one shapes q n StorageRead whole h = (_, refl, record { loads = refl; piece = refl; one = (1, omega arith, refl, refl) })
reads_one shapes q n CopyWrite whole h = absurd h
reads_one shapes q n ClearWrite whole h = absurd h
reads_one shapes q n StorageWrite whole h = absurd h
reads_one shapes q n (Attachment load) whole h = absurd h

kernel_reads : (shape : Shape) → Reading (kernel_role shape)
kernel_reads (Buffer size) = tt
kernel_reads (Image width height texel) = tt

source_reads : (op : Op ℕ) (shape : Shape) → Reading (source_role op shape)
source_reads (CopyBuffer src dst src_offset dst_offset size) shape = tt
source_reads (CopyImage src dst src_x src_y dst_x dst_y width height) shape = tt
source_reads (BufferToImage src dst offset) shape = tt
source_reads (ImageToBuffer src dst offset) shape = tt
source_reads op shape = kernel_reads shape

-- old bytes are loaded exactly where the operation is not whole
abbrev Writing : Role → Bool → Type 0
Writing CopyRead whole = ⊥
Writing CopyWrite whole = Unit {0}
Writing ClearWrite whole = Unit {0}
Writing Sampled whole = ⊥
Writing StorageRead whole = ⊥
Writing StorageWrite whole = whole ≡ true
Writing (Attachment load) whole = load ≡ not whole

destination_writes : (shapes : List Shape) (op : Op ℕ) → Writing (destination_role op) (is_whole (mapped (shape_at shapes) op))
destination_writes shapes (FillBuffer dst offset size word) = tt
destination_writes shapes (ClearImage dst value) = tt
destination_writes shapes (CopyBuffer src dst src_offset dst_offset size) = tt
destination_writes shapes (CopyImage src dst src_x src_y dst_x dst_y width height) = tt
destination_writes shapes (BufferToImage src dst offset) = tt
destination_writes shapes (ImageToBuffer src dst offset) = tt
destination_writes shapes (Ramp dst base dx dy) = refl
destination_writes shapes (Map src dst fun value) = refl
destination_writes shapes (Combine a b dst fun) = refl
destination_writes shapes (Select mask a b dst) = refl
destination_writes shapes (Convert src dst) = refl
destination_writes shapes (Box3 src dst) = refl
destination_writes shapes (Halve src dst) = refl
destination_writes shapes (Histogram src dst) = refl
destination_writes shapes (Draw dst None rects) = refl
destination_writes shapes (Draw dst (Some value) rects) = refl

-- a store, after a load or not
pub record Written (q n : ℕ) (whole : Bool) (list : List Access) : Type 0 where
  pub store : Access
  pub store_of : StoreOf q n store
  pub accesses : ((whole ≡ true) × (list ≡ store ∷ [])) ⊎ ((whole ≡ false) × ((a : Access) × LoadOf q n a × (list ≡ a ∷ store ∷ [])))

writes : (shapes : List Shape) (q n : ℕ) (role : Role) (whole : Bool) → Writing role whole → Written q n whole (touch_accesses shapes q (touch n role whole))
unfolding lib.Count.count_trailing_zeros
writes shapes q n CopyWrite true h = record { store = _; store_of = record { store = refl; loads_not = refl; piece = refl; one = (6, omega arith, refl, refl) }; accesses = inl (refl, refl) }
writes shapes q n CopyWrite false h = record { store = _; store_of = record { store = refl; loads_not = refl; piece = refl; one = (6, omega arith, refl, refl) }; accesses = inr (refl, (_, record { loads = refl; piece = refl; one = (6, omega arith, refl, refl) }, refl)) }
writes shapes q n ClearWrite true h = record { store = _; store_of = record { store = refl; loads_not = refl; piece = refl; one = (7, omega arith, refl, refl) }; accesses = inl (refl, refl) }
writes shapes q n ClearWrite false h = record { store = _; store_of = record { store = refl; loads_not = refl; piece = refl; one = (7, omega arith, refl, refl) }; accesses = inr (refl, (_, record { loads = refl; piece = refl; one = (7, omega arith, refl, refl) }, refl)) }
writes shapes q n StorageWrite true h = record { store = _; store_of = record { store = refl; loads_not = refl; piece = refl; one = (2, omega arith, refl, refl) }; accesses = inl (refl, refl) }
writes shapes q n StorageWrite false h = absurd (false≢true h)
writes shapes q n (Attachment false) true h = record { store = _; store_of = record { store = refl; loads_not = refl; piece = refl; one = (4, omega arith, refl, refl) }; accesses = inl (refl, refl) }
writes shapes q n (Attachment true) false h = record { store = _; store_of = record { store = refl; loads_not = refl; piece = refl; one = (4, omega arith, refl, refl) }; accesses = inr (refl, (_, record { loads = refl; piece = refl; one = (3, omega arith, refl, refl) }, refl)) }
writes shapes q n (Attachment false) false h = absurd (false≢true h)
writes shapes q n (Attachment true) true h = absurd (false≢true (sym h))
writes shapes q n CopyRead whole h = absurd h
writes shapes q n Sampled whole h = absurd h
writes shapes q n StorageRead whole h = absurd h

-- ALL OPERANDS

-- the pieces that a list of accesses loads
abbrev pub pieces_loaded : List Access → List ℕ
pieces_loaded list = map (λ a. a.piece) (filter (λ a. loads a.kind) list)

loaded_join : (xs ys : List Access) → pieces_loaded (xs ++ ys) ≡ pieces_loaded xs ++ pieces_loaded ys
loaded_join xs ys = ap (map (λ a. a.piece)) (filter-append (λ a. loads a.kind) xs ys) ∙ map-append (λ a. a.piece) (filter (λ a. loads a.kind) xs) (filter (λ a. loads a.kind) ys)

loaded_one : (q n : ℕ) (a : Access) (rest : List Access) → LoadOf q n a → pieces_loaded (a ∷ rest) ≡ n ∷ pieces_loaded rest
loaded_one q n a rest L = ap (λ b. map (λ a. a.piece) (if b then a ∷ filter (λ a. loads a.kind) rest else filter (λ a. loads a.kind) rest)) L.loads ∙ ap (λ p. p ∷ pieces_loaded rest) L.piece

store_loads : (q n : ℕ) (a : Access) (rest : List Access) → StoreOf q n a → pieces_loaded (a ∷ rest) ≡ pieces_loaded rest
store_loads q n a rest S = ap (λ b. map (λ a. a.piece) (if b then a ∷ filter (λ a. loads a.kind) rest else filter (λ a. loads a.kind) rest)) S.loads_not

-- the old bytes that are loaded
abbrev pub old_of : Op ℕ → Bool → List ℕ
old_of op whole = if whole then [] else destination_of op ∷ []

abbrev AllByOne : ℕ → List Access → Type 0
AllByOne q list = (a : Access) → At list a → ByOne q a.kind

join_each : (q : ℕ) (xs ys : List Access) → AllByOne q xs → AllByOne q ys → AllByOne q (xs ++ ys)
join_each q [] ys f g a h = g a h
join_each q (x ∷ xs) ys f g a h = ⊎_elim (λ e. f a (subst (λ z. At (x ∷ xs) z) (sym e) (at_first x xs))) (λ r. join_each q xs ys (λ b k. f b (at_rest b x xs k)) g a r) (at_cases a x (xs ++ ys) h)

one_each : (q : ℕ) (x : Access) (rest : List Access) → ByOne q x.kind → AllByOne q rest → AllByOne q (x ∷ rest)
one_each q x rest o f a h = ⊎_elim (λ e. subst (λ z. ByOne q z.kind) (sym e) o) (λ r. f a r) (at_cases a x rest h)

none_each : (q : ℕ) → AllByOne q []
none_each q a h = absurd (at_none a h)

in_join : (xs ys : List Access) (a : Access) → At ys a → At (xs ++ ys) a
in_join [] ys a h = h
in_join (x ∷ xs) ys a h = at_rest a x (xs ++ ys) (in_join xs ys a h)

module _ (shapes : List Shape) (q : ℕ) (op : Op ℕ) where
  abbrev source_accesses : List ℕ → List Access
  source_accesses xs = flat_map (touch_accesses shapes q) (map (source_touch shapes op) xs)

  sources_loaded : (xs : List ℕ) → pieces_loaded (source_accesses xs) ≡ xs
  sources_loaded [] = refl
  sources_loaded (n ∷ xs) =
      let a = reads_one shapes q n (source_role op (shape_at shapes n)) false (source_reads op (shape_at shapes n)) in
      ap (λ l. pieces_loaded (l ++ source_accesses xs)) a.1 ∙ loaded_one q n a.0 (source_accesses xs) a.2 ∙ ap (λ l. n ∷ l) (sources_loaded xs)

  sources_each : (xs : List ℕ) → AllByOne q (source_accesses xs)
  sources_each [] = none_each q
  sources_each (n ∷ xs) =
      let a = reads_one shapes q n (source_role op (shape_at shapes n)) false (source_reads op (shape_at shapes n)) in
      join_each q (touch_accesses shapes q (source_touch shapes op n)) (source_accesses xs) (subst (AllByOne q) (sym a.1) (one_each q a.0 [] a.2.one (none_each q))) (sources_each xs)

  abbrev whole : Bool
  whole = is_whole (mapped (shape_at shapes) op)

  last : Written q (destination_of op) (is_whole (mapped (shape_at shapes) op)) (touch_accesses shapes q (destination_touch shapes op))
  last = writes shapes q (destination_of op) (destination_role op) whole (destination_writes shapes op)

  abbrev last_accesses : List Access
  last_accesses = touch_accesses shapes q (destination_touch shapes op)

  all_accesses : command_accesses shapes q op ≡ source_accesses (sources_of op) ++ last_accesses
  all_accesses =
      flat_map-append (touch_accesses shapes q) (map (source_touch shapes op) (sources_of op)) (destination_touch shapes op ∷ [])
      ∙ ap (λ l. source_accesses (sources_of op) ++ l) (append-nil last_accesses)

  last_loaded : pieces_loaded last_accesses ≡ old_of op whole
  last_loaded = ⊎_elim
      (λ h. ap pieces_loaded h.1 ∙ store_loads q (destination_of op) last.store [] last.store_of ∙ sym (ap (old_of op) h.0))
      (λ h. ap pieces_loaded h.1.2 ∙ loaded_one q (destination_of op) h.1.0 (last.store ∷ []) h.1.1 ∙ ap (λ l. destination_of op ∷ l) (store_loads q (destination_of op) last.store [] last.store_of) ∙ sym (ap (old_of op) h.0))
      last.accesses

  last_each : AllByOne q last_accesses
  last_each = ⊎_elim
      (λ h. subst (AllByOne q) (sym h.1) (one_each q last.store [] last.store_of.one (none_each q)))
      (λ h. subst (AllByOne q) (sym h.1.2) (one_each q h.1.0 (last.store ∷ []) h.1.1.one (one_each q last.store [] last.store_of.one (none_each q))))
      last.accesses

  last_stored : At last_accesses last.store
  last_stored = ⊎_elim
      (λ h. subst (λ l. At l last.store) (sym h.1) (at_first last.store []))
      (λ h. subst (λ l. At l last.store) (sym h.1.2) (at_rest last.store h.1.0 (last.store ∷ []) (at_first last.store [])))
      last.accesses

  -- it loads its sources, and the old bytes of which some stay
  pub command_loads : pieces_loaded (command_accesses shapes q op) ≡ sources_of op ++ old_of op (is_whole (mapped (shape_at shapes) op))
  command_loads =
      ap pieces_loaded all_accesses ∙ loaded_join (source_accesses (sources_of op)) last_accesses
      ∙ ap (λ l. l ++ pieces_loaded last_accesses) (sources_loaded (sources_of op)) ∙ ap (λ l. sources_of op ++ l) last_loaded

  -- by agents of its queue
  pub command_agents : (a : Access) → At (command_accesses shapes q op) a → ByOne q a.kind
  command_agents = subst (AllByOne q) (sym all_accesses) (join_each q (source_accesses (sources_of op)) last_accesses (sources_each (sources_of op)) last_each)

  -- and stores
  pub command_stores : (a : Access) × At (command_accesses shapes q op) a × StoreOf q (destination_of op) a
  command_stores = (last.store, subst (λ l. At l last.store) (sym all_accesses) (in_join (source_accesses (sources_of op)) last_accesses last.store last_stored), last.store_of)
