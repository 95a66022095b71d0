-- Where items and needs are recorded, by their spots.
use Rattle.std.proofs.Common.{◌≡◌, ◌⊎◌, inl, inr, ℕ, zero, suc, ◌+◌, ◌-◌, ◌<◌, ◌≤◌, Bool, true, false, List, [], ◌∷◌, ◌++◌, length, map, Option, Some, None, if◌then◌else◌, refl, sym, ap, ◌∙◌, subst, eq-eqb, arith}
use Rattle.std.specs.List.{flat_map}
use Rattle.std.specs.Prelude.{slice_get, is_some}
use Rattle.std.proofs.lemmas.Bool.{and_from, false≢true}
use Rattle.std.proofs.lemmas.List.{length-append, length-map}
use Rattle.compile_barriers.specs.Prologues.{first, last, earlier, has_uses, first_kind, prologue_of}
use Rattle.compile_barriers.specs.Under.{Heap}
use Rattle.compile_barriers.specs.declared.prologue.Prologue.{Prologue}
use Rattle.compile_barriers.specs.declared.prologue.PrologueKind.{PrologueKind}
use Rattle.compile_barriers.specs.declared.prologue.PrologueKind.TheVariants as kinds
use Rattle.compile_groups.specs.Laws.{IsGrouped}
use Rattle.compile_groups.specs.Needs.{group_at}
use Rattle.compile_groups.specs.declared.command.Command.{Command}
use Rattle.compile_groups.specs.declared.grouping.Grouping.{Grouping}
use Rattle.compile_groups.specs.declared.unit_use.Use.{Use}
use Rattle.compile_record.proofs.Entries.{joint, joined_entry}
use Rattle.compile_record.proofs.Laid.{command_step}
use Rattle.compile_record.proofs.Membership.{first_member, last_member}
use Rattle.compile_record.proofs.Sides.{own_entry, needed, prologue_part, released, own_place, prologue_part_entry, command_entry, host_entry, HasMark, mark_in, of_command, of_prologue, of_release}
use Rattle.compile_record.proofs.Starts.{start, IsLocated, located, start_less}
use Rattle.compile_record.specs.Items.{items_of, prologue_items, release_item}
use Rattle.compile_record.specs.Script.{is_command, use_prologues, is_released, use_releases, host_barrier, groups_used, does_command, block, script}
use Rattle.compile_record.specs.Standing.{host_item, host_step, step, IsStanding}
use Rattle.compile_record.specs.Wanted.{is_there, wanted_release}
use Rattle.compile_record.specs.declared.mark.Mark.TheVariants as marks
use Rattle.compile_record.specs.declared.mark.Marked.{Marked}
use Rattle.compile_record.specs.declared.mark.Marked.TheVariants.{Does, Needs}
use Rattle.law_record.proofs.Befores.{step_for, stands, next_low, turn_kind, acquire_kind, alias_kind, discard_kind}
use Rattle.law_record.proofs.Operands.{operand_order, operand_same}
use Rattle.law_record.specs.Reasons.{Reason, Runs, Turn, Release, Acquire, Alias, Discard, Shows, same_bytes, IsWanted}
use Rattle.law_record.specs.Spots.{Spot, spot, Sooner, by_command, by_part, by_operand, by_turn, ahead, behind, spot_for}
use Rattle.program.specs.declared.program.Item.{Item}
use Rattle.program.specs.declared.program.Item.TheVariants as item

-- LISTS THAT ARE JOINED

joint_next : {X Y : Type 0} (f : X → List Y) (xs : List X) (i j : ℕ) (x : X) → slice_get xs i ≡ Some x → i < j → joint f xs i + length (f x) ≤ joint f xs j
joint_next f [] i j x e lt = absurd cc
joint_next f (y ∷ xs) i zero x e lt = absurd (omega (arith, lt))
joint_next f (y ∷ xs) zero (suc j) x e lt = let same : y ≡ x = cc in let l : length (f y) ≡ length (f x) = ap (λ z. length (f z)) same in omega (arith, l)
joint_next f (y ∷ xs) (suc i) (suc j) x e lt = let h = joint_next f xs i j x e (omega (arith, lt)) in omega (arith, h)

joint_all : {X Y : Type 0} (f : X → List Y) (xs : List X) (i : ℕ) (x : X) → slice_get xs i ≡ Some x → joint f xs i + length (f x) ≤ length (flat_map f xs)
joint_all f [] i x e = absurd cc
joint_all f (y ∷ xs) zero x e = let same : y ≡ x = cc in let l : length (f y) ≡ length (f x) = ap (λ z. length (f z)) same in let a = length-append (f y) (flat_map f xs) in omega (arith, l, a)
joint_all f (y ∷ xs) (suc i) x e = let h = joint_all f xs i x e in let a = length-append (f y) (flat_map f xs) in omega (arith, h, a)

pub chosen : {X : Type 0} (b : Bool) (xs : List X) (i : ℕ) (x : X) → slice_get (if b then xs else []) i ≡ Some x → (b ≡ true) × (slice_get xs i ≡ Some x)
chosen true xs i x e = (refl, e)
chosen false xs i x e = absurd cc

-- WHAT STANDS BEFORE A GROUP

-- entry m of it has a turn
abbrev Fits : PrologueKind → ℕ → ℕ → Type 0
Fits kinds.Nothing turn m = ⊥
Fits kinds.Barrier turn m = (turn ≡ 0) × (m ≡ 0)
Fits kinds.Transfer turn m = (turn ≡ 0) × (m ≡ 0)
Fits kinds.Alias turn m = (turn ≡ 0) × (m ≡ 0)
Fits kinds.Init turn m = (turn ≡ 1) × (m ≡ 0)
Fits kinds.AliasInit turn m = (turn ≡ m) × (m < 2)

fits_low : (kind : PrologueKind) (G : Grouping) (p : Prologue) (A B : List Use) (turn m : ℕ) → Fits kind turn m → m < length (items_of kind G p A B)
fits_low kinds.Nothing G p A B turn m h = absurd h
fits_low kinds.Barrier G p A B turn m (t, z) = omega (arith, z)
fits_low kinds.Transfer G p A B turn m (t, z) = omega (arith, z)
fits_low kinds.Alias G p A B turn m (t, z) = omega (arith, z)
fits_low kinds.Init G p A B turn m (t, z) = omega (arith, z)
fits_low kinds.AliasInit G p A B turn m (t, z) = omega (arith, z)

fits_less : (kind : PrologueKind) (t m u n : ℕ) → Fits kind t m → Fits kind u n → t < u → m < n
fits_less kinds.Nothing t m u n h k lt = absurd h
fits_less kinds.Barrier t m u n (a, b) (c, d) lt = absurd (omega (arith, a, c, lt))
fits_less kinds.Transfer t m u n (a, b) (c, d) lt = absurd (omega (arith, a, c, lt))
fits_less kinds.Alias t m u n (a, b) (c, d) lt = absurd (omega (arith, a, c, lt))
fits_less kinds.Init t m u n (a, b) (c, d) lt = absurd (omega (arith, a, c, lt))
fits_less kinds.AliasInit t m u n (a, b) (c, d) lt = omega (arith, a, c, lt)

-- entry m of n needs and a release
abbrev Leaves : ℕ → ℕ → ℕ → Type 0
Leaves n turn m = ((turn ≡ 0) × (m < n)) ⊎ ((turn ≡ 1) × (m ≡ n))

leaves_low : (n turn m : ℕ) → Leaves n turn m → m ≤ n
leaves_low n turn m (inl (t, l)) = omega (arith, l)
leaves_low n turn m (inr (t, l)) = omega (arith, l)

leaves_less : (n t m u k : ℕ) → Leaves n t m → Leaves n u k → t < u → m < k
leaves_less n t m u k (inl (a, b)) (inl (c, d)) lt = absurd (omega (arith, a, c, lt))
leaves_less n t m u k (inl (a, b)) (inr (c, d)) lt = omega (arith, b, d)
leaves_less n t m u k (inr (a, b)) (inl (c, d)) lt = absurd (omega (arith, a, c, lt))
leaves_less n t m u k (inr (a, b)) (inr (c, d)) lt = absurd (omega (arith, a, c, lt))

-- FIVE PARTS

data Segment (N P R k part : ℕ) : Type 0 where
  s0 : part ≡ 0 → k < N → Segment N P R k part
  s1 : part ≡ 1 → N ≤ k → k < N + P → Segment N P R k part
  s2 : part ≡ 2 → k ≡ N + P → Segment N P R k part
  s3 : part ≡ 3 → N + P < k → k < N + P + 1 + R → Segment N P R k part
  s4 : part ≡ 4 → k ≡ N + P + 1 + R → Segment N P R k part

apart : (N P R k a l b : ℕ) → Segment N P R k a → Segment N P R l b → a < b → k < l
apart N P R k a l b (s0 e x) (s0 e' x') lt = omega (arith, e, x, e', x', lt)
apart N P R k a l b (s0 e x) (s1 e' x' y') lt = omega (arith, e, x, e', x', y', lt)
apart N P R k a l b (s0 e x) (s2 e' x') lt = omega (arith, e, x, e', x', lt)
apart N P R k a l b (s0 e x) (s3 e' x' y') lt = omega (arith, e, x, e', x', y', lt)
apart N P R k a l b (s0 e x) (s4 e' x') lt = omega (arith, e, x, e', x', lt)
apart N P R k a l b (s1 e x y) (s0 e' x') lt = omega (arith, e, x, y, e', x', lt)
apart N P R k a l b (s1 e x y) (s1 e' x' y') lt = omega (arith, e, x, y, e', x', y', lt)
apart N P R k a l b (s1 e x y) (s2 e' x') lt = omega (arith, e, x, y, e', x', lt)
apart N P R k a l b (s1 e x y) (s3 e' x' y') lt = omega (arith, e, x, y, e', x', y', lt)
apart N P R k a l b (s1 e x y) (s4 e' x') lt = omega (arith, e, x, y, e', x', lt)
apart N P R k a l b (s2 e x) (s0 e' x') lt = omega (arith, e, x, e', x', lt)
apart N P R k a l b (s2 e x) (s1 e' x' y') lt = omega (arith, e, x, e', x', y', lt)
apart N P R k a l b (s2 e x) (s2 e' x') lt = omega (arith, e, x, e', x', lt)
apart N P R k a l b (s2 e x) (s3 e' x' y') lt = omega (arith, e, x, e', x', y', lt)
apart N P R k a l b (s2 e x) (s4 e' x') lt = omega (arith, e, x, e', x', lt)
apart N P R k a l b (s3 e x y) (s0 e' x') lt = omega (arith, e, x, y, e', x', lt)
apart N P R k a l b (s3 e x y) (s1 e' x' y') lt = omega (arith, e, x, y, e', x', y', lt)
apart N P R k a l b (s3 e x y) (s2 e' x') lt = omega (arith, e, x, y, e', x', lt)
apart N P R k a l b (s3 e x y) (s3 e' x' y') lt = omega (arith, e, x, y, e', x', y', lt)
apart N P R k a l b (s3 e x y) (s4 e' x') lt = omega (arith, e, x, y, e', x', lt)
apart N P R k a l b (s4 e x) (s0 e' x') lt = omega (arith, e, x, e', x', lt)
apart N P R k a l b (s4 e x) (s1 e' x' y') lt = omega (arith, e, x, e', x', y', lt)
apart N P R k a l b (s4 e x) (s2 e' x') lt = omega (arith, e, x, e', x', lt)
apart N P R k a l b (s4 e x) (s3 e' x' y') lt = omega (arith, e, x, e', x', y', lt)
apart N P R k a l b (s4 e x) (s4 e' x') lt = omega (arith, e, x, e', x', lt)

module _ (G : Grouping) (heap : Heap) (L : IsGrouped G) where
  -- ONE ENTRY OF A BLOCK

  pub data Where (c : ℕ) (command : Command) (k : ℕ) (s : Spot) : Type 0 where
    at_wait : s.part ≡ 0 → s.operand ≡ 0 → s.turn ≡ 0 → k < length (needed G heap c command) → Where c command k s
    at_entry : (j g m : ℕ) → s.part ≡ 1 → slice_get (groups_used G c) j ≡ Some g → (first (group_at G g)).command ≡ c → s.operand ≡ (first (group_at G g)).operand → g < length G.groups → Fits (prologue_of G heap g).kind s.turn m → k ≡ length (needed G heap c command) + (joint (use_prologues G heap c) (groups_used G c) j + m) → Where c command k s
    at_own : s.part ≡ 2 → s.operand ≡ 0 → s.turn ≡ 0 → k ≡ own_place G heap c command → Where c command k s
    at_exit : (j g m : ℕ) → s.part ≡ 3 → slice_get (groups_used G c) j ≡ Some g → (last (group_at G g)).command ≡ c → s.operand ≡ (last (group_at G g)).operand → g < length G.groups → is_released G heap g ≡ true → Leaves (length (wanted_release G (group_at G g))) s.turn m → k ≡ own_place G heap c command + (1 + (joint (use_releases G heap command.queue c) (groups_used G c) j + m)) → Where c command k s
    at_host : s.part ≡ 4 → s.operand ≡ 0 → s.turn ≡ 0 → k ≡ own_place G heap c command + (1 + length (released G heap c command)) → Where c command k s

  entry_size : (c g turn m : ℕ) → (first (group_at G g)).command ≡ c → Fits (prologue_of G heap g).kind turn m → m < length (use_prologues G heap c g)
  entry_size c g turn m mine h = subst (λ b. m < length (if b then prologue_items G (prologue_of G heap g) (earlier G g) (group_at G g) else [])) (sym (eq-eqb (first (group_at G g)).command c mine)) (fits_low (prologue_of G heap g).kind G (prologue_of G heap g) (earlier G g) (group_at G g) turn m h)

  exit_size : (q c g turn m : ℕ) → (last (group_at G g)).command ≡ c → is_released G heap g ≡ true → Leaves (length (wanted_release G (group_at G g))) turn m → m < length (use_releases G heap q c g)
  exit_size q c g turn m mine so h =
      let wants : List Marked = map (Needs q) (wanted_release G (group_at G g)) in
      let it : Marked = release_item G g (group_at G g) (group_at G (suc g)) in
      let a = length-append (map (Needs q) (wanted_release G (group_at G g))) (release_item G g (group_at G g) (group_at G (suc g)) ∷ []) in
      let b = length-map (wanted_release G (group_at G g)) (Needs q) in
      let l = leaves_low (length (wanted_release G (group_at G g))) turn m h in
      subst (λ b. m < length (if b then wants ++ it ∷ [] else [])) (sym (and_from (is_command c (last (group_at G g))) (is_released G heap g) (eq-eqb (last (group_at G g)).command c mine) so)) (omega (arith, a, b, l))

  segment : (c : ℕ) (command : Command) (k : ℕ) (s : Spot) → Where c command k s → Segment (length (needed G heap c command)) (length (prologue_part G heap c command)) (length (released G heap c command)) k s.part
  segment c command k s (at_wait p o u lt) = s0 p lt
  segment c command k s (at_entry j g m p at mine o low h is) =
      let a = joint_all (use_prologues G heap c) (groups_used G c) j g at in
      let b = entry_size c g s.turn m mine h in
      s1 p (omega (arith, is)) (omega (arith, is, a, b))
  segment c command k s (at_own p o u is) = s2 p (omega (arith, is))
  segment c command k s (at_exit j g m p at mine o low so h is) =
      let a = joint_all (use_releases G heap command.queue c) (groups_used G c) j g at in
      let b = exit_size command.queue c g s.turn m mine so h in
      s3 p (omega (arith, is)) (omega (arith, is, a, b))
  segment c command k s (at_host p o u is) = s4 p (omega (arith, is))

  -- of two operands
  less_operand : (c : ℕ) (command : Command) (k l : ℕ) (s t : Spot) → Where c command k s → Where c command l t → s.part ≡ t.part → s.operand < t.operand → k < l
  less_operand c command k l s t (at_wait p o u lt) (at_wait p' o' u' lt') parts lt2 = absurd (omega (arith, o, o', lt2))
  less_operand c command k l s t (at_wait p o u lt) (at_entry j' g' m' p' at' mine' o' low' h' is') parts lt2 = absurd (omega (arith, p, p', parts))
  less_operand c command k l s t (at_wait p o u lt) (at_own p' o' u' is') parts lt2 = absurd (omega (arith, p, p', parts))
  less_operand c command k l s t (at_wait p o u lt) (at_exit j' g' m' p' at' mine' o' low' so' h' is') parts lt2 = absurd (omega (arith, p, p', parts))
  less_operand c command k l s t (at_wait p o u lt) (at_host p' o' u' is') parts lt2 = absurd (omega (arith, p, p', parts))
  less_operand c command k l s t (at_entry j g m p at mine o low h is) (at_wait p' o' u' lt') parts lt2 = absurd (omega (arith, p, p', parts))
  less_operand c command k l s t (at_entry j g m p at mine o low h is) (at_entry j' g' m' p' at' mine' o' low' h' is') parts lt2 = let i = operand_order G L c j j' g g' (first (group_at G g)) (first (group_at G g')) at at' (first_member G L g low) (first_member G L g' low') mine mine' (omega (arith, o, o', lt2)) in let a = joint_next (use_prologues G heap c) (groups_used G c) j j' g at i in let b = entry_size c g s.turn m mine h in omega (arith, is, is', a, b)
  less_operand c command k l s t (at_entry j g m p at mine o low h is) (at_own p' o' u' is') parts lt2 = absurd (omega (arith, p, p', parts))
  less_operand c command k l s t (at_entry j g m p at mine o low h is) (at_exit j' g' m' p' at' mine' o' low' so' h' is') parts lt2 = absurd (omega (arith, p, p', parts))
  less_operand c command k l s t (at_entry j g m p at mine o low h is) (at_host p' o' u' is') parts lt2 = absurd (omega (arith, p, p', parts))
  less_operand c command k l s t (at_own p o u is) (at_wait p' o' u' lt') parts lt2 = absurd (omega (arith, p, p', parts))
  less_operand c command k l s t (at_own p o u is) (at_entry j' g' m' p' at' mine' o' low' h' is') parts lt2 = absurd (omega (arith, p, p', parts))
  less_operand c command k l s t (at_own p o u is) (at_own p' o' u' is') parts lt2 = absurd (omega (arith, o, o', lt2))
  less_operand c command k l s t (at_own p o u is) (at_exit j' g' m' p' at' mine' o' low' so' h' is') parts lt2 = absurd (omega (arith, p, p', parts))
  less_operand c command k l s t (at_own p o u is) (at_host p' o' u' is') parts lt2 = absurd (omega (arith, p, p', parts))
  less_operand c command k l s t (at_exit j g m p at mine o low so h is) (at_wait p' o' u' lt') parts lt2 = absurd (omega (arith, p, p', parts))
  less_operand c command k l s t (at_exit j g m p at mine o low so h is) (at_entry j' g' m' p' at' mine' o' low' h' is') parts lt2 = absurd (omega (arith, p, p', parts))
  less_operand c command k l s t (at_exit j g m p at mine o low so h is) (at_own p' o' u' is') parts lt2 = absurd (omega (arith, p, p', parts))
  less_operand c command k l s t (at_exit j g m p at mine o low so h is) (at_exit j' g' m' p' at' mine' o' low' so' h' is') parts lt2 = let i = operand_order G L c j j' g g' (last (group_at G g)) (last (group_at G g')) at at' (last_member G L g low) (last_member G L g' low') mine mine' (omega (arith, o, o', lt2)) in let a = joint_next (use_releases G heap command.queue c) (groups_used G c) j j' g at i in let b = exit_size command.queue c g s.turn m mine so h in omega (arith, is, is', a, b)
  less_operand c command k l s t (at_exit j g m p at mine o low so h is) (at_host p' o' u' is') parts lt2 = absurd (omega (arith, p, p', parts))
  less_operand c command k l s t (at_host p o u is) (at_wait p' o' u' lt') parts lt2 = absurd (omega (arith, p, p', parts))
  less_operand c command k l s t (at_host p o u is) (at_entry j' g' m' p' at' mine' o' low' h' is') parts lt2 = absurd (omega (arith, p, p', parts))
  less_operand c command k l s t (at_host p o u is) (at_own p' o' u' is') parts lt2 = absurd (omega (arith, p, p', parts))
  less_operand c command k l s t (at_host p o u is) (at_exit j' g' m' p' at' mine' o' low' so' h' is') parts lt2 = absurd (omega (arith, p, p', parts))
  less_operand c command k l s t (at_host p o u is) (at_host p' o' u' is') parts lt2 = absurd (omega (arith, o, o', lt2))

  one_group : (c i j g h : ℕ) → i ≡ j → slice_get (groups_used G c) i ≡ Some g → slice_get (groups_used G c) j ≡ Some h → g ≡ h
  one_group c i j g h same at there = let both : Some g ≡ Some h = sym at ∙ ap (slice_get (groups_used G c)) same ∙ there in cc

  -- of one operand
  less_turn : (c : ℕ) (command : Command) (k l : ℕ) (s t : Spot) → Where c command k s → Where c command l t → s.part ≡ t.part → s.operand ≡ t.operand → s.turn < t.turn → k < l
  less_turn c command k l s t (at_wait p o u lt) (at_wait p' o' u' lt') parts same lt2 = absurd (omega (arith, u, u', lt2))
  less_turn c command k l s t (at_wait p o u lt) (at_entry j' g' m' p' at' mine' o' low' h' is') parts same lt2 = absurd (omega (arith, p, p', parts))
  less_turn c command k l s t (at_wait p o u lt) (at_own p' o' u' is') parts same lt2 = absurd (omega (arith, p, p', parts))
  less_turn c command k l s t (at_wait p o u lt) (at_exit j' g' m' p' at' mine' o' low' so' h' is') parts same lt2 = absurd (omega (arith, p, p', parts))
  less_turn c command k l s t (at_wait p o u lt) (at_host p' o' u' is') parts same lt2 = absurd (omega (arith, p, p', parts))
  less_turn c command k l s t (at_entry j g m p at mine o low h is) (at_wait p' o' u' lt') parts same lt2 = absurd (omega (arith, p, p', parts))
  less_turn c command k l s t (at_entry j g m p at mine o low h is) (at_entry j' g' m' p' at' mine' o' low' h' is') parts same lt2 = let i : j ≡ j' = operand_same G L c j j' g g' (first (group_at G g)) (first (group_at G g')) at at' (first_member G L g low) (first_member G L g' low') mine mine' (omega (arith, o, o', same)) in let n : g ≡ g' = one_group c j j' g g' i at at' in let a : joint (use_prologues G heap c) (groups_used G c) j ≡ joint (use_prologues G heap c) (groups_used G c) j' = ap (joint (use_prologues G heap c) (groups_used G c)) i in let b = fits_less (prologue_of G heap g).kind s.turn m t.turn m' h (subst (λ z. Fits (prologue_of G heap z).kind t.turn m') (sym n) h') lt2 in omega (arith, is, is', a, b)
  less_turn c command k l s t (at_entry j g m p at mine o low h is) (at_own p' o' u' is') parts same lt2 = absurd (omega (arith, p, p', parts))
  less_turn c command k l s t (at_entry j g m p at mine o low h is) (at_exit j' g' m' p' at' mine' o' low' so' h' is') parts same lt2 = absurd (omega (arith, p, p', parts))
  less_turn c command k l s t (at_entry j g m p at mine o low h is) (at_host p' o' u' is') parts same lt2 = absurd (omega (arith, p, p', parts))
  less_turn c command k l s t (at_own p o u is) (at_wait p' o' u' lt') parts same lt2 = absurd (omega (arith, p, p', parts))
  less_turn c command k l s t (at_own p o u is) (at_entry j' g' m' p' at' mine' o' low' h' is') parts same lt2 = absurd (omega (arith, p, p', parts))
  less_turn c command k l s t (at_own p o u is) (at_own p' o' u' is') parts same lt2 = absurd (omega (arith, u, u', lt2))
  less_turn c command k l s t (at_own p o u is) (at_exit j' g' m' p' at' mine' o' low' so' h' is') parts same lt2 = absurd (omega (arith, p, p', parts))
  less_turn c command k l s t (at_own p o u is) (at_host p' o' u' is') parts same lt2 = absurd (omega (arith, p, p', parts))
  less_turn c command k l s t (at_exit j g m p at mine o low so h is) (at_wait p' o' u' lt') parts same lt2 = absurd (omega (arith, p, p', parts))
  less_turn c command k l s t (at_exit j g m p at mine o low so h is) (at_entry j' g' m' p' at' mine' o' low' h' is') parts same lt2 = absurd (omega (arith, p, p', parts))
  less_turn c command k l s t (at_exit j g m p at mine o low so h is) (at_own p' o' u' is') parts same lt2 = absurd (omega (arith, p, p', parts))
  less_turn c command k l s t (at_exit j g m p at mine o low so h is) (at_exit j' g' m' p' at' mine' o' low' so' h' is') parts same lt2 = let i : j ≡ j' = operand_same G L c j j' g g' (last (group_at G g)) (last (group_at G g')) at at' (last_member G L g low) (last_member G L g' low') mine mine' (omega (arith, o, o', same)) in let n : g ≡ g' = one_group c j j' g g' i at at' in let a : joint (use_releases G heap command.queue c) (groups_used G c) j ≡ joint (use_releases G heap command.queue c) (groups_used G c) j' = ap (joint (use_releases G heap command.queue c) (groups_used G c)) i in let b = leaves_less (length (wanted_release G (group_at G g))) s.turn m t.turn m' h (subst (λ z. Leaves (length (wanted_release G (group_at G z))) t.turn m') (sym n) h') lt2 in omega (arith, is, is', a, b)
  less_turn c command k l s t (at_exit j g m p at mine o low so h is) (at_host p' o' u' is') parts same lt2 = absurd (omega (arith, p, p', parts))
  less_turn c command k l s t (at_host p o u is) (at_wait p' o' u' lt') parts same lt2 = absurd (omega (arith, p, p', parts))
  less_turn c command k l s t (at_host p o u is) (at_entry j' g' m' p' at' mine' o' low' h' is') parts same lt2 = absurd (omega (arith, p, p', parts))
  less_turn c command k l s t (at_host p o u is) (at_own p' o' u' is') parts same lt2 = absurd (omega (arith, p, p', parts))
  less_turn c command k l s t (at_host p o u is) (at_exit j' g' m' p' at' mine' o' low' so' h' is') parts same lt2 = absurd (omega (arith, p, p', parts))
  less_turn c command k l s t (at_host p o u is) (at_host p' o' u' is') parts same lt2 = absurd (omega (arith, u, u', lt2))

  -- ENTRIES OF THE WHOLE

  pub record IsAt (w : ℕ) (s : Spot) : Type 0 where
    pub number : ℕ
    pub command : Command
    pub entry : ℕ
    pub marked : Marked
    pub there : slice_get G.commands number ≡ Some command
    pub is : slice_get (block G heap number command) entry ≡ Some marked
    pub place : w ≡ start G heap number + entry
    pub own : number ≡ s.command
    pub spot : Where number command entry s

  -- what is at a sooner spot stands sooner
  pub rises : (w v : ℕ) (s t : Spot) → IsAt w s → IsAt v t → Sooner s t → w < v
  rises w v s t A B before = go before
    where
      beside : s.command < t.command → w < v
      beside lt =
          let a = A.place in
          let b = B.place in
          let m = A.own in
          let n = B.own in
          let less = start_less G heap A.number B.number A.entry B.entry A.command A.marked A.there A.is (omega (arith, m, n, lt)) in
          omega (arith, a, b, less)

      within : s.command ≡ t.command → ((command : Command) → Where A.number command A.entry s → Where A.number command B.entry t → A.entry < B.entry) → w < v
      within same less =
          let a = A.place in
          let b = B.place in
          let m = A.own in
          let n = B.own in
          let number : A.number ≡ B.number = omega (arith, m, n, same) in
          let both : Some B.command ≡ Some A.command = sym B.there ∙ ap (slice_get G.commands) (sym number) ∙ A.there in
          let one : B.command ≡ A.command = cc in
          let h = less A.command A.spot (subst (λ c. Where c A.command B.entry t) (sym number) (subst (λ x. Where B.number x B.entry t) one B.spot)) in
          let starts : start G heap A.number ≡ start G heap B.number = ap (start G heap) number in
          omega (arith, a, b, h, starts)

      go : Sooner s t → w < v
      go (by_command lt) = beside lt
      go (by_part same lt) = within same (λ command one two. apart (length (needed G heap A.number command)) (length (prologue_part G heap A.number command)) (length (released G heap A.number command)) A.entry s.part B.entry t.part (segment A.number command A.entry s one) (segment A.number command B.entry t two) lt)
      go (by_operand same part lt) = within same (λ command one two. less_operand A.number command A.entry B.entry s t one two part lt)
      go (by_turn same part operand lt) = within same (λ command one two. less_turn A.number command A.entry B.entry s t one two part operand lt)

  -- ITEMS

  command_at_spot : (c : ℕ) (command : Command) → slice_get G.commands c ≡ Some command → IsAt (step G heap (marks.Command c)) (spot c 2 0 0)
  command_at_spot c command there = record {
    number = c;
    command = command;
    entry = own_place G heap c command;
    marked = does_command G c command;
    there = there;
    is = command_entry G heap c command;
    place = sym (command_step G heap L c command there);
    own = refl;
    spot = at_own refl refl refl refl;
  }

  copy_at_spot : (c : ℕ) (command : Command) → slice_get G.commands c ≡ Some command → is_some command.export ≡ true → IsAt (host_step G heap c command) (spot c 4 0 0)
  copy_at_spot c command there export = record {
    number = c;
    command = command;
    entry = own_place G heap c command + (1 + length (released G heap c command) + 0);
    marked = Does command.queue None (host_item G command);
    there = there;
    is = host_entry G heap c command 0 (Does command.queue None (host_item G command)) (host_there command.export export);
    place = (let s = command_step G heap L c command there in omega (arith, s));
    own = refl;
    spot = at_host refl refl refl (omega arith);
  }
    where
      host_there : (o : Option ℕ) → is_some o ≡ true → slice_get (host_barrier G command o) 0 ≡ Some (Does command.queue None (host_item G command))
      host_there None e = absurd (false≢true e)
      host_there (Some k) e = refl

  -- of the item with the mark of a group
  entry_at_spot : (g turn q w : ℕ) (it : Item) → g < length G.groups → slice_get (script G heap) w ≡ Some (Does q (Some (marks.Prologue g)) it) → Fits (prologue_of G heap g).kind turn (own_entry (prologue_of G heap g).kind) → IsAt w (ahead (first (group_at G g)) turn)
  entry_at_spot g turn q w it low at fits = go (mark_in G heap P.number P.command P.entry q (marks.Prologue g) it P.is)
    where
      x : Marked
      x = Does q (Some (marks.Prologue g)) it

      P : IsLocated G heap w (Does q (Some (marks.Prologue g)) it)
      P = located G heap w (Does q (Some (marks.Prologue g)) it) at

      go : HasMark G heap P.number P.command P.entry (marks.Prologue g) (Does q (Some (marks.Prologue g)) it) → IsAt w (ahead (first (group_at G g)) turn)
      go (of_command e is same) = absurd cc
      go (of_release j h r e used mine so number there is same) = absurd cc
      go (of_prologue j h t e used mine has number there is same) =
          let group : h ≡ g = cc in
          record {
            number = P.number;
            command = P.command;
            entry = P.entry;
            marked = Does q (Some (marks.Prologue g)) it;
            there = P.there;
            is = P.is;
            place = P.place;
            own = sym (subst (λ z. (first (group_at G z)).command ≡ P.number) group mine);
            spot = at_entry j g (own_entry (prologue_of G heap g).kind) refl (used ∙ ap (λ z. Some z) group) (subst (λ z. (first (group_at G z)).command ≡ P.number) group mine) refl low fits (let o : own_entry (prologue_of G heap h).kind ≡ own_entry (prologue_of G heap g).kind = ap (λ z. own_entry (prologue_of G heap z).kind) group in omega (arith, is, number, o));
          }

  -- of the alias barrier before it
  alias_at_spot : (g q w : ℕ) (it : Item) → g < length G.groups → (prologue_of G heap g).kind ≡ kinds.AliasInit → slice_get (script G heap) w ≡ Some (Does q (Some (marks.Prologue g)) it) → IsAt (w - 1) (ahead (first (group_at G g)) 0)
  alias_at_spot g q w it low kind at = go (mark_in G heap P.number P.command P.entry q (marks.Prologue g) it P.is)
    where
      P : IsLocated G heap w (Does q (Some (marks.Prologue g)) it)
      P = located G heap w (Does q (Some (marks.Prologue g)) it) at

      global : Marked
      global = Does (prologue_of G heap g).queue None (item.Global (prologue_of G heap g).masks)

      first_of : (k : PrologueKind) → k ≡ kinds.AliasInit → slice_get (items_of k G (prologue_of G heap g) (earlier G g) (group_at G g)) 0 ≡ Some global
      first_of kinds.Nothing e = absurd cc
      first_of kinds.Barrier e = absurd cc
      first_of kinds.Transfer e = absurd cc
      first_of kinds.Alias e = absurd cc
      first_of kinds.Init e = absurd cc
      first_of kinds.AliasInit e = refl

      go : HasMark G heap P.number P.command P.entry (marks.Prologue g) (Does q (Some (marks.Prologue g)) it) → IsAt (w - 1) (ahead (first (group_at G g)) 0)
      go (of_command e is same) = absurd cc
      go (of_release j h r e used mine so number there is same) = absurd cc
      go (of_prologue j h t e used mine has number there is same) = at_zero (subst (λ z. (first (group_at G z)).command ≡ P.number) group mine)
        where
          group : h ≡ g
          group = cc

          own-one : own_entry (prologue_of G heap h).kind ≡ 1
          own-one = ap (λ z. own_entry (prologue_of G heap z).kind) group ∙ ap own_entry kind

          at_zero : (first (group_at G g)).command ≡ P.number → IsAt (w - 1) (ahead (first (group_at G g)) 0)
          at_zero own-command = record {
            number = P.number;
            command = P.command;
            entry = length (needed G heap P.number P.command) + (joint (use_prologues G heap P.number) (groups_used G P.number) j + 0);
            marked = global;
            there = P.there;
            is = prologue_part_entry G heap P.number P.command (joint (use_prologues G heap P.number) (groups_used G P.number) j + 0) global
                (joined_entry (use_prologues G heap P.number) (groups_used G P.number) j 0 (joint (use_prologues G heap P.number) (groups_used G P.number) j + 0) g global (used ∙ ap (λ z. Some z) group)
                (subst (λ b. slice_get (if b then prologue_items G (prologue_of G heap g) (earlier G g) (group_at G g) else []) 0 ≡ Some global) (sym (eq-eqb (first (group_at G g)).command P.number own-command)) (first_of (prologue_of G heap g).kind kind)) refl);
            place = (let a = P.place in omega (arith, a, is, number, own-one));
            own = sym own-command;
            spot = at_entry j g 0 refl (used ∙ ap (λ z. Some z) group) own-command refl low (subst (λ k. Fits k 0 0) (sym kind) (refl, omega arith)) refl;
          }

  release_at_spot : (g q w : ℕ) (it : Item) → g < length G.groups → slice_get (script G heap) w ≡ Some (Does q (Some (marks.Release g)) it) → IsAt w (behind (last (group_at G g)) 1)
  release_at_spot g q w it low at = go (mark_in G heap P.number P.command P.entry q (marks.Release g) it P.is)
    where
      P : IsLocated G heap w (Does q (Some (marks.Release g)) it)
      P = located G heap w (Does q (Some (marks.Release g)) it) at

      go : HasMark G heap P.number P.command P.entry (marks.Release g) (Does q (Some (marks.Release g)) it) → IsAt w (behind (last (group_at G g)) 1)
      go (of_command e is same) = absurd cc
      go (of_prologue j h t e used mine has number there is same) = absurd cc
      go (of_release j h r e used mine so number there is same) =
          let group : h ≡ g = cc in
          let count : length (map (Needs P.command.queue) (wanted_release G (group_at G h))) ≡ length (map (Needs P.command.queue) (wanted_release G (group_at G g))) = ap (λ z. length (map (Needs P.command.queue) (wanted_release G (group_at G z)))) group in
          record {
            number = P.number;
            command = P.command;
            entry = P.entry;
            marked = Does q (Some (marks.Release g)) it;
            there = P.there;
            is = P.is;
            place = P.place;
            own = sym (subst (λ z. (last (group_at G z)).command ≡ P.number) group mine);
            spot = at_exit j g (length (map (Needs P.command.queue) (wanted_release G (group_at G g)))) refl (used ∙ ap (λ z. Some z) group) (subst (λ z. (last (group_at G z)).command ≡ P.number) group mine) refl low (subst (λ z. is_released G heap z ≡ true) group so) (inr (refl, length-map (wanted_release G (group_at G g)) (Needs P.command.queue))) (omega (arith, is, number, count));
          }

  fits_first : (r image : Bool) (kind : PrologueKind) → kind ≡ first_kind r image → image ≡ true → Fits kind 1 (own_entry kind)
  fits_first r image kind e t = subst (λ k. Fits k 1 (own_entry k)) (sym (e ∙ ap (first_kind r) t)) (either r)
    where
      either : (b : Bool) → Fits (first_kind b true) 1 (own_entry (first_kind b true))
      either true = (refl, omega arith)
      either false = (refl, refl)

  -- each item that is wanted is recorded at its spot
  pub item_at : IsStanding G heap → (x : Reason) → IsWanted G heap x → IsAt (step_for G heap L x) (spot_for G x)
  item_at S (Runs c command) w = command_at_spot c command w
  item_at S (Turn g) w = entry_at_spot (suc g) 0 (first (group_at G (suc g))).queue (step G heap (marks.Prologue (suc g))) _ (next_low G heap L g w.0) (stands G heap L S (Turn g) w) (subst (λ k. Fits k 0 (own_entry k)) (sym (turn_kind G heap L g w.0 w.1)) (refl, refl))
  item_at S (Release g) w = release_at_spot g (last (group_at G g)).queue (step G heap (marks.Release g)) _ (let l = next_low G heap L g w.0 in omega (arith, l)) (stands G heap L S (Release g) w)
  item_at S (Acquire g) w = entry_at_spot (suc g) 0 (first (group_at G (suc g))).queue (step G heap (marks.Prologue (suc g))) _ (next_low G heap L g w.0) (stands G heap L S (Acquire g) w) (subst (λ k. Fits k 0 (own_entry k)) (sym (acquire_kind G heap L g w.0 w.1)) (refl, refl))
  item_at S (Alias g) w = go (is_some (first (group_at G g)).layout) refl
    where
      go : (image : Bool) → is_some (first (group_at G g)).layout ≡ image → IsAt (if image then step G heap (marks.Prologue g) - 1 else step G heap (marks.Prologue g)) (ahead (first (group_at G g)) 0)
      go true e =
          let kind = alias_kind G heap L g true w e in
          alias_at_spot g (first (group_at G g)).queue (step G heap (marks.Prologue g)) _ w.0.group kind (S.each_prologue g (w.0.group, ap is_there kind))
      go false e =
          let kind = alias_kind G heap L g false w e in
          entry_at_spot g 0 (first (group_at G g)).queue (step G heap (marks.Prologue g)) _ w.0.group (S.each_prologue g (w.0.group, ap is_there kind)) (subst (λ k. Fits k 0 (own_entry k)) (sym kind) (refl, refl))
  item_at S (Discard g) w = entry_at_spot g 1 (first (group_at G g)).queue (step G heap (marks.Prologue g)) _ w.0.group (stands G heap L S (Discard g) w) (fits_first (has_uses (same_bytes G heap g)) true (prologue_of G heap g).kind (discard_kind G heap L g w) refl)
  item_at S (Shows c command) w = copy_at_spot c command w.0 w.1
