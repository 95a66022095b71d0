-- A program without a fault has what its device needs.
use Rattle.std.proofs.Common.{◌≡◌, ◌≢◌, inl, inr, ℕ, ◌+◌, ◌<◌, ◌≤◌, ◌-◌, Bool, true, false, ◌&&◌, List, [], ◌∷◌, ◌++◌, length, map, take, drop, get_or, slice_get, slice_index_or, Option, Some, None, option_and_then, if◌then◌else◌, refl, sym, ap, ◌∙◌, subst, ⊎_elim, arith}
use Rattle.std.specs.List.{All, filter, slice_range}
use Rattle.std.specs.Option.{option_map_or}
use Rattle.std.proofs.lemmas.Bool.{false≢true, and_parts, cases_eq, cases_lt, leb-true}
use Rattle.std.proofs.lemmas.List.{get_or-map, get_or_past, get_or-set_same, get_or-set_other, get_or-take, get_or-drop, length-map, length-set, length-replicate, length-take-le, length-drop, length-append, map-append}
use Rattle.std.proofs.lemmas.List.FromFn.{fill_by_all}
use Rattle.std.proofs.lemmas.Option.{slice_get-get_or, slice_get_within}
use Rattle.std.proofs.Math.Seq.{take-append_seam, get_or-append_seam}
use Rattle.std.proofs.lemmas.Simd.{map-map}
use Rattle.base.proofs.Absence.{map_none, none_some, some_same}
use Rattle.base.proofs.Lists.{entry_of}
use Rattle.base.proofs.Operands.{destination_mapped}
use Rattle.base.specs.Applied.{applied, bytes_at, after_op}
use Rattle.base.specs.Operands.{sources_of, destination_of, operands_of, mapped}
use Rattle.base.specs.Shapes.{bytes_of, shape_at, is_buffer}
use Rattle.base.specs.Wholes.{is_whole}
use Rattle.base.specs.declared.op.Op.{Op}
use Rattle.base.specs.declared.shape.Shape.TheVariants.{Buffer}
use Rattle.device_cache.specs.Lines.{Bytes}
use Rattle.check_program.specs.Apart.{op_in, op_at, zeros, begins_in, first_bytes, after_node}
use Rattle.device_model.specs.Agents.{bytes_in}
use Rattle.device_model.specs.Laws.{HoldsImports}
use Rattle.device_model.specs.Outputs.{no_old, stored_by, stored}
use Rattle.device_model.specs.Ready.{is_command, kind_at, read_node}
use Rattle.device_model.proofs.Cases.{command_is, not_sync, not_host, sync_not_host, store_changes, one_of_three, IsPlain, of_queue_plain}
use Rattle.device_model.proofs.Commands.{loaded_of, Sized, first_of, Stores, Reads, Commands}
use Rattle.device_model.proofs.Formed.{Formed, At}
use Rattle.base.proofs.EffectLengths.{applied_long}
use Rattle.device_model.proofs.Operands.{numbered, pieces_loaded, old_of, command_loads, command_agents, command_stores}
use Rattle.vk.specs.Sets.{meets}
use Rattle.device_model.proofs.Stages.{Single, by_bit, stage_bit}
use Rattle.device_model.proofs.Places.{IsOp, IsSync, IsRead, WhatAt, host_at, what_at}
use Rattle.device_model.proofs.HostNodes.{read_entry}
use Rattle.check_order.proofs.HostReads.{ends}
use Rattle.check_order.specs.Edges.{is_sync, is_host, node_at}
use Rattle.check_order.specs.Nodes.{entry_node, no_node}
use Rattle.kernel.proofs.WholeLaw.{ignores_old}
use Rattle.program.proofs.Few.{is_small}
use Rattle.program.proofs.Within.{all_below}
use Rattle.program.proofs.Obeying.{entries_obey, obeys}
use Rattle.program.specs.FirstFault.{first_broken, first_fault}
use Rattle.program.specs.Obeys.{EntryObeys}
use Rattle.program.specs.Limits.{memory_bytes}
use Rattle.program.specs.Entries.{Entry, entries_of}
use Rattle.program.specs.Paths.{fault_of}
use Rattle.program.specs.Ranges.{lies_in, piece_in_range}
use Rattle.program.specs.Rules.{shapes_of}
use Rattle.program.specs.declared.program.Memory.{Memory}
use Rattle.program.specs.declared.program.Memory.TheVariants.{Plain, Import}
use Rattle.program.specs.declared.program.Piece.{Piece}
use Rattle.program.specs.declared.program.Program.{Program}
use Rattle.program.specs.declared.rule.Rule.{Rule}
use Rattle.program.specs.declared.rule.Rule.TheVariants as rules
use Rattle.check_access_order.proofs.Sites.{has_within}
use Rattle.check_access.proofs.Viewing.{shaped}
use Rattle.check_access.specs.AccessKinds.{loads, is_acquire}
use Rattle.check_access.specs.ValidView.{ValidView, Has}
use Rattle.check_access.specs.Views.{View, view_of, accesses_of, queue_at, no_piece, piece_at, imported_at, is_import, piece_imported}
use Rattle.check_access.specs.declared.access.Access.{Access}

module _ (program : Program) (none : first_broken program ≡ None) where
  abbrev V : View
  V = view_of program

  obeying : (rule : Rule) → All (EntryObeys rule program) (entries_of program)
  obeying rule = entries_obey program rule (obeys program none rule)

  S : ValidView V
  S = shaped program (is_small program none) obeying

  at_node : (n : ℕ) → n < length V.nodes → WhatAt program n
  at_node n lt = what_at program obeying n lt

  -- SHAPES

  shape_is : (p : ℕ) → p < length V.pieces → shape_at (shapes_of program) p ≡ (piece_at V p).shape
  shape_is p lt = get_or-map (λ piece. piece.shape) program.pieces p no_piece (Buffer 0) lt

  shape_count : length (shapes_of program) ≡ length V.pieces
  shape_count = length-map program.pieces (λ piece. piece.shape)

  -- NODES

  abbrev IsCommandAt : ℕ → Type 0
  IsCommandAt n = (q : ℕ) × (op : Op ℕ) × IsOp (shapes_of program) (node_at V.nodes n) (accesses_of V n) (op_at program n) q op

  command_at : (n : ℕ) → n < length V.nodes → is_command (kind_at V n) ≡ true → IsCommandAt n
  command_at n lt cl = go (at_node n lt)
    where
      go : WhatAt program n → IsCommandAt n
      go (inl c) = c
      go (inr (inl s)) = absurd (not_sync (kind_at V n) cl s.kind)
      go (inr (inr r)) = absurd (not_host (kind_at V n) cl (ap (λ x. is_host x.kind) r.1.node))

  op_there : (n : ℕ) (op : Op ℕ) → op_at program n ≡ Some op → n < length V.nodes
  op_there n op e = ⊎_elim
      (λ lt. subst (λ m. n < m) (sym (length-map (entries_of program) (entry_node (length program.queues)))) lt)
      (λ ge. absurd (past (slice_get (entries_of program) n) refl ge e))
      (cases_lt n (length (entries_of program)))
    where
      past : (o : Option Entry) → slice_get (entries_of program) n ≡ o → length (entries_of program) ≤ n → option_and_then op_in o ≡ Some op → ⊥
      past None q ge f = none_some f
      past (Some entry) q ge f = let lt = slice_get_within (entries_of program) n entry q in omega (arith, lt, ge)

  op_is : (n : ℕ) (op : Op ℕ) → op_at program n ≡ Some op → (q : ℕ) × IsOp (shapes_of program) (node_at V.nodes n) (accesses_of V n) (op_at program n) q op
  op_is n op e = go (at_node n (op_there n op e))
    where
      go : WhatAt program n → (q : ℕ) × IsOp (shapes_of program) (node_at V.nodes n) (accesses_of V n) (op_at program n) q op
      go (inl c) = (c.0, subst (λ o. IsOp (shapes_of program) (node_at V.nodes n) (accesses_of V n) (op_at program n) c.0 o) (some_same (sym c.2.found ∙ e)) c.2)
      go (inr (inl s)) = absurd (none_some (sym s.found ∙ e))
      go (inr (inr r)) = absurd (none_some (sym r.1.found ∙ e))

  sync_at : (n : ℕ) → n < length V.nodes → is_sync (kind_at V n) ≡ true → IsSync (node_at V.nodes n) (accesses_of V n) (op_at program n)
  sync_at n lt sl = go (at_node n lt)
    where
      go : WhatAt program n → IsSync (node_at V.nodes n) (accesses_of V n) (op_at program n)
      go (inl c) = absurd (not_sync (kind_at V n) (ap is_command c.2.kind) sl)
      go (inr (inl s)) = s
      go (inr (inr r)) = absurd (sync_not_host (kind_at V n) sl (ap (λ x. is_host x.kind) r.1.node))

  abbrev IsReadAt : ℕ → Type 0
  IsReadAt n = (p : ℕ) × IsRead program (node_at V.nodes n) (accesses_of V n) (op_at program n) p

  host_there : (n : ℕ) → is_host (kind_at V n) ≡ true → n < length V.nodes
  host_there n hl = ⊎_elim (λ lt. lt) (λ ge. absurd (false≢true (sym (ap (λ x. is_host x.kind) (get_or_past V.nodes n no_node ge)) ∙ hl))) (cases_lt n (length V.nodes))

  read_at : (n : ℕ) → is_host (kind_at V n) ≡ true → IsReadAt n
  read_at n hl = go (at_node n (host_there n hl))
    where
      go : WhatAt program n → IsReadAt n
      go (inl c) = absurd (not_host (kind_at V n) (ap is_command c.2.kind) hl)
      go (inr (inl s)) = absurd (sync_not_host (kind_at V n) s.kind hl)
      go (inr (inr r)) = r

  -- what is no command is of one of the other kinds
  by_kind : (n : ℕ) (P : Type 0) → (n < length V.nodes → is_command (kind_at V n) ≡ true → P) → (n < length V.nodes → is_sync (kind_at V n) ≡ true → P) → (n < length V.nodes → is_host (kind_at V n) ≡ true → P) → (a : Access) → Has V n a → P
  by_kind n P c s h a ha =
      let lt = has_within V n a S ha in
      ⊎_elim (λ e. c lt e) (λ e. ⊎_elim (λ f. s lt f) (λ f. h lt f) e) (one_of_three (kind_at V n))

  queue_there : (n : ℕ) → n < length V.nodes → is_command (kind_at V n) ≡ true → queue_at V n < length V.families
  queue_there n lt cl =
      let f = S.family n lt (ap is_host (command_is (kind_at V n) cl)) in
      slice_get_within V.families (queue_at V n) f.0 f.1

  plain : (n : ℕ) (a : Access) → Has V n a → is_command (kind_at V n) ≡ true → IsPlain a.kind
  plain n a ha cl = of_queue_plain (queue_at V n) a.kind (S.command n ha.0 a ha.1 (command_is (kind_at V n) cl))

  pub formed : Formed V
  formed = record {
    shaped = S;
    stores = λ n lt cl. let c = command_at n lt cl in let s = command_stores (shapes_of program) c.0 c.1 in (s.0, subst (λ l. At l s.0) (sym c.2.accesses) s.1, store_changes s.0.kind s.2.store);
    numbered = λ n a ha cl.
        let lt = has_within V n a S ha in
        let c = command_at n lt cl in
        numbered c.0 (length V.families) a.kind (subst (λ q. q < length V.families) c.2.queue (queue_there n lt cl)) (command_agents (shapes_of program) c.0 c.1 a (subst (λ l. At l a) c.2.accesses ha));
    acquired = λ n a b ha hb q. by_kind n (b.piece ≡ a.piece) (λ lt cl. absurd (false≢true (sym (plain n a ha cl).acquires ∙ q))) (λ lt sl. one_piece n (sync_at n lt sl) a b ha hb) (λ lt hl. absurd (false≢true (ap is_acquire (sym (S.host n ha.0 a ha.1 hl)) ∙ q))) a ha;
    read = λ n hl. (_, (read_at n hl).1.accesses);
    ends = λ x y e hl. ends program x y hl e;
  }
    where
      one_piece : (n : ℕ) → IsSync (node_at V.nodes n) (accesses_of V n) (op_at program n) → (a b : Access) → Has V n a → Has V n b → b.piece ≡ a.piece
      one_piece n s a b ha hb = of_piece s b hb ∙ sym (of_piece s a ha)
        where
          of_piece : (s : IsSync (node_at V.nodes n) (accesses_of V n) (op_at program n)) (c : Access) → Has V n c → c.piece ≡ s.piece
          of_piece s c hc = entry_of (λ c. c.piece ≡ s.piece) (accesses_of V n) hc.0 c s.of_piece hc.1

  single : Single V
  single c d s lt cl h k =
      let o = command_at c lt cl in
      let b = stage_bit o.1 in
      by_bit b.0 d s (ap (meets d) (sym (o.2.waits ∙ b.1)) ∙ h) (ap (λ z. meets z s) (sym (o.2.leads ∙ b.1)) ∙ k)

  -- OPERATIONS

  module _ (n : ℕ) (op : Op ℕ) (e : op_at program n ≡ Some op) where
    is : (q : ℕ) × IsOp (shapes_of program) (node_at V.nodes n) (accesses_of V n) (op_at program n) q op
    is = op_is n op e

    operands : All (λ p. p < length V.pieces) (operands_of op)
    operands = subst (λ m. All (λ p. p < m) (operands_of op)) shape_count (all_below (length (shapes_of program)) (operands_of op) is.1.known)

    stores : Stores V n (destination_of op)
    stores = let s = command_stores (shapes_of program) is.0 op in record { access = s.0; has = subst (λ l. At l s.0) (sym is.1.accesses) s.1; store = s.2.store; piece = s.2.piece }

    there : destination_of op < length V.pieces
    there = let s = stores in subst (λ p. p < length V.pieces) s.piece (S.known n s.has.0 s.access s.has.1)

    module _ (bytes : List (List ℕ)) (Z : Sized V bytes) where
      abbrev out : List ℕ
      out = applied (shapes_of program) op (map (bytes_at bytes) (sources_of op)) (bytes_at bytes (destination_of op))

      inside : destination_of op < length bytes
      inside = subst (λ m. destination_of op < m) (sym Z.count) there

      after_is : after_node program bytes n ≡ after_op (shapes_of program) bytes op
      after_is = ap (λ o. option_map_or (after_op (shapes_of program) bytes) o bytes) e

      long : All (λ p. length (bytes_at bytes p) ≡ bytes_of (shape_at (shapes_of program) p)) (operands_of op)
      long k d lt = let below = operands k d lt in Z.sized (get_or (operands_of op) k d) below ∙ ap bytes_of (sym (shape_is (get_or (operands_of op) k d) below))

      out_long : length (applied (shapes_of program) op (map (bytes_at bytes) (sources_of op)) (bytes_at bytes (destination_of op))) ≡ bytes_of (piece_at V (destination_of op)).shape
      out_long = applied_long (shapes_of program) bytes op long is.1.fit ∙ ap bytes_of (shape_is (destination_of op) there)

      sized_op : Sized V (after_op (shapes_of program) bytes op)
      sized_op = record {
        count = length-set bytes (destination_of op) out ∙ Z.count;
        sized = λ p lt. ⊎_elim
            (λ (q : p ≡ destination_of op). subst (λ z. length (bytes_at (after_op (shapes_of program) bytes op) z) ≡ bytes_of (piece_at V z).shape) (sym q) (ap length (get_or-set_same bytes (destination_of op) out [] inside) ∙ out_long))
            (λ (q : p ≢ destination_of op). ap length (get_or-set_other bytes (destination_of op) p out [] q) ∙ Z.sized p lt)
            (cases_eq p (destination_of op));
      }

      -- what it loaded
      abbrev loaded : List (List ℕ)
      loaded = loaded_of V (λ m p. bytes_at bytes p) n

      whole : Bool
      whole = is_whole (mapped (shape_at (shapes_of program)) op)

      loaded_is : loaded_of V (λ m p. bytes_at bytes p) n ≡ map (bytes_at bytes) (sources_of op) ++ map (bytes_at bytes) (old_of op (is_whole (mapped (shape_at (shapes_of program)) op)))
      loaded_is =
          sym (map-map (bytes_at bytes) (λ a. a.piece) (filter (λ a. loads a.kind) (accesses_of V n)))
          ∙ ap (map (bytes_at bytes)) (ap pieces_loaded is.1.accesses ∙ command_loads (shapes_of program) is.0 op)
          ∙ map-append (bytes_at bytes) (sources_of op) (old_of op (is_whole (mapped (shape_at (shapes_of program)) op)))

      -- from its sources, and from old bytes that lead to the same
      same_old : (b : Bool) → is_whole (mapped (shape_at (shapes_of program)) op) ≡ b → stored_by (shapes_of program) op (map (bytes_at bytes) (sources_of op) ++ map (bytes_at bytes) (old_of op b)) ≡ applied (shapes_of program) op (map (bytes_at bytes) (sources_of op)) (bytes_at bytes (destination_of op))
      same_old b f = ap (λ s. applied (shapes_of program) op s (slice_index_or (map (bytes_at bytes) (sources_of op) ++ map (bytes_at bytes) (old_of op b)) (length (sources_of op)) (no_old (shapes_of program) op))) front ∙ old b f
        where
          count : length (map (bytes_at bytes) (sources_of op)) ≡ length (sources_of op)
          count = length-map (sources_of op) (bytes_at bytes)

          front : take (length (sources_of op)) (map (bytes_at bytes) (sources_of op) ++ map (bytes_at bytes) (old_of op b)) ≡ map (bytes_at bytes) (sources_of op)
          front = ap (λ m. take m (map (bytes_at bytes) (sources_of op) ++ map (bytes_at bytes) (old_of op b))) (sym count) ∙ take-append_seam (map (bytes_at bytes) (sources_of op)) (map (bytes_at bytes) (old_of op b))

          dst_long : (l : List ℕ) → length l ≡ bytes_of (shape_at (shapes_of program) (destination_of op)) → length l ≡ bytes_of (destination_of (mapped (shape_at (shapes_of program)) op))
          dst_long l h = h ∙ ap bytes_of (sym (destination_mapped (shape_at (shapes_of program)) op))

          old : (b : Bool) → is_whole (mapped (shape_at (shapes_of program)) op) ≡ b → applied (shapes_of program) op (map (bytes_at bytes) (sources_of op)) (slice_index_or (map (bytes_at bytes) (sources_of op) ++ map (bytes_at bytes) (old_of op b)) (length (sources_of op)) (no_old (shapes_of program) op)) ≡ applied (shapes_of program) op (map (bytes_at bytes) (sources_of op)) (bytes_at bytes (destination_of op))
          old false f = ap (λ o. applied (shapes_of program) op (map (bytes_at bytes) (sources_of op)) o) (ap (λ m. slice_index_or (map (bytes_at bytes) (sources_of op) ++ bytes_at bytes (destination_of op) ∷ []) m (no_old (shapes_of program) op)) (sym count) ∙ get_or-append_seam (map (bytes_at bytes) (sources_of op)) (bytes_at bytes (destination_of op)) [] (no_old (shapes_of program) op))
          old true f =
              ap (λ o. applied (shapes_of program) op (map (bytes_at bytes) (sources_of op)) o) (get_or_past (map (bytes_at bytes) (sources_of op) ++ []) (length (sources_of op)) (no_old (shapes_of program) op) (short (map (bytes_at bytes) (sources_of op)) (length (sources_of op)) count))
              ∙ ignores_old (mapped (shape_at (shapes_of program)) op) f _ _ _ (no_old (shapes_of program) op) (bytes_at bytes (destination_of op)) (dst_long (no_old (shapes_of program) op) (length-replicate (bytes_of (shape_at (shapes_of program) (destination_of op))) 0)) (dst_long (bytes_at bytes (destination_of op)) (Z.sized (destination_of op) there ∙ ap bytes_of (sym (shape_is (destination_of op) there))))
            where
              short : (l : List (List ℕ)) (m : ℕ) → length l ≡ m → length (l ++ []) ≤ m
              short l m h = let k = length-append l [] in omega (arith, h, k)

      made : stored program n (loaded_of V (λ m p. bytes_at bytes p) n) ≡ bytes_at (after_node program bytes n) (destination_of op)
      made =
          ap (λ o. option_map_or (λ op. stored_by (shapes_of program) op loaded) o []) e
          ∙ ap (stored_by (shapes_of program) op) loaded_is
          ∙ same_old (is_whole (mapped (shape_at (shapes_of program)) op)) refl
          ∙ sym (ap (λ b. bytes_at b (destination_of op)) after_is ∙ get_or-set_same bytes (destination_of op) out [] inside)

  sized : (n : ℕ) (bytes : List (List ℕ)) → Sized V bytes → Sized V (after_node program bytes n)
  sized n bytes Z = go (op_at program n) refl
    where
      go : (o : Option (Op ℕ)) → op_at program n ≡ o → Sized V (option_map_or (after_op (shapes_of program) bytes) o bytes)
      go None e = Z
      go (Some op) e = sized_op n op e bytes Z

  -- IMPORTS

  pub in_range : (p : ℕ) → p < length V.pieces → (memory : Memory) → slice_get program.memories (piece_at V p).memory ≡ Some memory → (piece_at V p).offset + bytes_of (piece_at V p).shape ≤ memory_bytes memory
  in_range p lt memory e =
      let piece = piece_at V p in
      let k : piece_in_range program.memories piece ≡ true = (obeys program none rules.Range).pieces p no_piece lt in
      let l : lies_in piece memory ≡ true = ap (λ o. option_map_or (lies_in piece) o true) (sym e) ∙ k in
      leb-true (piece.offset + bytes_of piece.shape) (memory_bytes memory) (and_parts _ _ l).1

  part_long : (bytes : List ℕ) (offset size : ℕ) → offset + size ≤ length bytes → length (slice_range bytes offset (offset + size)) ≡ size
  part_long bytes offset size room =
      let a = length-drop offset bytes in
      length-take-le (offset + size - offset) (drop offset bytes) (omega (arith, a, room)) ∙ omega arith

  first_at : (p : ℕ) → p < length V.pieces → bytes_at (first_of program) p ≡ first_bytes program.memories (piece_at V p)
  first_at p lt = get_or-map (first_bytes program.memories) program.pieces p no_piece [] lt

  first_long : (p : ℕ) → p < length V.pieces → length (first_bytes program.memories (piece_at V p)) ≡ bytes_of (piece_at V p).shape
  first_long p lt = go (is_buffer (piece_at V p).shape)
    where
      zeros_long : length (zeros (piece_at V p)) ≡ bytes_of (piece_at V p).shape
      zeros_long = length-replicate (bytes_of (piece_at V p).shape) 0

      begun : (memory : Memory) → slice_get program.memories (piece_at V p).memory ≡ Some memory → length (begins_in (piece_at V p) memory) ≡ bytes_of (piece_at V p).shape
      begun (Plain size) e = zeros_long
      begun (Import bytes) e = part_long bytes (piece_at V p).offset (bytes_of (piece_at V p).shape) (in_range p lt (Import bytes) e)

      by : (o : Option Memory) → slice_get program.memories (piece_at V p).memory ≡ o → length (option_map_or (begins_in (piece_at V p)) o (zeros (piece_at V p))) ≡ bytes_of (piece_at V p).shape
      by None e = zeros_long
      by (Some memory) e = begun memory e

      go : (b : Bool) → length (if b then option_map_or (begins_in (piece_at V p)) (slice_get program.memories (piece_at V p).memory) (zeros (piece_at V p)) else zeros (piece_at V p)) ≡ bytes_of (piece_at V p).shape
      go true = by (slice_get program.memories (piece_at V p).memory) refl
      go false = zeros_long

  first : Sized V (first_of program)
  first = record { count = length-map program.pieces (first_bytes program.memories); sized = λ p lt. ap length (first_at p lt) ∙ first_long p lt }

  -- what no import begins is zeros
  blank : (p : ℕ) → p < length V.pieces → imported_at V p ≡ false → bytes_at (first_of program) p ≡ zeros (piece_at V p)
  blank p lt h = first_at p lt ∙ go (is_buffer (piece_at V p).shape) (sym (get_or-map (piece_imported program.memories) program.pieces p no_piece false lt) ∙ h)
    where
      by : (o : Option Memory) → option_map_or is_import o false ≡ false → option_map_or (begins_in (piece_at V p)) o (zeros (piece_at V p)) ≡ zeros (piece_at V p)
      by None e = refl
      by (Some (Plain size)) e = refl
      by (Some (Import bytes)) e = absurd (false≢true (sym e))

      go : (b : Bool) → (b && option_map_or is_import (slice_get program.memories (piece_at V p).memory) false) ≡ false → (if b then option_map_or (begins_in (piece_at V p)) (slice_get program.memories (piece_at V p).memory) (zeros (piece_at V p)) else zeros (piece_at V p)) ≡ zeros (piece_at V p)
      go false e = refl
      go true e = by (slice_get program.memories (piece_at V p).memory) e

  module _ (main : Bytes) (holds : HoldsImports program main) (p : ℕ) (h : imported_at V p ≡ true) where
    abbrev piece : Piece
    piece = piece_at V p

    piece_there : p < length V.pieces
    piece_there = ⊎_elim (λ lt. lt) (λ ge. absurd (false≢true (sym (get_or_past V.imported p false (subst (λ m. m ≤ p) (sym S.imported) ge)) ∙ h))) (cases_lt p (length V.pieces))

    both : (is_buffer (piece_at V p).shape ≡ true) × (option_map_or is_import (slice_get program.memories (piece_at V p).memory) false ≡ true)
    both = and_parts (is_buffer (piece_at V p).shape) (option_map_or is_import (slice_get program.memories (piece_at V p).memory) false) (sym (get_or-map (piece_imported program.memories) program.pieces p no_piece false piece_there) ∙ h)

    from_import : (bytes : List ℕ) → slice_get program.memories (piece_at V p).memory ≡ Some (Import bytes) → bytes_in V main p ≡ slice_range bytes (piece_at V p).offset ((piece_at V p).offset + bytes_of (piece_at V p).shape)
    from_import bytes e = sym (fill_by_all (λ k. main (piece_at V p).memory ((piece_at V p).offset + k)) (slice_range bytes (piece_at V p).offset ((piece_at V p).offset + bytes_of (piece_at V p).shape)) (bytes_of (piece_at V p).shape) 0 (part_long bytes (piece_at V p).offset (bytes_of (piece_at V p).shape) room) each)
      where
        room : (piece_at V p).offset + bytes_of (piece_at V p).shape ≤ length bytes
        room = in_range p piece_there (Import bytes) e

        each : (k : ℕ) → k < bytes_of (piece_at V p).shape → get_or (slice_range bytes (piece_at V p).offset ((piece_at V p).offset + bytes_of (piece_at V p).shape)) k 0 ≡ main (piece_at V p).memory ((piece_at V p).offset + k)
        each k lt =
            get_or-take ((piece_at V p).offset + bytes_of (piece_at V p).shape - (piece_at V p).offset) (drop (piece_at V p).offset bytes) k 0 (omega (arith, lt))
            ∙ get_or-drop (piece_at V p).offset bytes k 0
            ∙ sym (holds (piece_at V p).memory bytes e ((piece_at V p).offset + k) (omega (arith, lt, room)))

    begins : (o : Option Memory) → slice_get program.memories (piece_at V p).memory ≡ o → option_map_or is_import o false ≡ true → bytes_in V main p ≡ option_map_or (begins_in (piece_at V p)) o (zeros (piece_at V p))
    begins None e i = absurd (false≢true i)
    begins (Some (Plain size)) e i = absurd (false≢true i)
    begins (Some (Import bytes)) e i = from_import bytes e

    imported : bytes_in V main p ≡ bytes_at (first_of program) p
    imported =
        begins (slice_get program.memories (piece_at V p).memory) refl both.1
        ∙ sym (ap (λ b. if b then option_map_or (begins_in (piece_at V p)) (slice_get program.memories (piece_at V p).memory) (zeros (piece_at V p)) else zeros (piece_at V p)) both.0)
        ∙ sym (first_at p piece_there)

  -- HOST READS

  read : (k : ℕ) → k < length program.readbacks → (p : ℕ) × (slice_get program.readbacks k ≡ Some p) × Reads V (read_node program k) p
  read k lt =
      let p = get_or program.readbacks k 0 in
      let is : slice_get program.readbacks k ≡ Some p = slice_get-get_or program.readbacks k 0 lt in
      let r = host_at program (read_node program k) p (read_entry program k p is) in
      (p, is, record { host = ap (λ x. is_host x.kind) r.node; access = _; only = r.accesses; piece = refl })

  pub all_commands : Commands program
  all_commands = record {
    formed = formed;
    single = single;
    command = λ n lt cl. let c = command_at n lt cl in (c.1, c.2.found);
    stores = stores;
    made = λ n op bytes e Z. made n op e bytes Z;
    sized = sized;
    first = first;
    blank = blank;
    imported = imported;
    read = read;
  }

pub commands : (program : Program) → first_fault program ≡ None → Commands program
commands program e = all_commands program (map_none fault_of (first_broken program) e)
