-- The operation of a command runs on what the command loads.
use Rattle.std.proofs.Common.{◌≡◌, inl, inr, ℕ, ◌+◌, ◌<◌, ◌≤◌, Bool, true, false, List, [], ◌∷◌, ◌++◌, length, map, get_or, replicate, Some, None, refl, sym, ap, ◌∙◌, subst, arith}
use Rattle.std.specs.List.{All, filter, range_with_len}
use Rattle.std.specs.Prelude.{if◌then◌else◌}
use Rattle.device_cache.specs.Lines.{seen}
use Rattle.std.proofs.lemmas.List.{get_or-map, get_or_append_left, length-map, length-append}
use Rattle.std.proofs.lemmas.List.FromFn.{length-map-range_with_len}
use Rattle.std.proofs.Math.Seq.{get_or-append_seam}
use Rattle.base.proofs.Absence.{some_same}
use Rattle.base.specs.Operands.{sources_of, destination_of, operands_of, mapped}
use Rattle.base.specs.Shapes.{bytes_of, shape_at}
use Rattle.base.specs.Wholes.{is_whole}
use Rattle.base.specs.declared.op.Op.{Op}
use Rattle.base.specs.declared.shape.Shape.{Shape}
use Rattle.base.specs.declared.shape.Shape.TheVariants.{Buffer}
use Rattle.check_program.specs.Apart.{op_at}
use Rattle.device.specs.Internal.Loads.{store_size, IsRunnable}
use Rattle.check_order.specs.Edges.{is_host, node_at}
use Rattle.device_model.proofs.Cases.{not_sync, not_host, store_changes}
use Rattle.device_model.proofs.Formed.{Formed, At, of_change}
use Rattle.device_model.proofs.Operands.{old_of, command_loads, command_stores}
use Rattle.device_model.proofs.Places.{IsOp, WhatAt, what_at}
use Rattle.device_model.specs.Agents.{agent_of}
use Rattle.device_model.specs.Outputs.{no_old}
use Rattle.device_model.specs.Ready.{is_command, kind_at, loads_undefined}
use Rattle.device_model.specs.States.{State, junk_at}
use Rattle.device_model.specs.Steps.{store_of, sight, loaded_by}
use Rattle.program.proofs.Within.{all_below}
use Rattle.program.specs.Entries.{entries_of}
use Rattle.program.specs.Obeys.{EntryObeys}
use Rattle.program.specs.Rules.{shapes_of}
use Rattle.program.specs.declared.program.Program.{Program}
use Rattle.program.specs.declared.rule.Rule.{Rule}
use Rattle.check_access.specs.AccessKinds.{loads}
use Rattle.check_access.specs.Effects.{access}
use Rattle.check_access.specs.ValidView.{Has}
use Rattle.check_access.specs.Views.{View, view_of, accesses_of, loads_of, no_piece, piece_at}
use Rattle.check_access.specs.declared.access.Access.{Access}
use Rattle.check_access.specs.declared.access.AccessKind.TheVariants.{Load}
use Rattle.check_access.specs.declared.access.Agent.TheVariants.{Host}

-- each load is as long as its piece
pub loaded_by_long : (V : View) (s : State) (n : ℕ) (junk : List ℕ) (a : Access) → length (loaded_by V s n junk a) ≡ bytes_of (piece_at V a.piece).shape
loaded_by_long V s n junk a = by_test (loads_undefined V s n a)
  where
    size : ℕ
    size = bytes_of (piece_at V a.piece).shape

    by_test : (b : Bool) → length (if b then map (junk_at junk) (range_with_len 0 (bytes_of (piece_at V a.piece).shape)) else sight V s a) ≡ bytes_of (piece_at V a.piece).shape
    by_test true = length-map-range_with_len (junk_at junk) 0 (bytes_of (piece_at V a.piece).shape)
    by_test false = length-map-range_with_len (λ k. seen (s.line (agent_of a.kind) (piece_at V a.piece).memory ((piece_at V a.piece).offset + k)) (s.main (piece_at V a.piece).memory ((piece_at V a.piece).offset + k))) 0 (bytes_of (piece_at V a.piece).shape)

module _ (program : Program) (obeys : (rule : Rule) → All (EntryObeys rule program) (entries_of program)) (n : ℕ) (lt : n < length (view_of program).nodes) (cl : is_command (kind_at (view_of program) n) ≡ true) (op : Op ℕ) (at : op_at program n ≡ Some op) where
  abbrev V : View
  V = view_of program

  abbrev shapes : List Shape
  shapes = shapes_of program

  is_op : (q : ℕ) × IsOp (shapes_of program) (node_at (view_of program).nodes n) (accesses_of (view_of program) n) (op_at program n) q op
  is_op = go (what_at program obeys n lt)
    where
      go : WhatAt program n → (q : ℕ) × IsOp (shapes_of program) (node_at (view_of program).nodes n) (accesses_of (view_of program) n) (op_at program n) q op
      go (inl c) = (c.0, subst (λ o. IsOp (shapes_of program) (node_at (view_of program).nodes n) (accesses_of (view_of program) n) (op_at program n) c.0 o) (some_same (sym c.2.found ∙ at)) c.2)
      go (inr (inl s)) = absurd (not_sync (kind_at (view_of program) n) cl s.kind)
      go (inr (inr r)) = absurd (not_host (kind_at (view_of program) n) cl (ap (λ x. is_host x.kind) r.1.node))

  operands : All (λ p. p < length (shapes_of program)) (operands_of op)
  operands = all_below (length (shapes_of program)) (operands_of op) is_op.1.known

  shape_is : (p : ℕ) → p < length (shapes_of program) → shape_at (shapes_of program) p ≡ (piece_at (view_of program) p).shape
  shape_is p inside = get_or-map (λ piece. piece.shape) program.pieces p no_piece (Buffer 0) (omega (arith, inside, length-map program.pieces (λ piece. piece.shape)))

  -- the loads are of the first operands
  pieces : map (λ a. a.piece) (loads_of (view_of program) n) ≡ sources_of op ++ old_of op (is_whole (mapped (shape_at (shapes_of program)) op))
  pieces = ap (λ list. map (λ a. a.piece) (filter (λ a. loads a.kind) list)) is_op.1.accesses ∙ command_loads (shapes_of program) is_op.0 op

  abbrev olds : List ℕ
  olds = old_of op (is_whole (mapped (shape_at (shapes_of program)) op))

  record Olds (xs : List ℕ) : Type 0 where
    few : length (sources_of op ++ xs) ≤ length (operands_of op)
    alike : (k : ℕ) → k < length (sources_of op ++ xs) → get_or (sources_of op ++ xs) k 0 ≡ get_or (operands_of op) k 0

  olds_are : (whole : Bool) → Olds (old_of op whole)
  olds_are true = record {
    few = omega (arith, length-append (sources_of op) [], length-append (sources_of op) (destination_of op ∷ []));
    alike = λ k low. let inside : k < length (sources_of op) = omega (arith, low, length-append (sources_of op) []) in get_or_append_left (sources_of op) [] 0 k inside ∙ sym (get_or_append_left (sources_of op) (destination_of op ∷ []) 0 k inside);
  }
  olds_are false = record { few = omega arith; alike = λ k low. refl }

  -- it runs on what it takes
  pub loads_run : (s : State) (junk : List ℕ) → IsRunnable (shapes_of program) op (map (loaded_by (view_of program) s n junk) (loads_of (view_of program) n))
  loads_run s junk =
      let list = loads_of (view_of program) n in
      let f = loaded_by (view_of program) s n junk in
      let O = olds_are (is_whole (mapped (shape_at (shapes_of program)) op)) in
      let count : length list ≡ length (sources_of op ++ olds) = sym (length-map list (λ a. a.piece)) ∙ ap length pieces in
      let many : length (map f list) ≡ length list = length-map list f in
      record {
        operands = operands;
        fitting = is_op.1.fit;
        sources = omega (arith, many, count, length-append (sources_of op) olds);
        few = omega (arith, many, count, O.few);
        sized = λ k low.
            let inside : k < length list = omega (arith, low, many) in
            let p = get_or (operands_of op) k 0 in
            let piece : (get_or list k (access 0 (Load Host None))).piece ≡ p = sym (get_or-map (λ a. a.piece) list k (access 0 (Load Host None)) 0 inside) ∙ ap (λ l. get_or l k 0) pieces ∙ O.alike k (omega (arith, inside, count)) in
            let within : p < length (shapes_of program) = operands k 0 (omega (arith, inside, count, O.few)) in
            ap length (get_or-map f list k (access 0 (Load Host None)) [] inside)
            ∙ loaded_by_long (view_of program) s n junk (get_or list k (access 0 (Load Host None)))
            ∙ ap (λ z. bytes_of (piece_at (view_of program) z).shape) piece ∙ ap bytes_of (sym (shape_is p within));
      }

  -- the room of what it stores
  pub stores_to : Formed (view_of program) → (store_of (view_of program) n).piece ≡ destination_of op
  stores_to F =
      let c = command_stores (shapes_of program) is_op.0 op in
      let has : Has (view_of program) n c.0 = subst (λ list. At list c.0) (sym is_op.1.accesses) c.1 in
      ap (λ a. a.piece) (sym (of_change (view_of program) F n c.0 has (store_changes c.0.kind c.2.store))) ∙ c.2.piece

  pub room_is : Formed (view_of program) → replicate (store_size (view_of program) n) 0 ≡ no_old (shapes_of program) op
  room_is F =
      let dst = destination_of op in
      let last : get_or (operands_of op) (length (sources_of op)) dst ≡ dst = get_or-append_seam (sources_of op) dst [] dst in
      let within : dst < length (shapes_of program) = subst (λ z. z < length (shapes_of program)) last (operands (length (sources_of op)) dst (omega (arith, length-append (sources_of op) (dst ∷ [])))) in
      ap (λ z. replicate (bytes_of (piece_at (view_of program) z).shape) 0) (stores_to F) ∙ ap (λ z. replicate (bytes_of z) 0) (sym (shape_is dst within))
