-- What the host reads of a program that stands to a given one, in an order of the given nodes.
use Rattle.std.proofs.Common.{◌≡◌, ℕ, List, [], ◌∷◌, map, Option, Some, None, option_map, refl, sym, ap, ap₂, ◌∙◌}
use Rattle.std.specs.List.{cons_option, filter_map}
use Rattle.std.specs.Option.{option_map_or}
use Rattle.std.specs.Prelude.{slice_get}
use Rattle.base.specs.Applied.{bytes_at, after_op}
use Rattle.check_program.specs.Apart.{first_bytes, after_node, after_nodes, apart}
use Rattle.check_order.specs.Nodes.{program_nodes}
use Rattle.check_order.specs.Orders.{Order}
use Rattle.program.specs.Rules.{shapes_of}
use Rattle.program.specs.declared.program.Program.{Program}
use Rattle.law_tight.proofs.Followed.{Map, map_of}
use Rattle.law_tight.proofs.Orders.{order_of}
use Rattle.law_tight.specs.Laws.{CanFollow}
use Rattle.check_tighten.specs.Standing.{StandsTo}

module _ (given program : Program) (S : StandsTo given program) where
  M : Map given program
  M = map_of given program S

  shapes_same : shapes_of program ≡ shapes_of given
  shapes_same = ap (map (λ piece. piece.shape)) S.pieces

  same_step : (y n : ℕ) (bytes : List (List ℕ)) → M.down y ≡ Some n → after_node program bytes n ≡ after_node given bytes y
  same_step y n bytes e = ap₂ (λ shapes op. option_map_or (after_op shapes bytes) op bytes) shapes_same (M.same_op y n e)

  no_step : (y : ℕ) (bytes : List (List ℕ)) → M.down y ≡ None → after_node given bytes y ≡ bytes
  no_step y bytes e = ap (λ op. option_map_or (after_op (shapes_of given) bytes) op bytes) (M.no_op y e)

  same_end : (order : List ℕ) (bytes : List (List ℕ)) → after_nodes program bytes (filter_map M.down order) ≡ after_nodes given bytes order
  same_end [] bytes = refl
  same_end (y ∷ order) bytes = go (M.down y) refl (same_end order)
    where
      go : (o : Option ℕ) → M.down y ≡ o → ((b : List (List ℕ)) → after_nodes program b (filter_map M.down order) ≡ after_nodes given b order) → after_nodes program bytes (cons_option o (filter_map M.down order)) ≡ after_nodes given (after_node given bytes y) order
      go None e more = more bytes ∙ ap (λ b. after_nodes given b order) (sym (no_step y bytes e))
      go (Some n) e more = more (after_node program bytes n) ∙ ap (λ b. after_nodes given b order) (same_step y n bytes e)

  begins_same : map (first_bytes program.memories) program.pieces ≡ map (first_bytes given.memories) given.pieces
  begins_same = ap₂ (λ memories pieces. map (first_bytes memories) pieces) S.memories S.pieces

  same_apart : (order : List ℕ) → apart program (filter_map M.down order) ≡ apart given order
  same_apart order = ap (λ b. after_nodes program b (filter_map M.down order)) begins_same ∙ same_end order (map (first_bytes given.memories) given.pieces)

  pub can_follow : (order : List ℕ) → Order (program_nodes given) order → CanFollow given program order
  can_follow order O = (
    filter_map M.down order,
    order_of (program_nodes given) (program_nodes program) M.up M.down M.follows order O,
    (λ k. ap₂ (λ bytes readbacks. option_map (bytes_at bytes) (slice_get readbacks k)) (same_apart order) S.readbacks),
  )
