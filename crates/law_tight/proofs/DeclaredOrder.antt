-- An order that has the commands as they were declared is left where waits are left out.
use Rattle.std.proofs.Common.{◌≡◌, ℕ, Bool, List, [], ◌∷◌, Option, Some, None, refl, sym, ap, ap₂, ◌∙◌}
use Rattle.std.specs.List.{cons_option, filter_map}
use Rattle.base.specs.declared.op.Op.{Op}
use Rattle.check_program.specs.Apart.{op_at}
use Rattle.check_order.specs.Nodes.{program_nodes}
use Rattle.frame.specs.Numbered.{NumberedFrame}
use Rattle.law_meaning.specs.Declared.{ops_in}
use Rattle.law_meaning.specs.DeclaredLaws.{HasDeclaredOrder}
use Rattle.program.specs.declared.program.Program.{Program}
use Rattle.law_tight.proofs.Followed.{Map, map_of}
use Rattle.law_tight.proofs.Orders.{order_of}
use Rattle.check_tighten.specs.Standing.{StandsTo}

module _ (given program : Program) (S : StandsTo given program) where
  M : Map given program
  M = map_of given program S

  same_ops : (order : List ℕ) → ops_in program (filter_map M.down order) ≡ ops_in given order
  same_ops [] = refl
  same_ops (y ∷ order) = go (M.down y) refl (same_ops order)
    where
      go : (o : Option ℕ) → M.down y ≡ o → ops_in program (filter_map M.down order) ≡ ops_in given order → ops_in program (cons_option o (filter_map M.down order)) ≡ cons_option (op_at given y) (ops_in given order)
      go None e more = more ∙ ap (λ (op : Option (Op ℕ)). cons_option op (ops_in given order)) (sym (M.no_op y e))
      go (Some n) e more = ap₂ (λ (op : Option (Op ℕ)) (ops : List (Op ℕ)). cons_option op ops) (M.same_op y n e) more

  pub declared_order : (frame : NumberedFrame) (kept : List Bool) → HasDeclaredOrder frame kept given → HasDeclaredOrder frame kept program
  declared_order frame kept has = (
    filter_map M.down has.0,
    record {
      order_is = order_of (program_nodes given) (program_nodes program) M.up M.down M.follows has.0 has.1.order_is;
      declared = same_ops has.0 ∙ has.1.declared;
    },
  )
