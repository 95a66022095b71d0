-- The nodes of a program that stands to a given one, and the given nodes that they stand for.
use Rattle.std.proofs.Common.{◌≡◌, ℕ, ◌<◌, true, List, length, map, Option, Some, None, sym, ap, ◌∙◌, subst}
use Rattle.std.specs.Prelude.{slice_get, option_and_then}
use Rattle.std.proofs.lemmas.List.{length-map}
use Rattle.check_program.specs.Apart.{op_in, op_at}
use Rattle.check_order.specs.Edges.{is_wait, node_at}
use Rattle.check_order.specs.Nodes.{entry_node, program_nodes}
use Rattle.check_order.specs.declared.node.Node.{Node}
use Rattle.program.specs.Entries.{Entry, entries_of}
use Rattle.program.specs.declared.program.Program.{Program}
use Rattle.law_tight.proofs.Embedded.{Embedded, embedded, within, inside}
use Rattle.law_tight.proofs.Entries.{IsWait, EntryStands, entries_thin, queue_count}
use Rattle.law_tight.proofs.Lighter.{Lighter, node_of, node_is, both_lighter, wait_node_is, wait_no_op, both_op}
use Rattle.check_tighten.specs.Standing.{StandsTo}

-- up gives the number of the given node for each node, and down the other way, but for waits that are gone
pub record Follows (given nodes : List Node) (up : ℕ → ℕ) (down : ℕ → Option ℕ) : Type 0 where
  pub rises : (m n : ℕ) → m < n → up m < up n
  pub back : (n : ℕ) → down (up n) ≡ Some n
  pub forth : (y n : ℕ) → down y ≡ Some n → up n ≡ y
  pub alike : (n : ℕ) → Lighter (node_at given (up n)) (node_at nodes n)
  pub gone : (y : ℕ) → down y ≡ None → is_wait (node_at given y).kind ≡ true
  pub within : (n : ℕ) → n < length nodes → up n < length given
  pub inside : (n : ℕ) → up n < length given → n < length nodes

-- the nodes of the program follow the given ones, and have their operations
pub record Map (given program : Program) : Type 0 where
  pub up : ℕ → ℕ
  pub down : ℕ → Option ℕ
  pub follows : Follows (program_nodes given) (program_nodes program) up down
  pub same_op : (y n : ℕ) → down y ≡ Some n → op_at program n ≡ op_at given y
  pub no_op : (y : ℕ) → down y ≡ None → op_at given y ≡ None

module _ (given program : Program) (S : StandsTo given program) where
  E : Embedded IsWait EntryStands (entries_of given) (entries_of program)
  E = embedded IsWait EntryStands (entries_of given) (entries_of program) (entries_thin given program S)

  nodes_are : program_nodes program ≡ map (entry_node (length given.queues)) (entries_of program)
  nodes_are = ap (λ count. map (entry_node count) (entries_of program)) (queue_count given program S)

  count : (entries : List Entry) → length (map (entry_node (length given.queues)) entries) ≡ length entries
  count entries = length-map entries (entry_node (length given.queues))

  follows : Follows (program_nodes given) (map (entry_node (length given.queues)) (entries_of program)) E.up E.down
  follows = record {
    rises = E.rises;
    back = E.back;
    forth = E.forth;
    alike = λ n.
        subst (λ z. Lighter z (node_at (map (entry_node (length given.queues)) (entries_of program)) n)) (sym (node_is (length given.queues) (entries_of given) (E.up n)))
        (subst (Lighter (node_of (length given.queues) (slice_get (entries_of given) (E.up n)))) (sym (node_is (length given.queues) (entries_of program) n))
        (both_lighter (length given.queues) (slice_get (entries_of given) (E.up n)) (slice_get (entries_of program) n) (E.alike n)));
    gone = λ y e. let g = E.gone y e in ap (λ (z : Node). is_wait z.kind) (node_is (length given.queues) (entries_of given) y ∙ ap (node_of (length given.queues)) g.1) ∙ wait_node_is (length given.queues) g.0 g.2;
    within = λ n lt. subst (λ z. E.up n < z) (sym (count (entries_of given))) (within IsWait EntryStands (entries_of given) (entries_of program) E n (subst (λ z. n < z) (count (entries_of program)) lt));
    inside = λ n lt. subst (λ z. n < z) (sym (count (entries_of program))) (inside IsWait EntryStands (entries_of given) (entries_of program) E n (subst (λ z. E.up n < z) (count (entries_of given)) lt));
  }

  pub map_of : Map given program
  map_of = record {
    up = E.up;
    down = E.down;
    follows = subst (λ nodes. Follows (program_nodes given) nodes E.up E.down) (sym nodes_are) follows;
    same_op = λ y n e. both_op (slice_get (entries_of given) (E.up n)) (slice_get (entries_of program) n) (E.alike n) ∙ ap (λ z. op_at given z) (E.forth y n e);
    no_op = λ y e. let g = E.gone y e in ap (option_and_then op_in) g.1 ∙ wait_no_op g.0 g.2;
  }
