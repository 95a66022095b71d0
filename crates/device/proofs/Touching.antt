-- What a command loads and stores is there.
use Rattle.std.proofs.Common.{◌≡◌, ℕ, ◌*◌, ◌<◌, true, List, length, map, get_or, slice_get, None, sym, ap, ◌∙◌, subst, arith}
use Rattle.std.proofs.lemmas.List.{length-map}
use Rattle.std.proofs.lemmas.Option.{slice_get-get_or}
use Rattle.device_model.proofs.Cases.{IsNumbered}
use Rattle.device_model.proofs.Formed.{Formed, has_store}
use Rattle.device_model.proofs.Programs.{commands}
use Rattle.device_model.specs.Agents.{agent_of}
use Rattle.device_model.specs.Ready.{is_command, kind_at}
use Rattle.device_model.specs.Steps.{agent_count, store_of}
use Rattle.program.specs.FirstFault.{first_fault}
use Rattle.program.specs.Obeys.{IsSmall}
use Rattle.program.specs.declared.program.Program.{Program}
use Rattle.check_access.specs.ValidView.{Has}
use Rattle.check_access.specs.Views.{View, view_of, accesses_of}
use Rattle.check_access.specs.declared.access.Access.{Access}
use Rattle.check_access.specs.declared.access.AccessKind.{AccessKind}
use Rattle.check_access.specs.declared.access.AccessKind.TheVariants.{Load, Store, Transition, Discard, Release, Acquire}

-- what stands in the list of a node's accesses
pub has_at : (V : View) (n i : ℕ) (list : List Access) (d : Access) → list ≡ accesses_of V n → i < length list → Has V n (get_or list i d)
has_at V n i list d is lt = (i, ap (λ (l : List Access). slice_get l i) (sym is) ∙ slice_get-get_or list i d lt)

below : (count : ℕ) (kind : AccessKind) → 0 < count → IsNumbered count kind → agent_of kind < count
below count (Load agent layout) some h = h.1
below count (Store agent layout) some h = h.1
below count (Transition layouts) some h = some
below count (Discard layout) some h = some
below count (Release handover) some h = some
below count (Acquire handover) some h = some

module _ (program : Program) (none : first_fault program ≡ None) (small : IsSmall program) (n : ℕ) where
  pub formed : Formed (view_of program)
  formed = (commands program none).formed

  families : length (map (λ queue. queue.family) program.queues) ≡ length program.queues
  families = length-map program.queues (λ queue. queue.family)

  pub agent_known : (a : Access) → Has (view_of program) n a → is_command (kind_at (view_of program) n) ≡ true → agent_of a.kind < 8 * length program.queues
  agent_known a has command = subst (λ k. agent_of a.kind < 8 * k) families (below (agent_count (view_of program)) a.kind (omega (arith, families, small.some_queue)) (formed.numbered n a has command))

  pub agent_small : (a : Access) → Has (view_of program) n a → is_command (kind_at (view_of program) n) ≡ true → agent_of a.kind < 32
  agent_small a has command = omega (arith, agent_known a has command, small.queues)

  pub piece_known : (a : Access) → Has (view_of program) n a → a.piece < length program.pieces
  piece_known a has = formed.shaped.known n has.0 a has.1

  pub stores_there : n < length (view_of program).nodes → is_command (kind_at (view_of program) n) ≡ true → Has (view_of program) n (store_of (view_of program) n)
  stores_there lt command = (has_store (view_of program) formed n lt command).0
