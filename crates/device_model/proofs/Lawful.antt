-- A program without a fault gives what the law asks of it, and a sound one is sound.
use Rattle.std.proofs.Common.{◌≡◌, ℕ, suc, Bool, true, false, if◌then◌else◌, List, [], ◌∷◌, slice_get, Some, refl, sym, ap, ◌∙◌, subst}
use Rattle.std.proofs.lemmas.List.FromFn.{length-map-range_with_len}
use Rattle.law_runs.specs.Apart as apart
use Rattle.law_runs.specs.Formed.{Formed}
use Rattle.law_runs.specs.Laws.{Sound}
use Rattle.base.specs.Shapes.{bytes_of}
use Rattle.check_program.specs.Sound.{IsSound}
use Rattle.check_order.proofs.InOrder.{comes_never_back}
use Rattle.check_order.specs.Orders.{Order}
use Rattle.check_access_order.proofs.Singles.{single}
use Rattle.check_state.specs.PieceStates.{first_owner}
use Rattle.device_model.proofs.Before.{finds}
use Rattle.device_model.proofs.Cases.{IsNumbered}
use Rattle.device_model.proofs.Commands.{Commands}
use Rattle.device_model.proofs.Finding.{sound_of}
use Rattle.device_model.proofs.Formed as view
use Rattle.device_model.proofs.Stages.{two, joins}
use Rattle.device_model.proofs.SystemOf.{access_of, is_taken, picked, fit, store_size, out_of, law_of}
use Rattle.device_model.proofs.Viewed.{IsOf, OneStage, store_change, Rest, to_law, formed_of, order_of}
use Rattle.device_model.specs.Agents.{agent_at, agent_number}
use Rattle.device_model.specs.Outputs.{stored}
use Rattle.device_model.specs.Steps.{agent_count}
use Rattle.law_nodes.proofs.Whole.{same_synchronized}
use Rattle.law_nodes.specs.Synchronized.{Synchronized}
use Rattle.program.specs.declared.program.Program.{Program}
use Rattle.check_access.specs.Views.{View, view_of, accesses_of, node_accesses_of, piece_at}
use Rattle.check_access.specs.declared.access.Access.{Access}
use Rattle.check_access.specs.declared.access.AccessKind.{AccessKind}
use Rattle.check_access.specs.declared.access.AccessKind.TheVariants.{Load, Store, Transition, Discard, Release, Acquire}
use Rattle.check_access.specs.declared.access.Agent.{Agent}

number_of : (count : ℕ) (k : AccessKind) (agent : Agent) → IsNumbered count k → IsOf agent k → agent_at (agent_number agent) ≡ agent
number_of count (Load by layout) agent h e = subst (λ z. agent_at (agent_number z) ≡ z) e h.0
number_of count (Store by layout) agent h e = subst (λ z. agent_at (agent_number z) ≡ z) e h.0
number_of count (Transition layouts) agent h e = absurd e
number_of count (Discard layout) agent h e = absurd e
number_of count (Release handover) agent h e = absurd e
number_of count (Acquire handover) agent h e = absurd e

-- only the bytes of loads count
pub picked_same : (list : List Access) (f g : ℕ → List ℕ) → ((k : ℕ) (a : Access) → slice_get list k ≡ Some a → is_taken a ≡ true → f k ≡ g k) → picked list f ≡ picked list g
picked_same [] f g h = refl
picked_same (a ∷ rest) f g h = go (is_taken a) refl (picked_same rest (λ k. f (suc k)) (λ k. g (suc k)) (λ k b at t. h (suc k) b at t))
  where
    go : (b : Bool) → is_taken a ≡ b → picked rest (λ k. f (suc k)) ≡ picked rest (λ k. g (suc k)) → (if b then f 0 ∷ picked rest (λ k. f (suc k)) else picked rest (λ k. f (suc k))) ≡ (if b then g 0 ∷ picked rest (λ k. g (suc k)) else picked rest (λ k. g (suc k)))
    go true e r = ap (λ z. z ∷ picked rest (λ k. f (suc k))) (h 0 a refl e) ∙ ap (λ l. g 0 ∷ l) r
    go false e r = r

module _ (program : Program) (C : Commands program) where
  abbrev V : View
  V = view_of program

  pub one_stage : OneStage (view_of program)
  one_stage = record {
    two = two V;
    joins = joins V C.single;
    numbered = λ n a agent h cl e. number_of (agent_count V) a.kind agent (C.formed.numbered n a h cl) e;
  }

  rest : Rest (view_of program) (out_of program) C.formed.shaped one_stage
  rest = record {
    ends = C.formed.ends;
    sized = λ n k a loaded at st. length-map-range_with_len _ 0 (store_size V n) ∙ ap (λ z. bytes_of (piece_at V z.piece).shape) (sym (view.of_change V C.formed n a (k, at) (store_change V (out_of program) C.formed.shaped one_stage a.kind st)));
    by_loads = λ n k f g h. ap (λ l. fit (store_size V n) (stored program n l)) (picked_same (accesses_of V n) f g (λ j a at t. h j (access_of V n a) (to_law V (out_of program) n j a at) t));
  }

  pub law_formed : Formed (law_of program)
  law_formed = formed_of V (out_of program) C.formed.shaped one_stage rest

  pub law_order : (order : List ℕ) → Order (view_of program).nodes order → apart.Order (law_of program) order
  law_order order O = order_of V (out_of program) C.formed.shaped one_stage order O

  pub law_sound : IsSound program → Sound (law_of program)
  law_sound sound = sound_of V (out_of program) C.formed.shaped one_stage law_formed (comes_never_back V.nodes sound.0 sound.1.order_is.order)
      by_nodes sound.0 sound.1.order_is.order (first_owner V (node_accesses_of V sound.0)) (finds V C.formed sound.0 sound.1.order_is.order by_nodes sound.1.state_valid sound.1.initialized)
    where
      by_nodes : Synchronized V
      by_nodes = (same_synchronized V C.formed.shaped (single program)).0 sound.1.synchronized
