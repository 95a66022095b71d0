-- What has the facts of a plan is sound.
use Rattle.std.proofs.Common.{ℕ, List}
use Rattle.law_nodes.specs.Sound.{SoundByNodes}
use Rattle.law_plan.proofs.Layouts.{laid_at}
use Rattle.law_plan.proofs.Loads.{initialized_at}
use Rattle.law_plan.proofs.OwnersFound.{owner_at}
use Rattle.law_plan.proofs.Transfers.{match_at}
use Rattle.law_plan.proofs.Synchronizing.{local_synchronized}
use Rattle.law_plan.specs.Facts.{Facts}
use Rattle.law_plan.specs.Nodes.{Nodes}
use Rattle.law_plan.specs.Plans.{Plan}
use Rattle.check_order.specs.Laws.{IsAsymmetric, IsIrreflexive}
use Rattle.check_order.specs.Orders.{IsLeast, Order}
use Rattle.law_nodes.specs.Synchronized.{Synchronized}
use Rattle.check_access.specs.ValidView.{ValidView}
use Rattle.check_access.specs.Views.{View}

pub facts_sound : (F : Plan) (V : View) (N : Nodes) → IsIrreflexive V.nodes → IsAsymmetric V.nodes → ValidView V → Facts F V N → (order : List ℕ) → IsLeast V.nodes order → SoundByNodes V order
facts_sound F V N I A S R order L = record {
  order_is = L;
  synchronized = T;
  state_valid = λ j a at. record {
    layout = laid_at F V N R.full R.local S R.laid order O I A T j a at;
    owner = owner_at F V N R.full R.local S R.owned R.handed T order O I A j a at;
    match = match_at F V N R.full R.local S R.handed T order O I A j a at;
  };
  initialized = λ j a at. initialized_at F V N R.full R.local S R.laid R.changed (I order O) order O I A T j a at;
}
  where
    O : Order V.nodes order
    O = L.order

    T : Synchronized V
    T = local_synchronized F V N R.full R.local (I order O)
