-- Worked rows.
use Rattle.std.proofs.Common.{ℕ, [], ◌∷◌, refl, sym}
use Rattle.base.proofs.Booleans.{clash}
use Rattle.vk.specs.Stages.{copy, clear}
use Rattle.check_access.specs.Views.{View}
use Rattle.check_order.specs.Nodes.{node}
use Rattle.check_order.specs.declared.kind.Kind.TheVariants.{Command, Wait}
use Rattle.check_order.specs.declared.node.Node.{Node}
use Rattle.law_alike.specs.Wholly.{NodesAlike, WhollyAlike}

-- a view is as it is
itself : (V : View) → WhollyAlike V V
itself V = record {
  tied = record {
    accesses = λ n. refl;
    clash = λ a b. refl;
    edge = λ x y. refl;
    waits = λ n x stage a h e. refl;
    lets = λ y m stage b h e. refl;
    flushed = λ n x a h. (λ f. f, λ f. f);
    shown = λ m y b h. (λ s. s, λ s. s);
  };
  nodes = record { count = refl; kind = λ n. refl; queue = λ n. refl; meeting = λ kind. refl; edge = λ x y. refl };
  pieces = refl;
  imported = refl;
  families = refl;
}

-- a wait that a copy of its queue waits for, and one that it does not wait for
abbrev copies : Node
copies = node Command 0 copy copy

abbrev waits_with : ℕ → Node
waits_with stages = node (Wait 1 1) 0 0 stages

not_alike : NodesAlike (waits_with copy ∷ copies ∷ []) (waits_with clear ∷ copies ∷ []) → ⊥
not_alike h = clash (sym (h.edge 0 1))
