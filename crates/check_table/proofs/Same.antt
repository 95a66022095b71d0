-- Nodes that stand alone.
use Rattle.std.proofs.Common.{◌≡◌, inl, inr, ℕ, ◌<◌, ◌≤◌, ◌||◌, ◌&&◌, ◌==◌, nat_lt, not, Bool, List, [], Option, Some, None, refl, sym, ap, ◌∙◌, ⊎_elim, ne_eqb, arith}
use Rattle.std.proofs.lemmas.Bool.{cases_lt, le-ltb}
use Rattle.check_order.specs.Edges.{node_at, signalled, meeting, is_at, sync_edge}
use Rattle.check_order.specs.declared.node.Node.{Node}
use Rattle.base_reach.specs.Paths.{Path, one, then_on}
use Rattle.check_access.specs.Views.{View}
use Rattle.check_access_order.specs.Order as alone
use Rattle.check_table.specs.Laws.{IsSame}
use Rattle.check_table.specs.Joined.{Joined, joined, holds_back, edge, UpTo, LeavesIn, EntersIn, Dependencies}

pub stand_alone : (nodes : List Node) → Dependencies (joined nodes [])
stand_alone nodes = record {
  low = λ n. omega arith;
  its = λ n. refl;
  between = λ x m y a b e. omega (arith, a, b, e);
  queue = λ n. refl;
  alone = λ x y h e. e;
  role = λ n h. refl;
}

path_on : (f g : ℕ → ℕ → Bool) → ((x y : ℕ) → f x y ≡ g x y) → (x y : ℕ) → Path f x y → Path g x y
path_on f g e x y (one h) = one (sym (e x y) ∙ h)
path_on f g e x y (then_on {b = z} p q) = then_on (path_on f g e x z p) (path_on f g e z y q)

module _ (V : View) where
  abbrev W : Joined
  W = joined V.nodes []

  abbrev link : ℕ → ℕ → Bool
  link x y = signalled V.nodes x y || is_at (meeting V.nodes (node_at V.nodes y).kind) x

  edge_same : (x y : ℕ) → edge W x y ≡ sync_edge V.nodes x y
  edge_same x y = ap (λ t. t || link x y) (⊎_elim
      (λ (lt : x < y).
      ap (λ c. nat_lt x y && (not c && holds_back W x y)) (ne_eqb x y (λ e. omega (arith, e, lt))))
      (λ (ge : y ≤ x).
      ap (λ c. c && (not (x == y) && holds_back W x y)) (le-ltb x y ge) ∙ sym (ap (λ c. c && holds_back W x y) (le-ltb x y ge)))
      (cases_lt x y))

  up_same : (x y : ℕ) → UpTo W x y → alone.UpTo V x y
  up_same x y (inl e) = inl e
  up_same x y (inr p) = inr (path_on (edge W) (sync_edge V.nodes) edge_same x y p)

  same_up : (x y : ℕ) → alone.UpTo V x y → UpTo W x y
  same_up x y (inl e) = inl e
  same_up x y (inr p) = inr (path_on (sync_edge V.nodes) (edge W) (λ x y. sym (edge_same x y)) x y p)

  leaves_same : (o : Option ℕ) (n x : ℕ) → LeavesIn W o n x → alone.LeavesIn V.nodes o n x
  leaves_same None n x h = h
  leaves_same (Some s) n x h = h

  same_leaves : (o : Option ℕ) (n x : ℕ) → alone.LeavesIn V.nodes o n x → LeavesIn W o n x
  same_leaves None n x h = h
  same_leaves (Some s) n x h = h

  enters_same : (o : Option ℕ) (y m : ℕ) → EntersIn W o y m → alone.EntersIn V.nodes o y m
  enters_same None y m h = h
  enters_same (Some s) y m h = h

  same_enters : (o : Option ℕ) (y m : ℕ) → alone.EntersIn V.nodes o y m → EntersIn W o y m
  same_enters None y m h = h
  same_enters (Some s) y m h = h

  pub same : IsSame V
  same = record {
    before = λ x y. (λ p. path_on (edge W) (sync_edge V.nodes) edge_same x y p, λ p. path_on (sync_edge V.nodes) (edge W) (λ x y. sym (edge_same x y)) x y p);
    entered = λ x m b. (λ h. (h.0, up_same x h.0 h.1, enters_same b h.0 m h.2), λ h. (h.0, same_up x h.0 h.1, same_enters b h.0 m h.2));
    in_order = λ n m a b. (
      λ h. (h.0, h.2.0, leaves_same a n h.0 h.1, up_same h.0 h.2.0 h.2.1, enters_same b h.2.0 m h.2.2),
      λ h. (h.0, same_leaves a n h.0 h.2, (h.1, same_up h.0 h.1 h.3, same_enters b h.1 m h.4)),
    );
  }
