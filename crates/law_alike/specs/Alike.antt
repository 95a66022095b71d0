-- Two views that order the same accesses, and pass on the same: their nodes may have other stages.
use Rattle.std.specs.Prelude.{◌≡◌, ◌↔◌, ℕ, Some}
use Rattle.check_access.specs.ValidView.{Has}
use Rattle.check_access.specs.Views.{View, accesses_of, clash}
use Rattle.check_access.specs.declared.access.Access.{Access}
use Rattle.check_order.specs.Edges.{sync_edge}
use Rattle.check_access_order.specs.Edges.{waits_for, lets_in}
use Rattle.check_access_order.specs.Passing.{FlushedBy, ShownBy}
use Rattle.check_access_order.specs.Stages.{stage_of}

pub record Alike (V W : View) : Type 0 where
  pub accesses : (n : ℕ) → accesses_of V n ≡ accesses_of W n
  pub clash : (a b : Access) → clash V a b ≡ clash W a b
  pub edge : (x y : ℕ) → sync_edge V.nodes x y ≡ sync_edge W.nodes x y
  pub waits : (n x stage : ℕ) (a : Access) → Has V n a → stage_of a.kind ≡ Some stage → waits_for V.nodes stage n x ≡ waits_for W.nodes stage n x
  pub lets : (y m stage : ℕ) (b : Access) → Has V m b → stage_of b.kind ≡ Some stage → lets_in V.nodes stage y m ≡ lets_in W.nodes stage y m
  pub flushed : (n x : ℕ) (a : Access) → Has V n a → FlushedBy a.kind V a.piece x ↔ FlushedBy a.kind W a.piece x
  pub shown : (m y : ℕ) (b : Access) → Has V m b → ShownBy b.kind V b.piece y ↔ ShownBy b.kind W b.piece y
