-- What the table of the order tells of a view's accesses.
use Rattle.std.proofs.Common.{◌≡◌, ◌↔◌, ℕ, Bool, true, false, [], Option, Some, None, IfSome, sym, ap, ◌∙◌, subst, ⊎_elim}
use Rattle.std.proofs.lemmas.Bool.{cases_Bool}
use Rattle.vk.specs.declared.stages.Stages.{Stages}
use Rattle.check_order.specs.Edges.{node_at}
use Rattle.check_order.specs.Nodes.{program_nodes}
use Rattle.program.specs.declared.program.Program.{Program}
use Rattle.check_access.specs.ValidView.{ValidView, Has}
use Rattle.check_access.specs.Views.{View, view_of}
use Rattle.check_access.specs.declared.access.Access.{Access}
use Rattle.check_access.specs.declared.node_access.NodeAccess.{NodeAccess}
use Rattle.check_access_order.proofs.NodeKinds.{no_command}
use Rattle.check_access_order.proofs.Sites.{barrier_stage}
use Rattle.check_access_order.specs.Edges.{is_command}
use Rattle.check_access_order.specs.Order as alone
use Rattle.check_access_order.specs.Order.{EnteredFrom}
use Rattle.check_access_order.specs.Stages.{stage_of, IsStage}
use Rattle.check_sync.specs.Synchronized.{Ordered}
use Rattle.check_table.specs.Joined.{Joined, joined, Before}
use Rattle.check_table.specs.Laws.{IsSame}
use Rattle.check_table.specs.Programs.{TableOf}
use Rattle.check_table.specs.Tables.{IsFilled, IsOrderTable, IsMade, bits, Tells, TellsEntered, TellsOrder}
use Rattle.check_table.specs.declared.table.OrderTable.{OrderTable}

-- the stage in which an access is made
pub record StageOf (a : NodeAccess) (stage : Option Stages) : Type 0 where
  pub its : bits stage ≡ stage_of a.access.kind
  pub one : IfSome stage (λ s. IsStage s.0)

-- what is made in a stage is made by a command
pub by_command : (V : View) (n : ℕ) (a : Access) (stage : ℕ) → ValidView V → Has V n a → stage_of a.kind ≡ Some stage → is_command (node_at V.nodes n).kind ≡ true
by_command V n a stage S (i, h) e = ⊎_elim
    (λ t. t)
    (λ f. ⊎_elim
    (λ sync. absurd (none (sym (barrier_stage a.kind (S.sync n i a h sync)) ∙ e)))
    (λ host. absurd (none (sym (ap (λ k. stage_of k) (S.host n i a h host)) ∙ e)))
    (no_command (node_at V.nodes n).kind f))
    (cases_Bool (is_command (node_at V.nodes n).kind))
  where
    none : None ≡ Some stage → ⊥
    none z = absurd cc

module _ (V : View) (table : OrderTable) (T : TableOf V table) (same : IsSame V) where
  abbrev W : Joined
  W = joined V.nodes []

  pub before : (answer : Bool) (x y : ℕ) → Tells table answer (λ W. Before W x y) → (answer ≡ true) ↔ alone.Before V x y
  before answer x y h =
      let t = h W T.order in
      let s = same.before x y in
      (λ e. s.0 (t.0 e), λ p. t.1 (s.1 p))

  made : ValidView V → (a : NodeAccess) (stage : Option Stages) → Has V a.node a.access → StageOf a stage → IsMade W a.node (bits stage)
  made S a None H A = tt
  made S a (Some stage) H A = (A.one, by_command V a.node a.access stage.0 S H (sym A.its))

  pub entered : ValidView V → (answer : Bool) (x : ℕ) (b : NodeAccess) (stage : Option Stages) → Has V b.node b.access → StageOf b stage → TellsEntered table answer x b.node (bits stage) → (answer ≡ true) ↔ EnteredFrom V x b
  entered S answer x b stage H B h =
      let t = h W T.order (made S b stage H B) in
      let s = same.entered x b.node (bits stage) in
      subst (λ o. (answer ≡ true) ↔ ((y : ℕ) × alone.UpTo V x y × alone.EntersIn V.nodes o y b.node)) B.its (λ e. s.0 (t.0 e), λ p. t.1 (s.1 p))

  pub in_order : ValidView V → (answer : Bool) (a b : NodeAccess) (first second : Option Stages) → Has V a.node a.access → Has V b.node b.access → StageOf a first → StageOf b second → TellsOrder table answer a.node (bits first) b.node (bits second) → (answer ≡ true) ↔ Ordered V a b
  in_order S answer a b first second H G A B h =
      let t = h W T.order (made S a first H A) (made S b second G B) in
      let s = same.in_order a.node b.node (bits first) (bits second) in
      subst (λ o. (answer ≡ true) ↔ ((x : ℕ) × (y : ℕ) × alone.LeavesIn V.nodes o a.node x × alone.UpTo V x y × alone.EntersIn V.nodes (stage_of b.access.kind) y b.node)) A.its
      (subst (λ o. (answer ≡ true) ↔ ((x : ℕ) × (y : ℕ) × alone.LeavesIn V.nodes (bits first) a.node x × alone.UpTo V x y × alone.EntersIn V.nodes o y b.node)) B.its (λ e. s.0 (t.0 e), λ p. t.1 (s.1 p)))

-- the table of a program's order, by what `program_table` says
pub table_in : (P : Program) (V : View) (table : OrderTable) → V ≡ view_of P → IsFilled table → IsOrderTable (joined (program_nodes P) []) table → TableOf V table
table_in P V table same filled order = subst (λ W. TableOf W table) (sym same) (record { filled = filled; order = order })
