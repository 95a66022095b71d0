-- Scopes and the order of accesses together.
use Rattle.std.proofs.Common.{◌↔◌, ℕ, List}
use Rattle.law_narrow.specs.Scoped.{scoped_view}
use Rattle.check_access_order.proofs.Singles.{single}
use Rattle.law_alike.proofs.Transport.{turned, has_on, alike_synchronized, first_on}
use Rattle.law_nodes.proofs.Whole.{same_synchronized, same_first}
use Rattle.law_alike.specs.Alike.{Alike}
use Rattle.check_sync.specs.Synchronized.{Synchronized, FirstFlaw}
use Rattle.program.specs.declared.program.Program.{Program}
use Rattle.law_nodes.specs.Synchronized as by_nodes
use Rattle.check_sync.specs.declared.sync_hazard.Flaw.{Flaw}
use Rattle.check_access.specs.ValidView.{ValidView, Listed}
use Rattle.check_access.specs.Views.{View, view_of}
use Rattle.check_access.specs.declared.node_access.NodeAccess.{NodeAccess}

module _ (program : Program) (K : Alike (view_of program) (scoped_view program)) (A : ValidView (view_of program)) where
  abbrev V : View
  V = view_of program

  abbrev W : View
  W = scoped_view program

  pub synchronized_both : Synchronized W ↔ by_nodes.Synchronized V
  synchronized_both =
      let k = alike_synchronized V W K in
      let s = same_synchronized V A (single program) in
      (λ t. s.0 (k.1 t), λ t. k.0 (s.1 t))

  pub first_both : (accesses : List NodeAccess) → Listed V accesses → (i j : ℕ) (a b : NodeAccess) (flaw : Flaw) → FirstFlaw W accesses i j a b flaw ↔ by_nodes.FirstFlaw V accesses i j a b flaw
  first_both accesses L i j a b flaw =
      let s = same_first V A (single program) accesses L i j a b flaw in (
        λ f. s.0 (first_on W V (turned V W K) accesses (λ k c h. has_on V W K c.node c.access (L.has k c h)) i j a b flaw f),
        λ f. first_on V W K accesses (λ k c h. L.has k c h) i j a b flaw (s.1 f),
      )
