-- By which nodes accesses are made.
use Rattle.std.proofs.Common.{◌≡◌, ◌⊎◌, inl, inr, ℕ, ◌<◌, Bool, true, false, length, slice_get, Some, None, refl, subst, ⊎_elim}
use Rattle.std.proofs.lemmas.Bool.{cases_lt}
use Rattle.std.proofs.lemmas.List.{get_or_past}
use Rattle.base.proofs.Booleans.{clash}
use Rattle.check_order.specs.Edges.{is_sync, is_host}
use Rattle.check_access.specs.Effects.{no_effect}
use Rattle.check_access.specs.ValidView.{ValidView, IsByBarrier, Has}
use Rattle.check_access.specs.Views.{View}
use Rattle.check_access.specs.declared.access.Access.{Access}
use Rattle.check_access.specs.declared.access.Agent.TheVariants as agent
use Rattle.check_access.specs.declared.access.AccessKind.{AccessKind}
use Rattle.check_access.specs.declared.access.AccessKind.TheVariants.{Load, Store, Transition, Discard, Release, Acquire}
use Rattle.check_access_order.proofs.NodeKinds.{is_the_command, no_command}
use Rattle.check_access_order.proofs.Ways.{at, commands}
use Rattle.check_access_order.specs.Single.{Single}
use Rattle.check_access_order.specs.Stages.{stage_of}

-- what has accesses is a node
pub has_within : (V : View) (n : ℕ) (a : Access) → ValidView V → Has V n a → n < length V.nodes
has_within V n a S (i, h) = ⊎_elim
    (λ lt. subst (λ m. n < m) S.effects lt)
    (λ past. absurd (none (subst (λ u. slice_get u.accesses i ≡ Some a) (get_or_past V.effects n no_effect past) h)))
    (cases_lt n (length V.effects))
  where
    none : None ≡ Some a → ⊥
    none e = absurd cc

-- what a barrier does is in no stage
pub barrier_stage : (kind : AccessKind) → IsByBarrier kind → stage_of kind ≡ None
barrier_stage (Load by layout) h = absurd (⊎_elim (λ e. clash e) (λ e. clash e) h)
barrier_stage (Store by layout) h = absurd (⊎_elim (λ e. clash e) (λ e. clash e) h)
barrier_stage (Transition layouts) h = refl
barrier_stage (Discard layout) h = refl
barrier_stage (Release handover) h = refl
barrier_stage (Acquire handover) h = refl

module _ (V : View) where
  pub record ByCommand (n : ℕ) (kind : AccessKind) : Type 0 where
    pub node : commands V n ≡ true
    pub stage : stage_of kind ≡ Some (at V n).dst_stages.0
    pub same : (at V n).src_stages.0 ≡ (at V n).dst_stages.0

  pub record ByBarrier (n : ℕ) (kind : AccessKind) : Type 0 where
    pub node : is_sync (at V n).kind ≡ true
    pub barrier : IsByBarrier kind

  pub record ByHost (n : ℕ) (kind : AccessKind) : Type 0 where
    pub node : is_host (at V n).kind ≡ true
    pub read : kind ≡ Load agent.Host None

  abbrev pub Site : ℕ → AccessKind → Type 0
  Site n kind = ByCommand n kind ⊎ (ByBarrier n kind ⊎ ByHost n kind)

  pub site : ValidView V → Single V → (n : ℕ) (a : Access) → Has V n a → Site n a.kind
  site A S n a h = go (commands V n) refl
    where
      go : (c : Bool) → commands V n ≡ c → Site n a.kind
      go true e =
          let C = S.command n (has_within V n a A h) (is_the_command (at V n).kind e) in
          inl (record { node = e; stage = C.accesses a h; same = C.same })
      go false e = ⊎_elim
          (λ s. inr (inl (record { node = s; barrier = A.sync n h.0 a h.1 s })))
          (λ s. inr (inr (record { node = s; read = A.host n h.0 a h.1 s })))
          (no_command (at V n).kind e)
