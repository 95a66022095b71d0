-- Order goes on through an access, since that is in one stage.
use Rattle.std.proofs.Common.{◌≡◌, inl, inr, ℕ, ◌^◌, ◌==◌, true, Option, Some, None, sym, ap, ◌∙◌, subst, not, arith}
use Rattle.std.specs.Int.Bits.{and_zero_r}
use Rattle.base.proofs.Booleans.{clash}
use Rattle.vk.specs.Sets.{meets}
use Rattle.base_reach.specs.Paths.{one}
use Rattle.check_access.specs.Views.{View}
use Rattle.check_access_order.proofs.NodeKinds.{meets_by}
use Rattle.check_access_order.proofs.Ways.{at, held_new, waits, lets, up_to_on}
use Rattle.check_access_order.specs.Laws.{GoesThrough, CutsOff}
use Rattle.check_access_order.specs.Order.{UpTo, LeavesIn, EntersIn}
use Rattle.check_access_order.proofs.StagesOf.{IsSome, stage_one}
use Rattle.check_access_order.specs.Stages.{stage_of, IsStage}

module _ (V : View) where
  none : (a : ℕ) → meets a 0 ≡ true → ⊥
  none a m = clash (sym (ap (λ t. not (t == 0)) (and_zero_r a)) ∙ m)

  -- what enters a stage is before what waits for it
  joined : (stage y k x : ℕ) → IsStage stage → EntersIn V.nodes (Some stage) y k → LeavesIn V.nodes (Some stage) k x → UpTo V y x
  joined stage y k x (inl z) e l = absurd (none (at V y).dst_stages.0 (subst (λ s. meets (at V y).dst_stages.0 s ≡ true) z (lets V stage y k e).meet))
  joined stage y k x (inr (bit, z)) e l =
      let p = lets V stage y k e in
      let q = waits V stage k x l in
      inr (one (held_new V y x (record {
        rising = omega (arith, p.rising, q.rising);
        queue = p.queue ∙ q.queue;
        meet = meets_by (at V y).dst_stages.0 (at V x).src_stages.0 bit (subst (λ s. meets (at V y).dst_stages.0 s ≡ true) z p.meet) (subst (λ s. meets s (at V x).src_stages.0 ≡ true) z q.meet);
      }) p.sync q.sync))

  pub join : (o : Option ℕ) (y k x : ℕ) → IsSome o → EntersIn V.nodes o y k → LeavesIn V.nodes o k x → UpTo V y x
  join None y k x s e l = inl (e ∙ l)
  join (Some stage) y k x s e l = joined stage y k x s e l

  pub goes_through : GoesThrough V
  goes_through n k m a c b (x, y, l, u, e) (z, w, f, v, g) =
      (x, w, l, up_to_on V x y w u (up_to_on V y z w (join (stage_of c.kind) y k z (stage_one c.kind) e f) v), g)

  pub cuts_off : CutsOff V
  cuts_off bit n x z h t g lt =
      let p = waits V (2 ^ bit) n x h in
      let q = waits V (2 ^ bit) n z g in
      inr (one (held_new V x z (record {
        rising = lt;
        queue = sym p.queue ∙ q.queue;
        meet = meets_by (at V x).dst_stages.0 (at V z).src_stages.0 bit t q.meet;
      }) p.sync q.sync))
