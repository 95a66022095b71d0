-- What the nodes of a queue wait for, node by node, and where no node of a queue is ready.
use Rattle.std.proofs.Common.{◌≡◌, ◌==◌, ◌&&◌, ℕ, ◌+◌, ◌<◌, not, Bool, true, false, Option, Some, None, List, [], ◌∷◌, ◌++◌, length, refl, sym, ap, ◌∙◌, subst, ⊎_elim, arith}
use Rattle.std.proofs.lemmas.Bool.{and_parts, cases_Bool, cases_lt, false≢true, or_left}
use Rattle.std.proofs.lemmas.List.{get_or_append_left, get_or_push, length-append}
use Rattle.device_nodes.proofs.Below.{some_one}
use Rattle.device_nodes.proofs.Free.{edge_done, line_clash, met_edge, met_within}
use Rattle.device_nodes.proofs.Readiness.{NoneBelow, busy, follows, blocked_up}
use Rattle.device_nodes.specs.Internal.Blocked.{blocks_all, blocks_by_sync, is_open, Gathers}
use Rattle.device_nodes.specs.Internal.Needs.{waits_at, no_need, BlockAll, IsListed, NeedsBelow, NoLooseReady, NoneReadyFrom}
use Rattle.device_nodes.specs.Controls.{Control, counter_of, is_ready, phase_of, NoneReady}
use Rattle.device_nodes.specs.declared.blocked.Blocked.{Blocked}
use Rattle.device_nodes.specs.declared.needs.Need.{Need}
use Rattle.check_order.specs.Edges.{is_sync, meeting}
use Rattle.device_model.specs.Ready.{kind_at}
use Rattle.device_model.specs.States.{is_idle}
use Rattle.check_access.specs.Views.{View, queue_at}

-- NODE BY NODE

module _ (list : List Need) (need : Need) where
  abbrev longer : List Need
  longer = list ++ need ∷ []

  pub still_listed : (q stages : ℕ) → IsListed list q stages → IsListed longer q stages
  still_listed q stages at =
      let same = get_or_append_left list (need ∷ []) no_need at.0 at.1 in
      (at.0, (let l = length-append list (need ∷ []) in let lt = at.1 in omega (arith, l, lt)), ap (λ (z : Need). z.queue) same ∙ at.2, ap (λ (z : Need). z.stages.0) same ∙ at.3)

  pub last_listed : IsListed longer need.queue need.stages.0
  last_listed =
      let same = get_or_push list need no_need (length list) refl in
      (length list, (let l = length-append list (need ∷ []) in omega (arith, l)), ap (λ (z : Need). z.queue) same, ap (λ (z : Need). z.stages.0) same)

-- one node more
pub needs_more : (V : View) (n : ℕ) (list : List Need) → NeedsBelow V n list → IsListed list (queue_at V n) (waits_at V n) → NeedsBelow V (n + 1) list
needs_more V n list B here m lt = ⊎_elim
    (λ below. B m below)
    (λ past. let is : m ≡ n = omega (arith, past, lt) in subst (λ k. IsListed list (queue_at V k) (waits_at V k)) (sym is) here)
    (cases_lt m n)

-- WHERE NO NODE OF A QUEUE IS READY

-- a node that is not idle, or that a signal meets which is not done
module _ (c : Control) (n : ℕ) (lt : n < length c.view.nodes) where
  abbrev might : Bool
  might = is_idle (phase_of c n) && not (is_open (phase_of c) (meeting c.view.nodes (kind_at c.view n)))

  open_waits : (o : Option ℕ) → meeting c.view.nodes (kind_at c.view n) ≡ o → is_open (phase_of c) o ≡ true → is_ready c n ≡ false
  open_waits None e h = absurd (false≢true h)
  open_waits (Some x) e h = blocked_up c.view (phase_of c) (counter_of c) n (⊎_elim
      (λ t. absurd (false≢true (sym (ap not (edge_done c.view (phase_of c) n lt t x (met_within c.view.nodes (kind_at c.view n) x e) (met_edge c.view.nodes x n e))) ∙ h)))
      (λ f. f)
      (cases_Bool (follows c.view (phase_of c) (counter_of c) n)))

  pub may_not : might ≡ false → is_ready c n ≡ false
  may_not e = ⊎_elim
      (λ (idle : is_idle (phase_of c n) ≡ true). open_waits (meeting c.view.nodes (kind_at c.view n)) refl (still (is_open (phase_of c) (meeting c.view.nodes (kind_at c.view n))) (sym (ap (λ b. b && not (is_open (phase_of c) (meeting c.view.nodes (kind_at c.view n)))) idle) ∙ e)))
      (λ (busy_now : is_idle (phase_of c n) ≡ false). busy c.view (phase_of c) (counter_of c) n busy_now)
      (cases_Bool (is_idle (phase_of c n)))
    where
      still : (b : Bool) → not b ≡ false → b ≡ true
      still true h = refl
      still false h = absurd (false≢true (sym h))

-- what blocks each node that waits at some stage
pub all_waiting : (c : Control) (queue n : ℕ) (blocked : Blocked) → Gathers c.view (phase_of c) queue n blocked → BlockAll c.view queue (length c.view.nodes) blocked.by_syncs.0 → NoLooseReady c queue → NoneReadyFrom c queue n
all_waiting c queue n blocked G H none m le lt on = ⊎_elim
    (λ (loose : (waits_at c.view m == 0) ≡ true). none m lt on loose)
    (λ (some : (waits_at c.view m == 0) ≡ false).
    let below = some_one (blocks_by_sync c.view (phase_of c) queue (waits_at c.view m)) n (sym (G.by_syncs (waits_at c.view m)) ∙ H m lt on some) in
    blocked_up c.view (phase_of c) (counter_of c) m (⊎_elim
    (λ t. absurd (stuck below.0 below.1 below.2 t))
    (λ f. f)
    (cases_Bool (follows c.view (phase_of c) (counter_of c) m))))
    (cases_Bool (waits_at c.view m == 0))
  where
    stuck : (x : ℕ) → x < n → blocks_by_sync c.view (phase_of c) queue (waits_at c.view m) x ≡ true → follows c.view (phase_of c) (counter_of c) m ≡ true → ⊥
    stuck x l h t =
        let p = and_parts (is_sync (kind_at c.view x)) (blocks_all c.view (phase_of c) queue (waits_at c.view m) x) h in
        line_clash c.view (phase_of c) m lt t x (omega (arith, l, le)) (subst (λ q. blocks_all c.view (phase_of c) q (waits_at c.view m) x ≡ true) (sym on) p.1) (or_left (is_sync (kind_at c.view x)) (is_sync (kind_at c.view m)) p.0)

-- no node below n and none from it on
pub none_below_from : (c : Control) (queue n : ℕ) → NoneBelow c queue n → NoneReadyFrom c queue n → NoneReady c queue
none_below_from c queue n below from m lt on = ⊎_elim (λ l. below m l on) (λ g. from m g lt on) (cases_lt m n)
