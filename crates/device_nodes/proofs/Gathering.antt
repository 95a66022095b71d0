-- What is blocked after one node more.
use Rattle.std.proofs.Common.{◌≡◌, ℕ, ◌+◌, ◌<◌, Bool, true, false, not, ◌&&◌, ◌||◌, ◌==◌, Option, Some, None, bit_or, refl, sym, ap, ◌∙◌, ⊎_elim, eq-eqb, eqb-true, if◌then◌else◌}
use Rattle.std.proofs.lemmas.Bool.{cases_Bool, and_parts}
use Rattle.std.specs.Int.Bits.{and_zero_l}
use Rattle.std.proofs.Math.Bool.{and-false}
use Rattle.vk.specs.Sets.{meets}
use Rattle.device_nodes.proofs.Below.{none_below, some_more, last_at, last_more}
use Rattle.device_nodes.proofs.Bits.{meets_either}
use Rattle.device_nodes.specs.Internal.Blocked.{some_below, is_open, blocks_all, blocks_by_sync, signal_below, Gathers}
use Rattle.device_nodes.specs.declared.blocked.Blocked.{Blocked}
use Rattle.check_order.specs.Edges.{is_signal, is_sync, signals, node_at}
use Rattle.check_order.specs.declared.node.Node.{Node}
use Rattle.device_model.specs.Ready.{kind_at}
use Rattle.device_model.specs.States.{is_done}
use Rattle.device_model.specs.declared.phase.Phase.{Phase}
use Rattle.check_access.specs.Views.{View, queue_at}

or_turned : (a b : Bool) → (a || b) ≡ (b || a)
or_turned true true = refl
or_turned true false = refl
or_turned false true = refl
or_turned false false = refl

more_bits : (old dst s new : ℕ) (t rest : Bool) → new ≡ (if t then bit_or old dst else old) → meets old s ≡ rest → meets new s ≡ ((t && meets dst s) || rest)
more_bits old dst s new true rest e h = ap (λ z. meets z s) e ∙ meets_either old dst s ∙ or_turned (meets old s) (meets dst s) ∙ ap (λ z. meets dst s || z) h
more_bits old dst s new false rest e h = ap (λ z. meets z s) e ∙ h

-- of a node of the queue
on_all : (b d m : Bool) → b ≡ true → ((b && not d) && m) ≡ (not d && m)
on_all b d m e = ap (λ z. (z && not d) && m) e

on_sync : (s b d m : Bool) → b ≡ true → (s && ((b && not d) && m)) ≡ ((not d && s) && m)
on_sync s b d m e = ap (λ z. s && ((z && not d) && m)) e ∙ turned s d m
  where
    turned : (s d m : Bool) → (s && (not d && m)) ≡ ((not d && s) && m)
    turned true true m = refl
    turned true false m = refl
    turned false true m = refl
    turned false false m = refl

off_all : (b d m : Bool) → b ≡ false → ((b && not d) && m) ≡ false
off_all b d m e = ap (λ z. (z && not d) && m) e

off_sync : (s b d m : Bool) → b ≡ false → (s && ((b && not d) && m)) ≡ false
off_sync s b d m e = ap (λ z. s && ((z && not d) && m)) e ∙ and-false s

module _ (V : View) (phase : ℕ → Phase) (q n : ℕ) (blocked : Blocked) (G : Gathers V phase q n blocked) where
  abbrev at : Node
  at = node_at V.nodes n

  abbrev test : ℕ → Bool
  test x = signals q (node_at V.nodes x)

  -- a node of another queue
  pub passed_by : (queue_at V n == q) ≡ false → Gathers V phase q (n + 1) blocked
  passed_by e = record {
    by_syncs = λ s. G.by_syncs s ∙ sym (some_more (blocks_by_sync V phase q s) n ∙ ap (λ z. z || some_below (blocks_by_sync V phase q s) n) (off_sync (is_sync at.kind) (queue_at V n == q) (is_done (phase n)) (meets at.dst_stages.0 s) e));
    by_all = λ s. G.by_all s ∙ sym (some_more (blocks_all V phase q s) n ∙ ap (λ z. z || some_below (blocks_all V phase q s) n) (off_all (queue_at V n == q) (is_done (phase n)) (meets at.dst_stages.0 s) e));
    signal = G.signal ∙ ap (is_open phase) (sym (last_more test n ∙ ap (λ z. if z && is_signal at.kind then Some n else signal_below V q n) e));
  }

  -- a node of the queue
  pub gathered : (new : Blocked) → queue_at V n ≡ q
      → new.by_syncs.0 ≡ (if not (is_done (phase n)) && is_sync at.kind then bit_or blocked.by_syncs.0 at.dst_stages.0 else blocked.by_syncs.0)
      → new.by_all.0 ≡ (if not (is_done (phase n)) then bit_or blocked.by_all.0 at.dst_stages.0 else blocked.by_all.0)
      → new.signal ≡ (if is_signal at.kind then not (is_done (phase n)) else blocked.signal)
      → Gathers V phase q (n + 1) new
  gathered new on syncs all signal =
      let e = eq-eqb (queue_at V n) q on in
      record {
        by_syncs = λ s. more_bits blocked.by_syncs.0 at.dst_stages.0 s new.by_syncs.0 (not (is_done (phase n)) && is_sync at.kind) (some_below (blocks_by_sync V phase q s) n) syncs (G.by_syncs s)
            ∙ ap (λ z. z || some_below (blocks_by_sync V phase q s) n) (sym (on_sync (is_sync at.kind) (queue_at V n == q) (is_done (phase n)) (meets at.dst_stages.0 s) e))
            ∙ sym (some_more (blocks_by_sync V phase q s) n);
        by_all = λ s. more_bits blocked.by_all.0 at.dst_stages.0 s new.by_all.0 (not (is_done (phase n))) (some_below (blocks_all V phase q s) n) all (G.by_all s)
            ∙ ap (λ z. z || some_below (blocks_all V phase q s) n) (sym (on_all (queue_at V n == q) (is_done (phase n)) (meets at.dst_stages.0 s) e))
            ∙ sym (some_more (blocks_all V phase q s) n);
        signal = signal ∙ last (is_signal at.kind) refl ∙ ap (is_open phase) (sym (last_more test n ∙ ap (λ z. if z && is_signal at.kind then Some n else signal_below V q n) e));
      }
    where
      last : (b : Bool) → is_signal at.kind ≡ b → (if b then not (is_done (phase n)) else blocked.signal) ≡ is_open phase (if is_signal at.kind then Some n else signal_below V q n)
      last true e = ap (λ z. is_open phase (if z then Some n else signal_below V q n)) (sym e)
      last false e = G.signal ∙ ap (λ z. is_open phase (if z then Some n else signal_below V q n)) (sym e)

  -- by the node itself, and whether it is done
  pub gathered_by : (new : Blocked) (node : Node) (done : Bool) → node ≡ at → done ≡ is_done (phase n) → node.queue ≡ q
      → new.by_syncs.0 ≡ (if not done && is_sync node.kind then bit_or blocked.by_syncs.0 node.dst_stages.0 else blocked.by_syncs.0)
      → new.by_all.0 ≡ (if not done then bit_or blocked.by_all.0 node.dst_stages.0 else blocked.by_all.0)
      → new.signal ≡ (if is_signal node.kind then not done else blocked.signal)
      → Gathers V phase q (n + 1) new
  gathered_by new node done same_node same_done on syncs all signal = gathered new
      (ap (λ z. z.queue) (sym same_node) ∙ on)
      (syncs ∙ ap (λ d. if not d && is_sync node.kind then bit_or blocked.by_syncs.0 node.dst_stages.0 else blocked.by_syncs.0) same_done ∙ ap (λ z. if not (is_done (phase n)) && is_sync z.kind then bit_or blocked.by_syncs.0 z.dst_stages.0 else blocked.by_syncs.0) same_node)
      (all ∙ ap (λ d. if not d then bit_or blocked.by_all.0 node.dst_stages.0 else blocked.by_all.0) same_done ∙ ap (λ z. if not (is_done (phase n)) then bit_or blocked.by_all.0 z.dst_stages.0 else blocked.by_all.0) same_node)
      (signal ∙ ap (λ d. if is_signal node.kind then not d else blocked.signal) same_done ∙ ap (λ z. if is_signal z.kind then not (is_done (phase n)) else blocked.signal) same_node)

-- where all nodes of the queue below are done
module _ (V : View) (phase : ℕ → Phase) (q n : ℕ) (done : (x : ℕ) → x < n → queue_at V x ≡ q → is_done (phase x) ≡ true) where
  none_open : (x : ℕ) → x < n → ((queue_at V x == q) && not (is_done (phase x))) ≡ false
  none_open x lt = ⊎_elim
      (λ e. ap (λ z. (queue_at V x == q) && not z) (done x lt (eqb-true (queue_at V x) q e)) ∙ and-false (queue_at V x == q))
      (λ e. ap (λ z. z && not (is_done (phase x))) e)
      (cases_Bool (queue_at V x == q))

  last_done : (o : Option ℕ) → signal_below V q n ≡ o → false ≡ is_open phase o
  last_done None e = refl
  last_done (Some x) e =
      let last = last_at (λ y. signals q (node_at V.nodes y)) n x e in
      let p = and_parts (queue_at V x == q) (is_signal (kind_at V x)) last.passes in
      sym (ap not (done x last.below (eqb-true (queue_at V x) q p.0)))

  pub nothing_blocked : (blocked : Blocked) → blocked.by_syncs.0 ≡ 0 → blocked.by_all.0 ≡ 0 → blocked.signal ≡ false → Gathers V phase q n blocked
  nothing_blocked blocked syncs all signal = record {
    by_syncs = λ s. ap (λ z. meets z s) syncs ∙ ap (λ z. not (z == 0)) (and_zero_l s) ∙ sym (none_below (blocks_by_sync V phase q s) n (λ x lt. ap (λ z. is_sync (kind_at V x) && (z && meets (node_at V.nodes x).dst_stages.0 s)) (none_open x lt) ∙ and-false (is_sync (kind_at V x))));
    by_all = λ s. ap (λ z. meets z s) all ∙ ap (λ z. not (z == 0)) (and_zero_l s) ∙ sym (none_below (blocks_all V phase q s) n (λ x lt. ap (λ z. z && meets (node_at V.nodes x).dst_stages.0 s) (none_open x lt)));
    signal = signal ∙ last_done (signal_below V q n) refl;
  }
