-- Ready nodes, and phases that are set.
use Rattle.std.proofs.Common.{◌≡◌, ℕ, ◌+◌, ◌<◌, Bool, true, false, not, ◌&&◌, ◌||◌, ◌==◌, nat_lt, List, length, get_or, slice_set, refl, sym, ap, ◌∙◌, subst, ⊎_elim, eq-eqb, eqb-true, arith}
use mathlib.Core.Path.{fun_ext}
use Rattle.std.proofs.lemmas.Bool.{cases_lt, cases_eq, false≢true, and_parts, lt-ltb, ltb-true}
use Rattle.std.proofs.lemmas.List.{get_or_past}
use Rattle.std.proofs.lemmas.Option.{slice_get_within}
use Rattle.device_nodes.proofs.Free.{signal_not_host}
use Rattle.device_nodes.proofs.Listing.{runs_on}
use Rattle.device_nodes.proofs.Lists.{set_put}
use Rattle.device_nodes.specs.Internal.Running.{Runs}
use Rattle.device_nodes.specs.Internal.Spans.{Spanned}
use Rattle.device_nodes.specs.Controls.{Control, phase_of, is_ready, IsNext, NoneReady}
use Rattle.device_nodes.specs.declared.running.Running.{Running}
use Rattle.device_nodes.specs.declared.spans.Spans.{Spans}
use Rattle.check_order.specs.Edges.{edge, is_signal}
use Rattle.device_model.proofs.Control.{done_started, put_at, put_other}
use Rattle.device_model.specs.Ready.{kind_at, each_node, reached, may_go}
use Rattle.device_model.specs.States.{is_idle, is_begun, is_done, put}
use Rattle.device_model.specs.declared.phase.Phase.{Phase}
use Rattle.device_model.specs.declared.phase.Phase.TheVariants.{Idle, Begun, Done}
use Rattle.check_access.specs.ValidView.{ValidView}
use Rattle.check_access.specs.Views.{View, queue_at}

-- PHASES

pub idle_not_begun : (p : Phase) → is_idle p ≡ true → is_begun p ≡ false
idle_not_begun Idle h = refl
idle_not_begun Begun h = absurd (false≢true h)
idle_not_begun Done h = absurd (false≢true h)

-- a list of phases with one set
module _ (phases new : List Phase) (n : ℕ) (p : Phase) (lt : n < length phases) (e : new ≡ slice_set phases n p) where
  same_phases : put (λ k. get_or phases k Idle) n p ≡ (λ k. get_or new k Idle)
  same_phases = fun_ext (λ k. sym (ap (λ l. get_or l k Idle) e ∙ set_put phases n p Idle lt k))

  pub runs_set : (nodes : ℕ) (r : Running) → Runs nodes (put (λ k. get_or phases k Idle) n p) r → Runs nodes (λ k. get_or new k Idle) r
  runs_set nodes r R = subst (λ f. Runs nodes f r) same_phases R

  pub spans_set : (V : View) (spans : Spans) → Spanned V (put (λ k. get_or phases k Idle) n p) spans → Spanned V (λ k. get_or new k Idle) spans
  spans_set V spans S = subst (λ f. Spanned V f spans) same_phases S

  -- a node that is not begun is done
  pub runs_done : (nodes : ℕ) (r : Running) → p ≡ Done → is_begun (get_or phases n Idle) ≡ false → Runs nodes (λ k. get_or phases k Idle) r → Runs nodes (λ k. get_or new k Idle) r
  runs_done nodes r done none R = runs_set nodes r (runs_on nodes (λ k. get_or phases k Idle) r R (put (λ k. get_or phases k Idle) n p)
      (λ x. ⊎_elim
      (λ (s : x ≡ n). ap is_begun (put_at (λ k. get_or phases k Idle) n x p s ∙ done) ∙ sym (ap (λ k. is_begun (get_or phases k Idle)) s ∙ none))
      (λ (s : x ≡ n → ⊥). ap is_begun (put_other (λ k. get_or phases k Idle) n x p s))
      (cases_eq x n)))

-- one that is begun is there
pub begun_within : (phases : List Phase) (n : ℕ) → is_begun (get_or phases n Idle) ≡ true → n < length phases
begun_within phases n h = ⊎_elim (λ lt. lt) (λ ge. absurd (false≢true (sym (ap is_begun (get_or_past phases n Idle ge)) ∙ h))) (cases_lt n (length phases))

-- where node n stands, by whether it is idle and what it follows is done
module _ (V : View) (phase : ℕ → Phase) (counter : ℕ → ℕ) (n : ℕ) where
  abbrev pub follows : Bool
  follows = each_node V (λ x. not (edge V.nodes x n) || is_done (phase x))

  fails_second : (a b c : Bool) → b ≡ false → (a && (b && c)) ≡ false
  fails_second true b c e = ap (λ z. z && c) e
  fails_second false b c e = refl

  fails_third : (a b c d : Bool) → c ≡ false → (a && (b && (c && d))) ≡ false
  fails_third true true c d e = ap (λ z. z && d) e
  fails_third true false c d e = refl
  fails_third false b c d e = refl

  pub busy : is_idle (phase n) ≡ false → may_go V phase counter n ≡ false
  busy e = fails_second (nat_lt n (length V.nodes)) (is_idle (phase n)) (follows && reached (kind_at V n) counter) e

  pub blocked_up : follows ≡ false → may_go V phase counter n ≡ false
  blocked_up e = fails_third (nat_lt n (length V.nodes)) (is_idle (phase n)) follows (reached (kind_at V n) counter) e

  pub waits_only : n < length V.nodes → is_idle (phase n) ≡ true → follows ≡ true → may_go V phase counter n ≡ reached (kind_at V n) counter
  waits_only lt idle done =
      ap (λ z. z && (is_idle (phase n) && (follows && reached (kind_at V n) counter))) (lt-ltb n (length V.nodes) lt)
      ∙ ap (λ z. z && (follows && reached (kind_at V n) counter)) idle ∙ ap (λ z. z && reached (kind_at V n) counter) done

-- READY NODES

module _ (c : Control) (n : ℕ) where
  pub ready_within : is_ready c n ≡ true → n < length c.view.nodes
  ready_within h = ltb-true n (length c.view.nodes) (first (nat_lt n (length c.view.nodes)) (is_idle (phase_of c n)) _ h)
    where
      first : (a b d : Bool) → (a && (b && d)) ≡ true → a ≡ true
      first a b d h = (and_parts a (b && d) h).0

  pub ready_idle : is_ready c n ≡ true → is_idle (phase_of c n) ≡ true
  ready_idle h = second (nat_lt n (length c.view.nodes)) (is_idle (phase_of c n)) _ h
    where
      second : (a b d : Bool) → (a && (b && d)) ≡ true → b ≡ true
      second a b d h = (and_parts b d (and_parts a (b && d) h).1).0

  pub done_not_ready : is_done (phase_of c n) ≡ true → is_ready c n ≡ false
  done_not_ready h = none (nat_lt n (length c.view.nodes)) (is_idle (phase_of c n)) _ (done_started (phase_of c n) h)
    where
      none : (a b d : Bool) → b ≡ false → (a && (b && d)) ≡ false
      none true b d e = ap (λ z. z && d) e
      none false b d e = refl

-- THE NEXT NODE OF A QUEUE

-- no node of the queue below n is ready
abbrev pub NoneBelow : Control → ℕ → ℕ → Type 0
NoneBelow c queue n = (k : ℕ) → k < n → queue_at c.view k ≡ queue → is_ready c k ≡ false

module _ (c : Control) (queue n : ℕ) where
  pub none_first : ((x : ℕ) → x < n → queue_at c.view x ≡ queue → is_done (phase_of c x) ≡ true) → NoneBelow c queue n
  none_first done k lt on = done_not_ready c k (done k lt on)

  pub none_more : NoneBelow c queue n → ((queue_at c.view n ≡ queue) → is_ready c n ≡ false) → NoneBelow c queue (n + 1)
  none_more h e k lt on = ⊎_elim
      (λ l. h k l on)
      (λ g. let same : k ≡ n = omega (arith, lt, g) in ap (is_ready c) same ∙ e (ap (queue_at c.view) (sym same) ∙ on))
      (cases_lt k n)

  -- by the test of the queue's next node
  pub next_not : ((queue_at c.view n == queue) && is_ready c n) ≡ false → queue_at c.view n ≡ queue → is_ready c n ≡ false
  next_not e on = sym (ap (λ b. b && is_ready c n) (eq-eqb (queue_at c.view n) queue on)) ∙ e

  pub next_here : NoneBelow c queue n → ((queue_at c.view n == queue) && is_ready c n) ≡ true → IsNext c queue n
  next_here h e = let p = and_parts (queue_at c.view n == queue) (is_ready c n) e in record { on = eqb-true (queue_at c.view n) queue p.0; may = p.1; least = h }

  pub none_at_all : NoneBelow c queue n → ((k : ℕ) → k < length c.view.nodes → queue_at c.view k ≡ queue → k < n) → NoneReady c queue
  none_at_all h all k lt on = h k (all k lt on) on

-- TIMELINES

-- a signal has a queue
pub signal_within : (V : View) → ValidView V → (n : ℕ) → n < length V.nodes → is_signal (kind_at V n) ≡ true → queue_at V n < length V.families
signal_within V S n lt s = let f = S.family n lt (signal_not_host (kind_at V n) s) in slice_get_within V.families (queue_at V n) f.0 f.1
