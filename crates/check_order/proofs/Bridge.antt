-- Fronts and orders, and walks that take one node after another.
use Rattle.std.proofs.Common.{◌≡◌, ◌⊎◌, inl, inr, ℕ, ◌+◌, ◌<◌, ◌≤◌, Bool, true, false, ◌||◌, ◌&&◌, ◌==◌, nat_lt, not, Option, Some, None, List, [], ◌∷◌, ◌++◌, length, refl, sym, ap, ◌∙◌, subst, ⊎_elim, eq-eqb, ne_eqb, eqb-true, cond, arith}
use Rattle.std.proofs.lemmas.Bool.{cases_Bool, false≢true, and_parts, and_from, or_cases, or_left, or_right, lt-ltb, ltb-true}
use Rattle.std.specs.List.{range_with_len}
use Rattle.std.specs.Option.{is_none}
use Rattle.base.proofs.Absence.{some_same}
use Rattle.vk.specs.Sets.{meets}
use Rattle.check_order.specs.Edges.{is_wait, is_host, is_signal, is_sync, is_at, holds_back, next_signal, meeting, node_at, goes_to, signalled, edge}
use Rattle.check_order.specs.Orders.{Among, Distinct, before_in, Earlier, is_queued, InTurn, Front, Order, IsLeast, IsStuck}
use Rattle.check_order.specs.Internal.Queues.{Lined, queues_of}
use Rattle.check_order.specs.declared.kind.Kind.{Kind}
use Rattle.check_order.specs.declared.kind.Kind.TheVariants.{Command, Barrier, Wait, Signal, Host}
use Rattle.check_order.specs.declared.node.Node.{Node}
use Rattle.base.proofs.Booleans.{clash}
use Rattle.check_order.proofs.Hosts.{Wider, drain-whole, none-all}
use Rattle.check_order.proofs.Queues.{needs_of}
use Rattle.check_order.proofs.Steps.{Needs, add, nothing, Available, Walk, Greedy, placed_by, Whole, WholeWalk, NoWalk, placed-in, placed-split, walk-earlier, walk-once, walk-met, walk-small}

-- what stands before the first of a list that n is not in
past : (done rest : List ℕ) (n : ℕ) → (Among n done → ⊥) → before_in (done ++ n ∷ rest) n ≡ done
past [] rest n out = ap (λ t. cond t [] (n ∷ before_in rest n)) (eq-eqb n n refl)
past (x ∷ done) rest n out = ap (λ t. cond t [] (x ∷ before_in (done ++ n ∷ rest) n)) (ne_eqb x n (λ e. out (inl (sym e)))) ∙ ap (λ l. x ∷ l) (past done rest n (λ h. out (inr h)))

pub among_right : (done rest : List ℕ) (n : ℕ) → Among n rest → Among n (done ++ rest)
among_right [] rest n h = h
among_right (x ∷ done) rest n h = inr (among_right done rest n h)

-- in a list without repeats the first of the rest is not among what stands before
fresh_first : (done rest : List ℕ) (n : ℕ) → Distinct (done ++ n ∷ rest) → Among n done → ⊥
fresh_first [] rest n d h = h
fresh_first (x ∷ done) rest n d h = ⊎_elim (λ e. d.0 (subst (λ z. Among z (done ++ n ∷ rest)) e (among_right done (n ∷ rest) n (inl refl)))) (λ e. fresh_first done rest n d.1 e) h

shift : (done rest : List ℕ) (n : ℕ) → done ++ n ∷ rest ≡ (done ++ n ∷ []) ++ rest
shift [] rest n = refl
shift (x ∷ done) rest n = ap (λ l. x ∷ l) (shift done rest n)

placed_push : (done : List ℕ) (p : ℕ → Bool) (n : ℕ) → placed_by p (done ++ n ∷ []) ≡ add (placed_by p done) n
placed_push [] p n = refl
placed_push (x ∷ done) p n = placed_push done (add p x) n

not_placed : (done : List ℕ) (n : ℕ) → (Among n done → ⊥) → placed_by nothing done n ≡ false
not_placed done n out = ⊎_elim (λ e. absurd (⊎_elim (λ f. false≢true f) (λ h. out h) (placed-split done nothing n e))) (λ e. e) (cases_Bool (placed_by nothing done n))

-- a list that keeps to what is needed is a walk
module _ (N : Needs) (list : List ℕ) (once : Distinct list) (fit : (n : ℕ) → Among n list → (n < N.count) × (N.never n ≡ false)) (after : (x n : ℕ) → Among n list → N.needs x n ≡ true → Earlier list x n) where
  walk_on : (done rest : List ℕ) → list ≡ done ++ rest → Walk N (placed_by nothing done) rest
  walk_on done [] is = tt
  walk_on done (n ∷ rest) is = (here, subst (λ p. Walk N p rest) (placed_push done nothing n) (walk_on (done ++ n ∷ []) rest (is ∙ shift done rest n)))
    where
      there : Among n list
      there = subst (λ l. Among n l) (sym is) (among_right done (n ∷ rest) n (inl refl))

      out : Among n done → ⊥
      out h = fresh_first done rest n (subst (λ l. Distinct l) is once) h

      here : Available N (placed_by nothing done) n
      here = record {
        small = (fit n there).0;
        fresh = not_placed done n out;
        met = (fit n there).1;
        after = λ x h. placed-in done nothing x (subst (λ l. Among x l) (ap (λ l. before_in l n) is ∙ past done rest n out) (after x n there h));
      }

  pub to_walk : Walk N nothing list
  to_walk = walk_on [] list refl

is_some : (o : Option ℕ) → is_none o ≡ false → (x : ℕ) × (o ≡ Some x)
is_some None e = absurd (false≢true (sym e))
is_some (Some x) e = (x, refl)

pub is_same : (o : Option ℕ) (x : ℕ) → is_at o x ≡ true → o ≡ Some x
is_same None x e = absurd (clash e)
is_same (Some y) x e = ap (λ z. Some z) (eqb-true y x e)

pub at_it : (o : Option ℕ) (x : ℕ) → o ≡ Some x → is_at o x ≡ true
at_it o x e = ap (λ z. is_at z x) e ∙ eq-eqb x x refl

pub never_false : (w : Bool) (o : Option ℕ) → (w ≡ true → (x : ℕ) × (o ≡ Some x)) → (w && is_none o) ≡ false
never_false false o f = refl
never_false true o f = let t = f refl in ap (λ z. is_none z) t.1

pub met_wait : (nodes : List Node) (kind : Kind) (x : ℕ) → meeting nodes kind ≡ Some x → is_wait kind ≡ true
met_wait nodes Command x e = absurd cc
met_wait nodes Barrier x e = absurd cc
met_wait nodes (Wait queue value) x e = refl
met_wait nodes (Signal value) x e = absurd cc
met_wait nodes Host x e = absurd cc

abbrev pub all_needs : List Node → List ℕ → ℕ → Needs
all_needs nodes starts count = record {
  count = length nodes;
  needs = λ x n. edge nodes x n || (is_queued nodes n && (needs_of (queues_of nodes starts) count).needs x n);
  never = λ n. is_wait (node_at nodes n).kind && is_none (meeting nodes (node_at nodes n).kind);
}

pub signal_sync : (kind : Kind) → is_signal kind ≡ true → is_sync kind ≡ true
signal_sync (Signal value) h = refl
signal_sync Command h = absurd (clash h)
signal_sync Barrier h = absurd (clash h)
signal_sync (Wait queue value) h = absurd (clash h)
signal_sync Host h = absurd (clash h)

pub wait_sync : (kind : Kind) → is_wait kind ≡ true → is_sync kind ≡ true
wait_sync (Wait queue value) h = refl
wait_sync Command h = absurd (clash h)
wait_sync Barrier h = absurd (clash h)
wait_sync (Signal value) h = absurd (clash h)
wait_sync Host h = absurd (clash h)

-- a direct edge, case by case
abbrev pub EdgeCase : List Node → ℕ → ℕ → Type 0
EdgeCase nodes x y =
    ((x < y) × (holds_back (node_at nodes x) (node_at nodes y) ≡ true))
    ⊎ (((is_signal (node_at nodes x).kind ≡ true) × (next_signal nodes x ≡ Some y))
    ⊎ ((meeting nodes (node_at nodes y).kind ≡ Some x)
    ⊎ ((is_host (node_at nodes y).kind ≡ true) × (is_signal (node_at nodes x).kind ≡ true))))

signal_cases : (nodes : List Node) (x y : ℕ) (signal : Bool) (next : Option ℕ) → (signal && goes_to nodes y next) ≡ true → ((signal ≡ true) × (next ≡ Some y)) ⊎ ((is_host (node_at nodes y).kind ≡ true) × (signal ≡ true))
signal_cases nodes x y signal (Some n) h = let p = and_parts signal (n == y) h in inl (p.0, ap (λ z. Some z) (eqb-true n y p.1))
signal_cases nodes x y signal None h = let p = and_parts signal (is_host (node_at nodes y).kind) h in inr (p.1, p.0)

pub edge_cases : (nodes : List Node) (x y : ℕ) → edge nodes x y ≡ true → EdgeCase nodes x y
edge_cases nodes x y h = ⊎_elim
    (λ a. let p = and_parts (nat_lt x y) (holds_back (node_at nodes x) (node_at nodes y)) a in inl (ltb-true x y p.0, p.1))
    (λ a. inr (⊎_elim
    (λ b. ⊎_elim (λ c. inl c) (λ c. inr (inr c)) (signal_cases nodes x y (is_signal (node_at nodes x).kind) (next_signal nodes x) b))
    (λ b. inr (inl (is_same (meeting nodes (node_at nodes y).kind) x b)))
    (or_cases (signalled nodes x y) (is_at (meeting nodes (node_at nodes y).kind) x) a)))
    (or_cases (nat_lt x y && holds_back (node_at nodes x) (node_at nodes y)) (signalled nodes x y || is_at (meeting nodes (node_at nodes y).kind) x) h)

-- a wait and the signal that meets it
pub meets_edge : (nodes : List Node) (x y : ℕ) → meeting nodes (node_at nodes y).kind ≡ Some x → edge nodes x y ≡ true
meets_edge nodes x y e =
    or_right (nat_lt x y && holds_back (node_at nodes x) (node_at nodes y)) (signalled nodes x y || is_at (meeting nodes (node_at nodes y).kind) x)
    (or_right (signalled nodes x y) (is_at (meeting nodes (node_at nodes y).kind) x) (at_it (meeting nodes (node_at nodes y).kind) x e))

module _ (nodes : List Node) (starts : List ℕ) (queues count : ℕ) (L : Lined nodes starts queues count) where
  abbrev N : Needs
  N = needs_of (queues_of nodes starts) count

  abbrev M : Needs
  M = all_needs nodes starts count

  abbrev met : ℕ → Option ℕ
  met n = meeting nodes (node_at nodes n).kind

  queued_small : (n : ℕ) → is_queued nodes n ≡ true → n < count
  queued_small n h = ltb-true n count (sym (L.queued n) ∙ h)

  small_queued : (n : ℕ) → n < count → is_queued nodes n ≡ true
  small_queued n lt = L.queued n ∙ lt-ltb n count lt

  not_host : (n : ℕ) → n < count → is_host (node_at nodes n).kind ≡ true → ⊥
  not_host n lt h =
      let p = and_parts (nat_lt n (length nodes)) (not (is_host (node_at nodes n).kind)) (small_queued n lt) in
      clash (sym (ap (λ t. not t) h) ∙ p.1)

  turns : (W : Needs) → ((x n : ℕ) → is_queued nodes n ≡ true → x < n → (node_at nodes x).queue ≡ (node_at nodes n).queue → W.needs x n ≡ true) → ((x n : ℕ) → met n ≡ Some x → W.needs x n ≡ true) → ((n : ℕ) → W.never n ≡ (is_wait (node_at nodes n).kind && is_none (met n))) → (list : List ℕ) → Walk W nothing list → InTurn nodes list
  turns W line tied never list w = record {
    queue = λ x n h q lt same. earlier x n h (line x n q lt same);
    met = λ n h k.
        let s = is_some (met n) (sym (ap (λ t. t && is_none (met n)) k) ∙ sym (never n) ∙ walk-met W nothing list w n h) in
        (s.0, s.1, earlier s.0 n h (tied s.0 n s.1));
  }
    where
      earlier : (x n : ℕ) → Among n list → W.needs x n ≡ true → Earlier list x n
      earlier x n h k = ⊎_elim (λ e. absurd (false≢true e)) (λ e. e) (walk-earlier W nothing list w x n h k).1

  line : (x n : ℕ) → x < n → (node_at nodes x).queue ≡ (node_at nodes n).queue → N.needs x n ≡ true
  line x n lt same = or_left (((node_at nodes x).queue == (node_at nodes n).queue) && nat_lt x n) (is_at (met n) x) (and_from ((node_at nodes x).queue == (node_at nodes n).queue) (nat_lt x n) (eq-eqb (node_at nodes x).queue (node_at nodes n).queue same) (lt-ltb x n lt))

  tied : (x n : ℕ) → met n ≡ Some x → N.needs x n ≡ true
  tied x n e = or_right (((node_at nodes x).queue == (node_at nodes n).queue) && nat_lt x n) (is_at (met n) x) (at_it (met n) x e)

  pub front : (list : List ℕ) → Walk N nothing list → Front nodes list
  front list w = record {
    once = walk-once N nothing list w;
    queued = λ n h. small_queued n (walk-small N nothing list w n h);
    turns = turns N (λ x n q lt same. line x n lt same) tied (λ n. refl) list w;
  }

  met_earlier : (list : List ℕ) → InTurn nodes list → (x n : ℕ) → Among n list → met n ≡ Some x → Earlier list x n
  met_earlier list T x n h e = let t = T.met n h (met_wait nodes (node_at nodes n).kind x e) in subst (λ z. Earlier list z n) (some_same (sym t.1 ∙ e)) t.2

  never : (list : List ℕ) → InTurn nodes list → (n : ℕ) → Among n list → (is_wait (node_at nodes n).kind && is_none (met n)) ≡ false
  never list T n h = never_false (is_wait (node_at nodes n).kind) (met n) (λ k. let t = T.met n h k in (t.0, t.1))

  kept : (list : List ℕ) → InTurn nodes list → (x n : ℕ) → Among n list → is_queued nodes n ≡ true → N.needs x n ≡ true → Earlier list x n
  kept list T x n h q k = ⊎_elim
      (λ a. let p = and_parts ((node_at nodes x).queue == (node_at nodes n).queue) (nat_lt x n) a in T.queue x n h q (ltb-true x n p.1) (eqb-true (node_at nodes x).queue (node_at nodes n).queue p.0))
      (λ a. met_earlier list T x n h (is_same (met n) x a))
      (or_cases (((node_at nodes x).queue == (node_at nodes n).queue) && nat_lt x n) (is_at (met n) x) k)

  pub unfront : (list : List ℕ) → Front nodes list → Walk N nothing list
  unfront list F = to_walk N list F.once (λ n h. (queued_small n (F.queued n h), never list F.turns n h)) (λ x n h k. kept list F.turns x n h (F.queued n h) k)

  tied_all : (x n : ℕ) → met n ≡ Some x → M.needs x n ≡ true
  tied_all x n e = or_left (edge nodes x n) (is_queued nodes n && N.needs x n) (meets_edge nodes x n e)

  pub order : (list : List ℕ) → WholeWalk M list → Order nodes list
  order list w = record {
    once = walk-once M nothing list w.walk;
    all = λ n lt. ⊎_elim (λ e. absurd (false≢true e)) (λ e. e) (placed-split list nothing n (w.whole n lt));
    only = λ n h. walk-small M nothing list w.walk n h;
    turns = turns M (λ x n q lt same. or_right (edge nodes x n) (is_queued nodes n && N.needs x n) (and_from (is_queued nodes n) (N.needs x n) q (line x n lt same))) tied_all (λ n. refl) list w.walk;
    forward = λ x n h e. ⊎_elim (λ k. absurd (false≢true k)) (λ k. k) (walk-earlier M nothing list w.walk x n h (or_left (edge nodes x n) (is_queued nodes n && N.needs x n) e)).1;
  }

  pub unorder : (list : List ℕ) → Order nodes list → WholeWalk M list
  unorder list O = record {
    walk = to_walk M list O.once (λ n h. (O.only n h, never list O.turns n h)) (λ x n h k. ⊎_elim
        (λ a. O.forward x n h a)
        (λ a. let p = and_parts (is_queued nodes n) (N.needs x n) a in kept list O.turns x n h p.0 p.1)
        (or_cases (edge nodes x n) (is_queued nodes n && N.needs x n) k));
    whole = λ n lt. placed-in list nothing n (O.all n lt);
  }

  edge_needs : (x n : ℕ) → n < count → edge nodes x n ≡ true → N.needs x n ≡ true
  edge_needs x n lt e = go (edge_cases nodes x n e)
    where
      go : EdgeCase nodes x n → N.needs x n ≡ true
      go (inl a) = line x n a.0 (eqb-true (node_at nodes x).queue (node_at nodes n).queue (and_parts ((node_at nodes x).queue == (node_at nodes n).queue) ((is_sync (node_at nodes x).kind || is_sync (node_at nodes n).kind) && meets (node_at nodes x).dst_stages.0 (node_at nodes n).src_stages.0) a.1).0)
      go (inr (inl a)) = let t = L.next x n a.1 in line x n t.0 t.1
      go (inr (inr (inl a))) = tied x n a
      go (inr (inr (inr a))) = absurd (not_host n lt a.0)

  edge_low : (x n : ℕ) → edge nodes x n ≡ true → x < count
  edge_low x n e = go (edge_cases nodes x n e)
    where
      go : EdgeCase nodes x n → x < count
      go (inl a) =
          let p = and_parts ((node_at nodes x).queue == (node_at nodes n).queue) ((is_sync (node_at nodes x).kind || is_sync (node_at nodes n).kind) && meets (node_at nodes x).dst_stages.0 (node_at nodes n).src_stages.0) a.1 in
          let s = (and_parts (is_sync (node_at nodes x).kind || is_sync (node_at nodes n).kind) (meets (node_at nodes x).dst_stages.0 (node_at nodes n).src_stages.0) p.1).0 in
          ⊎_elim (λ h. L.within x h) (λ h. let l = L.within n h in omega (arith, a.0, l)) (or_cases (is_sync (node_at nodes x).kind) (is_sync (node_at nodes n).kind) s)
      go (inr (inl a)) = L.within x (signal_sync (node_at nodes x).kind a.0)
      go (inr (inr (inl a))) = L.numbered.meets n x a
      go (inr (inr (inr a))) = L.within x (signal_sync (node_at nodes x).kind a.1)

  needs_low : (x n : ℕ) → n < count → N.needs x n ≡ true → x < count
  needs_low x n lt k = ⊎_elim
      (λ a. let l = ltb-true x n (and_parts ((node_at nodes x).queue == (node_at nodes n).queue) (nat_lt x n) a).1 in omega (arith, l, lt))
      (λ a. L.numbered.meets n x (is_same (met n) x a))
      (or_cases (((node_at nodes x).queue == (node_at nodes n).queue) && nat_lt x n) (is_at (met n) x) k)

  same_or : (a b : Bool) → (a ≡ true → b ≡ true) → (a || (true && b)) ≡ b
  same_or false b f = refl
  same_or true b f = sym (f refl)

  pub wider : Wider N M
  wider = record {
    fewer = L.fewer;
    same = λ x n lt. ap (λ t. edge nodes x n || (t && N.needs x n)) (small_queued n lt) ∙ same_or (edge nodes x n) (N.needs x n) (edge_needs x n lt);
    never = λ n lt. refl;
    free = λ n ge. ap (λ t. t && is_none (met n)) (idle n ge);
    low = λ x n k. ⊎_elim (λ a. edge_low x n a) (λ a. let p = and_parts (is_queued nodes n) (N.needs x n) a in needs_low x n (queued_small n p.0) p.1) (or_cases (edge nodes x n) (is_queued nodes n && N.needs x n) k);
  }
    where
      idle : (n : ℕ) → count ≤ n → is_wait (node_at nodes n).kind ≡ false
      idle n ge = ⊎_elim (λ h. let l = L.within n (wait_sync (node_at nodes n).kind h) in absurd (omega (arith, l, ge))) (λ h. h) (cases_Bool (is_wait (node_at nodes n).kind))

  -- the least order of all nodes, from a whole greedy list of the nodes of queues
  pub least : (list : List ℕ) (m : ℕ) → count + m ≡ length nodes → Greedy N nothing list → Whole N nothing list → IsLeast nodes (list ++ range_with_len count m)
  least list m e g w = let d = drain-whole N M wider list m e g w in record { order = order (list ++ range_with_len count m) d.order; least = λ other o. d.least other (unorder other o) }

  pub stuck : (q n : ℕ) → NoWalk N n → (node_at nodes n).queue ≡ q → IsStuck nodes q n
  stuck q n S e = record {
    none = λ other o. none-all N M wider n S other (unorder other o);
    queue = e;
    queued = small_queued n S.small;
    in_none = λ list F h. S.in_none list (unfront list F) h;
    below = λ x lt. let t = S.below x lt in (t.0, front t.0 t.1, t.2);
  }
