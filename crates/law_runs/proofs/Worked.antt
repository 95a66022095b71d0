-- A program that the law speaks of: an action stores to a buffer, and to a depth image twice, the first store superseded; a
-- signal makes all that available; the host reads the image.
use Rattle.std.proofs.Common.{◌≡◌, ◌≢◌, ◌⊎◌, inl, inr, ℕ, zero, suc, ◌+◌, ◌<◌, ◌==◌, ◌&&◌, ◌||◌, nat_lt, Bool, true, false, if◌then◌else◌, List, [], ◌∷◌, slice_get, Option, Some, None, refl, sym, ap, ◌∙◌, subst, ⊎_elim, eq-eqb, eqb-true, arith}
use Rattle.std.proofs.lemmas.Bool.{cases_Bool, false≢true, and_parts}
use Rattle.law_runs.proofs.Absence.{some_same}
use Rattle.law_runs.proofs.Shared.{covers_place}
use Rattle.law_runs.proofs.Simulation.{simulated}
use Rattle.law_runs.specs.Apart.{Among, Earlier, Order}
use Rattle.law_runs.specs.Formed.{Formed}
use Rattle.law_runs.specs.Found.{InitializedBy}
use Rattle.law_runs.specs.Laws.{Sound}
use Rattle.device_cache.specs.Lines.{Bytes}
use Rattle.law_runs.specs.Orders.{one, Before, Passed, Synchronized}
use Rattle.law_runs.specs.Runs.{reads, Run}
use Rattle.law_runs.specs.States.{State, opened}
use Rattle.law_runs.specs.Systems.{Doing, Store, Superseded, Read, Access, System, At, Has, covers, is_load, is_long, is_store, is_superseded, loads, changes, sets_layout, sets_owner}

abbrev access : ℕ → ℕ → Doing → Bool → Access
access piece agent doing alone = record { piece = piece; agent = agent; doing = doing; alone = alone; wants = None; lays = None; hands = None }

abbrev buffer : Access
buffer = access 0 0 Store false

abbrev early : Access
early = access 1 1 Superseded false

abbrev late : Access
late = access 1 2 Store true

abbrev read : Access
read = access 1 0 Read false

abbrev accesses : ℕ → List Access
accesses zero = buffer ∷ early ∷ late ∷ []
accesses (suc zero) = []
accesses (suc (suc zero)) = read ∷ []
accesses n = []

abbrev is_action : ℕ → Bool
is_action zero = true
is_action (suc n) = false

abbrev S : System
S = record {
  count = 3;
  is_command = is_action;
  accesses = accesses;
  range = λ p. record { memory = p; start = 0; len = 1 };
  edge = λ x y. (x == 1) && (y == 2);
  leaves = λ n a x. if is_action n then x == 1 else n == x;
  enters = λ y n a. if is_action n then false else n == y;
  flushes = λ n g m i. n == 1;
  shows = λ n g m i. false;
  contents = λ p. false;
  clash = λ a b. a.piece == b.piece;
  family = λ n. None;
  needs_owner = λ n a. false;
  exclusive = λ p. false;
  first_layout = λ p. 0;
  first_owner = λ p. None;
  out = λ n loaded k. (7 + k) ∷ [];
}

-- four accesses there are
each : (P : ℕ → Access → Type 0) → P 0 buffer → P 0 early → P 0 late → P 2 read → (n : ℕ) (a : Access) → Has S n a → P n a
each P b e l r n a h = go n h.0 h.1
  where
    none : (k : ℕ) → slice_get [] k ≡ Some a → ⊥
    none k q = cc

    go : (n k : ℕ) → slice_get (accesses n) k ≡ Some a → P n a
    go zero zero q = subst (P 0) (some_same q) b
    go zero (suc zero) q = subst (P 0) (some_same q) e
    go zero (suc (suc zero)) q = subst (P 0) (some_same q) l
    go zero (suc (suc (suc k))) q = absurd (none k q)
    go (suc zero) k q = absurd (none k q)
    go (suc (suc zero)) zero q = subst (P 2) (some_same q) r
    go (suc (suc zero)) (suc k) q = absurd (none k q)
    go (suc (suc (suc n))) k q = absurd (none k q)

no_action : (x : ℕ) → (x == 1) ≡ true → is_action x ≡ false
no_action x e = ap is_action (eqb-true x 1 e)

same_piece : (p q m i : ℕ) → covers S p m i ≡ true → covers S q m i ≡ true → p ≡ q
same_piece p q m i h k = (covers_place S p m i h).0 ∙ sym (covers_place S q m i k).0

leaves_sync : (n x : ℕ) → (if is_action n then x == 1 else n == x) ≡ true → is_action x ≡ false
leaves_sync zero x h = no_action x h
leaves_sync (suc n) x h = ap is_action (sym (eqb-true (suc n) x h))

enters_sync : (y n : ℕ) → (if is_action n then false else n == y) ≡ true → is_action y ≡ false
enters_sync y zero h = absurd (false≢true h)
enters_sync y (suc n) h = ap is_action (sym (eqb-true (suc n) y h))

leaves_itself : (n x : ℕ) → is_action n ≡ false → (if is_action n then x == 1 else n == x) ≡ true → x ≡ n
leaves_itself zero x s h = absurd (false≢true (sym s))
leaves_itself (suc n) x s h = sym (eqb-true (suc n) x h)

enters_itself : (y n : ℕ) → is_action n ≡ false → (if is_action n then false else n == y) ≡ true → y ≡ n
enters_itself y zero s h = absurd (false≢true (sym s))
enters_itself y (suc n) s h = sym (eqb-true (suc n) y h)

abbrev Both : (ℕ → Access → ℕ → Access → Type 0) → Type 0
Both P = (n m : ℕ) (a b : Access) → Has S n a → Has S m b → P n a m b

-- pairs of accesses
pairs : (P : ℕ → Access → ℕ → Access → Type 0) → P 0 buffer 0 buffer → P 0 buffer 0 early → P 0 buffer 0 late → P 0 buffer 2 read → P 0 early 0 buffer → P 0 early 0 early → P 0 early 0 late → P 0 early 2 read → P 0 late 0 buffer → P 0 late 0 early → P 0 late 0 late → P 0 late 2 read → P 2 read 0 buffer → P 2 read 0 early → P 2 read 0 late → P 2 read 2 read → Both P
pairs P bb be bl br eb ee el er lb le ll lr rb re rl rr n m a b h k =
    each (λ n a. P n a m b)
    (each (λ m b. P 0 buffer m b) bb be bl br m b k)
    (each (λ m b. P 0 early m b) eb ee el er m b k)
    (each (λ m b. P 0 late m b) lb le ll lr m b k)
    (each (λ m b. P 2 read m b) rb re rl rr m b k) n a h

formed : Formed S
formed = record {
  within = each (λ n a. n < 3) (omega arith) (omega arith) (omega arith) (omega arith);
  of_command = each (λ n a. is_action n ≡ true → (is_load a.doing || is_long a.doing) ≡ true) (λ e. refl) (λ e. refl) (λ e. refl) (λ e. absurd (false≢true e));
  of_sync = each (λ n a. is_action n ≡ false → (is_load a.doing || is_long a.doing) ≡ false) (λ e. absurd (false≢true (sym e))) (λ e. absurd (false≢true (sym e))) (λ e. absurd (false≢true (sym e))) (λ e. refl);
  holds_back = λ x y e. no_action x (and_parts (x == 1) (y == 2) e).0;
  held_back = λ x y e. ap is_action (eqb-true y 2 (and_parts (x == 1) (y == 2) e).1);
  leaves_to = λ n a x h. leaves_sync n x h;
  enters_from = λ y n a h. enters_sync y n h;
  flushes_by = λ n g m i e. no_action n e;
  shows_by = λ n g m i e. absurd (false≢true e);
  leaves_self = λ n a x s h. leaves_itself n x s h;
  enters_self = λ y n a s h. enters_itself y n s h;
  one = λ n c d m i h k cc cd ac ad. pairs (λ n c v d. changes c.doing ≡ true → changes d.doing ≡ true → c.piece ≡ d.piece → c ≡ d)
      (λ p q e. refl) (λ p q e. absurd (false≢true q)) (λ p q e. absurd (omega (arith, e))) (λ p q e. absurd (false≢true q))
      (λ p q e. absurd (false≢true p)) (λ p q e. absurd (false≢true p)) (λ p q e. absurd (false≢true p)) (λ p q e. absurd (false≢true p))
      (λ p q e. absurd (omega (arith, e))) (λ p q e. absurd (false≢true q)) (λ p q e. refl) (λ p q e. absurd (false≢true q))
      (λ p q e. absurd (false≢true p)) (λ p q e. absurd (false≢true p)) (λ p q e. absurd (false≢true p)) (λ p q e. absurd (false≢true p))
      n n c d h k cc cd (same_piece c.piece d.piece m i ac ad);
  clash_back = λ a b e. eq-eqb b.piece a.piece (sym (eqb-true a.piece b.piece e));
  superseded = each (λ n a. is_superseded a.doing ≡ true → (t : Access) × Has S n t × (is_store t.doing ≡ true) × ((x : ℕ) → S.leaves n t x ≡ true → S.leaves n a x ≡ true) × ((b : Access) → S.clash a b ≡ true → S.clash t b ≡ true))
      (λ e. absurd (false≢true e)) (λ e. (late, (2, refl), refl, (λ x h. h), (λ b h. h))) (λ e. absurd (false≢true e)) (λ e. absurd (false≢true e));
  one_place = places;
  sized = λ n k c loaded at st. refl;
  by_loads = λ n k f g h. refl;
  lays_sync = λ n a h e. each (λ n a. sets_layout a ≡ true → is_action n ≡ false) (λ q. absurd (false≢true q)) (λ q. absurd (false≢true q)) (λ q. absurd (false≢true q)) (λ q. absurd (false≢true q)) n a h e;
  hands_sync = λ n a h e. each (λ n a. sets_owner a ≡ true → is_action n ≡ false) (λ q. absurd (false≢true q)) (λ q. absurd (false≢true q)) (λ q. absurd (false≢true q)) (λ q. absurd (false≢true q)) n a h e;
  one_lays = λ n a b h k e. absurd (each (λ n a. sets_layout a ≡ true → ⊥) false≢true false≢true false≢true false≢true n a h e);
  one_hands = λ n a b h k e. absurd (each (λ n a. sets_owner a ≡ true → ⊥) false≢true false≢true false≢true false≢true n a h e);
  clash_lays = λ v n a b h k e q. eq-eqb a.piece b.piece q;
  clash_hands = λ v n a b h k e q. eq-eqb a.piece b.piece q;
  needs_exclusive = λ n a e. absurd (false≢true e);
  some = λ n a h. omega arith;
  reads_alone = pairs_alone;
  ends = λ n y a h r e. each (λ n a. reads a.doing ≡ true → (n == 1) ≡ true → ⊥) (λ q z. false≢true q) (λ q z. false≢true q) (λ q z. false≢true q) (λ q z. false≢true z) n a h r (and_parts (n == 1) (y == 2) e).0;
  enters_none = λ n v a c h r ne e. ne (sym (enters_itself n v (⊎_elim (λ q. absurd (false≢true (sym (ap (λ z. if z then false else v == n) q) ∙ e))) (λ q. q) (cases_Bool (is_action v))) e));
  clash_change = λ a b m i c h k. eq-eqb a.piece b.piece (same_piece a.piece b.piece m i h k);
  clash_long = λ a b l o. (and_parts (a.piece == b.piece) (nat_lt 0 1 && nat_lt 0 1) o).0;
  alone_store = each (λ n b. b.alone ≡ true → is_store b.doing ≡ true) (λ e. refl) (λ e. absurd (false≢true e)) (λ e. refl) (λ e. absurd (false≢true e));
  beside = each (λ n b. b.alone ≡ true → (e : Access) × Has S n e × (is_long e.doing ≡ true) × (e.piece ≡ b.piece) × (e.alone ≡ false)) (λ e. absurd (false≢true e)) (λ e. absurd (false≢true e)) (λ e. (early, (1, refl), refl, refl, refl)) (λ e. absurd (false≢true e));
}
  where
    places : (n k j : ℕ) (c d : Access) → At S n k c → At S n j d → is_store c.doing ≡ true → is_store d.doing ≡ true → c.piece ≡ d.piece → k ≡ j
    places n k j c d h g s t e = by n k h s ∙ ap (λ z. z + z) e ∙ sym (by n j g t)
      where
        no : (k : ℕ) (c : Access) → slice_get [] k ≡ Some c → ⊥
        no k c q = cc

        -- a store to piece p stands at place 2 p
        by : (n k : ℕ) {c : Access} → slice_get (accesses n) k ≡ Some c → is_store c.doing ≡ true → k ≡ c.piece + c.piece
        by zero zero q s = ap (λ z. z.piece + z.piece) (some_same q)
        by zero (suc zero) q s = absurd (false≢true (ap (λ z. is_store z.doing) (some_same q) ∙ s))
        by zero (suc (suc zero)) q s = ap (λ z. z.piece + z.piece) (some_same q)
        by zero (suc (suc (suc k))) {c = c} q s = absurd (no k c q)
        by (suc zero) k {c = c} q s = absurd (no k c q)
        by (suc (suc zero)) zero q s = absurd (false≢true (ap (λ z. is_store z.doing) (some_same q) ∙ s))
        by (suc (suc zero)) (suc k) {c = c} q s = absurd (no k c q)
        by (suc (suc (suc n))) k {c = c} q s = absurd (no k c q)

    pairs_alone : (n : ℕ) (a b : Access) → Has S n a → Has S n b → reads a.doing ≡ true → changes b.doing ≡ true → ⊥
    pairs_alone n a b h k r c = each (λ n a. Has S n b → reads a.doing ≡ true → ⊥) (λ q. false≢true) (λ q. false≢true) (λ q. false≢true) (λ q z. only q.0 q.1) n a h k r
      where
        only : (j : ℕ) → slice_get (accesses 2) j ≡ Some b → ⊥
        only zero q = false≢true (ap (λ z. changes z.doing) (some_same q) ∙ c)
        only (suc j) q = absurd (no j q)
          where
            no : (j : ℕ) → slice_get [] j ≡ Some b → ⊥
            no j q = cc

-- IT IS SOUND

before_read : (a : Access) → Before S 0 a 2 read
before_read a = record { x = 1; y = 2; leaves = refl; leads = inr (one refl); enters = refl }

abbrev Ordered : ℕ → Access → ℕ → Access → Type 0
Ordered n a m b = n ≢ m → S.clash a b ≡ true → Before S n a m b ⊎ Before S m b n a

one_node : (n : ℕ) (a b : Access) → Ordered n a n b
one_node n a b ne c = absurd (ne refl)

abbrev PassedOn : ℕ → Access → ℕ → Access → Type 0
PassedOn n a m b = n ≢ m → S.clash a b ≡ true → changes a.doing ≡ true → Passed S n a m b

one_passes : (n : ℕ) (a b : Access) → PassedOn n a n b
one_passes n a b ne c h = absurd (ne refl)

synchronized : Synchronized S
synchronized = record {
  ordered = pairs Ordered
      (one_node 0 buffer buffer) (one_node 0 buffer early) (one_node 0 buffer late) (λ ne c. inl (before_read buffer))
      (one_node 0 early buffer) (one_node 0 early early) (one_node 0 early late) (λ ne c. inl (before_read early))
      (one_node 0 late buffer) (one_node 0 late early) (one_node 0 late late) (λ ne c. inl (before_read late))
      (λ ne c. inr (before_read buffer)) (λ ne c. inr (before_read early)) (λ ne c. inr (before_read late)) (one_node 2 read read);
  passed = λ n m a b h k ne c B ch t al. pairs PassedOn
      (one_passes 0 buffer buffer) (one_passes 0 buffer early) (one_passes 0 buffer late) (λ ne c h. absurd (false≢true c))
      (one_passes 0 early buffer) (one_passes 0 early early) (one_passes 0 early late) (λ ne c h. absurd (false≢true h))
      (one_passes 0 late buffer) (one_passes 0 late early) (one_passes 0 late late) (λ ne c h. record { x = 1; y = 1; available = (refl, λ m i q. refl); leads = inl refl; visible = inr (one refl) })
      (λ ne c h. absurd (false≢true h)) (λ ne c h. absurd (false≢true h)) (λ ne c h. absurd (false≢true h)) (one_passes 2 read read)
      n m a b h k ne c ch;
}

initialized_read : InitializedBy S 2 read
initialized_read = inl (
  0,
  late,
  record {
    has = (2, refl);
    leaves = refl;
    piece = refl;
    apart = λ e. absurd (omega (arith, e));
    before = before_read late;
    last = λ v d h ne c o B. inl (each (λ v d. v ≢ 2 → v ≡ 0) (λ q. refl) (λ q. refl) (λ q. refl) (λ q. absurd (q refl)) v d h ne);
  },
)

abbrev order : List ℕ
order = 0 ∷ 1 ∷ 2 ∷ []

ordered : Order S order
ordered = record {
  once = ((λ h. ⊎_elim (λ e. omega (arith, e)) (λ k. ⊎_elim (λ e. omega (arith, e)) (λ q. q) k) h), ((λ h. ⊎_elim (λ e. omega (arith, e)) (λ q. q) h), ((λ h. h), tt)));
  all = all;
  only = λ n h. ⊎_elim (λ e. omega (arith, e)) (λ k. ⊎_elim (λ e. omega (arith, e)) (λ q. ⊎_elim (λ e. omega (arith, e)) (λ z. absurd z) q) k) h;
  edges = λ x y e. let p = and_parts (x == 1) (y == 2) e in subst (λ z. Earlier order z y) (sym (eqb-true x 1 p.0)) (subst (λ z. Earlier order 1 z) (sym (eqb-true y 2 p.1)) (inr (inl refl)));
  leaves = λ n a x cl l. leaves n x cl l;
  enters = λ y n a cl l. absurd (enters n y cl l);
}
  where
    all : (n : ℕ) → n < 3 → Among n order
    all zero lt = inl refl
    all (suc zero) lt = inr (inl refl)
    all (suc (suc zero)) lt = inr (inr (inl refl))
    all (suc (suc (suc n))) lt = absurd (omega (arith, lt))

    leaves : (n x : ℕ) → is_action n ≡ true → (if is_action n then x == 1 else n == x) ≡ true → Earlier order n x
    leaves zero x cl l = subst (λ z. Earlier order 0 z) (sym (eqb-true x 1 l)) (inl refl)
    leaves (suc n) x cl l = absurd (false≢true cl)

    enters : (n y : ℕ) → is_action n ≡ true → (if is_action n then false else n == y) ≡ true → ⊥
    enters zero y cl l = false≢true l
    enters (suc n) y cl l = false≢true cl

sound : Sound S
sound = record {
  synchronized = synchronized;
  state_valid = record {
    first = λ p. None;
    first_is = λ p o e. absurd (none o e);
    layout = λ n a want h e. absurd (each (λ n a. a.wants ≡ Some want → ⊥) (not_wanted want) (not_wanted want) (not_wanted want) (not_wanted want) n a h e);
    owner = λ n a h e. absurd (false≢true e);
  };
  initialized = each (λ n a. loads a.doing ≡ true → InitializedBy S n a) (λ e. absurd (false≢true e)) (λ e. absurd (false≢true e)) (λ e. absurd (false≢true e)) (λ e. initialized_read);
  order = order;
  ordered = ordered;
}
  where
    none : (o : Option ℕ) → None ≡ Some o → ⊥
    none o e = cc

    not_wanted : (want : ℕ) → None ≡ Some want → ⊥
    not_wanted want e = cc

-- whatever events come, the host reads what the later of the two stores left
host_reads : (main : Bytes) (s : State) → Run S (opened S main) s → s.done 2 ≡ true → s.host 2 ≡ 9 ∷ []
host_reads main s r d = (simulated S formed sound order ordered main s r).read 2 read (0, refl) refl d
