-- The invariant of a device, what it needs of the commands' values, and what an access that may be made finds.
use Rattle.std.proofs.Common.{◌≡◌, ◌≢◌, ◌⊎◌, inl, inr, ℕ, ◌-◌, true, false, List, slice_index, refl, sym, ap, ◌∙◌, subst, ⊎_elim}
use Rattle.std.proofs.lemmas.Bool.{cases_Bool, false≢true}
use Rattle.law_runs.proofs.Control.{Past, Touches, none_after, over_done}
use Rattle.law_runs.proofs.Formed.{Ranked, change_no_load, load_plain, is_load_loads, stores_changes}
use Rattle.law_runs.specs.Formed.{Formed}
use Rattle.law_runs.specs.Found.{Initializes, Starts, InitializedBy}
use Rattle.law_runs.proofs.Invariant.{Values, IsLast, Untouched, Knows, store_passed, turn_passed, ByteOk}
use Rattle.law_runs.proofs.Last.{done_before}
use Rattle.law_runs.proofs.Moves.{knows_sees, fresh_sees}
use Rattle.law_runs.proofs.Nodes.{store_left, other_left}
use Rattle.law_runs.proofs.Shared.{overlap_at, same_bytes}
use Rattle.law_runs.specs.Lines.{is_dirty}
use Rattle.device_cache.specs.Lines.{Line, seen}
use Rattle.law_runs.specs.Orders.{UpTo, Before, VisibleBy, ShowsOn, Passed, Synchronized}
use Rattle.law_runs.specs.Runs.{reads}
use Rattle.law_runs.specs.States.{State, bytes_in, sight}
use Rattle.law_runs.specs.Systems.{Doing, Load, Access, System, At, Has, covers, is_load, is_store, loads, changes}

-- what a command has of its loads is what it is to find
abbrev pub LoadsFound : System → (ℕ → ℕ → List ℕ) → ℕ → (ℕ → List ℕ) → Type 0
LoadsFound S found n loaded = (k : ℕ) (a : Access) → At S n k a → is_load a.doing ≡ true → loaded k ≡ found n a.piece

-- the values are those of commands that run one after another: `found` is what a node finds in a piece
pub record Agrees (S : System) (W : Values) (found : ℕ → ℕ → List ℕ) : Type 0 where
  pub makes : (n k m i : ℕ) (c : Access) (loaded : ℕ → List ℕ) → S.is_command n ≡ true → At S n k c → is_store c.doing ≡ true → covers S c.piece m i ≡ true → LoadsFound S found n loaded → slice_index (S.out n loaded k) (i - (S.range c.piece).start) ≡ W.byte n m i
  pub keeps : (n m i w : ℕ) (a c : Access) → Has S n a → loads a.doing ≡ true → changes a.doing ≡ true → covers S a.piece m i ≡ true → Initializes S n a w c → W.byte w m i ≡ W.byte n m i
  pub keeps_start : (n m i : ℕ) (a : Access) → Has S n a → loads a.doing ≡ true → changes a.doing ≡ true → covers S a.piece m i ≡ true → Starts S n a → W.start m i ≡ W.byte n m i
  pub initialized : (n w : ℕ) (a c : Access) → Has S n a → loads a.doing ≡ true → Initializes S n a w c → bytes_in S (W.byte w) a.piece ≡ found n a.piece
  pub starts : (n : ℕ) (a : Access) → Has S n a → loads a.doing ≡ true → Starts S n a → bytes_in S W.start a.piece ≡ found n a.piece

pub record Holds (S : System) (W : Values) (found : ℕ → ℕ → List ℕ) (s : State) : Type 0 where
  pub past : Past S s
  pub bytes : (m i : ℕ) → ByteOk S s.done m i W (λ g. s.line g m i) (s.main m i)
  pub loaded : (n k : ℕ) (a : Access) → At S n k a → is_load a.doing ≡ true → s.taken n k ≡ true → s.loaded n k ≡ found n a.piece
  pub unmarked : (n k : ℕ) → s.marked n k ≡ true → ⊥
  pub hosts : (n : ℕ) (a : Access) → Has S n a → reads a.doing ≡ true → s.done n ≡ true → s.host n ≡ found n a.piece

-- a visible load of a command is shown
load_shown : (S : System) (d : Doing) (n y : ℕ) (a : Access) → is_load d ≡ true → VisibleBy S d n a y → ShowsOn S y a.agent a.piece
load_shown S Load n y a h v = v.1
load_shown S d n y a h v = absurd (false≢true h)

load_no_store : (d : Doing) → is_load d ≡ true → is_store d ≡ true → ⊥
load_no_store Load h s = false≢true s
load_no_store d h s = false≢true h

module _ (S : System) (F : Formed S) (T : Synchronized S) (s : State) (P : Past S s) (n : ℕ) (b : Access) (t : Touches S s n b) (m i : ℕ) (at : covers S b.piece m i ≡ true) where
  first : (v : ℕ) (d : Access) → s.done v ≡ true → Has S v d → changes d.doing ≡ true → covers S d.piece m i ≡ true → Before S v d n b
  first = done_before S F T s.done n m i b t.has at t.was (none_after S F s P n b t)

  other : (v : ℕ) → s.done v ≡ true → v ≢ n
  other v f e = t.was (subst (λ x. s.done x ≡ true) e f)

  -- what initializes it is the last done change of each byte
  pub initializes_last : (w : ℕ) (c : Access) → Initializes S n b w c → IsLast S s.done m i w c
  initializes_last w c D = record {
    finished = sym (over_done s w D.has.0 c (change_no_load c.doing (stores_changes c.doing D.leaves))) ∙ t.ahead w D.has.0 c D.has.1 D.apart D.before;
    has = D.has;
    alters = stores_changes c.doing D.leaves;
    at = subst (λ p. covers S p m i ≡ true) (sym D.piece) at;
    top = λ v d f h a k. D.last v d h (other v f) a (overlap_at S d.piece b.piece m i k at) (first v d f h a k);
  }

  pub starts_untouched : Starts S n b → Untouched S s.done m i
  starts_untouched I v d f h a k = I.none v d h (other v f) a (overlap_at S d.piece b.piece m i k at) (first v d f h a k)

  -- it has been passed on to the load of a command
  pub initializes_knows : S.is_command n ≡ true → is_load b.doing ≡ true → (w : ℕ) (c : Access) → Initializes S n b w c → Knows S s.done m i w c b.agent
  initializes_knows cl bl w c D = go (cases_Bool (is_store c.doing))
    where
      L : IsLast S s.done m i w c
      L = initializes_last w c D

      full : b.alone ≡ false
      full = ⊎_elim (λ e. absurd (load_no_store b.doing bl (F.alone_store n b t.has e))) (λ e. e) (cases_Bool b.alone)

      p : Passed S w c n b
      p = T.passed w n c b D.has t.has D.apart (F.clash_change c b m i L.alters L.at at) D.before L.alters (load_plain b.doing (is_load_loads b.doing bl)) full

      sync_done : (x : ℕ) → S.is_command x ≡ false → (s.done x ≡ true) ⊎ (x ≡ n) → s.done x ≡ true
      sync_done x e (inl d) = d
      sync_done x e (inr q) = absurd (false≢true (sym e ∙ ap S.is_command q ∙ cl))

      enters : (d : Doing) → is_load d ≡ true → (y : ℕ) → VisibleBy S d n b y → S.is_command y ≡ false
      enters Load h y v = F.enters_from y n b v.0
      enters d h y v = absurd (false≢true h)

      shown_y : s.done p.y ≡ true
      shown_y = sync_done p.y (enters b.doing bl p.y p.visible) (t.prior p.y p.y (inl refl) p.visible)

      go : (is_store c.doing ≡ true) ⊎ (is_store c.doing ≡ false) → Knows S s.done m i w c b.agent
      go (inl e) =
          let l = store_left S c.doing w p.x c e p.available in
          store_passed p.x p.y e (record { finished = sync_done p.x (F.leaves_to w c p.x l.0) (t.prior p.x p.y p.leads p.visible); next = l.0; flushes = l.1 m i L.at }) p.leads (record { finished = shown_y; shows = load_shown S b.doing n p.y b bl p.visible m i at })
      go (inr e) = turn_passed p.y e (subst (λ z. UpTo S z p.y) (sym (other_left S c.doing w p.x c e p.available)) p.leads) (record { finished = shown_y; shows = load_shown S b.doing n p.y b bl p.visible m i at })

module _ (S : System) (F : Formed S) (T : Synchronized S) (rank : ℕ → ℕ) (R : Ranked S rank) (W : Values) (found : ℕ → ℕ → List ℕ) (G : Agrees S W found) (s : State) (H : Holds S W found s) (n : ℕ) (b : Access) (t : Touches S s n b) (bl : loads b.doing ≡ true) where
  -- the load of a command
  pub load_sees : S.is_command n ≡ true → is_load b.doing ≡ true → InitializedBy S n b → sight S s b ≡ found n b.piece
  load_sees cl il (inl D) =
      same_bytes S (λ m i. seen (s.line b.agent m i) (s.main m i)) (W.byte D.0) b.piece
      (λ m i at. knows_sees S F rank R W s.done m i (λ g. s.line g m i) (s.main m i) (H.bytes m i) D.0 D.1 (initializes_last S F T s H.past n b t m i at D.0 D.1 D.2) D.2.leaves b.agent (initializes_knows S F T s H.past n b t m i at cl il D.0 D.1 D.2))
      ∙ G.initialized n D.0 b D.1 t.has bl D.2
  load_sees cl il (inr I) =
      same_bytes S (λ m i. seen (s.line b.agent m i) (s.main m i)) W.start b.piece
      (λ m i at. fresh_sees S F rank R W s.done m i (λ g. s.line g m i) (s.main m i) (H.bytes m i) (starts_untouched S F T s H.past n b t m i at I) b.agent)
      ∙ G.starts n b t.has bl I

  -- main, as a synchronizing node leaves its lines
  module _ (m i : ℕ) (at : covers S b.piece m i ≡ true) (lines : ℕ → Line) (v : ℕ) (B : ByteOk S s.done m i W lines v) (none : (g : ℕ) → is_dirty (lines g) ≡ false) where
    pub main_initialized : (w : ℕ) (c : Access) → Initializes S n b w c → v ≡ W.byte w m i
    main_initialized w c D = B.value w c (initializes_last S F T s H.past n b t m i at w c D) D.leaves none

    pub main_starts : Starts S n b → v ≡ W.start m i
    main_starts I = (B.fresh (starts_untouched S F T s H.past n b t m i at I)).0

    pub keep_sees : changes b.doing ≡ true → InitializedBy S n b → v ≡ W.byte n m i
    keep_sees bc (inl D) = main_initialized D.0 D.1 D.2 ∙ G.keeps n m i D.0 b D.1 t.has bl bc at D.2
    keep_sees bc (inr I) = main_starts I ∙ G.keeps_start n m i b t.has bl bc at I
