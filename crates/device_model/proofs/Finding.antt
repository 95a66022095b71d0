-- What a node finds in today's view its accesses find as single accesses.
use Rattle.std.proofs.Common.{◌≡◌, ◌≢◌, ◌⊎◌, inl, inr, ℕ, not, ◌||◌, Bool, true, List, Option, Some, None, refl, sym, ap, ◌∙◌, subst, ⊎_elim}
use Rattle.std.specs.List.{list_any}
use Rattle.std.specs.Option.{option_map, is_some}
use Rattle.std.proofs.lemmas.Bool.{false≢true}
use Rattle.law_runs.proofs.Absence.{some_same}
use Rattle.law_runs.proofs.Old.{before_by_nodes, before_of_accesses}
use Rattle.law_runs.specs.Laws.{Sound}
use Rattle.law_runs.specs.Formed.{Formed}
use Rattle.law_runs.specs.Found as found
use Rattle.law_runs.specs.Orders as order
use Rattle.law_runs.specs.Systems as law
use Rattle.check_state.specs.PieceStates.{layout_after, owner_after}
use Rattle.check_state.specs.StateValid.{needs_owner}
use Rattle.device_model.proofs.Found.{Initializes, Imports, LastOf, NoneOf, LayoutBy, OwnerBy, Finds}
use Rattle.device_model.proofs.Viewed.{From, from, to_law, OneStage, joined, path_to, old_path, within, changes_same, synchronized_of, order_of}
use Rattle.device_model.proofs.SystemOf.{doing_of, lays_of, hands_of, access_of, family_numbered, needs, system_of}
use Rattle.base.specs.declared.shape.Family.{Family}
use Rattle.vk.specs.Families.{family_number}
use Rattle.vk.specs.Layouts.{layout_number}
use Rattle.vk.specs.declared.layout.Layout.{Layout}
use Rattle.check_order.specs.Edges.{edge, is_host, node_at}
use Rattle.check_order.specs.Orders.{Order}
use Rattle.law_nodes.specs.Passing.{Before}
use Rattle.law_nodes.specs.Synchronized.{Synchronized}
use Rattle.check_access.specs.AccessKinds.{stores, loads, wanted, sets_layout, sets_owner, is_discard, is_acquire}
use Rattle.check_access.specs.ValidView.{ValidView, Has}
use Rattle.check_access.specs.Views.{View, accesses_of, overlap, family_at, shared_at, node_access}
use Rattle.check_access.specs.declared.access.Access.{Access}
use Rattle.check_access.specs.declared.access.AccessKind.{AccessKind}
use Rattle.check_access.specs.declared.access.AccessKind.TheVariants.{Load, Store, Transition, Discard, Release, Acquire}
use Rattle.check_access.specs.declared.access.Agent.TheVariants as agents

pub loads_same : (k : AccessKind) → law.loads (doing_of k) ≡ loads k
loads_same (Load (agents.Of q b) l) = refl
loads_same (Load agents.Host l) = refl
loads_same (Store a l) = refl
loads_same (Transition l) = refl
loads_same (Discard l) = refl
loads_same (Release h) = refl
loads_same (Acquire h) = refl

pub stores_same : (k : AccessKind) → law.stores (doing_of k) ≡ stores k
stores_same (Load (agents.Of q b) l) = refl
stores_same (Load agents.Host l) = refl
stores_same (Store a l) = refl
stores_same (Transition l) = refl
stores_same (Discard l) = refl
stores_same (Release h) = refl
stores_same (Acquire h) = refl

pub discards_same : (k : AccessKind) → law.is_discard (doing_of k) ≡ is_discard k
discards_same (Load (agents.Of q b) l) = refl
discards_same (Load agents.Host l) = refl
discards_same (Store a l) = refl
discards_same (Transition l) = refl
discards_same (Discard l) = refl
discards_same (Release h) = refl
discards_same (Acquire h) = refl

pub lays_same : (k : AccessKind) → is_some (lays_of k) ≡ sets_layout k
lays_same (Load a l) = refl
lays_same (Store a l) = refl
lays_same (Transition l) = refl
lays_same (Discard l) = refl
lays_same (Release h) = refl
lays_same (Acquire h) = refl

pub lays_what : (k : AccessKind) → sets_layout k ≡ true → lays_of k ≡ Some (layout_number (layout_after k))
lays_what (Load a l) h = absurd (false≢true h)
lays_what (Store a l) h = absurd (false≢true h)
lays_what (Transition l) h = refl
lays_what (Discard l) h = refl
lays_what (Release r) h = absurd (false≢true h)
lays_what (Acquire r) h = absurd (false≢true h)

pub hands_same : (k : AccessKind) (f : Option ℕ) → is_some (hands_of k f) ≡ sets_owner k
hands_same (Load a l) f = refl
hands_same (Store a l) f = refl
hands_same (Transition l) f = refl
hands_same (Discard l) f = refl
hands_same (Release h) f = refl
hands_same (Acquire h) f = refl

pub hands_what : (k : AccessKind) (f : Option Family) → sets_owner k ≡ true → hands_of k (option_map family_number f) ≡ Some (option_map family_number (owner_after k f))
hands_what (Load a l) f h = absurd (false≢true h)
hands_what (Store a l) f h = absurd (false≢true h)
hands_what (Transition l) f h = absurd (false≢true h)
hands_what (Discard l) f h = refl
hands_what (Release r) f h = refl
hands_what (Acquire r) f h = refl

pub needs_same : (V : View) (n : ℕ) (a : Access) → needs V n (access_of V n a) ≡ needs_owner V (node_access n a)
needs_same V n a = ap (λ z. not (z || (list_any (λ c. is_acquire c.kind) (accesses_of V n) || (is_host (node_at V.nodes n).kind || shared_at V a.piece)))) (discards_same a.kind)

module _ (V : View) (out : ℕ → (ℕ → List ℕ) → ℕ → List ℕ) (X : ValidView V) (J : OneStage V) (F : Formed (system_of V out)) (A : (x : ℕ) → Before V x x → ⊥) where
  has_law : (n : ℕ) (a : Access) → Has V n a → law.Has (system_of V out) n (access_of V n a)
  has_law n a h = (h.0, to_law V out n h.0 a h.1)

  on : (n m : ℕ) (a b : law.Access) → Before V n m → order.Before (system_of V out) n a m b
  on n m a b p = before_by_nodes (system_of V out) (edge V.nodes) (joined V out J) n m a b (path_to (edge V.nodes) n m p)

  back : (n m : ℕ) (a b : law.Access) → n ≢ m → order.Before (system_of V out) n a m b → Before V n m
  back n m a b ne B = old_path V out X J n m (before_of_accesses (system_of V out) F (edge V.nodes) (within V out X J) n m a b ne B)

  apart : (w n : ℕ) → Before V w n → w ≢ n
  apart w n p e = A n (subst (λ z. Before V z n) e p)

  -- LOADS

  initializes : (n w : ℕ) (b c : Access) → Initializes V n b.piece w c → found.Initializes (system_of V out) n (access_of V n b) w (access_of V w c)
  initializes n w b c D = record {
    has = has_law w c D.has;
    leaves = stores_same c.kind ∙ D.leaves;
    piece = D.piece;
    apart = apart w n D.before;
    before = on w n (access_of V w c) (access_of V n b) D.before;
    last = λ v d hd ne ch ov B. last v d hd ne ch ov B (from V out v hd.0 d hd.1);
  }
    where
      last : (v : ℕ) (d : law.Access) (hd : law.Has (system_of V out) v d) → v ≢ n → law.changes d.doing ≡ true → overlap V d.piece b.piece ≡ true → order.Before (system_of V out) v d n (access_of V n b) → From V v hd.0 d → (v ≡ w) ⊎ order.Before (system_of V out) v d w (access_of V w c)
      last v d hd ne ch ov B g = ⊎_elim (λ e. inl e) (λ p. inr (on v w d (access_of V w c) p))
          (D.last v g.access (hd.0, g.at) (sym (changes_same g.access.kind) ∙ ap (λ z. law.changes z.doing) (sym g.same) ∙ ch) (ap (λ z. overlap V z.piece b.piece) (sym g.same) ∙ ov) (back v n d (access_of V n b) ne B))

  starts : (n : ℕ) (b : Access) → Imports V n b.piece → found.Starts (system_of V out) n (access_of V n b)
  starts n b I = record { none = λ v d hd ne ch ov B. none v d hd ne ch ov B (from V out v hd.0 d hd.1); contents = I.imported }
    where
      none : (v : ℕ) (d : law.Access) (hd : law.Has (system_of V out) v d) → v ≢ n → law.changes d.doing ≡ true → overlap V d.piece b.piece ≡ true → order.Before (system_of V out) v d n (access_of V n b) → From V v hd.0 d → ⊥
      none v d hd ne ch ov B g = I.none v g.access (hd.0, g.at) (sym (changes_same g.access.kind) ∙ ap (λ z. law.changes z.doing) (sym g.same) ∙ ch) (ap (λ z. overlap V z.piece b.piece) (sym g.same) ∙ ov) (back v n d (access_of V n b) ne B)

  module _ (first : ℕ → Option Family) (Y : Finds V first) where
    pub initialized_of : found.Initialized (system_of V out)
    initialized_of n a h l = let f = from V out n h.0 a h.1 in subst (λ z. found.InitializedBy (system_of V out) n z) (sym f.same)
        (⊎_elim (λ q. inl (q.0, access_of V q.0 q.1, initializes n q.0 f.access q.1 q.2)) (λ I. inr (starts n f.access I))
        (Y.initialized n f.access (h.0, f.at) (sym (loads_same f.access.kind) ∙ ap (λ z. law.loads z.doing) (sym f.same) ∙ l)))

    -- LAYOUTS AND OWNERS

    last_of : (sort : AccessKind → Bool) (by : law.Access → Bool) → ((v : ℕ) (c : Access) → by (access_of V v c) ≡ sort c.kind) → (n t : ℕ) (b d : Access) → LastOf V sort n b.piece t d → found.LastOf (system_of V out) by n (access_of V n b) t (access_of V t d)
    last_of sort by same n t b d L = record {
      has = has_law t d L.has;
      sorted = same t d ∙ L.sorted;
      piece = L.piece;
      apart = apart t n L.before;
      before = on t n (access_of V t d) (access_of V n b) L.before;
      last = λ v c hc ne s e B. last v c hc ne s e B (from V out v hc.0 c hc.1);
    }
      where
        last : (v : ℕ) (c : law.Access) (hc : law.Has (system_of V out) v c) → v ≢ n → by c ≡ true → c.piece ≡ b.piece → order.Before (system_of V out) v c n (access_of V n b) → From V v hc.0 c → (v ≡ t) ⊎ order.Before (system_of V out) v c t (access_of V t d)
        last v c hc ne s e B g = ⊎_elim (λ q. inl q) (λ p. inr (on v t c (access_of V t d) p))
            (L.last v g.access (hc.0, g.at) (sym (same v g.access) ∙ ap by (sym g.same) ∙ s) (ap (λ z. z.piece) (sym g.same) ∙ e) (back v n c (access_of V n b) ne B))

    none_of : (sort : AccessKind → Bool) (by : law.Access → Bool) → ((v : ℕ) (c : Access) → by (access_of V v c) ≡ sort c.kind) → (n : ℕ) (b : Access) → NoneOf V sort n b.piece → found.NoneOf (system_of V out) by n (access_of V n b)
    none_of sort by same n b M v c hc ne s e B = let g = from V out v hc.0 c hc.1 in M v g.access (hc.0, g.at) (sym (same v g.access) ∙ ap by (sym g.same) ∙ s) (ap (λ z. z.piece) (sym g.same) ∙ e) (back v n c (access_of V n b) ne B)

    pub state_valid_of : found.StateValid (system_of V out)
    state_valid_of = record {
      first = λ p. option_map family_number (first p);
      first_is = λ p o e. absurd (no_first o e);
      layout = λ n a want h e. let f = from V out n h.0 a h.1 in subst (λ z. found.LayoutBy (system_of V out) n z want) (sym f.same) (layout n f.access want (h.0, f.at) (wanted f.access.kind) refl (ap (λ z. z.wants) (sym f.same) ∙ e));
      owner = λ n a h e. let f = from V out n h.0 a h.1 in subst (λ z. found.OwnerBy (system_of V out) (λ p. option_map family_number (first p)) n z (family_numbered V n)) (sym f.same) (owner n f.access (h.0, f.at) (sym (needs_same V n f.access) ∙ ap (needs V n) (sym f.same) ∙ e));
    }
      where
        no_first : (o : Option ℕ) → None ≡ Some o → ⊥
        no_first o e = cc

        layout : (n : ℕ) (a : Access) (want : ℕ) → Has V n a → (o : Option Layout) → wanted a.kind ≡ o → option_map layout_number o ≡ Some want → found.LayoutBy (system_of V out) n (access_of V n a) want
        layout n a want h None e q = absurd cc
        layout n a want h (Some l) e q = by (Y.layout n a l h e)
          where
            is : layout_number l ≡ want
            is = some_same q

            by : LayoutBy V n a.piece l → found.LayoutBy (system_of V out) n (access_of V n a) want
            by (inl t) = inl (t.0, access_of V t.0 t.1, last_of sets_layout law.sets_layout (λ v c. lays_same c.kind) n t.0 a t.1 t.2, lays_what t.1.kind t.2.sorted ∙ ap (λ z. Some (layout_number z)) t.3 ∙ ap (λ z. Some z) is)
            by (inr t) = inr (none_of sets_layout law.sets_layout (λ v c. lays_same c.kind) n a t.0, ap layout_number (sym t.1) ∙ is)

        owner : (n : ℕ) (a : Access) → Has V n a → needs_owner V (node_access n a) ≡ true → found.OwnerBy (system_of V out) (λ p. option_map family_number (first p)) n (access_of V n a) (family_numbered V n)
        owner n a h e = by (Y.owner n a h e)
          where
            by : OwnerBy V first n a.piece (family_at V n) → found.OwnerBy (system_of V out) (λ p. option_map family_number (first p)) n (access_of V n a) (family_numbered V n)
            by (inl t) = inl (t.0, access_of V t.0 t.1, last_of sets_owner law.sets_owner (λ v c. hands_same c.kind (family_numbered V v)) n t.0 a t.1 t.2, hands_what t.1.kind (family_at V t.0) t.2.sorted ∙ ap (λ z. Some (option_map family_number z)) t.3)
            by (inr t) = inr (none_of sets_owner law.sets_owner (λ v c. hands_same c.kind (family_numbered V v)) n a t.0, ap (option_map family_number) t.1)

  -- A PROGRAM IS SOUND

  pub sound_of : Synchronized V → (list : List ℕ) → Order V.nodes list → (first : ℕ → Option Family) → Finds V first → Sound (system_of V out)
  sound_of T list O first Y = record { synchronized = synchronized_of V out X J F T; state_valid = state_valid_of first Y; initialized = initialized_of first Y; order = list; ordered = order_of V out X J list O }
