-- Behind a change all is synchronized that was synchronized with it.
use Rattle.std.proofs.Common.{◌≡◌, ◌≢◌, ◌⊎◌, inl, inr, ℕ, ◌+◌, ◌-◌, ◌<◌, ◌≤◌, ◌==◌, ◌&&◌, ◌||◌, Bool, true, false, List, length, take, get_or, refl, sym, ap, ◌∙◌, subst, ⊎_elim, eqb-true, arith}
use Rattle.std.proofs.lemmas.Bool.{cases_Bool, cases_eq, false≢true, cases_lt, and_parts, or_cases, or_from, or_left, or_right}
use Rattle.std.proofs.lemmas.List.{take_all}
use Rattle.std.proofs.lemmas.List.Folds.{list_any_more}
use Rattle.std.specs.List.{list_any}
use Rattle.std.proofs.lemmas.Option.{slice_get-get_or, get_or_from_slice_get}
use Rattle.check_access.proofs.Overlapping.{has_overlapping}
use Rattle.check_access.specs.AccessKinds.{changes, transfers}
use Rattle.check_access.specs.ValidView.{ValidView, Listed, NodeAccessAt}
use Rattle.check_access.specs.Views as views
use Rattle.check_access.specs.Views.{View, overlap, overlapping}
use Rattle.check_access.specs.declared.access.Access.{Access}
use Rattle.check_access.specs.declared.access.AccessKind.{AccessKind}
use Rattle.check_access.specs.declared.node_access.NodeAccess.{NodeAccess}
use Rattle.check_sync.specs.Internal.Chains.{IsIn, Latest}
use Rattle.check_sync.specs.First.{FirstSyncHazard}
use Rattle.check_sync.specs.Internal.Places.{no_node_access, node_access_at, piece_of, kind_of, clashes_with_loads, Known, IsFirstWith, SynchronizedAt, PlacesSynchronizedBelow}
use Rattle.check_sync.specs.Synchronized.{PairSynchronized, SynchronizedBelow}
use Rattle.check_sync.specs.declared.sync_hazard.SyncHazard.{SyncHazard}
use Rattle.check_sync.proofs.Clashes.{overlap_turned}
use Rattle.check_sync.proofs.Through.{through}
use Rattle.check_sync.proofs.Through.{itself, clash_change}
use Rattle.check_access_order.specs.Order.{Leaves, Enters}
use Rattle.check_access_order.specs.Ways.{HasWays}

here : (accesses : List NodeAccess) (i : ℕ) → i < length accesses → NodeAccessAt accesses i (node_access_at accesses i)
here accesses i h = slice_get-get_or accesses i no_node_access h

pub known_at : (V : View) (accesses : List NodeAccess) (i : ℕ) → ValidView V → Listed V accesses → i < length accesses → Known V (node_access_at accesses i)
known_at V accesses i S L h = let has = L.has i (node_access_at accesses i) (here accesses i h) in record { has = has; node = L.node i (node_access_at accesses i) (here accesses i h); piece = S.known (node_access_at accesses i).node has.0 (node_access_at accesses i).access has.1 }

clash_cases : (V : View) (a b : Access) → views.clash V a b ≡ true → ((overlap V a.piece b.piece ≡ true) × ((changes a.kind || changes b.kind) ≡ true)) ⊎ ((a.piece ≡ b.piece) × ((transfers a.kind || transfers b.kind) ≡ true))
clash_cases V a b h = ⊎_elim
    (λ e. inl (and_parts (overlap V a.piece b.piece) (changes a.kind || changes b.kind) e))
    (λ e. let t = and_parts (a.piece == b.piece) (transfers a.kind || transfers b.kind) e in inr (eqb-true a.piece b.piece t.0, t.1))
    (or_cases (overlap V a.piece b.piece && (changes a.kind || changes b.kind)) ((a.piece == b.piece) && (transfers a.kind || transfers b.kind)) h)

-- pieces without common bytes give no clash
apart : (V : View) (accesses : List NodeAccess) (i j : ℕ) → ValidView V → Listed V accesses → i < length accesses → overlap V (piece_of accesses j) (piece_of accesses i) ≡ false → SynchronizedAt V accesses i j
apart V accesses i j S L h far C = absurd (none (clash_cases V (node_access_at accesses i).access (node_access_at accesses j).access C.clash))
  where
    far_off : overlap V (piece_of accesses i) (piece_of accesses j) ≡ false
    far_off = ⊎_elim (λ e. absurd (false≢true (sym far ∙ overlap_turned V (piece_of accesses i) (piece_of accesses j) e))) (λ e. e) (cases_Bool (overlap V (piece_of accesses i) (piece_of accesses j)))

    none : ((overlap V (piece_of accesses i) (piece_of accesses j) ≡ true) × ((changes (kind_of accesses i) || changes (kind_of accesses j)) ≡ true)) ⊎ ((piece_of accesses i ≡ piece_of accesses j) × ((transfers (kind_of accesses i) || transfers (kind_of accesses j)) ≡ true)) → ⊥
    none (inl (over, c)) = false≢true (sym far_off ∙ over)
    none (inr (same, t)) = false≢true (sym far_off ∙ subst (λ p. overlap V (piece_of accesses i) p ≡ true) same (itself V (piece_of accesses i) S (known_at V accesses i S L h).piece))

still : (d : AccessKind) → clashes_with_loads d ≡ false → (changes d ≡ false) × (transfers d ≡ false)
still d h = (⊎_elim (λ e. absurd (false≢true (sym h ∙ or_left (changes d) (transfers d) e))) (λ e. e) (cases_Bool (changes d)), ⊎_elim (λ e. absurd (false≢true (sym h ∙ or_right (changes d) (transfers d) e))) (λ e. e) (cases_Bool (transfers d)))

-- a load is synchronized with loads
pub loads_synchronized : (V : View) (accesses : List NodeAccess) (i j : ℕ) → clashes_with_loads (kind_of accesses j) ≡ false → (IsIn false accesses i → SynchronizedAt V accesses i j) → SynchronizedAt V accesses i j
loads_synchronized V accesses i j load h = go (clashes_with_loads (kind_of accesses i)) refl
  where
    both : clashes_with_loads (kind_of accesses i) ≡ false → ((overlap V (piece_of accesses i) (piece_of accesses j) ≡ true) × ((changes (kind_of accesses i) || changes (kind_of accesses j)) ≡ true)) ⊎ ((piece_of accesses i ≡ piece_of accesses j) × ((transfers (kind_of accesses i) || transfers (kind_of accesses j)) ≡ true)) → ⊥
    both e (inl c) = false≢true (sym (or_from (changes (kind_of accesses i)) (changes (kind_of accesses j)) (still (kind_of accesses i) e).0 (still (kind_of accesses j) load).0) ∙ c.1)
    both e (inr c) = false≢true (sym (or_from (transfers (kind_of accesses i)) (transfers (kind_of accesses j)) (still (kind_of accesses i) e).1 (still (kind_of accesses j) load).1) ∙ c.1)

    go : (t : Bool) → clashes_with_loads (kind_of accesses i) ≡ t → SynchronizedAt V accesses i j
    go true e = h e
    go false e = λ c. absurd (both e (clash_cases V (node_access_at accesses i).access (node_access_at accesses j).access c.clash))

module _ (V : View) (accesses : List NodeAccess) (S : ValidView V) (H : HasWays V) (L : Listed V accesses) (j q : ℕ) (within : j < length accesses) (G : PlacesSynchronizedBelow V accesses j) (over : overlap V (piece_of accesses j) q ≡ true) (own : q < length V.pieces) where
  -- a change of the piece that is synchronized with j stands for all earlier accesses of the piece
  pub behind : (m : ℕ) → m < j → piece_of accesses m ≡ q → changes (kind_of accesses m) ≡ true → SynchronizedAt V accesses m j → (i : ℕ) → i < m → piece_of accesses i ≡ q → SynchronizedAt V accesses i j
  behind m lm em change good i li ei =
      let lm_in : m < length accesses = omega (arith, lm, within) in
      let li_in : i < length accesses = omega (arith, li, lm_in) in
      let a : NodeAccess = node_access_at accesses i in
      let c : NodeAccess = node_access_at accesses m in
      let b : NodeAccess = node_access_at accesses j in
      through V a c b change (G i m li lm) good
      (clash_change V (node_access_at accesses i).access (node_access_at accesses m).access
      (subst (λ p. overlap V p (piece_of accesses m) ≡ true) (sym ei) (subst (λ p. overlap V q p ≡ true) (sym em) (itself V q S own)))
      (or_right (changes (kind_of accesses i)) (changes (kind_of accesses m)) change))
      (clash_change V (node_access_at accesses m).access (node_access_at accesses j).access
      (subst (λ p. overlap V p (piece_of accesses j) ≡ true) (sym em) (overlap_turned V (piece_of accesses j) q over))
      (or_left (changes (kind_of accesses m)) (changes (kind_of accesses j)) change))
      (λ e o. (o.0, o.1, H.leaves a.node o.0 a.access c.access (L.in_order i m a c (here accesses i li_in) (here accesses m lm_in) li e) change (ei ∙ sym em) (subst (λ n. Leaves V n c.access o.0) (sym e) o.2), o.3, o.4))
      (λ e o. (o.0, o.1, o.2, o.3, subst (λ n. Enters V o.1 n b.access) e (H.enters c.node o.1 c.access b.access (L.in_order m j c b (here accesses m lm_in) (here accesses j within) lm e) change (subst (λ p. overlap V p (piece_of accesses j) ≡ true) (sym em) (overlap_turned V (piece_of accesses j) q over)) o.4)))
      (λ e h. L.last i m (node_access_at accesses i) (node_access_at accesses m) (here accesses i li_in) (here accesses m lm_in) li e h)
      (λ e. L.last m j (node_access_at accesses m) (node_access_at accesses j) (here accesses m lm_in) (here accesses j within) lm e change)

  -- one step back
  pub back : (loads : Bool) (m : ℕ) → 0 < m → m ≤ j → ((i : ℕ) → m ≤ i → i < j → piece_of accesses i ≡ q → IsIn loads accesses i → SynchronizedAt V accesses i j) → SynchronizedAt V accesses (m - 1) j → (k : ℕ) → Latest loads accesses (m - 1) q k → (i : ℕ) → k ≤ i → i < j → piece_of accesses i ≡ q → IsIn loads accesses i → SynchronizedAt V accesses i j
  back loads m pos lm seen good k K i lk li e n = go (cases_lt i m)
    where
      go : (i < m) ⊎ (m ≤ i) → SynchronizedAt V accesses i j
      go (inr h) = seen i h li e n
      go (inl h) = ⊎_elim
          (λ (s : i ≡ m - 1). subst (λ z. SynchronizedAt V accesses z j) (sym s) good)
          (λ (s : i ≢ m - 1). absurd (let f = K.last i (omega (arith, h, s)) e n in omega (arith, f, lk)))
          (cases_eq i (m - 1))

  pub stop : (loads : Bool) (m : ℕ) → 0 < m → m ≤ j → piece_of accesses (m - 1) ≡ q → ((i : ℕ) → m ≤ i → i < j → piece_of accesses i ≡ q → IsIn loads accesses i → SynchronizedAt V accesses i j) → changes (kind_of accesses (m - 1)) ≡ true → SynchronizedAt V accesses (m - 1) j → (i : ℕ) → i < j → piece_of accesses i ≡ q → IsIn loads accesses i → SynchronizedAt V accesses i j
  stop loads m pos lm its seen change good i li e n = go (cases_lt i m)
    where
      go : (i < m) ⊎ (m ≤ i) → SynchronizedAt V accesses i j
      go (inr h) = seen i h li e n
      go (inl h) = ⊎_elim
          (λ (s : i ≡ m - 1). subst (λ z. SynchronizedAt V accesses z j) (sym s) good)
          (λ (s : i ≢ m - 1). behind (m - 1) (omega (arith, pos, lm)) its change good i (omega (arith, h, s)) e)
          (cases_eq i (m - 1))

pub latest_self : (loads : Bool) (accesses : List NodeAccess) (bound q m : ℕ) → Latest loads accesses bound q m → Latest loads accesses m q m
latest_self loads accesses bound q m L = record { low = omega arith; last = λ i k e n. k; its = L.its }

pub synchronized_more : (V : View) (accesses : List NodeAccess) (j : ℕ) → PlacesSynchronizedBelow V accesses j → ((i : ℕ) → i < j → SynchronizedAt V accesses i j) → PlacesSynchronizedBelow V accesses (j + 1)
synchronized_more V accesses j G new i k lt h = ⊎_elim (λ (e : k ≡ j). subst (λ z. SynchronizedAt V accesses i z) (sym e) (new i (omega (arith, lt, e)))) (λ ne. G i k lt (omega (arith, h, ne))) (cases_eq k j)

pub synchronized_below : (V : View) (accesses : List NodeAccess) (n : ℕ) → PlacesSynchronizedBelow V accesses n → SynchronizedBelow V accesses n
synchronized_below V accesses n G i j a b ha hb lt h =
    subst (λ c. PairSynchronized V c b) (get_or_from_slice_get accesses i a no_node_access ha) (subst (λ c. PairSynchronized V (node_access_at accesses i) c) (get_or_from_slice_get accesses j b no_node_access hb) (G i j lt h))

-- of the first k pieces of a list all accesses in the chain are synchronized with the one at place j
abbrev pub SynchronizedAmong : View → List NodeAccess → Bool → ℕ → List ℕ → ℕ → Type 0
SynchronizedAmong V accesses loads j pieces k = (i : ℕ) → i < j → list_any (λ q. q == piece_of accesses i) (take k pieces) ≡ true → IsIn loads accesses i → SynchronizedAt V accesses i j

-- one piece more
pub pieces_more : (V : View) (accesses : List NodeAccess) (loads : Bool) (j : ℕ) (pieces : List ℕ) (k d : ℕ) → k < length pieces → SynchronizedAmong V accesses loads j pieces k → ((i : ℕ) → i < j → piece_of accesses i ≡ get_or pieces k d → IsIn loads accesses i → SynchronizedAt V accesses i j) → SynchronizedAmong V accesses loads j pieces (k + 1)
pieces_more V accesses loads j pieces k d within old new i lt h n = ⊎_elim
    (λ e. old i lt e n)
    (λ e. new i lt (sym (eqb-true (get_or pieces k d) (piece_of accesses i) e)) n)
    (or_cases (list_any (λ q. q == piece_of accesses i) (take k pieces)) (get_or pieces k d == piece_of accesses i) (sym (list_any_more (λ q. q == piece_of accesses i) pieces k d within) ∙ h))

-- those of pieces that overlap no byte are synchronized anyway
pub all_pieces : (V : View) (accesses : List NodeAccess) (loads : Bool) (j : ℕ) → ValidView V → Listed V accesses → j < length accesses → SynchronizedAmong V accesses loads j (overlapping V (piece_of accesses j)) (length (overlapping V (piece_of accesses j))) → (i : ℕ) → i < j → IsIn loads accesses i → SynchronizedAt V accesses i j
all_pieces V accesses loads j S L within among i lt n = ⊎_elim
    (λ (over : overlap V (piece_of accesses j) (piece_of accesses i) ≡ true). among i lt (ap (list_any (λ q. q == piece_of accesses i)) (take_all (length all) all (omega arith)) ∙ has_overlapping V (piece_of accesses j) (piece_of accesses i) known ∙ over) n)
    (λ (far : overlap V (piece_of accesses j) (piece_of accesses i) ≡ false). apart V accesses i j S L here_in far)
    (cases_Bool (overlap V (piece_of accesses j) (piece_of accesses i)))
  where
    all : List ℕ
    all = overlapping V (piece_of accesses j)

    here_in : i < length accesses
    here_in = omega (arith, lt, within)

    known : piece_of accesses i < length V.pieces
    known = (known_at V accesses i S L here_in).piece

pub is_first : (V : View) (accesses : List NodeAccess) (j : ℕ) (sync_hazard : SyncHazard) → j < length accesses → PlacesSynchronizedBelow V accesses j → IsFirstWith V accesses j sync_hazard → FirstSyncHazard V accesses sync_hazard
is_first V accesses j sync_hazard h G (i, lt, first, second, flawed, least) = record {
  i = i;
  j = j;
  a = node_access_at accesses i;
  b = node_access_at accesses j;
  first = first;
  second = second;
  flawed = record {
    first = here accesses i (omega (arith, lt, h));
    second = here accesses j h;
    rising = lt;
    clashing = flawed.0;
    flawed = flawed.1;
    below = synchronized_below V accesses j G;
    least = λ k c less at. subst (λ z. PairSynchronized V z (node_access_at accesses j)) (get_or_from_slice_get accesses k c no_node_access at) (least k less);
  };
}
