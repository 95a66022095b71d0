-- What each node finds and leaves where the commands run one after another in an order.
use Rattle.std.proofs.Common.{◌≡◌, ◌≢◌, ◌⊎◌, inl, inr, ℕ, zero, suc, ◌+◌, ◌-◌, ◌<◌, ◌&&◌, ◌==◌, Bool, true, false, if◌then◌else◌, List, [], ◌∷◌, ◌++◌, length, replicate, get_or, slice_get, slice_index, Option, Some, None, refl, sym, ap, ◌∙◌, subst, ⊎_elim, eq-eqb, eqb-true, arith}
use Rattle.std.specs.List.{range_with_len}
use Rattle.std.specs.Option.{option_map, option_map_or}
use Rattle.std.proofs.lemmas.Bool.{cases_Bool, false≢true, and_parts, and_from}
use Rattle.std.proofs.lemmas.List.{length-map, length-replicate}
use Rattle.std.proofs.lemmas.List.FromFn.{fill_by_all, get_or-map-range_with_len, length-range_with_len}
use Rattle.law_runs.proofs.Absence.{some_same}
use Rattle.law_runs.proofs.Formed.{stores_changes, store_changes, command_change, sync_no_store, reads_no_command, none_later}
use Rattle.law_runs.specs.Formed.{Formed}
use Rattle.law_runs.specs.Found.{Initializes, Starts}
use Rattle.law_runs.proofs.Holds.{LoadsFound, Agrees}
use Rattle.law_runs.proofs.Invariant.{Values}
use Rattle.law_runs.proofs.Listing.{among_right, after_in, earlier_among, before_split, list_split, after_not, not_both, before_forward}
use Rattle.law_runs.proofs.Shared.{covers_place, covers_at, overlap_self}
use Rattle.law_runs.proofs.Steps.{find_access}
use Rattle.law_runs.specs.Apart.{Among, before_in, Earlier, Order, Contents, store_place, loads_in, after_node, after_nodes, first_bytes, apart, bytes_before}
use Rattle.device_cache.specs.Lines.{Bytes}
use Rattle.law_runs.specs.Orders.{Before, Synchronized}
use Rattle.law_runs.specs.Runs.{reads}
use Rattle.law_runs.specs.States.{bytes_in}
use Rattle.law_runs.specs.Systems.{Doing, Store, Access, System, At, Has, covers, overlap, is_load, is_store, loads, changes}

-- THE PLACE OF A STORE

place_none : (list : List Access) (p : ℕ) → ((k : ℕ) (c : Access) → slice_get list k ≡ Some c → is_store c.doing ≡ true → c.piece ≢ p) → store_place list p ≡ None
place_none [] p h = refl
place_none (a ∷ rest) p h = ap (λ z. if z then Some 0 else option_map (λ k. suc k) (store_place rest p)) not_here ∙ ap (λ o. option_map (λ k. suc k) o) (place_none rest p (λ k c g. h (suc k) c g))
  where
    not_here : (is_store a.doing && (a.piece == p)) ≡ false
    not_here = ⊎_elim (λ e. let q = and_parts (is_store a.doing) (a.piece == p) e in absurd (h 0 a refl q.0 (eqb-true a.piece p q.1))) (λ e. e) (cases_Bool (is_store a.doing && (a.piece == p)))

-- the access that it finds
pub record PlaceOf (list : List Access) (p k : ℕ) : Type 0 where
  pub access : Access
  pub at : slice_get list k ≡ Some access
  pub store : is_store access.doing ≡ true
  pub piece : access.piece ≡ p

place_more : (a : Access) (rest : List Access) (p j : ℕ) → PlaceOf rest p j → PlaceOf (a ∷ rest) p (suc j)
place_more a rest p j q = record { access = q.access; at = q.at; store = q.store; piece = q.piece }

place_at : (list : List Access) (p k : ℕ) → store_place list p ≡ Some k → PlaceOf list p k
place_at [] p k h = absurd cc
place_at (a ∷ rest) p k h = go (is_store a.doing && (a.piece == p)) refl (store_place rest p) refl h (λ j e. place_at rest p j e)
  where
    go : (b : Bool) → (is_store a.doing && (a.piece == p)) ≡ b → (o : Option ℕ) → store_place rest p ≡ o → (if b then Some 0 else option_map (λ k. suc k) o) ≡ Some k → ((j : ℕ) → store_place rest p ≡ Some j → PlaceOf rest p j) → PlaceOf (a ∷ rest) p k
    go true e o f g more = let q = and_parts (is_store a.doing) (a.piece == p) e in subst (λ z. PlaceOf (a ∷ rest) p z) (some_same g) (record { access = a; at = refl; store = q.0; piece = eqb-true a.piece p q.1 })
    go false e None f g more = absurd cc
    go false e (Some j) f g more = subst (λ z. PlaceOf (a ∷ rest) p z) (some_same g) (place_more a rest p j (more j f))

place_there : (list : List Access) (k : ℕ) (c : Access) → slice_get list k ≡ Some c → is_store c.doing ≡ true → (j : ℕ) × (store_place list c.piece ≡ Some j)
place_there [] k c h s = absurd (go h)
  where
    go : slice_get [] k ≡ Some c → ⊥
    go e = cc
place_there (a ∷ rest) k c h s = go (cases_Bool (is_store a.doing && (a.piece == c.piece))) k h (λ j e. place_there rest j c e s)
  where
    go : ((is_store a.doing && (a.piece == c.piece)) ≡ true) ⊎ ((is_store a.doing && (a.piece == c.piece)) ≡ false) → (k : ℕ) → slice_get (a ∷ rest) k ≡ Some c → ((j : ℕ) → slice_get rest j ≡ Some c → (i : ℕ) × (store_place rest c.piece ≡ Some i)) → (j : ℕ) × (store_place (a ∷ rest) c.piece ≡ Some j)
    go (inl e) k h more = (0, ap (λ z. if z then Some 0 else option_map (λ k. suc k) (store_place rest c.piece)) e)
    go (inr e) zero h more = let q : a ≡ c = some_same h in absurd (false≢true (sym e ∙ and_from (is_store a.doing) (a.piece == c.piece) (ap (λ z. is_store z.doing) q ∙ s) (eq-eqb a.piece c.piece (ap (λ z. z.piece) q))))
    go (inr e) (suc k) h more = let r = more k h in (suc r.0, ap (λ z. if z then Some 0 else option_map (λ k. suc k) (store_place rest c.piece)) e ∙ ap (λ o. option_map (λ k. suc k) o) r.1)

module _ (S : System) where
  -- a node that does not store to the piece
  abbrev Elsewhere : ℕ → ℕ → Type 0
  Elsewhere v p = (k : ℕ) (c : Access) → At S v k c → is_store c.doing ≡ true → c.piece ≢ p

  node_same : (bytes : Contents) (v p : ℕ) → Elsewhere v p → after_node S bytes v p ≡ bytes p
  node_same bytes v p h = ap (λ o. option_map_or (λ k. S.out v (loads_in S bytes v) k) o (bytes p)) (place_none (S.accesses v) p h)

  nodes_same : (list : List ℕ) (bytes : Contents) (p : ℕ) → ((v : ℕ) → Among v list → Elsewhere v p) → after_nodes S bytes list p ≡ bytes p
  nodes_same [] bytes p h = refl
  nodes_same (v ∷ rest) bytes p h = nodes_same rest (after_node S bytes v) p (λ x k. h x (inr k)) ∙ node_same bytes v p (h v (inl refl))

  nodes_join : (xs ys : List ℕ) (bytes : Contents) → after_nodes S bytes (xs ++ ys) ≡ after_nodes S (after_nodes S bytes xs) ys
  nodes_join [] ys bytes = refl
  nodes_join (x ∷ xs) ys bytes = nodes_join xs ys (after_node S bytes x)

  -- what a command stores by the access at a place
  node_stores : Formed S → (bytes : Contents) (n k : ℕ) (c : Access) → At S n k c → is_store c.doing ≡ true → after_node S bytes n c.piece ≡ S.out n (loads_in S bytes n) k
  node_stores F bytes n k c at s =
      let j = place_there (S.accesses n) k c at s in
      let q = place_at (S.accesses n) c.piece j.0 j.1 in
      let e : j.0 ≡ k = F.one_place n j.0 k q.access c q.at at q.store s q.piece in
      ap (λ o. option_map_or (λ z. S.out n (loads_in S bytes n) z) o (bytes c.piece)) (j.1 ∙ ap (λ z. Some z) e)

  loads_at : (bytes : Contents) (n j : ℕ) (a : Access) → At S n j a → is_load a.doing ≡ true → loads_in S bytes n j ≡ bytes a.piece
  loads_at bytes n j a at l = ap (λ o. option_map_or (λ a. if is_load a.doing then bytes a.piece else []) o []) at ∙ ap (λ z. if z then bytes a.piece else []) l

  -- SIZES

  abbrev Sized : Contents → Type 0
  Sized bytes = (p : ℕ) → length (bytes p) ≡ (S.range p).len

  node_sized : Formed S → (bytes : Contents) (n : ℕ) → Sized bytes → Sized (after_node S bytes n)
  node_sized F bytes n z p = go (store_place (S.accesses n) p) refl
    where
      go : (o : Option ℕ) → store_place (S.accesses n) p ≡ o → length (option_map_or (λ k. S.out n (loads_in S bytes n) k) o (bytes p)) ≡ (S.range p).len
      go None e = z p
      go (Some k) e = let q = place_at (S.accesses n) p k e in F.sized n k q.access (loads_in S bytes n) q.at q.store ∙ ap (λ y. (S.range y).len) q.piece

  nodes_sized : Formed S → (list : List ℕ) (bytes : Contents) → Sized bytes → Sized (after_nodes S bytes list)
  nodes_sized F [] bytes z = z
  nodes_sized F (n ∷ rest) bytes z = nodes_sized F rest (after_node S bytes n) (node_sized F bytes n z)

module _ (S : System) (F : Formed S) (T : Synchronized S) (order : List ℕ) (O : Order S order) (main : Bytes) where
  abbrev before : ℕ → Contents
  before n = bytes_before S main order n

  -- the piece holds what w left
  held_after : (w n p : ℕ) → Earlier order w n → ((v : ℕ) → Among v (before_in (after_in order w) n) → Elsewhere S v p) → before n p ≡ after_node S (before w) w p
  held_after w n p h none =
      ap (λ l. after_nodes S (first_bytes S main) l p) (before_split order w n h)
      ∙ ap (λ b. b p) (nodes_join S (before_in order w) (w ∷ before_in (after_in order w) n) (first_bytes S main))
      ∙ nodes_same S (before_in (after_in order w) n) (after_node S (before w) w) p none

  sized_first : (p : ℕ) → length (first_bytes S main p) ≡ (S.range p).len
  sized_first p = go (S.contents p)
    where
      go : (b : Bool) → length (if b then bytes_in S main p else replicate (S.range p).len 0) ≡ (S.range p).len
      go true = length-map (range_with_len 0 (S.range p).len) (λ k. main (S.range p).memory ((S.range p).start + k)) ∙ length-range_with_len 0 (S.range p).len
      go false = length-replicate (S.range p).len 0

  held_sized : (n p : ℕ) → length (before n p) ≡ (S.range p).len
  held_sized n = nodes_sized S F (before_in order n) (first_bytes S main) sized_first

  -- a store to the piece of an access of n clashes with it
  store_clash : (n v k : ℕ) (a c : Access) → Has S n a → At S v k c → is_store c.doing ≡ true → c.piece ≡ a.piece → S.clash c a ≡ true
  store_clash n v k a c ha at s e =
      let lt = F.some n a ha in
      let cv = covers_at S a.piece 0 lt in
      F.clash_change c a (S.range a.piece).memory ((S.range a.piece).start + 0) (store_changes c.doing s) (subst (λ p. covers S p (S.range a.piece).memory ((S.range a.piece).start + 0) ≡ true) (sym e) cv) cv

  -- one that stands earlier is before the access
  store_before : (n v k : ℕ) (a c : Access) → Has S n a → Earlier order v n → At S v k c → is_store c.doing ≡ true → c.piece ≡ a.piece → (v ≢ n) × Before S v c n a
  store_before n v k a c ha h at s e = (ne, go (T.ordered v n c a (k, at) ha ne (store_clash n v k a c ha at s e)))
    where
      ne : v ≢ n
      ne q = let z = subst (λ z. Earlier order z n) q h in not_both order n n z z

      go : Before S v c n a ⊎ Before S n a v c → Before S v c n a
      go (inl p) = p
      go (inr p) = absurd (not_both order v n h (before_forward S F order O n v a c (λ q. ne (sym q)) p))

  over_self : (n : ℕ) (a c : Access) → Has S n a → c.piece ≡ a.piece → overlap S c.piece a.piece ≡ true
  over_self n a c ha e = subst (λ p. overlap S p a.piece ≡ true) (sym e) (overlap_self S a.piece (F.some n a ha))

  -- no store to the piece stands between what initializes a load and the load
  between : (n w : ℕ) (a c : Access) → Has S n a → Initializes S n a w c → (v : ℕ) → Among v (before_in (after_in order w) n) → Elsewhere S v a.piece
  between n w a c ha D v h k d at s e = go (D.last v d (k, at) q.0 (store_changes d.doing s) (over_self n a d ha e) q.1)
    where
      w_ahead : Earlier order w n
      w_ahead = before_forward S F order O w n c a D.apart D.before

      ahead : Earlier order v n
      ahead = subst (λ l. Among v l) (sym (before_split order w n w_ahead)) (among_right (before_in order w) (w ∷ before_in (after_in order w) n) v (inr h))

      q : (v ≢ n) × Before S v d n a
      q = store_before n v k a d ha ahead at s e

      outside : (v ≡ w → ⊥) × (Earlier order v w → ⊥)
      outside = after_not order v w O.once (earlier_among (after_in order w) v n h)

      go : (v ≡ w) ⊎ Before S v d w c → ⊥
      go (inl r) = outside.0 r
      go (inr b) = outside.1 (before_forward S F order O v w d c outside.0 b)

  -- THE VALUES

  abbrev touches_byte : ℕ → ℕ → Access → Bool
  touches_byte m i d = changes d.doing && covers S d.piece m i

  abbrev InNode : ℕ → Access → Type 0
  InNode w d = (k : ℕ) × (slice_get (S.accesses w) k ≡ Some d)

  abbrev left_at : ℕ → ℕ → ℕ → ℕ
  left_at w p i = slice_index (after_node S (before w) w p) (i - (S.range p).start)

  abbrev by_access : (w m i : ℕ) → ((d : Access) × InNode w d × (touches_byte m i d ≡ true)) ⊎ ((d : Access) → InNode w d → touches_byte m i d ≡ true → ⊥) → ℕ
  by_access w m i (inl t) = left_at w t.0.piece i
  by_access w m i (inr f) = 0

  abbrev pub byte_of : ℕ → Bytes
  byte_of w m i = by_access w m i (find_access (touches_byte m i) (S.accesses w))

  byte_is : (w m i : ℕ) (c : Access) → Has S w c → changes c.doing ≡ true → covers S c.piece m i ≡ true → byte_of w m i ≡ left_at w c.piece i
  byte_is w m i c h ch cv = go (find_access (touches_byte m i) (S.accesses w))
    where
      go : (r : ((d : Access) × InNode w d × (touches_byte m i d ≡ true)) ⊎ ((d : Access) → InNode w d → touches_byte m i d ≡ true → ⊥)) → by_access w m i r ≡ left_at w c.piece i
      go (inl t) = let q = and_parts (changes t.0.doing) (covers S t.0.piece m i) t.2 in ap (λ z. left_at w z.piece i) (F.one w t.0 c m i t.1 h q.0 ch q.1 cv)
      go (inr f) = absurd (f c h (and_from (changes c.doing) (covers S c.piece m i) ch cv))

  abbrev pub found_in : ℕ → ℕ → List ℕ
  found_in n p = before n p

  abbrev pub values : Values
  values = record { byte = byte_of; start = main }

  initializes_held : (n w : ℕ) (a c : Access) → Has S n a → Initializes S n a w c → before n a.piece ≡ after_node S (before w) w c.piece
  initializes_held n w a c ha D =
      held_after w n a.piece (before_forward S F order O w n c a D.apart D.before) (between n w a c ha D)
      ∙ ap (λ p. after_node S (before w) w p) (sym D.piece)

  initializes_byte : (n w m i : ℕ) (a c : Access) → Has S n a → covers S a.piece m i ≡ true → Initializes S n a w c → slice_index (before n a.piece) (i - (S.range a.piece).start) ≡ byte_of w m i
  initializes_byte n w m i a c ha cv D =
      ap (λ l. slice_index l (i - (S.range a.piece).start)) (initializes_held n w a c ha D)
      ∙ ap (λ p. slice_index (after_node S (before w) w c.piece) (i - (S.range p).start)) (sym D.piece)
      ∙ sym (byte_is w m i c D.has (stores_changes c.doing D.leaves) (subst (λ p. covers S p m i ≡ true) (sym D.piece) cv))

  initialized : (n w : ℕ) (a c : Access) → Has S n a → Initializes S n a w c → bytes_in S (byte_of w) a.piece ≡ before n a.piece
  initialized n w a c ha D = sym (fill_by_all (λ j. byte_of w (S.range a.piece).memory ((S.range a.piece).start + j)) (before n a.piece) (S.range a.piece).len 0 (held_sized n a.piece) (λ j lt. at j lt))
    where
      at : (j : ℕ) → j < (S.range a.piece).len → get_or (before n a.piece) j 0 ≡ byte_of w (S.range a.piece).memory ((S.range a.piece).start + j)
      at j lt =
          let e : (S.range a.piece).start + j - (S.range a.piece).start ≡ j = omega arith in
          ap (λ z. get_or (before n a.piece) z 0) (sym e) ∙ initializes_byte n w (S.range a.piece).memory ((S.range a.piece).start + j) a c ha (covers_at S a.piece j lt) D

  from_main : (n : ℕ) (a : Access) → Has S n a → Starts S n a → bytes_in S main a.piece ≡ before n a.piece
  from_main n a ha I = sym (nodes_same S (before_in order n) (first_bytes S main) a.piece none ∙ ap (λ z. if z then bytes_in S main a.piece else replicate (S.range a.piece).len 0) I.contents)
    where
      none : (v : ℕ) → Among v (before_in order n) → Elsewhere S v a.piece
      none v h k d at s e = let q = store_before n v k a d ha h at s e in I.none v d (k, at) q.0 (store_changes d.doing s) (over_self n a d ha e) q.1

  -- a node that keeps leaves what it finds
  keeps_found : (n m i : ℕ) (a : Access) → Has S n a → loads a.doing ≡ true → changes a.doing ≡ true → covers S a.piece m i ≡ true → byte_of n m i ≡ slice_index (before n a.piece) (i - (S.range a.piece).start)
  keeps_found n m i a ha al ac cv = byte_is n m i a ha ac cv ∙ ap (λ l. slice_index l (i - (S.range a.piece).start)) (node_same S (before n) n a.piece none)
    where
      no_store : (d : Doing) → loads d ≡ true → is_store d ≡ true → ⊥
      no_store Store l s = false≢true l
      no_store d l s = false≢true s

      sync : S.is_command n ≡ false
      sync = ⊎_elim (λ e. absurd (no_store a.doing al (command_change a.doing (F.of_command n a ha e) ac))) (λ e. e) (cases_Bool (S.is_command n))

      none : Elsewhere S n a.piece
      none k c at s e = false≢true (sym (sync_no_store c.doing (F.of_sync n c (k, at) sync)) ∙ s)

  -- what a command stores by an access, where it loaded what it finds
  pub stores_apart : (n k : ℕ) (c : Access) (loaded : ℕ → List ℕ) → At S n k c → is_store c.doing ≡ true → LoadsFound S found_in n loaded → S.out n loaded k ≡ after_node S (before n) n c.piece
  stores_apart n k c loaded at s L = F.by_loads n k loaded (loads_in S (before n) n) (λ j a aj l. L j a aj l ∙ sym (loads_at S (before n) n j a aj l)) ∙ sym (node_stores S F (before n) n k c at s)

  pub agrees : Agrees S values found_in
  agrees = record {
    makes = makes;
    keeps = λ n m i w a c ha al ac cv D. sym (initializes_byte n w m i a c ha cv D) ∙ sym (keeps_found n m i a ha al ac cv);
    keeps_start = λ n m i a ha al ac cv I. start n m i a ha cv I ∙ sym (keeps_found n m i a ha al ac cv);
    initialized = λ n w a c ha al D. initialized n w a c ha D;
    starts = λ n a ha al I. from_main n a ha I;
  }
    where
      makes : (n k m i : ℕ) (c : Access) (loaded : ℕ → List ℕ) → S.is_command n ≡ true → At S n k c → is_store c.doing ≡ true → covers S c.piece m i ≡ true → LoadsFound S found_in n loaded → slice_index (S.out n loaded k) (i - (S.range c.piece).start) ≡ byte_of n m i
      makes n k m i c loaded cl at s cv L =
          ap (λ l. slice_index l (i - (S.range c.piece).start)) (stores_apart n k c loaded at s L)
          ∙ sym (byte_is n m i c (k, at) (store_changes c.doing s) cv)

      start : (n m i : ℕ) (a : Access) → Has S n a → covers S a.piece m i ≡ true → Starts S n a → main m i ≡ slice_index (before n a.piece) (i - (S.range a.piece).start)
      start n m i a ha cv I =
          let p = S.range a.piece in
          let c = covers_place S a.piece m i cv in
          let e : p.start + (i - p.start) ≡ i = omega (arith, c.1) in
          let got : get_or (before n a.piece) (i - p.start) 0 ≡ main p.memory i =
          ap (λ l. get_or l (i - p.start) 0) (sym (from_main n a ha I))
          ∙ get_or-map-range_with_len (λ j. main p.memory (p.start + j)) 0 p.len (i - p.start) (i - p.start) 0 (omega arith) (omega (arith, c.1, c.2))
          ∙ ap (λ z. main p.memory z) e in
          ap (λ z. main z i) (sym c.0) ∙ sym got

  -- what is read for the host, or taken over, is there at the end
  pub read_held : (n : ℕ) (a : Access) → Has S n a → reads a.doing ≡ true → apart S main order a.piece ≡ before n a.piece
  read_held n a ha r =
      ap (λ l. after_nodes S (first_bytes S main) l a.piece) (list_split order n (O.all n (F.within n a ha)))
      ∙ ap (λ b. b a.piece) (nodes_join S (before_in order n) (n ∷ after_in order n) (first_bytes S main))
      ∙ nodes_same S (n ∷ after_in order n) (before n) a.piece none
    where
      none : (v : ℕ) → (v ≡ n) ⊎ Among v (after_in order n) → Elsewhere S v a.piece
      none v (inl q) k c at s e = false≢true (sym (sync_no_store c.doing (F.of_sync v c (k, at) (ap S.is_command q ∙ reads_no_command S F n a ha r))) ∙ s)
      none v (inr h) k c at s e = go (T.ordered v n c a (k, at) ha outside.0 (store_clash n v k a c ha at s e))
        where
          outside : (v ≡ n → ⊥) × (Earlier order v n → ⊥)
          outside = after_not order v n O.once h

          go : Before S v c n a ⊎ Before S n a v c → ⊥
          go (inl b) = outside.1 (before_forward S F order O v n c a outside.0 b)
          go (inr b) = none_later S F n a ha r v c outside.0 b
