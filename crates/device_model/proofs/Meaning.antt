-- What commands give one after another is the same for a program and for its system.
use Rattle.std.proofs.Common.{◌≡◌, ◌≢◌, ◌⊎◌, inl, inr, ℕ, zero, suc, ◌<◌, ◌==◌, ◌&&◌, Bool, true, false, if◌then◌else◌, List, [], ◌∷◌, length, map, replicate, slice_get, slice_index, Option, Some, None, refl, sym, ap, ◌∙◌, subst, ⊎_elim, eq-eqb, eqb-true}
use Rattle.std.specs.List.{filter}
use Rattle.std.specs.Option.{option_map, option_map_or}
use Rattle.std.proofs.lemmas.Bool.{cases_eq, cases_Bool, false≢true, and_parts, and_from}
use Rattle.std.proofs.lemmas.List.{get_or-set_other}
use Rattle.std.proofs.lemmas.List.FromFn.{fill_by_all}
use Rattle.law_runs.specs.Apart as law
use Rattle.law_runs.specs.Systems.{Access, is_load, is_store}
use Rattle.base.proofs.Absence.{some_same}
use Rattle.base.specs.Applied.{bytes_at, after_op, applied}
use Rattle.base.specs.Operands.{sources_of, destination_of}
use Rattle.base.specs.Shapes.{bytes_of}
use Rattle.base.specs.declared.op.Op.{Op}
use Rattle.device_cache.specs.Lines.{Bytes}
use Rattle.check_program.specs.Apart.{op_at, after_node, after_nodes, apart, bytes_before}
use Rattle.check_order.specs.Orders.{before_in}
use Rattle.device_model.proofs.Cases.{is_store as stores, store_changes, barrier_no_store}
use Rattle.device_model.proofs.Commands.{loaded_of, Sized, first_of, Commands}
use Rattle.device_model.proofs.Formed.{At, at_first, at_rest, one_change, of_change}
use Rattle.device_model.proofs.Going.{takes_loads, store_is, is_store_long}
use Rattle.device_model.proofs.SystemOf.{command_at, access_of, is_taken, picked, fit, store_size, out_of, law_of}
use Rattle.device_model.proofs.Viewed.{From, from, to_law, other_kind, before_same}
use Rattle.device_model.specs.Agents.{bytes_in}
use Rattle.device_model.specs.Laws.{HoldsImports}
use Rattle.device_model.specs.Outputs.{stored}
use Rattle.device_model.specs.Ready.{kind_at}
use Rattle.device_model.specs.Steps.{store_of}
use Rattle.program.specs.Rules.{shapes_of}
use Rattle.program.specs.declared.program.Program.{Program}
use Rattle.check_access_order.proofs.Sites.{has_within}
use Rattle.check_access.specs.AccessKinds.{loads}
use Rattle.check_access.specs.ValidView.{Has}
use Rattle.check_access.specs.Views.{View, view_of, accesses_of, piece_at, imported_at}
use Rattle.check_access.specs.declared.access.Access as view

-- LISTS

fit_same : (size : ℕ) (bytes : List ℕ) → length bytes ≡ size → fit size bytes ≡ bytes
fit_same size bytes e = sym (fill_by_all (λ i. slice_index bytes i) bytes size 0 e (λ k lt. refl))

-- what a command loads, place by place, are the bytes of its loads
pub picked_loads : (V : View) (n : ℕ) (list : List view.Access) (f : ℕ → List ℕ) → picked list (λ k. option_map_or (λ a. if is_load a.doing then f a.piece else []) (slice_get (map (access_of V n) list) k) []) ≡ map (λ a. f a.piece) (filter is_taken list)
picked_loads V n [] f = refl
picked_loads V n (a ∷ rest) f = go (is_taken a) (picked_loads V n rest f)
  where
    go : (b : Bool) → picked rest (λ k. option_map_or (λ a. if is_load a.doing then f a.piece else []) (slice_get (map (access_of V n) rest) k) []) ≡ map (λ a. f a.piece) (filter is_taken rest) → (if b then (if b then f a.piece else []) ∷ picked rest (λ k. option_map_or (λ a. if is_load a.doing then f a.piece else []) (slice_get (map (access_of V n) rest) k) []) else picked rest (λ k. option_map_or (λ a. if is_load a.doing then f a.piece else []) (slice_get (map (access_of V n) rest) k) [])) ≡ map (λ a. f a.piece) (if b then a ∷ filter is_taken rest else filter is_taken rest)
    go true e = ap (λ l. f a.piece ∷ l) e
    go false e = e

maps_same : (f g : view.Access → List ℕ) (test : view.Access → Bool) (list : List view.Access) → ((a : view.Access) → At list a → f a ≡ g a) → map f (filter test list) ≡ map g (filter test list)
maps_same f g test [] h = refl
maps_same f g test (a ∷ rest) h = go (test a) (maps_same f g test rest (λ b k. h b (at_rest b a rest k)))
  where
    go : (b : Bool) → map f (filter test rest) ≡ map g (filter test rest) → map f (if b then a ∷ filter test rest else filter test rest) ≡ map g (if b then a ∷ filter test rest else filter test rest)
    go true r = ap (λ z. z ∷ map f (filter test rest)) (h a (at_first a rest)) ∙ ap (λ l. g a ∷ l) r
    go false r = r

no_place : (list : List Access) (p : ℕ) → ((k : ℕ) (a : Access) → slice_get list k ≡ Some a → is_store a.doing ≡ true → a.piece ≡ p → ⊥) → law.store_place list p ≡ None
no_place [] p h = refl
no_place (a ∷ rest) p h = go (cases_Bool (is_store a.doing && (a.piece == p))) (no_place rest p (λ k b at. h (suc k) b at))
  where
    go : ((is_store a.doing && (a.piece == p)) ≡ true) ⊎ ((is_store a.doing && (a.piece == p)) ≡ false) → law.store_place rest p ≡ None → law.store_place (a ∷ rest) p ≡ None
    go (inl e) r = let q = and_parts (is_store a.doing) (a.piece == p) e in absurd (h 0 a refl q.0 (eqb-true a.piece p q.1))
    go (inr e) r = ap (λ b. if b then Some 0 else option_map (λ k. suc k) (law.store_place rest p)) e ∙ ap (option_map (λ k. suc k)) r

some_place : (list : List Access) (p k : ℕ) (a : Access) → slice_get list k ≡ Some a → is_store a.doing ≡ true → a.piece ≡ p → (j : ℕ) × (law.store_place list p ≡ Some j)
some_place [] p k a h s e = absurd cc
some_place (b ∷ rest) p k a h s e = go (cases_Bool (is_store b.doing && (b.piece == p))) k h (λ i at. some_place rest p i a at s e)
  where
    go : ((is_store b.doing && (b.piece == p)) ≡ true) ⊎ ((is_store b.doing && (b.piece == p)) ≡ false) → (k : ℕ) → slice_get (b ∷ rest) k ≡ Some a → ((i : ℕ) → slice_get rest i ≡ Some a → (j : ℕ) × (law.store_place rest p ≡ Some j)) → (j : ℕ) × (law.store_place (b ∷ rest) p ≡ Some j)
    go (inl q) k at more = (0, ap (λ z. if z then Some 0 else option_map (λ k. suc k) (law.store_place rest p)) q)
    go (inr q) zero at more = let same : b ≡ a = some_same at in absurd (false≢true (sym q ∙ and_from (is_store b.doing) (b.piece == p) (ap (λ z. is_store z.doing) same ∙ s) (eq-eqb b.piece p (ap (λ z. z.piece) same ∙ e))))
    go (inr q) (suc k) at more = let r = more k at in (suc r.0, ap (λ z. if z then Some 0 else option_map (λ k. suc k) (law.store_place rest p)) q ∙ ap (option_map (λ k. suc k)) r.1)

module _ (program : Program) (C : Commands program) where
  abbrev V : View
  V = view_of program

  -- each piece has the same bytes
  abbrev pub Same : (ℕ → List ℕ) → List (List ℕ) → Type 0
  Same f l = (p : ℕ) → p < length V.pieces → f p ≡ bytes_at l p

  known : (n : ℕ) (a : view.Access) → Has V n a → a.piece < length V.pieces
  known n a h = C.formed.shaped.known n h.0 a h.1

  -- what a command loads
  pub loads_same : (n : ℕ) → command_at V n ≡ true → (f : ℕ → List ℕ) (l : List (List ℕ)) → Same f l → picked (accesses_of V n) (law.loads_in (law_of program) f n) ≡ loaded_of V (λ m p. bytes_at l p) n
  loads_same n cl f l same =
      picked_loads V n (accesses_of V n) f
      ∙ ap (map (λ a. f a.piece)) (takes_loads program C.formed n cl)
      ∙ maps_same (λ a. f a.piece) (λ a. bytes_at l a.piece) (λ a. loads a.kind) (accesses_of V n) (λ a h. same a.piece (known n a h))

  -- a store is of a command
  store_command : (n : ℕ) (a : view.Access) → Has V n a → stores a.kind ≡ true → command_at V n ≡ true
  store_command n a h st = ⊎_elim (λ c. c) (λ c. absurd (⊎_elim (λ s. false≢true (sym (barrier_no_store a.kind (C.formed.shaped.sync n h.0 a h.1 s)) ∙ st)) (λ s. false≢true (ap stores (sym (C.formed.shaped.host n h.0 a h.1 s)) ∙ st)) (other_kind (kind_at V n) c))) (cases_Bool (command_at V n))

  module _ (n : ℕ) (f : ℕ → List ℕ) (l : List (List ℕ)) (same : Same f l) (Z : Sized V l) where
    -- a piece to which it does not store
    quiet : (p : ℕ) → ((a : view.Access) → Has V n a → stores a.kind ≡ true → a.piece ≡ p → ⊥) → law.after_node (law_of program) f n p ≡ f p
    quiet p h = ap (λ o. option_map_or (λ k. out_of program n (law.loads_in (law_of program) f n) k) o (f p)) (no_place (map (access_of V n) (accesses_of V n)) p (λ k a at st e. none k a (from V (out_of program) n k a at) st e))
      where
        none : (k : ℕ) (a : Access) → From V n k a → is_store a.doing ≡ true → a.piece ≡ p → ⊥
        none k a g st e = h g.access (k, g.at) (store_is g.access.kind (ap (λ z. is_store z.doing) (sym g.same) ∙ st)) (ap (λ z. z.piece) (sym g.same) ∙ e)

    stored_there : (op : Op ℕ) → op_at program n ≡ Some op → law.after_node (law_of program) f n (destination_of op) ≡ bytes_at (after_node program l n) (destination_of op)
    stored_there op e = ap (λ o. option_map_or (λ k. out_of program n (law.loads_in (law_of program) f n) k) o (f (destination_of op))) place.1
        ∙ ap (fit (store_size V n)) (ap (stored program n) (loads_same n cl f l same) ∙ C.made n op l e Z)
        ∙ fit_same (store_size V n) (bytes_at (after_node program l n) (destination_of op)) ((C.sized n l Z).sized (destination_of op) there ∙ ap (λ p. bytes_of (piece_at V p).shape) to)
      where
        cl : command_at V n ≡ true
        cl = let s = C.stores n op e in store_command n s.access s.has s.store

        place : (j : ℕ) × (law.store_place (map (access_of V n) (accesses_of V n)) (destination_of op) ≡ Some j)
        place = let s = C.stores n op e in some_place (map (access_of V n) (accesses_of V n)) (destination_of op) s.has.0 (access_of V n s.access) (to_law V (out_of program) n s.has.0 s.access s.has.1) (is_store_long s.access.kind s.store) s.piece

        there : destination_of op < length V.pieces
        there = let s = C.stores n op e in subst (λ p. p < length V.pieces) s.piece (known n s.access s.has)

        to : destination_of op ≡ (store_of V n).piece
        to = let s = C.stores n op e in sym s.piece ∙ ap (λ z. z.piece) (of_change V C.formed n s.access s.has (store_changes s.access.kind s.store))

    elsewhere : (op : Op ℕ) → op_at program n ≡ Some op → (p : ℕ) → p ≢ destination_of op → law.after_node (law_of program) f n p ≡ f p
    elsewhere op e p ne = quiet p (λ a h st q. let s = C.stores n op e in ne (sym q ∙ ap (λ z. z.piece) (one_change V C.formed n a s.access h s.has (store_changes a.kind st) (store_changes s.access.kind s.store)) ∙ s.piece))

    node_same : Same (law.after_node (law_of program) f n) (after_node program l n)
    node_same p lt = go (op_at program n) refl
      where
        none : op_at program n ≡ None → (a : view.Access) → Has V n a → stores a.kind ≡ true → a.piece ≡ p → ⊥
        none e a h st q = let c = C.command n (has_within V n a C.formed.shaped h) (store_command n a h st) in not_both (sym e ∙ c.1)
          where
            not_both : {x : Op ℕ} → None ≡ Some x → ⊥
            not_both q = cc

        go : (o : Option (Op ℕ)) → op_at program n ≡ o → law.after_node (law_of program) f n p ≡ bytes_at (option_map_or (after_op (shapes_of program) l) o l) p
        go None e = quiet p (none e) ∙ same p lt
        go (Some op) e = ⊎_elim
            (λ (q : p ≡ destination_of op). subst (λ z. law.after_node (law_of program) f n z ≡ bytes_at (after_op (shapes_of program) l op) z) (sym q) (stored_there op e ∙ ap (λ o. bytes_at (option_map_or (after_op (shapes_of program) l) o l) (destination_of op)) e))
            (λ (q : p ≢ destination_of op). elsewhere op e p q ∙ same p lt ∙ sym (get_or-set_other l (destination_of op) p (applied (shapes_of program) op (map (bytes_at l) (sources_of op)) (bytes_at l (destination_of op))) [] q))
            (cases_eq p (destination_of op))

  nodes_same : (list : List ℕ) (f : ℕ → List ℕ) (l : List (List ℕ)) → Same f l → Sized V l → Same (law.after_nodes (law_of program) f list) (after_nodes program l list)
  nodes_same [] f l same Z = same
  nodes_same (n ∷ rest) f l same Z = nodes_same rest (law.after_node (law_of program) f n) (after_node program l n) (node_same n f l same Z) (C.sized n l Z)

  nodes_sized : (list : List ℕ) (bytes : List (List ℕ)) → Sized V bytes → Sized V (after_nodes program bytes list)
  nodes_sized [] bytes z = z
  nodes_sized (n ∷ rest) bytes z = nodes_sized rest (after_node program bytes n) (C.sized n bytes z)

  pub held_sized : (order : List ℕ) (n : ℕ) → Sized V (bytes_before program order n)
  held_sized order n = nodes_sized (before_in order n) (first_of program) C.first

  module _ (main : Bytes) (holds : HoldsImports program main) where
    first_same : Same (law.first_bytes (law_of program) main) (first_of program)
    first_same p lt = ⊎_elim
        (λ e. ap (λ z. if z then bytes_in V main p else replicate (bytes_of (piece_at V p).shape) 0) e ∙ C.imported main holds p e)
        (λ e. ap (λ z. if z then bytes_in V main p else replicate (bytes_of (piece_at V p).shape) 0) e ∙ sym (C.blank p lt e))
        (cases_Bool (imported_at V p))

    pub apart_same : (order : List ℕ) → Same (law.apart (law_of program) main order) (apart program order)
    apart_same order = nodes_same order (law.first_bytes (law_of program) main) (first_of program) first_same C.first

    pub before_node_same : (order : List ℕ) (n : ℕ) → Same (law.bytes_before (law_of program) main order n) (bytes_before program order n)
    before_node_same order n p lt = apart_same (law.before_in order n) p lt ∙ ap (λ l. bytes_at (apart program l) p) (sym (before_same order n))
