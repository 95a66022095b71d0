-- A program whose pairs are synchronized is synchronized, and one with a flaw is not.
use Rattle.std.proofs.Common.{◌≡◌, ◌⊎◌, inl, inr, ℕ, ◌<◌, true, List, length, slice_get, Option, Some, None, Result, Ok, Err, IfOk, sym, ap, subst, ◌∙◌, ⊎_elim, arith}
use Rattle.std.proofs.lemmas.Bool.{cases_eq, cases_lt}
use Rattle.std.proofs.lemmas.Option.{slice_get_within}
use Rattle.std.specs.Option.{option_map_or}
use Rattle.check_order.specs.Orders.{Order}
use Rattle.check_access.specs.ValidView.{ValidView, Has, NodeAccessAt}
use Rattle.check_access.specs.Views.{View, node_access, node_accesses_of}
use Rattle.check_access.specs.declared.access.Access.{Access}
use Rattle.check_access.specs.declared.node_access.NodeAccess.{NodeAccess}
use Rattle.check_sync.specs.First.{DecidesSynchronized, FindsFirst, FirstSyncHazard}
use Rattle.check_sync.specs.Synchronized.{Clashing, Synchronized, PairSynchronized, Flawed, SynchronizedBelow, FirstFlaw}
use Rattle.check_sync.specs.declared.sync_hazard.Flaw.{Flaw}
use Rattle.check_sync.specs.declared.sync_hazard.Flaw.TheVariants.{Unordered, NotAvailable, NotVisible}
use Rattle.check_sync.specs.declared.sync_hazard.SyncHazard.{SyncHazard}
use Rattle.check_sync.proofs.Clashes.{clash_turned}
use Rattle.check_sync.proofs.Ordered.{listed_in, listed_of, not_earlier}
use Rattle.check_access_order.proofs.Sites.{has_within}
use Rattle.check_sync.proofs.Passes.{visible_entered}
use Rattle.check_sync.specs.Internal.Places.{Known}
use Rattle.check_access_order.proofs.Forward.{order_forward}
use Rattle.check_order.proofs.InOrder.{not_both}

turned : (V : View) (x y : ℕ) (a b : Access) → Clashing V x a y b → Clashing V y b x a
turned V x y a b C = record { apart = λ e. C.apart (sym e); clash = clash_turned V a b C.clash }

same_node : (V : View) (order : List ℕ) (x y i j : ℕ) (a b : Access) → i ≡ j → NodeAccessAt (node_accesses_of V order) i (node_access x a) → NodeAccessAt (node_accesses_of V order) j (node_access y b) → x ≡ y
same_node V order x y i j a b e p q = ap (λ o. option_map_or (λ t. t.node) o 0) (sym p ∙ ap (λ k. slice_get (node_accesses_of V order) k) e ∙ q)

-- one of two accesses of different nodes is listed before the other
pair_of : (V : View) (order : List ℕ) → ValidView V → Order V.nodes order → SynchronizedBelow V (node_accesses_of V order) (length (node_accesses_of V order)) → (x y : ℕ) (a b : Access) → Has V x a → Has V y b → Clashing V x a y b → PairSynchronized V (node_access x a) (node_access y b) ⊎ PairSynchronized V (node_access y b) (node_access x a)
pair_of V order S O T x y a b hx hy C =
    let i = listed_in V order x a (O.all x (has_within V x a S hx)) hx in
    let j = listed_in V order y b (O.all y (has_within V y b S hy)) hy in
    ⊎_elim
    (λ (e : i.0 ≡ j.0). absurd (C.apart (same_node V order x y i.0 j.0 a b e i.1 j.1)))
    (λ ne. ⊎_elim
    (λ lt. inl (T i.0 j.0 (node_access x a) (node_access y b) i.1 j.1 lt (slice_get_within (node_accesses_of V order) j.0 (node_access y b) j.1)))
    (λ ge. inr (T j.0 i.0 (node_access y b) (node_access x a) j.1 i.1 (omega (arith, ne, ge)) (slice_get_within (node_accesses_of V order) i.0 (node_access x a) i.1)))
    (cases_lt i.0 j.0))
    (cases_eq i.0 j.0)

pub synchronized_all : (V : View) (order : List ℕ) → ValidView V → Order V.nodes order → SynchronizedBelow V (node_accesses_of V order) (length (node_accesses_of V order)) → Synchronized V
synchronized_all V order S O T = record {
  ordered = λ x y a b hx hy C. ⊎_elim (λ t. inl (t C).0) (λ t. inr (t (turned V x y a b C)).0) (pair_of V order S O T x y a b hx hy C);
  passed = λ x y a b hx hy C p ha hb. ⊎_elim (λ t. (t C).1 ha hb) (λ t. absurd (not_both order x y (order_forward V S order O x y a b hy C.apart p) (order_forward V S order O y x b a hx (λ e. C.apart (sym e)) (t (turned V x y a b C)).0))) (pair_of V order S O T x y a b hx hy C);
}

module _ (V : View) (order : List ℕ) (S : ValidView V) (O : Order V.nodes order) where
  known : (j : ℕ) (b : NodeAccess) → NodeAccessAt (node_accesses_of V order) j b → Known V b
  known j b h = let p = (listed_of V order j b h).1 in record { has = p; node = has_within V b.node b.access S p; piece = S.known b.node p.0 b.access p.1 }

  -- a flaw of any two listed accesses
  flaw_against : (flaw : Flaw) (i j : ℕ) (a b : NodeAccess) → NodeAccessAt (node_accesses_of V order) i a → NodeAccessAt (node_accesses_of V order) j b → i < j → Clashing V a.node a.access b.node b.access → Flawed flaw V a b → Synchronized V → ⊥
  flaw_against Unordered i j a b ha hb lt C f T = ⊎_elim
      (λ p. f p)
      (λ p. not_earlier V order O.once i j a b ha hb lt (order_forward V S order O b.node a.node b.access a.access (listed_of V order i a ha).1 (λ e. C.apart (sym e)) p))
      (T.ordered a.node b.node a.access b.access (listed_of V order i a ha).1 (listed_of V order j b hb).1 C)
  flaw_against NotAvailable i j a b ha hb lt C f T =
      let t = T.passed a.node b.node a.access b.access (listed_of V order i a ha).1 (listed_of V order j b hb).1 C f.0 f.1 f.2 in
      let e = visible_entered V t.0 b (known j b hb) (t.1, t.3, t.4) in
      f.3 (t.0, e.0, t.2, e.1, e.2)
  flaw_against NotVisible i j a b ha hb lt C f T = f.4 (T.passed a.node b.node a.access b.access (listed_of V order i a ha).1 (listed_of V order j b hb).1 C f.0 f.1 f.2)

  pub flaw_breaks : (i j : ℕ) (a b : NodeAccess) (flaw : Flaw) → FirstFlaw V (node_accesses_of V order) i j a b flaw → Synchronized V → ⊥
  flaw_breaks i j a b flaw F T = flaw_against flaw i j a b F.first F.second F.rising F.clashing F.flawed T

-- what is found decides whether all is synchronized
decides : (V : View) (accesses : List NodeAccess) (found : Option SyncHazard) → ValidView V → FindsFirst V accesses found → DecidesSynchronized V accesses found
decides V accesses None S T order O is = synchronized_all V order S O (subst (λ l. SynchronizedBelow V l (length l)) is T)
decides V accesses (Some sync_hazard) S F order O is = let first = subst (λ l. FirstSyncHazard V l sync_hazard) is F in flaw_breaks V order S O first.i first.j first.a first.b sync_hazard.flaw first.flawed

pub all_decided : {E : Type 0} (V : View) (accesses : List NodeAccess) (result : Result (Option SyncHazard) E) → ValidView V → IfOk result (FindsFirst V accesses) → IfOk result (DecidesSynchronized V accesses)
all_decided V accesses (Ok found) S F = decides V accesses found S F
all_decided V accesses (Err n) S F = tt
