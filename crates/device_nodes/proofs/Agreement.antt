-- What is known agrees with the state after each event.
use Rattle.std.proofs.Common.{◌≡◌, ℕ, ◌<◌, Bool, true, false, not, ◌&&◌, ◌||◌, ◌==◌, List, length, get_or, slice_set, replicate, refl, sym, ap, ◌∙◌, if◌then◌else◌}
use mathlib.Core.Path.{fun_ext}
use Rattle.vk.specs.declared.layout.Layout.{Layout}
use Rattle.vk.specs.declared.layout.Layout.TheVariants.{Undefined}
use Rattle.device_cache.specs.Lines.{Bytes}
use Rattle.device_nodes.proofs.Listing.{any_begun}
use Rattle.device_nodes.proofs.Lists.{set_put, put_same, copies}
use Rattle.device_nodes.specs.Internal.Running.{is_among, any_of, Runs}
use Rattle.device_nodes.specs.Controls.{Control, phase_of, layout_of, owner_of, counter_of, Agrees}
use Rattle.device_nodes.specs.declared.running.Running.{Running}
use Rattle.check_state.specs.StateValid.{needs_owner}
use Rattle.device_model.specs.Ready.{kind_at, some_node, is_torn, is_wrong, is_foreign, loads_undefined, stores_over, hits, marked_by}
use Rattle.device_model.specs.States.{is_begun, State, put, opened}
use Rattle.device_model.specs.Steps.{owned_after, laid_after, begun, ended, raised_by, raised, synced, hosted}
use Rattle.device_model.specs.declared.owner.Owner.{Owner}
use Rattle.device_model.specs.declared.owner.Owner.TheVariants.{Unused}
use Rattle.device_model.specs.declared.phase.Phase.{Phase}
use Rattle.device_model.specs.declared.phase.Phase.TheVariants.{Idle, Begun, Done}
use Rattle.check_access.specs.AccessKinds.{wanted}
use Rattle.check_access.specs.Views.{View, accesses_of, queue_at, family_at, node_access}
use Rattle.check_access.specs.declared.access.Access.{Access}

-- where nothing has run
pub opened_agrees : (c : Control) (nodes pieces queues : ℕ) → c.phases ≡ replicate nodes Idle → c.marked ≡ replicate nodes false → c.layouts ≡ replicate pieces Undefined → c.owners ≡ replicate pieces Unused → c.counters ≡ replicate queues 0
    → (main : Bytes) → Agrees c (opened main)
opened_agrees c nodes pieces queues phases marked layouts owners counters main = record {
  phase = λ n. ap (λ l. get_or l n Idle) phases ∙ copies nodes Idle n;
  mark = λ n. ap (λ l. get_or l n false) marked ∙ copies nodes false n;
  layout = λ p. ap (λ l. get_or l p Undefined) layouts ∙ copies pieces Undefined p;
  owner = λ p. ap (λ l. get_or l p Unused) owners ∙ copies pieces Unused p;
  counter = λ q. ap (λ l. get_or l q 0) counters ∙ copies queues 0 q;
}

turned : (a b c : Bool) → (a && (b && c)) ≡ (b && (a && c))
turned true true c = refl
turned true false c = refl
turned false true c = refl
turned false false c = refl

module _ (old : Control) (s : State) (A : Agrees old s) (r : Running) (R : Runs (length old.view.nodes) (phase_of old) r) (n : ℕ) where
  abbrev V : View
  V = old.view

  -- some begun command passes
  begun_some : (f : ℕ → Bool) → any_of r f ≡ some_node V (λ x. is_begun (s.phase x) && f x)
  begun_some f = any_begun V (phase_of old) r R f ∙ ap (λ p. some_node V (λ x. is_begun (p x) && f x)) (fun_ext A.phase)

  pub torn : (p : ℕ) → any_of r (λ x. not (x == n) && stores_over V p x) ≡ is_torn V s n p
  torn p = begun_some (λ x. not (x == n) && stores_over V p x) ∙ ap (some_node V) (fun_ext (λ x. turned (is_begun (s.phase x)) (not (x == n)) (stores_over V p x)))

  pub undefined : (a : Access) (layout : Layout) (owner : Owner) → layout ≡ layout_of old a.piece → owner ≡ owner_of old a.piece
      → (any_of r (λ x. not (x == n) && stores_over V a.piece x) || (is_wrong (wanted a.kind) layout || (needs_owner V (node_access n a) && is_foreign owner (family_at V n)))) ≡ loads_undefined V s n a
  undefined a layout owner lay own =
      ap (λ b. b || (is_wrong (wanted a.kind) layout || (needs_owner V (node_access n a) && is_foreign owner (family_at V n)))) (torn a.piece)
      ∙ ap (λ l. is_torn V s n a.piece || (is_wrong (wanted a.kind) l || (needs_owner V (node_access n a) && is_foreign owner (family_at V n)))) (lay ∙ A.layout a.piece)
      ∙ ap (λ o. is_torn V s n a.piece || (is_wrong (wanted a.kind) (s.layout a.piece) || (needs_owner V (node_access n a) && is_foreign o (family_at V n)))) (own ∙ A.owner a.piece)

  -- the begun commands that clash with node n are marked
  abbrev pub Marks : List Bool → Type 0
  Marks marked = (x : ℕ) → get_or marked x false ≡ (get_or old.marked x false || (is_among r.nodes r.count x && hits V x n))

  marks : (marked : List Bool) → Marks marked → (x : ℕ) → get_or marked x false ≡ marked_by V s n x
  marks marked each x =
      each x ∙ ap (λ b. b || (is_among r.nodes r.count x && hits V x n)) (A.mark x)
      ∙ ap (λ b. s.marked x || (b && hits V x n)) (sym (R.each x) ∙ ap is_begun (A.phase x))

  phases : (new : Control) (p : Phase) → n < length old.phases → new.phases ≡ slice_set old.phases n p → (k : ℕ) → phase_of new k ≡ put s.phase n p k
  phases new p lt e k = ap (λ l. get_or l k Idle) e ∙ set_put old.phases n p Idle lt k ∙ put_same (phase_of old) s.phase n p p A.phase refl k

  module _ (new : Control) (there : n < length old.phases) where
    pub begun_agrees : (marked : List Bool) (mark : Bool) → Marks marked → n < length marked → mark ≡ any_of r (λ x. hits V n x) → new.marked ≡ slice_set marked n mark
        → new.phases ≡ slice_set old.phases n Begun → new.layouts ≡ old.layouts → ((p : ℕ) → owner_of new p ≡ owned_after V n (accesses_of V n) p (owner_of old p)) → new.counters ≡ old.counters
        → (junk : List ℕ) → Agrees new (begun V s n junk)
    begun_agrees marked mark each fits told is begins lays owns counts junk = record {
      phase = phases new Begun there begins;
      mark = λ k. ap (λ l. get_or l k false) is ∙ set_put marked n mark false fits k ∙ put_same (λ x. get_or marked x false) (marked_by V s n) n mark (some_node V (λ x. is_begun (s.phase x) && hits V n x)) (marks marked each) (told ∙ begun_some (λ x. hits V n x)) k;
      layout = λ p. ap (λ l. get_or l p Undefined) lays ∙ A.layout p;
      owner = λ p. owns p ∙ ap (owned_after V n (accesses_of V n) p) (A.owner p);
      counter = λ q. ap (λ l. get_or l q 0) counts ∙ A.counter q;
    }

    pub ended_agrees : new.phases ≡ slice_set old.phases n Done → new.marked ≡ old.marked → new.layouts ≡ old.layouts → new.owners ≡ old.owners → new.counters ≡ old.counters → (bytes : List ℕ) → Agrees new (ended V s n bytes)
    ended_agrees ends marked lays owns counts bytes = record {
      phase = phases new Done there ends;
      mark = λ k. ap (λ l. get_or l k false) marked ∙ A.mark k;
      layout = λ p. ap (λ l. get_or l p Undefined) lays ∙ A.layout p;
      owner = λ p. ap (λ l. get_or l p Unused) owns ∙ A.owner p;
      counter = λ q. ap (λ l. get_or l q 0) counts ∙ A.counter q;
    }

    pub synced_agrees : new.phases ≡ slice_set old.phases n Done → Marks new.marked → ((p : ℕ) → layout_of new p ≡ laid_after (accesses_of V n) p (layout_of old p))
        → ((p : ℕ) → owner_of new p ≡ owned_after V n (accesses_of V n) p (owner_of old p)) → ((q : ℕ) → counter_of new q ≡ raised (queue_at V n) (kind_at V n) (counter_of old) q)
        → (junk : List ℕ) → Agrees new (synced V s n junk)
    synced_agrees ends each lays owns counts junk = record {
      phase = phases new Done there ends;
      mark = marks new.marked each;
      layout = λ p. lays p ∙ ap (laid_after (accesses_of V n) p) (A.layout p);
      owner = λ p. owns p ∙ ap (owned_after V n (accesses_of V n) p) (A.owner p);
      counter = λ q. counts q ∙ ap (λ v. if queue_at V n == q then raised_by (kind_at V n) v else v) (A.counter q);
    }

    pub hosted_agrees : new.phases ≡ slice_set old.phases n Done → Marks new.marked → new.layouts ≡ old.layouts → new.owners ≡ old.owners → new.counters ≡ old.counters → (junk : List ℕ) → Agrees new (hosted V s n junk)
    hosted_agrees ends each lays owns counts junk = record {
      phase = phases new Done there ends;
      mark = marks new.marked each;
      layout = λ p. ap (λ l. get_or l p Undefined) lays ∙ A.layout p;
      owner = λ p. ap (λ l. get_or l p Unused) owns ∙ A.owner p;
      counter = λ q. ap (λ l. get_or l q 0) counts ∙ A.counter q;
    }
