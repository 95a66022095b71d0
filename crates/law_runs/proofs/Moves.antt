-- The moves of caches keep what holds of a byte, and so does a flush of a set of agents.
use Rattle.std.proofs.Common.{◌≡◌, ◌⊎◌, inl, inr, ℕ, Bool, true, false, if◌then◌else◌, refl, sym, ap, ◌∙◌, subst}
use Rattle.std.proofs.lemmas.Bool.{cases_Bool, false≢true}
use Rattle.law_runs.proofs.Formed.{Ranked}
use Rattle.law_runs.specs.Formed.{Formed}
use Rattle.law_runs.proofs.Invariant.{Tells, Values, IsLast, Untouched, Knows, own, store_passed, turn_passed, Owned, ByteOk}
use Rattle.law_runs.proofs.Last.{last_same}
use Rattle.law_runs.specs.Lines.{is_dirty}
use Rattle.device_cache.specs.Lines.{Line, Absent, Clean, Dirty, seen, written, cleaned, filled, dropped}
use Rattle.law_runs.specs.Runs.{FlushTo}
use Rattle.law_runs.specs.Systems.{Access, System, is_store, stores}

-- ONE LINE

cleaned_tells : (l : Line) (b : ℕ) → Tells l b → Tells (cleaned l) b
cleaned_tells Absent b t = refl
cleaned_tells (Clean v) b t = t
cleaned_tells (Dirty v) b t = t

pub cleaned_clean : (l : Line) → is_dirty (cleaned l) ≡ false
cleaned_clean Absent = refl
cleaned_clean (Clean v) = refl
cleaned_clean (Dirty v) = refl

pub dropped_tells : (l : Line) (b : ℕ) → Tells l b → Tells (dropped l) b
dropped_tells Absent b t = refl
dropped_tells (Clean v) b t = refl
dropped_tells (Dirty v) b t = t

pub dropped_dirty : (l : Line) → is_dirty (dropped l) ≡ is_dirty l
dropped_dirty Absent = refl
dropped_dirty (Clean v) = refl
dropped_dirty (Dirty v) = refl

pub dropped_any : (l : Line) (b : ℕ) → is_dirty l ≡ false → Tells (dropped l) b
dropped_any Absent b h = refl
dropped_any (Clean v) b h = refl
dropped_any (Dirty v) b h = absurd (false≢true (sym h))

filled_dirty : (l : Line) (v : ℕ) → is_dirty (filled l v) ≡ is_dirty l
filled_dirty Absent v = refl
filled_dirty (Clean u) v = refl
filled_dirty (Dirty u) v = refl

-- where a line tells b, it does so after it was filled from b
filled_tells : (l : Line) (v b : ℕ) → Tells l b → (l ≡ Absent → v ≡ b) → Tells (filled l v) b
filled_tells Absent v b t h = h refl
filled_tells (Clean u) v b t h = t
filled_tells (Dirty u) v b t h = t

seen_is : (l : Line) (v b : ℕ) → Tells l b → (l ≡ Absent → v ≡ b) → seen l v ≡ b
seen_is Absent v b t h = h refl
seen_is (Clean u) v b t h = t
seen_is (Dirty u) v b t h = t

-- lines that stay or, where they are clean, go away
pub part_dirty : (b : Bool) (l : Line) → is_dirty (if b then dropped l else l) ≡ is_dirty l
part_dirty true l = dropped_dirty l
part_dirty false l = refl

pub part_tells : (b : Bool) (l : Line) (x : ℕ) → Tells l x → Tells (if b then dropped l else l) x
part_tells true l x t = dropped_tells l x t
part_tells false l x t = t

-- ONE BYTE

module _ (S : System) (F : Formed S) (rank : ℕ → ℕ) (R : Ranked S rank) (W : Values) (done : ℕ → Bool) (m i : ℕ) (lines : ℕ → Line) (v : ℕ) (B : ByteOk S done m i W lines v) where
  -- only the last store's agent may have a dirty line: where that line is clean, all are
  pub all_clean : (w : ℕ) (c : Access) → IsLast S done m i w c → (is_store c.doing ≡ true → is_dirty (lines (c.agent)) ≡ false) → (g : ℕ) → is_dirty (lines g) ≡ false
  all_clean w c L h g = go (cases_Bool (is_dirty (lines g)))
    where
      owned : is_dirty (lines g) ≡ true → (x : ℕ) (d : Access) → Owned S done m i g x d → ⊥
      owned e x d O =
          let same : d ≡ c = last_same S F rank R done m i x w d c O.last L in
          false≢true (sym (h (ap (λ a. is_store a.doing) (sym same) ∙ O.store)) ∙ ap (λ a. is_dirty (lines (a.agent))) (sym same) ∙ ap (λ k. is_dirty (lines k)) (sym O.agent) ∙ e)

      go : (is_dirty (lines g) ≡ true) ⊎ (is_dirty (lines g) ≡ false) → is_dirty (lines g) ≡ false
      go (inl e) = let o = B.dirty g e in absurd (owned e o.0 o.1 o.2)
      go (inr e) = e

  -- what an agent that knows of the change sees where it has no line
  knows_main : (w : ℕ) (c : Access) → IsLast S done m i w c → stores c.doing ≡ true → (g : ℕ) → Knows S done m i w c g → lines g ≡ Absent → v ≡ W.byte w m i
  knows_main w c L k g (own s e) n = B.value w c L k (all_clean w c L (λ q. ap (λ a. is_dirty (lines a)) (sym e) ∙ ap is_dirty n))
  knows_main w c L k g (store_passed x y s f r h) n = B.value w c L k (all_clean w c L (λ q. B.flushed w c x L s f))
  knows_main w c L k g (turn_passed y s r h) n = B.value w c L k (all_clean w c L (λ q. absurd (false≢true (sym s ∙ q))))

  pub knows_sees : (w : ℕ) (c : Access) → IsLast S done m i w c → stores c.doing ≡ true → (g : ℕ) → Knows S done m i w c g → seen (lines g) v ≡ W.byte w m i
  knows_sees w c L k g K = seen_is (lines g) v (W.byte w m i) (B.known w c L k g K) (knows_main w c L k g K)

  pub fresh_sees : Untouched S done m i → (g : ℕ) → seen (lines g) v ≡ W.start m i
  fresh_sees u g = seen_is (lines g) v (W.start m i) ((B.fresh u).1 g) (λ e. (B.fresh u).0)

  pub drop_ok : (pass : ℕ → Bool) → ByteOk S done m i W (λ g. if pass g then dropped (lines g) else lines g) v
  drop_ok pass = record {
    dirty = λ g e. B.dirty g (sym (part_dirty (pass g) (lines g)) ∙ e);
    value = λ w c L k h. B.value w c L k (λ g. sym (part_dirty (pass g) (lines g)) ∙ h g);
    known = λ w c L k g K. part_tells (pass g) (lines g) (W.byte w m i) (B.known w c L k g K);
    flushed = λ w c x L s f. part_dirty (pass (c.agent)) (lines (c.agent)) ∙ B.flushed w c x L s f;
    fresh = λ u. ((B.fresh u).0, λ g. part_tells (pass g) (lines g) (W.start m i) ((B.fresh u).1 g));
  }

  pub fill_ok : (pass : ℕ → Bool) → ByteOk S done m i W (λ g. if pass g then filled (lines g) v else lines g) v
  fill_ok pass = record {
    dirty = λ g e. B.dirty g (sym (same (pass g) (lines g)) ∙ e);
    value = λ w c L k h. B.value w c L k (λ g. sym (same (pass g) (lines g)) ∙ h g);
    known = λ w c L k g K. tells (pass g) (lines g) (W.byte w m i) (B.known w c L k g K) (knows_main w c L k g K);
    flushed = λ w c x L s f. same (pass (c.agent)) (lines (c.agent)) ∙ B.flushed w c x L s f;
    fresh = λ u. ((B.fresh u).0, λ g. tells (pass g) (lines g) (W.start m i) ((B.fresh u).1 g) (λ e. (B.fresh u).0));
  }
    where
      same : (b : Bool) (l : Line) → is_dirty (if b then filled l v else l) ≡ is_dirty l
      same true l = filled_dirty l v
      same false l = refl

      tells : (b : Bool) (l : Line) (x : ℕ) → Tells l x → (l ≡ Absent → v ≡ x) → Tells (if b then filled l v else l) x
      tells true l x t h = filled_tells l v x t h
      tells false l x t h = t

  pub flush_ok : (v' : ℕ) (pass : ℕ → Bool) → FlushTo pass lines v v' → ByteOk S done m i W (λ g. if pass g then cleaned (lines g) else lines g) v'
  flush_ok v' pass to = record {
    dirty = λ g e. B.dirty g (less (pass g) (lines g) e);
    value = λ w c L k h. value w c L k h to;
    known = λ w c L k g K. tells (pass g) (lines g) (W.byte w m i) (B.known w c L k g K);
    flushed = λ w c x L s f. clean (pass (c.agent)) (lines (c.agent)) (B.flushed w c x L s f);
    fresh = λ u. (fresh u to, λ g. tells (pass g) (lines g) (W.start m i) ((B.fresh u).1 g));
  }
    where
      less : (b : Bool) (l : Line) → is_dirty (if b then cleaned l else l) ≡ true → is_dirty l ≡ true
      less true l e = absurd (false≢true (sym (cleaned_clean l) ∙ e))
      less false l e = e

      clean : (b : Bool) (l : Line) → is_dirty l ≡ false → is_dirty (if b then cleaned l else l) ≡ false
      clean true l e = cleaned_clean l
      clean false l e = e

      tells : (b : Bool) (l : Line) (x : ℕ) → Tells l x → Tells (if b then cleaned l else l) x
      tells true l x t = cleaned_tells l x t
      tells false l x t = t

      was : (b : Bool) (l : Line) → (b ≡ true → is_dirty l ≡ false) → is_dirty (if b then cleaned l else l) ≡ false → is_dirty l ≡ false
      was true l h e = h refl
      was false l h e = e

      from_owner : (w : ℕ) (c : Access) → IsLast S done m i w c → stores c.doing ≡ true → (g : ℕ) → lines g ≡ Dirty v' → (x : ℕ) (d : Access) → Owned S done m i g x d → v' ≡ W.byte w m i
      from_owner w c L k g e x d O =
          let same : d ≡ c = last_same S F rank R done m i x w d c O.last L in
          let knows : Knows S done m i w c g = own (ap (λ a. is_store a.doing) (sym same) ∙ O.store) (O.agent ∙ ap (λ a. a.agent) same) in
          subst (λ l. Tells l (W.byte w m i)) e (B.known w c L k g knows)

      value : (w : ℕ) (c : Access) → IsLast S done m i w c → stores c.doing ≡ true → ((g : ℕ) → is_dirty (if pass g then cleaned (lines g) else lines g) ≡ false) → FlushTo pass lines v v' → v' ≡ W.byte w m i
      value w c L k h (inl t) = let o = B.dirty t.0 (ap is_dirty t.2) in from_owner w c L k t.0 t.2 o.0 o.1 o.2
      value w c L k h (inr t) = t.1 ∙ B.value w c L k (λ g. was (pass g) (lines g) (t.0 g) (h g))

      not_owned : Untouched S done m i → (g : ℕ) → is_dirty (lines g) ≡ true → ⊥
      not_owned u g e = let o = B.dirty g e in u o.0 o.1 o.2.last.finished o.2.last.has o.2.last.alters o.2.last.at

      fresh : Untouched S done m i → FlushTo pass lines v v' → v' ≡ W.start m i
      fresh u (inl t) = absurd (not_owned u t.0 (ap is_dirty t.2))
      fresh u (inr t) = t.1 ∙ (B.fresh u).0

pub written_to : (agent : ℕ) (lines : ℕ → Line) (v : ℕ) (pass : ℕ → Bool) → pass agent ≡ true → ((g : ℕ) → pass g ≡ true → g ≡ agent) → FlushTo pass lines v (written (lines agent) v)
written_to agent lines v pass h only = go (lines agent) refl
  where
    go : (l : Line) → lines agent ≡ l → FlushTo pass lines v (written l v)
    go Absent e = inr ((λ g p. ap (λ a. is_dirty (lines a)) (only g p) ∙ ap is_dirty e), refl)
    go (Clean u) e = inr ((λ g p. ap (λ a. is_dirty (lines a)) (only g p) ∙ ap is_dirty e), refl)
    go (Dirty u) e = inl (agent, h, e)
