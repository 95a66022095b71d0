-- The flush of agents in rising number leaves main's byte of a dirty line that passes, or none is dirty.
use Rattle.std.proofs.Common.{◌≡◌, ◌⊎◌, inl, inr, ℕ, zero, suc, ◌<◌, ◌≤◌, Bool, true, false, if◌then◌else◌, refl, sym, ap, ◌∙◌, ⊎_elim, arith}
use Rattle.std.proofs.lemmas.Bool.{cases_lt, false≢true}
use Rattle.law_runs.specs.Lines.{is_dirty}
use Rattle.law_runs.specs.Runs.{FlushTo}
use Rattle.device_cache.specs.Lines.{Line, Absent, Clean, Dirty, written}
use Rattle.device_model.specs.Steps.{flushed}

split : (g j : ℕ) → g < suc j → (g ≡ j) ⊎ (g < j)
split g j h = grind arith

-- the flush of the agents below j
abbrev Part : (ℕ → Bool) → (ℕ → Line) → ℕ → ℕ → ℕ → Type 0
Part pass lines v j x = ((g : ℕ) × (pass g ≡ true) × (lines g ≡ Dirty x)) ⊎ (((g : ℕ) → g < j → pass g ≡ true → is_dirty (lines g) ≡ false) × (x ≡ v))

flush_one : (pass : ℕ → Bool) (lines : ℕ → Line) (v j x : ℕ) (b : Bool) (l : Line) → pass j ≡ b → lines j ≡ l → Part pass lines v j x → Part pass lines v (suc j) (if b then written l x else x)
flush_one pass lines v j x true (Dirty u) eb el p = inl (j, eb, el)
flush_one pass lines v j x true Absent eb el (inl t) = inl t
flush_one pass lines v j x true Absent eb el (inr t) = inr ((λ g h q. ⊎_elim (λ e. ap (λ a. is_dirty (lines a)) e ∙ ap is_dirty el) (λ k. t.0 g k q) (split g j h)), t.1)
flush_one pass lines v j x true (Clean u) eb el (inl t) = inl t
flush_one pass lines v j x true (Clean u) eb el (inr t) = inr ((λ g h q. ⊎_elim (λ e. ap (λ a. is_dirty (lines a)) e ∙ ap is_dirty el) (λ k. t.0 g k q) (split g j h)), t.1)
flush_one pass lines v j x false l eb el (inl t) = inl t
flush_one pass lines v j x false l eb el (inr t) = inr ((λ g h q. ⊎_elim (λ e. absurd (false≢true (sym eb ∙ ap pass (sym e) ∙ q))) (λ k. t.0 g k q) (split g j h)), t.1)

below : (pass : ℕ → Bool) (lines : ℕ → Line) (v j : ℕ) → Part pass lines v j (flushed j pass lines v)
below pass lines v zero = inr ((λ g h q. absurd (omega (arith, h))), refl)
below pass lines v (suc j) = flush_one pass lines v j (flushed j pass lines v) (pass j) (lines j) refl refl (below pass lines v j)

pub flushed_to : (k : ℕ) (pass : ℕ → Bool) (lines : ℕ → Line) (v : ℕ) → ((g : ℕ) → k ≤ g → pass g ≡ true → is_dirty (lines g) ≡ false) → FlushTo pass lines v (flushed k pass lines v)
flushed_to k pass lines v out = go (below pass lines v k)
  where
    go : Part pass lines v k (flushed k pass lines v) → FlushTo pass lines v (flushed k pass lines v)
    go (inl t) = inl t
    go (inr t) = inr ((λ g q. ⊎_elim (λ h. t.0 g h q) (λ le. out g le q) (cases_lt g k)), t.1)
