-- Spans of queues as nodes are done.
use Rattle.std.proofs.Common.{◌≡◌, ℕ, ◌<◌, ◌≤◌, true, length, sym, ap, ◌∙◌, ⊎_elim, arith}
use Rattle.std.proofs.lemmas.Bool.{cases_eq}
use Rattle.device_nodes.specs.Internal.Spans.{from_of, Spanned}
use Rattle.device_nodes.specs.declared.spans.Spans.{Spans}
use Rattle.device_model.proofs.Control.{put_at, put_other}
use Rattle.device_model.specs.States.{is_done, put}
use Rattle.device_model.specs.declared.phase.Phase.{Phase}
use Rattle.check_access.specs.Views.{View, queue_at}

module _ (V : View) where
  abbrev count : ℕ
  count = length V.nodes

  module _ (phase : ℕ → Phase) (old : Spans) (S : Spanned V phase old) where
    -- what is done stays so
    pub spanned_put : (n : ℕ) (p : Phase) → (is_done (phase n) ≡ true → is_done p ≡ true) → Spanned V (put phase n p) old
    spanned_put n p stays = record {
      ends = S.ends;
      done = λ k lt. ⊎_elim
          (λ (e : k ≡ n). ap is_done (put_at phase n k p e) ∙ stays (ap (λ z. is_done (phase z)) (sym e) ∙ S.done k lt))
          (λ (e : k ≡ n → ⊥). ap is_done (put_other phase n k p e) ∙ S.done k lt)
          (cases_eq k n);
    }

    pub done_below : (q n : ℕ) → n ≤ from_of old q → (x : ℕ) → x < n → queue_at V x ≡ q → is_done (phase x) ≡ true
    done_below q n le x lt e = S.done x (let f : from_of old (queue_at V x) ≡ from_of old q = ap (from_of old) e in omega (arith, f, lt, le))
