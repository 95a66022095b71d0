-- One byte of junk, again and again.
use Rattle.std.proofs.Common.{◌≡◌, ℕ, ◌%◌, [], ◌∷◌, sym, ap, ◌∙◌, arith}
use Rattle.std.specs.Prelude.{replicate, slice_index}
use Rattle.std.proofs.lemmas.List.{get_or-replicate, length-replicate}
use Rattle.std.proofs.lemmas.List.FromFn.{fill_by_all}
use Rattle.device_model.specs.States.{junk_at, junk_bytes}

pub one_junk : (fill k : ℕ) → junk_at (fill ∷ []) k ≡ fill
one_junk fill k = let z : k % 1 ≡ 0 = omega arith in ap (λ i. slice_index (fill ∷ []) i) z

pub all_junk : (fill size : ℕ) → replicate size fill ≡ junk_bytes (fill ∷ []) size
all_junk fill size = fill_by_all (junk_at (fill ∷ [])) (replicate size fill) size 0 (length-replicate size fill) (λ k lt. get_or-replicate size k fill 0 lt ∙ sym (one_junk fill k))
