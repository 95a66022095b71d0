-- The words of formats 1 and 2 meet alike in both tables: each pair of words is tried.
use Rattle.std.proofs.Common.{◌≡◌, ℕ, refl, sym, subst, ⊎_elim}
use Rattle.vk.specs.Sets.{meets}
use Rattle.vk.specs.Stages.{Stage, stages, color_attachment_output, compute_shader, host, copy, clear, expand}
use Rattle.check_scopes.proofs.Rows.{met, alike}
use Rattle.check_scopes.specs.Laws.{old_words, IsOld, IsOldStage, MeetsAlike, WaitsAlike, LetsAlike, ExpandsAlike}
use Rattle.check_scopes.specs.Scopes.{waited_for, waiting, expanded}
use Rattle.check_scopes.specs.Words.{Word, words, earlier, later}

abbrev bit : Word → ℕ
bit w = w.bit

abbrev alone : Word → ℕ
alone w = w.stands_for

abbrev before : Word → ℕ
before w = earlier w.stands_for

abbrev after : Word → ℕ
after w = later w.stands_for

abbrev old_bit : Stage → ℕ
old_bit s = s.bit

abbrev old_alone : Stage → ℕ
old_alone s = s.stands_for

pub meets_alike : MeetsAlike
meets_alike m n hm hn = alike (meets (waiting m) (waited_for n)) (meets (expand m) (expand n))
    (met bit after before words old_bit old_alone old_alone stages old_words refl m n hm hn)
    (met old_bit old_alone old_alone stages bit after before words old_words refl m n hm hn)

pub expands_alike : ExpandsAlike
expands_alike m n hm hn = alike (meets (expanded m) (expanded n)) (meets (expand m) (expand n))
    (met bit alone alone words old_bit old_alone old_alone stages old_words refl m n hm hn)
    (met old_bit old_alone old_alone stages bit alone alone words old_words refl m n hm hn)

-- a stage alone waits for nothing earlier
half : (m n : ℕ) → IsOld m → IsOld n → meets (expanded m) (waited_for n) ≡ meets (expand m) (expand n)
half m n hm hn = alike (meets (expanded m) (waited_for n)) (meets (expand m) (expand n))
    (met bit alone before words old_bit old_alone old_alone stages old_words refl m n hm hn)
    (met old_bit old_alone old_alone stages bit alone before words old_words refl m n hm hn)

other_half : (m n : ℕ) → IsOld m → IsOld n → meets (waiting m) (expanded n) ≡ meets (expand m) (expand n)
other_half m n hm hn = alike (meets (waiting m) (expanded n)) (meets (expand m) (expand n))
    (met bit after alone words old_bit old_alone old_alone stages old_words refl m n hm hn)
    (met old_bit old_alone old_alone stages bit after alone words old_words refl m n hm hn)

-- what holds of each of the stages
pub each : (P : ℕ → Type 0) → P color_attachment_output → P compute_shader → P copy → P clear → P host → (s : ℕ) → IsOldStage s → P s
each P a b c d e s h = ⊎_elim (λ i. subst P (sym i) a) (λ h. ⊎_elim (λ i. subst P (sym i) b) (λ h. ⊎_elim (λ i. subst P (sym i) c) (λ h. ⊎_elim (λ i. subst P (sym i) d) (λ i. subst P (sym i) e) h) h) h) h

pub waits_alike : WaitsAlike
waits_alike s n hs hn = each (λ s. meets s (waited_for n) ≡ meets s (expand n))
    (half color_attachment_output n refl hn) (half compute_shader n refl hn) (half copy n refl hn) (half clear n refl hn) (half host n refl hn) s hs

pub lets_alike : LetsAlike
lets_alike m s hm hs = each (λ s. meets (waiting m) s ≡ meets (expand m) s)
    (other_half m color_attachment_output hm refl) (other_half m compute_shader hm refl) (other_half m copy hm refl) (other_half m clear hm refl) (other_half m host hm refl) s hs
