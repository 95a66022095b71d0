-- The old agents are the same in both tables.
use Rattle.std.proofs.Common.{◌≡◌, inl, inr, ℕ, zero, suc, ◌*◌, ◌^◌, ◌<◌, Bool, true, false, ◌||◌, ◌&&◌, ◌==◌, not, List, [], ◌∷◌, bit_and, bit_or, if◌then◌else◌, refl, sym, ap, ◌∙◌, eq-eqb, ne_eqb, arith}
use Rattle.std.proofs.lemmas.Bool.{and_parts, false≢true}
use Rattle.std.specs.Int.Bits.{and_zero_l}
use Rattle.std.proofs.lemmas.Nat.{pow_pos, pow_apart}
use Rattle.std.proofs.lemmas.Nat.Bits.{and_pow, bit_at-lt}
use Rattle.std.proofs.Math.Nat.{two-pow-succ}
use Rattle.std.specs.Int.{bit_at}
use Rattle.std.specs.List.{list_all}
use Rattle.base.proofs.Booleans.{or_false}
use Rattle.vk.specs.Accesses as bits
use Rattle.vk.specs.Accesses.{accesses, expand_accesses, color_attachment_read, color_attachment_write, transfer_read, transfer_write, host_read, shader_sampled_read, shader_storage_read, shader_storage_write}
use Rattle.vk.specs.Agents.{Agent, agent_table, agents_from, agents}
use Rattle.vk.specs.Sets.{has, meets}
use Rattle.vk.specs.Stages.{color_attachment_output, compute_shader, host, copy, clear, expand}
use Rattle.check_scopes.proofs.Alike.{each, expands_alike, waits_alike, lets_alike}
use Rattle.check_scopes.proofs.Rows.{met, alike, over, meets_turned, meets_either, held, holds, Any}
use Rattle.check_scopes.specs.Laws.{IsOldStage, HasStagesOf, AgentsAlike, ScopesHaveStages, TestsInOrder, old_access_words}
use Rattle.check_scopes.specs.Scopes.{expanded, waited_for}
use Rattle.check_scopes.specs.WideAgents.{access_words, expanded_accesses, new_agents, agents_in}
use Rattle.check_scopes.specs.Words.{Word, words, earlier, later, early_fragment_tests, late_fragment_tests}

-- SETS OF STAGES

turned_stage : (set mask : ℕ) → ((s : ℕ) → IsOldStage s → meets s set ≡ meets s (expand mask)) → HasStagesOf set mask
turned_stage set mask h s o = meets_turned set s ∙ h s o ∙ meets_turned s (expand mask)

pub scopes_have_stages : ScopesHaveStages
scopes_have_stages mask h = (
  λ s o. each (λ s. meets (expanded mask) s ≡ meets (expand mask) s)
      (expands_alike mask color_attachment_output h refl) (expands_alike mask compute_shader h refl) (expands_alike mask copy h refl) (expands_alike mask clear h refl) (expands_alike mask host h refl) s o,
  turned_stage (waited_for mask) mask (λ s o. waits_alike s mask o h),
  λ s o. lets_alike mask s h o,
)

-- ONE BIT

has_meets : (set k : ℕ) → has set (2 ^ k) ≡ meets set (2 ^ k)
has_meets set k = go (bit_at set k) (and_pow set k) (bit_at-lt set k)
  where
    there : 0 < 2 ^ k
    there = pow_pos k

    go : (b : ℕ) → bit_and set (2 ^ k) ≡ b * 2 ^ k → b < 2 → (bit_and set (2 ^ k) == 2 ^ k) ≡ not (bit_and set (2 ^ k) == 0)
    go zero e lt =
        let none : bit_and set (2 ^ k) ≡ 0 = e ∙ omega arith in
        ne_eqb (bit_and set (2 ^ k)) (2 ^ k) (λ q. omega (arith, q, none, there)) ∙ sym (ap not (eq-eqb (bit_and set (2 ^ k)) 0 none))
    go (suc zero) e lt =
        let one : bit_and set (2 ^ k) ≡ 2 ^ k = e ∙ omega arith in
        eq-eqb (bit_and set (2 ^ k)) (2 ^ k) one ∙ sym (ap not (ne_eqb (bit_and set (2 ^ k)) 0 (λ q. omega (arith, q, one, there))))
    go (suc (suc b)) e lt = absurd (omega (arith, lt))

-- two sets have one bit alike where they meet it alike
has_alike : (a b k s : ℕ) → s ≡ 2 ^ k → meets a s ≡ meets b s → has a s ≡ has b s
has_alike a b k s e h = ap (λ z. has a z) e ∙ has_meets a k ∙ ap (λ z. meets a z) (sym e) ∙ h ∙ ap (λ z. meets b z) e ∙ sym (has_meets b k) ∙ ap (λ z. has b z) (sym e)

-- ROWS

abbrev Each : (Agent → Type 0) → List Agent → Type 0
Each P [] = Unit {0}
Each P (row ∷ rows) = P row × Each P rows

abbrev Same : ℕ → ℕ → ℕ → ℕ → Agent → Type 0
Same s t a b row = (has s row.stage ≡ has t row.stage) × (has a row.access ≡ has b row.access)

agents_same : (s t a b : ℕ) (rows : List Agent) (bit found : ℕ) → Each (Same s t a b) rows → agents_from s a bit rows found ≡ agents_from t b bit rows found
agents_same s t a b [] bit found h = refl
agents_same s t a b (row ∷ rows) bit found h =
    ap (λ c. agents_from s a (2 * bit) rows (bit_or found (if c && has a row.access then bit else 0))) h.0.0
    ∙ ap (λ c. agents_from s a (2 * bit) rows (bit_or found (if has t row.stage && c then bit else 0))) h.0.1
    ∙ agents_same s t a b rows (2 * bit) (bit_or found (if has t row.stage && has b row.access then bit else 0)) h.1

-- rows of greater bits do not matter
past : (s a k : ℕ) (rows : List Agent) (j found : ℕ) → k < j → meets (agents_from s a (2 ^ j) rows found) (2 ^ k) ≡ meets found (2 ^ k)
past s a k [] j found lt = refl
past s a k (row ∷ rows) j found lt =
    let more : ℕ = if has s row.stage && has a row.access then 2 ^ j else 0 in
    ap (λ z. meets (agents_from s a z rows (bit_or found more)) (2 ^ k)) twice
    ∙ past s a k rows (suc j) (bit_or found more) (omega (arith, lt))
    ∙ meets_either found more (2 ^ k)
    ∙ ap (λ z. meets found (2 ^ k) || z) (nothing (has s row.stage && has a row.access))
    ∙ or_false (meets found (2 ^ k))
  where
    twice : 2 * 2 ^ j ≡ 2 ^ suc j
    twice = omega (arith, two-pow-succ j)

    nothing : (c : Bool) → meets (if c then 2 ^ j else 0) (2 ^ k) ≡ false
    nothing true = ap (λ z. not (z == 0)) (pow_apart j k (λ e. omega (arith, e, lt)))
    nothing false = ap (λ z. not (z == 0)) (and_zero_l (2 ^ k))

-- ACCESSES

abbrev access_bit : bits.Access → ℕ
access_bit a = a.bit

abbrev access_alone : bits.Access → ℕ
access_alone a = a.stands_for

abbrev word_bit : Word → ℕ
word_bit w = w.bit

abbrev word_alone : Word → ℕ
word_alone w = w.stands_for

accesses_alike : (m n : ℕ) → has old_access_words m ≡ true → has old_access_words n ≡ true → meets (expanded_accesses m) (expanded_accesses n) ≡ meets (expand_accesses m) (expand_accesses n)
accesses_alike m n hm hn = alike (meets (expanded_accesses m) (expanded_accesses n)) (meets (expand_accesses m) (expand_accesses n))
    (met word_bit word_alone word_alone access_words access_bit access_alone access_alone accesses old_access_words refl m n hm hn)
    (met access_bit access_alone access_alone accesses word_bit word_alone word_alone access_words old_access_words refl m n hm hn)

module _ (set mask mine : ℕ) (stages : HasStagesOf set mask) (old : has old_access_words mine ≡ true) where
  color : has set color_attachment_output ≡ has (expand mask) color_attachment_output
  color = has_alike set (expand mask) 10 color_attachment_output refl (stages color_attachment_output (inl refl))

  shader : has set compute_shader ≡ has (expand mask) compute_shader
  shader = has_alike set (expand mask) 11 compute_shader refl (stages compute_shader (inr (inl refl)))

  copies : has set copy ≡ has (expand mask) copy
  copies = has_alike set (expand mask) 32 copy refl (stages copy (inr (inr (inl refl))))

  clears : has set clear ≡ has (expand mask) clear
  clears = has_alike set (expand mask) 35 clear refl (stages clear (inr (inr (inr (inl refl)))))

  hosts : has set host ≡ has (expand mask) host
  hosts = has_alike set (expand mask) 14 host refl (stages host (inr (inr (inr (inr refl)))))

  abbrev new : ℕ
  new = expanded_accesses mine

  abbrev was : ℕ
  was = expand_accesses mine

  old_rows : Each (Same set (expand mask) new was) agent_table
  old_rows = (
    (shader, has_alike new was 32 shader_sampled_read refl (accesses_alike mine shader_sampled_read old refl)),
    (
      (shader, has_alike new was 33 shader_storage_read refl (accesses_alike mine shader_storage_read old refl)),
      (
        (shader, has_alike new was 34 shader_storage_write refl (accesses_alike mine shader_storage_write old refl)),
        (
          (color, has_alike new was 7 color_attachment_read refl (accesses_alike mine color_attachment_read old refl)),
          (
            (color, has_alike new was 8 color_attachment_write refl (accesses_alike mine color_attachment_write old refl)),
            (
              (copies, has_alike new was 11 transfer_read refl (accesses_alike mine transfer_read old refl)),
              (
                (copies, has_alike new was 12 transfer_write refl (accesses_alike mine transfer_write old refl)),
                (
                  (clears, has_alike new was 12 transfer_write refl (accesses_alike mine transfer_write old refl)),
                  ((hosts, has_alike new was 13 host_read refl (accesses_alike mine host_read old refl)), tt),
                ),
              ),
            ),
          ),
        ),
      ),
    ),
  )

  pub same_agents : (k : ℕ) → k < 9 → meets (agents_in set mine) (2 ^ k) ≡ meets (agents mask mine) (2 ^ k)
  same_agents k lt = past set new k new_agents 9 (agents_from set new 1 agent_table 0) lt ∙ ap (λ z. meets z (2 ^ k)) (agents_same set (expand mask) new was agent_table 1 0 old_rows)

pub agents_alike : AgentsAlike
agents_alike set mask mine k stages old lt = same_agents set mask mine stages old k lt

-- TESTS

-- a word that brings one stage brings another one
abbrev brings : (Word → ℕ) → ℕ → ℕ → Word → Bool
brings of s t w = not (meets (of w) s) || meets (of w) t

passed_on : (b c : Bool) → b ≡ true → (not b || c) ≡ true → c ≡ true
passed_on true c e h = h
passed_on false c e h = absurd (false≢true e)

any_both : (of : Word → ℕ) (s t mask : ℕ) (rows : List Word) → list_all (brings of s t) rows ≡ true → Any (λ w. (has mask w.bit ≡ true) × (meets (of w) s ≡ true)) rows → Any (λ w. (has mask w.bit ≡ true) × (meets (of w) t ≡ true)) rows
any_both of s t mask [] all h = absurd h
any_both of s t mask (w ∷ rows) all (inl h) = inl (h.0, passed_on (meets (of w) s) (meets (of w) t) h.1 (and_parts (brings of s t w) (list_all (brings of s t) rows) all).0)
any_both of s t mask (w ∷ rows) all (inr h) = inr (any_both of s t mask rows (and_parts (brings of s t w) (list_all (brings of s t) rows) all).1 h)

brought : (of : Word → ℕ) (s t mask : ℕ) → list_all (brings of s t) words ≡ true → meets (over word_bit of words mask) s ≡ true → meets (over word_bit of words mask) t ≡ true
brought of s t mask all h = holds word_bit of words mask t (any_both of s t mask words all (held word_bit of words mask s h))

pub tests_in_order : TestsInOrder
tests_in_order mask = (
  brought (λ w. earlier w.stands_for) late_fragment_tests early_fragment_tests mask refl,
  brought (λ w. later w.stands_for) early_fragment_tests late_fragment_tests mask refl,
)
