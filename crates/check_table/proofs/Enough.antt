-- The channels in use are enough.
use Rattle.std.proofs.Common.{◌≡◌, ◌≢◌, ◌⊎◌, inl, inr, ℕ, zero, suc, ◌+◌, ◌*◌, ◌/◌, ◌%◌, ◌^◌, ◌<◌, ◌≤◌, min, true, ◌||◌, ◌&&◌, ◌==◌, not, List, [], ◌∷◌, ◌++◌, length, length-append, bit_and, refl, sym, ap, ◌∙◌, subst, ⊎_elim, eq-eqb, ne_eqb, below_more, pow-suc, arith}
use Rattle.std.proofs.lemmas.Bool.{and_parts, and_from, cases_eq, cases_lt}
use Rattle.std.proofs.Math.Seq.{get_or-append_seam}
use Rattle.std.proofs.lemmas.List.{get_or_append_left}
use Rattle.std.proofs.lemmas.Nat.{and_comm}
use Rattle.std.proofs.lemmas.Nat.Bits.{and_pow, bit_at_and, bit_at_lowest, bit_at-suc, bit_at-lt}
use Rattle.std.specs.Int.{bit_at}
use Rattle.std.specs.Int.Bits.{and_zero_r}
use Rattle.base.proofs.Booleans.{clash}
use Rattle.vk.specs.Sets.{meets}
use Rattle.vk.specs.declared.stages.Stages.{Stages}
use Rattle.check_order.specs.Edges.{is_sync, is_signal, is_wait}
use Rattle.check_access_order.specs.Stages.{IsStage}
use Rattle.check_table.specs.Channels.{outs, ins, channel_at, stage_at, MadeOf, Covers}
use Rattle.check_table.specs.Internal.Channels.{IsUnused, WithUsed}
use Rattle.check_table.specs.Joined.{Joined, Dependencies, gives, takes, is_release, is_acquire, fits, holds_back}
use Rattle.check_table.specs.declared.channel.Channel.{Channel}
use Rattle.check_table.specs.declared.channel.Way.{Way}
use Rattle.check_table.specs.declared.channel.Way.TheVariants.{Stage, Release, Acquire, Signal}
use Rattle.check_table.specs.declared.join.Role.{Role}
use Rattle.check_table.specs.declared.join.Role.TheVariants as roles
use Rattle.check_table.proofs.Nodes.{at, signal_alone}

-- BITS OF SETS

lt_pow : (n : ℕ) → n < 2 ^ n
lt_pow zero = omega arith
lt_pow (suc n) = omega (arith, lt_pow n, pow-suc 2 n)

bit_in : (w n : ℕ) → n < 2 ^ w → (n ≡ 0) ⊎ ((i : ℕ) × (bit_at n i ≡ 1))
bit_in zero n lt = inl (omega (arith, lt))
bit_in (suc w) n lt = go (bit_in w (n / 2) (omega (arith, lt, pow-suc 2 w))) (cases_eq (n % 2) 0)
  where
    go : (n / 2 ≡ 0) ⊎ ((i : ℕ) × (bit_at (n / 2) i ≡ 1)) → (n % 2 ≡ 0) ⊎ (n % 2 ≢ 0) → (n ≡ 0) ⊎ ((i : ℕ) × (bit_at n i ≡ 1))
    go (inr (i, h)) r = inr (suc i, bit_at-suc n i ∙ h)
    go (inl z) (inl e) = inl (omega (arith, z, e))
    go (inl z) (inr e) = inr (0, bit_at_lowest n ∙ omega (arith, e))

one_least : (u v : ℕ) → u < 2 → v < 2 → min u v ≡ 1 → (u ≡ 1) × (v ≡ 1)
one_least u v p q e = (omega (arith, p, q, e), omega (arith, p, q, e))

has_pow : (a k : ℕ) → bit_at a k ≡ 1 → meets a (2 ^ k) ≡ true
has_pow a k h = ap (λ b. not b) (ne_eqb (bit_and a (2 ^ k)) 0 (λ e. none (sym (and_pow a k ∙ ap (λ t. t * 2 ^ k) h ∙ unit) ∙ e)))
  where
    unit : 1 * 2 ^ k ≡ 2 ^ k
    unit = omega arith

    none : 2 ^ k ≡ 0 → ⊥
    none e = let l = lt_pow k in omega (arith, l, e)

-- what meets does so in a bit
pub meet_bit : (a b : ℕ) → meets a b ≡ true → (k : ℕ) × (meets a (2 ^ k) ≡ true) × (meets (2 ^ k) b ≡ true)
meet_bit a b h = go (bit_in (bit_and a b) (bit_and a b) (lt_pow (bit_and a b)))
  where
    go : (bit_and a b ≡ 0) ⊎ ((i : ℕ) × (bit_at (bit_and a b) i ≡ 1)) → (k : ℕ) × (meets a (2 ^ k) ≡ true) × (meets (2 ^ k) b ≡ true)
    go (inl z) = absurd (clash (sym (ap not (eq-eqb (bit_and a b) 0 z)) ∙ h))
    go (inr (i, e)) =
        let p = one_least (bit_at a i) (bit_at b i) (bit_at-lt a i) (bit_at-lt b i) (sym (bit_at_and a b i) ∙ e) in
        (i, has_pow a i p.0, ap (λ t. not (t == 0)) (and_comm (2 ^ i) b) ∙ has_pow b i p.1)

-- CHANNELS ARE PUT INTO A LIST

pub none_used : (W : Joined) (way : Way) (stages : List Stages) (old : List Channel) → WithUsed W way stages 0 old old
none_used W way stages old = record {
  more = omega arith;
  fewer = omega arith;
  kept = λ c lt. refl;
  its = λ c le lt. absurd (omega (arith, le, lt));
  there = λ i lt. absurd (omega (arith, lt));
}

pub unused_more : (W : Joined) (way : Way) (stages : List Stages) (i : ℕ) (old new : List Channel) → WithUsed W way stages i old new → IsUnused W (record { way = way; stage = stage_at stages i }) → WithUsed W way stages (i + 1) old new
unused_more W way stages i old new U h = record {
  more = U.more;
  fewer = let f = U.fewer in omega (arith, f);
  kept = U.kept;
  its = U.its;
  there = below_more _ _ U.there (inl h);
}

pub used_more : (W : Joined) (way : Way) (stages : List Stages) (i : ℕ) (old new after : List Channel) → WithUsed W way stages i old new → IsStage (stage_at stages i).0 → length after ≡ length new + 1 → ((c : ℕ) → c < length new → channel_at after c ≡ channel_at new c) → channel_at after (length new) ≡ record { way = way; stage = stage_at stages i } → WithUsed W way stages (i + 1) old after
used_more W way stages i old new after U one size kept own = record {
  more = let m = U.more in omega (arith, m, size);
  fewer = let f = U.fewer in omega (arith, f, size);
  kept = λ c lt. let m = U.more in kept c (omega (arith, lt, m)) ∙ U.kept c lt;
  its = λ c le lt. ⊎_elim
      (λ (l : c < length new). let r = U.its c le l in let k = kept c l in (ap (λ d. d.way) k ∙ r.0, subst (λ d. IsStage d.stage.0) (sym k) r.1))
      (λ (g : length new ≤ c). let e : c ≡ length new = omega (arith, g, lt, size) in
      (ap (λ j. (channel_at after j).way) e ∙ ap (λ d. d.way) own, subst (λ j. IsStage (channel_at after j).stage.0) (sym e) (subst (λ d. IsStage d.stage.0) (sym own) one)))
      (cases_lt c (length new));
  there = below_more _ _
      (λ j lt. ⊎_elim (λ u. inl u) (λ r. inr (r.0, r.1, let l = r.2 in omega (arith, l, size), kept r.0 r.2 ∙ r.3)) (U.there j lt))
      (inr (length new, U.more, omega (arith, size), own));
}

pub used_end : (W : Joined) (way : Way) (stages : List Stages) (i : ℕ) (old new after : List Channel) → WithUsed W way stages i old new → IsStage (stage_at stages i).0 → after ≡ new ++ record { way = way; stage = stage_at stages i } ∷ [] → WithUsed W way stages (i + 1) old after
used_end W way stages i old new after U one e = used_more W way stages i old new after U one
    (ap length e ∙ length-append new (record { way = way; stage = stage_at stages i } ∷ []))
    (λ c lt. ap (λ l. channel_at l c) e ∙ get_or_append_left new (record { way = way; stage = stage_at stages i } ∷ []) (record { way = Stage; stage = record { 0 = 0 } }) c lt)
    (ap (λ l. channel_at l (length new)) e ∙ get_or-append_seam new (record { way = way; stage = stage_at stages i }) [] (record { way = Stage; stage = record { 0 = 0 } }))

-- THE CHANNELS OF ALL WAYS

module _ (W : Joined) (stages : List Stages) (D : Dependencies W) (M : MadeOf W stages) (none staged signals released all : List Channel)
    (A : WithUsed W Stage stages (length stages) none staged) (empty : length none ≡ 0)
    (one_more : length signals ≡ length staged + 1) (before : (c : ℕ) → c < length staged → channel_at signals c ≡ channel_at staged c) (its : channel_at signals (length staged) ≡ record { way = Signal; stage = record { 0 = 0 } })
    (B : WithUsed W Release stages (length stages) signals released) (C : WithUsed W Acquire stages (length stages) released all) where
  -- channels by stages stay where they are
  by_stages : (c : ℕ) → c < length staged → channel_at all c ≡ channel_at staged c
  by_stages c lt =
      let m = B.more in
      C.kept c (omega (arith, lt, one_more, m)) ∙ B.kept c (omega (arith, lt, one_more)) ∙ before c lt

  signal_is : channel_at all (length staged) ≡ record { way = Signal; stage = record { 0 = 0 } }
  signal_is = let m = B.more in C.kept (length staged) (omega (arith, one_more, m)) ∙ B.kept (length staged) (omega (arith, one_more)) ∙ its

  one : (c : ℕ) → c < length all → IsStage (channel_at all c).stage.0
  one c lt = ⊎_elim
      (λ (l : c < length released). subst (λ d. IsStage d.stage.0) (sym (C.kept c l)) (⊎_elim
      (λ (l : c < length signals). subst (λ d. IsStage d.stage.0) (sym (B.kept c l)) (⊎_elim
      (λ (l : c < length staged). subst (λ d. IsStage d.stage.0) (sym (before c l)) (A.its c (omega (arith, empty)) l).1)
      (λ (g : length staged ≤ c). let e : length staged ≡ c = omega (arith, g, l, one_more) in subst (λ j. IsStage (channel_at signals j).stage.0) e (subst (λ d. IsStage d.stage.0) (sym its) (inl refl)))
      (cases_lt c (length staged))))
      (λ (g : length signals ≤ c). (B.its c g l).1)
      (cases_lt c (length signals))))
      (λ (g : length released ≤ c). (C.its c g lt).1)
      (cases_lt c (length released))

  -- a stage that has to do with a node has its channel
  staged_at : (i : ℕ) → i < length stages → (IsUnused W (record { way = Stage; stage = stage_at stages i }) → ⊥) → (t : ℕ) × (t < length staged) × ((channel_at all t).stage.0 ≡ (stage_at stages i).0)
  staged_at i lt used = ⊎_elim (λ u. absurd (used u)) (λ r. (r.0, r.2, ap (λ d. d.stage.0) (by_stages r.0 r.2 ∙ r.3))) (A.there i lt)

  out_in : (x i : ℕ) → is_sync (at W x).kind ≡ true → gives (W.role x) ≡ true → meets (at W x).dst_stages.0 (stage_at stages i).0 ≡ true → outs W (record { way = Stage; stage = stage_at stages i }) x ≡ true
  out_in x i s g m = and_from (is_sync (at W x).kind) (gives (W.role x) && meets (at W x).dst_stages.0 (stage_at stages i).0) s (and_from (gives (W.role x)) (meets (at W x).dst_stages.0 (stage_at stages i).0) g m)

  in_in : (y i : ℕ) → is_sync (at W y).kind ≡ true → takes (W.role y) ≡ true → meets (stage_at stages i).0 (at W y).src_stages.0 ≡ true → ins W (record { way = Stage; stage = stage_at stages i }) y ≡ true
  in_in y i s g m = and_from (is_sync (at W y).kind) (takes (W.role y) && meets (stage_at stages i).0 (at W y).src_stages.0) s (and_from (takes (W.role y)) (meets (stage_at stages i).0 (at W y).src_stages.0) g m)

  none_meets : (a s : ℕ) → s ≡ 0 → meets a s ≡ true → ⊥
  none_meets a s e h = clash (sym (ap (λ t. not (t == 0)) (and_zero_r a)) ∙ subst (λ b. meets a b ≡ true) e h)

  left : (x s : ℕ) → IsStage s → is_sync (at W x).kind ≡ true → gives (W.role x) ≡ true → meets (at W x).dst_stages.0 s ≡ true → (t : ℕ) × (t < length staged) × ((channel_at all t).stage.0 ≡ s)
  left x s (inl z) h g m = absurd (none_meets (at W x).dst_stages.0 s z m)
  left x s (inr (bit, e)) h g m =
      let r = M.dst x bit h (subst (λ k. meets (at W x).dst_stages.0 k ≡ true) e m) in
      let same : (stage_at stages r.0).0 ≡ s = r.2 ∙ sym e in
      let f = staged_at r.0 r.1 (λ u. u.outs refl x (out_in x r.0 h g (subst (λ k. meets (at W x).dst_stages.0 k ≡ true) (sym same) m))) in
      (f.0, f.1, f.2 ∙ same)

  entered : (x s : ℕ) → IsStage s → is_sync (at W x).kind ≡ true → takes (W.role x) ≡ true → meets s (at W x).src_stages.0 ≡ true → (t : ℕ) × (t < length staged) × ((channel_at all t).stage.0 ≡ s)
  entered x s (inl z) h g m = absurd (none_meets (at W x).src_stages.0 s z (ap (λ t. not (t == 0)) (and_comm (at W x).src_stages.0 s) ∙ m))
  entered x s (inr (bit, e)) h g m =
      let r = M.src x bit h (subst (λ k. meets k (at W x).src_stages.0 ≡ true) e m) in
      let same : (stage_at stages r.0).0 ≡ s = r.2 ∙ sym e in
      let f = staged_at r.0 r.1 (λ u. u.ins refl x (in_in x r.0 h g (subst (λ k. meets k (at W x).src_stages.0 ≡ true) (sym same) m))) in
      (f.0, f.1, f.2 ∙ same)

  abbrev Joins : ℕ → ℕ → Type 0
  Joins x y = (c : ℕ) × (c < length all) × (outs W (channel_at all c) x ≡ true) × (ins W (channel_at all c) y ≡ true)

  held : (x y : ℕ) → holds_back W x y ≡ true → Joins x y
  held x y h = go (W.role x) (W.role y) refl refl
    where
      parts : (is_sync (at W x).kind ≡ true) × (is_sync (at W y).kind ≡ true) × (fits W x y ≡ true) × (meets (at W x).dst_stages.0 (at W y).src_stages.0 ≡ true)
      parts =
          let r = and_parts ((at W x).queue == (at W y).queue) ((is_sync (at W x).kind && is_sync (at W y).kind) && (fits W x y && meets (at W x).dst_stages.0 (at W y).src_stages.0)) h in
          let u = and_parts (is_sync (at W x).kind && is_sync (at W y).kind) (fits W x y && meets (at W x).dst_stages.0 (at W y).src_stages.0) r.1 in
          let s = and_parts (is_sync (at W x).kind) (is_sync (at W y).kind) u.0 in
          let m = and_parts (fits W x y) (meets (at W x).dst_stages.0 (at W y).src_stages.0) u.1 in
          (s.0, s.1, m.0, m.1)

      f : ((gives (W.role x) || is_signal (at W y).kind) ≡ true) × ((takes (W.role y) || is_wait (at W x).kind) ≡ true)
      f = let p = and_parts (gives (W.role x) || is_signal (at W y).kind) (takes (W.role y) || is_wait (at W x).kind) parts.2 in (p.0, p.1)

      b : (k : ℕ) × (meets (at W x).dst_stages.0 (2 ^ k) ≡ true) × (meets (2 ^ k) (at W y).src_stages.0 ≡ true)
      b = meet_bit (at W x).dst_stages.0 (at W y).src_stages.0 parts.3

      st : (i : ℕ) × (i < length stages) × ((stage_at stages i).0 ≡ 2 ^ b.0)
      st = M.dst x b.0 parts.0 b.1

      m_out : meets (at W x).dst_stages.0 (stage_at stages st.0).0 ≡ true
      m_out = subst (λ k. meets (at W x).dst_stages.0 k ≡ true) (sym st.2) b.1

      m_in : meets (stage_at stages st.0).0 (at W y).src_stages.0 ≡ true
      m_in = subst (λ k. meets k (at W y).src_stages.0 ≡ true) (sym st.2) b.2

      at_end : (way : Way) → (IsUnused W (record { way = way; stage = stage_at stages st.0 })) ⊎ ((c : ℕ) × (c < length all) × (channel_at all c ≡ record { way = way; stage = stage_at stages st.0 })) → outs W (record { way = way; stage = stage_at stages st.0 }) x ≡ true → ins W (record { way = way; stage = stage_at stages st.0 }) y ≡ true → Joins x y
      at_end way (inl u) o i = absurd (u.pairs x y o i)
      at_end way (inr (c, lt, e)) o i = (c, lt, subst (λ d. outs W d x ≡ true) (sym e) o, subst (λ d. ins W d y ≡ true) (sym e) i)

      plain_stage : gives (W.role x) ≡ true → takes (W.role y) ≡ true → Joins x y
      plain_stage g t = at_end Stage
          (⊎_elim (λ u. inl u) (λ r. inr (r.0, (let l = r.2 in let m = B.more in let n = C.more in omega (arith, l, m, n, one_more)), by_stages r.0 r.2 ∙ r.3)) (A.there st.0 st.1))
          (out_in x st.0 parts.0 g m_out) (in_in y st.0 parts.1 t m_in)

      from_release : W.role x ≡ roles.Release → Joins x y
      from_release e =
          let g : is_signal (at W y).kind ≡ true = subst (λ r. (gives r || is_signal (at W y).kind) ≡ true) e f.0 in
          let t : takes (W.role y) ≡ true = ap takes (D.role y (signal_alone (at W y).kind g)) in
          at_end Release
          (⊎_elim (λ u. inl u) (λ r. inr (r.0, (let l = r.2 in let n = C.more in omega (arith, l, n)), C.kept r.0 r.2 ∙ r.3)) (B.there st.0 st.1))
          (and_from (is_sync (at W x).kind) (is_release (W.role x) && meets (at W x).dst_stages.0 (stage_at stages st.0).0) parts.0 (and_from (is_release (W.role x)) (meets (at W x).dst_stages.0 (stage_at stages st.0).0) (ap is_release e) m_out))
          (and_from (is_signal (at W y).kind) (takes (W.role y) && meets (stage_at stages st.0).0 (at W y).src_stages.0) g (and_from (takes (W.role y)) (meets (stage_at stages st.0).0 (at W y).src_stages.0) t m_in))

      to_acquire : gives (W.role x) ≡ true → W.role y ≡ roles.Acquire → Joins x y
      to_acquire g e =
          let w : is_wait (at W x).kind ≡ true = subst (λ r. (takes r || is_wait (at W x).kind) ≡ true) e f.1 in
          at_end Acquire
          (⊎_elim (λ u. inl u) (λ r. inr (r.0, r.2, r.3)) (C.there st.0 st.1))
          (and_from (is_wait (at W x).kind) (gives (W.role x) && meets (at W x).dst_stages.0 (stage_at stages st.0).0) w (and_from (gives (W.role x)) (meets (at W x).dst_stages.0 (stage_at stages st.0).0) g m_out))
          (and_from (is_sync (at W y).kind) (is_acquire (W.role y) && meets (stage_at stages st.0).0 (at W y).src_stages.0) parts.1 (and_from (is_acquire (W.role y)) (meets (stage_at stages st.0).0 (at W y).src_stages.0) (ap is_acquire e) m_in))

      go : (a b : Role) → W.role x ≡ a → W.role y ≡ b → Joins x y
      go roles.Release b e g = from_release e
      go roles.Ordinary roles.Acquire e g = to_acquire (ap gives e) g
      go roles.Acquire roles.Acquire e g = to_acquire (ap gives e) g
      go roles.Ordinary roles.Ordinary e g = plain_stage (ap gives e) (ap takes g)
      go roles.Ordinary roles.Release e g = plain_stage (ap gives e) (ap takes g)
      go roles.Acquire roles.Ordinary e g = plain_stage (ap gives e) (ap takes g)
      go roles.Acquire roles.Release e g = plain_stage (ap gives e) (ap takes g)

  pub enough : Covers W all (length staged)
  enough = record {
    one = one;
    held = held;
    ways = λ t lt. ap (λ d. d.way) (by_stages t lt) ∙ (A.its t (omega (arith, empty)) lt).0;
    left = left;
    entered = entered;
    known = (let m = B.more in let n = C.more in omega (arith, m, n, one_more));
    its = ap (λ d. d.way) signal_is;
  }

-- with the channel of signals put behind those by stages
pub all_enough : (W : Joined) (stages : List Stages) → Dependencies W → MadeOf W stages → (staged signals released all : List Channel) → WithUsed W Stage stages (length stages) [] staged
    → signals ≡ staged ++ record { way = Signal; stage = record { 0 = 0 } } ∷ [] → WithUsed W Release stages (length stages) signals released → WithUsed W Acquire stages (length stages) released all → Covers W all (length staged)
all_enough W stages D M staged signals released all A e B C = enough W stages D M [] staged signals released all A refl
    (ap length e ∙ length-append staged (record { way = Signal; stage = record { 0 = 0 } } ∷ []))
    (λ c lt. ap (λ l. channel_at l c) e ∙ get_or_append_left staged (record { way = Signal; stage = record { 0 = 0 } } ∷ []) (record { way = Stage; stage = record { 0 = 0 } }) c lt)
    (ap (λ l. channel_at l (length staged)) e ∙ get_or-append_seam staged (record { way = Signal; stage = record { 0 = 0 } }) [] (record { way = Stage; stage = record { 0 = 0 } }))
    B C
