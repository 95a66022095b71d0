-- Kinds of nodes, and what links signals to waits and host reads.
use Rattle.std.proofs.Common.{◌≡◌, ◌⊎◌, inl, inr, ℕ, ◌+◌, ◌*◌, ◌^◌, true, false, ◌||◌, ◌==◌, not, Option, Some, None, List, drop, bit_and, refl, sym, ap, ◌∙◌, subst, ⊎_elim, eqb-true, arith, min}
use Rattle.std.proofs.lemmas.Bool.{and_parts, or_cases, cases_Bool, cases_lt}
use Rattle.std.proofs.lemmas.List.{get_or-drop}
use Rattle.std.proofs.lemmas.Nat.{and_comm}
use Rattle.std.proofs.lemmas.List.Quantifiers.{position-Some}
use Rattle.std.proofs.lemmas.Nat.Bits.{and_pow, bit_at_and, bit_at-zero}
use Rattle.std.specs.Int.{bit_at}
use Rattle.std.specs.Int.Bits.{and_zero_r}
use Rattle.std.specs.List.{position}
use Rattle.std.specs.Option.{option_map}
use Rattle.base.proofs.Absence.{some_same}
use Rattle.base.proofs.Booleans.{clash}
use Rattle.vk.specs.Sets.{meets}
use Rattle.check_order.proofs.Lines.{met_sync}
use Rattle.check_order.specs.Edges.{is_sync, is_host, is_signal, is_at, signals, node_at, next_signal, meeting, goes_to, signalled}
use Rattle.check_order.specs.Nodes.{no_node}
use Rattle.check_order.specs.declared.kind.Kind.{Kind}
use Rattle.check_order.specs.declared.kind.Kind.TheVariants.{Command, Barrier, Wait, Signal, Host}
use Rattle.check_order.specs.declared.node.Node.{Node}
use Rattle.check_access_order.specs.Edges.{is_command}

-- KINDS

pub is_the_command : (kind : Kind) → is_command kind ≡ true → kind ≡ Command
is_the_command Command e = refl
is_the_command Barrier e = absurd (clash e)
is_the_command (Wait queue value) e = absurd (clash e)
is_the_command (Signal value) e = absurd (clash e)
is_the_command Host e = absurd (clash e)

pub no_command : (kind : Kind) → is_command kind ≡ false → (is_sync kind ≡ true) ⊎ (is_host kind ≡ true)
no_command Command e = absurd (clash (sym e))
no_command Barrier e = inl refl
no_command (Wait queue value) e = inl refl
no_command (Signal value) e = inl refl
no_command Host e = inr refl

pub sync_alone : (kind : Kind) → is_sync kind ≡ true → is_command kind ≡ false
sync_alone Command e = absurd (clash e)
sync_alone Barrier e = refl
sync_alone (Wait queue value) e = refl
sync_alone (Signal value) e = refl
sync_alone Host e = refl

pub host_alone : (kind : Kind) → is_host kind ≡ true → is_command kind ≡ false
host_alone Host e = refl
host_alone Command e = absurd (clash e)
host_alone Barrier e = absurd (clash e)
host_alone (Wait queue value) e = absurd (clash e)
host_alone (Signal value) e = absurd (clash e)

pub command_unsynced : (kind : Kind) → is_command kind ≡ true → is_sync kind ≡ false
command_unsynced Command e = refl
command_unsynced Barrier e = absurd (clash e)
command_unsynced (Wait queue value) e = absurd (clash e)
command_unsynced (Signal value) e = absurd (clash e)
command_unsynced Host e = absurd (clash e)

pub signal_synced : (kind : Kind) → is_signal kind ≡ true → is_sync kind ≡ true
signal_synced (Signal value) e = refl
signal_synced Command e = absurd (clash e)
signal_synced Barrier e = absurd (clash e)
signal_synced (Wait queue value) e = absurd (clash e)
signal_synced Host e = absurd (clash e)

-- LINKS

-- the next signal is one
next_one : (nodes : List Node) (x y : ℕ) (o : Option ℕ) → position (signals (node_at nodes x).queue) (drop (x + 1) nodes) ≡ o → option_map (λ k. x + 1 + k) o ≡ Some y → is_signal (node_at nodes y).kind ≡ true
next_one nodes x y None e f = absurd cc
next_one nodes x y (Some k) e f =
    let p = position-Some (signals (node_at nodes x).queue) (drop (x + 1) nodes) k no_node e in
    let there = get_or-drop (x + 1) nodes k no_node ∙ ap (λ z. node_at nodes z) (some_same f) in
    (and_parts ((node_at nodes y).queue == (node_at nodes x).queue) (is_signal (node_at nodes y).kind) (subst (λ z. signals (node_at nodes x).queue z ≡ true) there p.1)).1

goes_alone : (nodes : List Node) (x y : ℕ) (o : Option ℕ) → next_signal nodes x ≡ o → goes_to nodes y o ≡ true → is_command (node_at nodes y).kind ≡ false
goes_alone nodes x y None e h = host_alone (node_at nodes y).kind h
goes_alone nodes x y (Some n) e h =
    sync_alone (node_at nodes y).kind (signal_synced (node_at nodes y).kind (next_one nodes x y (position (signals (node_at nodes x).queue) (drop (x + 1) nodes)) refl (e ∙ ap (λ z. Some z) (eqb-true n y h))))

met_alone : (nodes : List Node) (x : ℕ) (kind : Kind) (o : Option ℕ) → meeting nodes kind ≡ o → is_at o x ≡ true → (is_command (node_at nodes x).kind ≡ false) × (is_command kind ≡ false)
met_alone nodes x kind None e h = absurd (clash h)
met_alone nodes x kind (Some n) e h = (
  sync_alone (node_at nodes x).kind (met_sync nodes kind x (e ∙ ap (λ z. Some z) (eqb-true n x h))).1,
  waiting kind e,
)
  where
    waiting : (k : Kind) → meeting nodes k ≡ Some n → is_command k ≡ false
    waiting Command f = absurd cc
    waiting Barrier f = refl
    waiting (Wait queue value) f = refl
    waiting (Signal value) f = refl
    waiting Host f = refl

-- no link is from a command or to one
pub link_alone : (nodes : List Node) (x y : ℕ) → (signalled nodes x y || is_at (meeting nodes (node_at nodes y).kind) x) ≡ true → (is_command (node_at nodes x).kind ≡ false) × (is_command (node_at nodes y).kind ≡ false)
link_alone nodes x y h = ⊎_elim
    (λ e.
    let p = and_parts (is_signal (node_at nodes x).kind) (goes_to nodes y (next_signal nodes x)) e in
    (sync_alone (node_at nodes x).kind (signal_synced (node_at nodes x).kind p.0), goes_alone nodes x y (next_signal nodes x) refl p.1))
    (λ e. met_alone nodes x (node_at nodes y).kind (meeting nodes (node_at nodes y).kind) refl e)
    (or_cases (signalled nodes x y) (is_at (meeting nodes (node_at nodes y).kind) x) h)

-- ONE STAGE

-- what two sets have of one bit they have in common
pub meets_by : (a b k : ℕ) → meets a (2 ^ k) ≡ true → meets (2 ^ k) b ≡ true → meets a b ≡ true
meets_by a b k h g = ⊎_elim (λ e. absurd (none (eqb-true (bit_and a b) 0 e))) (λ e. ap not e) (cases_Bool (bit_and a b == 0))
  where
    either : (u v : ℕ) → min u v ≡ 0 → (u ≡ 0) ⊎ (v ≡ 0)
    either u v z = ⊎_elim (λ lt. inr (omega (arith, z, lt))) (λ ge. inl (omega (arith, ge))) (cases_lt 0 u)

    gone : 0 * 2 ^ k ≡ 0
    gone = omega arith

    low : (c : ℕ) → meets c (2 ^ k) ≡ true → bit_at c k ≡ 0 → ⊥
    low c m z = clash (sym (ap (λ t. not (t == 0)) (and_pow c k ∙ ap (λ t. t * 2 ^ k) z ∙ gone)) ∙ m)

    none : bit_and a b ≡ 0 → ⊥
    none e =
        let zero : min (bit_at a k) (bit_at b k) ≡ 0 = sym (bit_at_and a b k) ∙ ap (λ t. bit_at t k) e ∙ bit_at-zero k in
        ⊎_elim (λ z. low a h z) (λ z. low b (ap (λ t. not (t == 0)) (and_comm b (2 ^ k)) ∙ g) z) (either (bit_at a k) (bit_at b k) zero)

pub meets_none : (b : ℕ) → meets 0 b ≡ true → ⊥
meets_none b h = clash (sym (ap (λ t. not (t == 0)) (and_comm 0 b ∙ and_zero_r b)) ∙ h)
