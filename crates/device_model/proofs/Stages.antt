-- Edges of commands: each has one stage, which is in the masks of both of its neighbours.
use Rattle.std.proofs.Common.{◌≡◌, ◌≢◌, ℕ, ◌+◌, ◌<◌, ◌==◌, ◌&&◌, ◌||◌, nat_lt, true, false, List, drop, get_or, length, bit_and, ◌*◌, ◌^◌, not, Option, Some, None, refl, sym, ap, ◌∙◌, ⊎_elim, eq-eqb, eqb-true, arith}
use Rattle.std.specs.List.{position}
use Rattle.std.specs.Option.{option_map}
use Rattle.std.proofs.lemmas.Bool.{cases_Bool, false≢true, and_parts, and_from, or_left, or_cases, ltb-true, lt-ltb}
use Rattle.std.specs.Int.{bit_at}
use Rattle.std.proofs.lemmas.List.{get_or-drop}
use Rattle.std.proofs.lemmas.Nat.{and_comm}
use Rattle.std.proofs.lemmas.Nat.Bits.{bit_at_and, bit_at-zero, and_pow}
use Rattle.base.specs.Touches.{destination_role}
use Rattle.base.specs.declared.op.Op.{Op}
use Rattle.base.specs.declared.role.Role.{Role}
use Rattle.base.specs.declared.role.Role.TheVariants.{CopyRead, CopyWrite, ClearWrite, Sampled, StorageRead, StorageWrite, Attachment}
use Rattle.vk.specs.Roles.{role_stage, op_stage}
use Rattle.std.proofs.lemmas.List.Quantifiers.{position-Some}
use Rattle.device_model.proofs.SystemOf.{command_at}
use Rattle.device_model.specs.Ready.{is_command}
use Rattle.vk.specs.Sets.{meets}
use Rattle.check_order.proofs.Within.{edge_within}
use Rattle.check_order.specs.Edges.{edge, is_signal, is_host, is_sync, has_value, signals, reaches, node_at, next_signal, meeting, is_at, holds_back, goes_to, signalled}
use Rattle.check_order.specs.Nodes.{no_node}
use Rattle.check_order.specs.declared.kind.Kind.{Kind}
use Rattle.check_order.specs.declared.kind.Kind.TheVariants as kinds
use Rattle.check_order.specs.declared.node.Node.{Node}
use Rattle.check_access.specs.Views.{View}

no_signal : (k : Kind) → is_command k ≡ true → is_signal k ≡ true → ⊥
no_signal kinds.Command h e = false≢true e
no_signal k h e = false≢true h

no_host : (k : Kind) → is_command k ≡ true → is_host k ≡ true → ⊥
no_host kinds.Command h e = false≢true e
no_host k h e = false≢true h

no_sync : (k : Kind) → is_command k ≡ true → is_sync k ≡ false
no_sync kinds.Command h = refl
no_sync k h = absurd (false≢true h)

valued : (k : Kind) (least : ℕ) → has_value least k ≡ true → is_signal k ≡ true
valued (kinds.Signal value) least h = refl
valued k least h = absurd (false≢true h)

is_some_at : (o : Option ℕ) (n : ℕ) → is_at o n ≡ true → o ≡ Some n
is_some_at None n h = absurd (false≢true h)
is_some_at (Some m) n h = ap (λ z. Some z) (eqb-true m n h)

no_meeting : (nodes : List Node) (k : Kind) (x : ℕ) → is_command k ≡ true → is_at (meeting nodes k) x ≡ true → ⊥
no_meeting nodes kinds.Command x c h = false≢true h
no_meeting nodes k x c h = false≢true c

-- ONE STAGE

-- sets that both have a bit meet
pub by_bit : (k d s : ℕ) → meets d (2 ^ k) ≡ true → meets (2 ^ k) s ≡ true → meets d s ≡ true
by_bit k d s h j = ⊎_elim (λ e. absurd (none (eqb-true (bit_and d s) 0 e))) (λ e. ap not e) (cases_Bool (bit_and d s == 0))
  where
    has : (z : ℕ) → meets z (2 ^ k) ≡ true → bit_at z k ≢ 0
    has z m e =
        let nothing : 0 * 2 ^ k ≡ 0 = omega arith in
        false≢true (sym (ap not (eq-eqb (bit_and z (2 ^ k)) 0 (and_pow z k ∙ ap (λ b. b * 2 ^ k) e ∙ nothing))) ∙ m)

    none : bit_and d s ≡ 0 → ⊥
    none e =
        let b = bit_at_and d s k in
        let z = ap (λ n. bit_at n k) e ∙ bit_at-zero k in
        let x = has d h in
        let y = has s (ap (λ n. not (n == 0)) (and_comm s (2 ^ k)) ∙ j) in
        omega (arith, b, z, x, y)

role_bit : (role : Role) → (k : ℕ) × (role_stage role ≡ 2 ^ k)
role_bit CopyRead = (32, refl)
role_bit CopyWrite = (32, refl)
role_bit ClearWrite = (35, refl)
role_bit Sampled = (11, refl)
role_bit StorageRead = (11, refl)
role_bit StorageWrite = (11, refl)
role_bit (Attachment load) = (10, refl)

pub stage_bit : (op : Op ℕ) → (k : ℕ) × (op_stage op ≡ 2 ^ k)
stage_bit op = role_bit (destination_role op)

module _ (V : View) where
  -- what is met is a signal
  met_signal : (k : Kind) (x : ℕ) → meeting V.nodes k ≡ Some x → is_signal (node_at V.nodes x).kind ≡ true
  met_signal (kinds.Wait queue value) x e = let p = position-Some (reaches queue value) V.nodes x no_node e in valued (node_at V.nodes x).kind value (and_parts ((node_at V.nodes x).queue == queue) (has_value value (node_at V.nodes x).kind) p.1).1
  met_signal kinds.Command x e = absurd cc
  met_signal kinds.Barrier x e = absurd cc
  met_signal (kinds.Signal value) x e = absurd cc
  met_signal kinds.Host x e = absurd cc

  next_is : (x y : ℕ) → next_signal V.nodes x ≡ Some y → is_signal (node_at V.nodes y).kind ≡ true
  next_is x y e = go (position (signals (node_at V.nodes x).queue) (drop (x + 1) V.nodes)) refl e
    where
      value : (k : ℕ) → Some (x + 1 + k) ≡ Some y → x + 1 + k ≡ y
      value k e = cc

      go : (o : Option ℕ) → position (signals (node_at V.nodes x).queue) (drop (x + 1) V.nodes) ≡ o → option_map (λ k. x + 1 + k) o ≡ Some y → is_signal (node_at V.nodes y).kind ≡ true
      go None p q = absurd cc
      go (Some k) p q =
          let f = position-Some (signals (node_at V.nodes x).queue) (drop (x + 1) V.nodes) k no_node p in
          let s = and_parts ((get_or (drop (x + 1) V.nodes) k no_node).queue == (node_at V.nodes x).queue) (is_signal (get_or (drop (x + 1) V.nodes) k no_node).kind) f.1 in
          ap (λ z. is_signal (get_or V.nodes z no_node).kind) (sym (value k q)) ∙ ap (λ z. is_signal z.kind) (sym (get_or-drop (x + 1) V.nodes k no_node)) ∙ s.1

  abbrev Held : ℕ → ℕ → Type 0
  Held x y = (x < y) × (holds_back (node_at V.nodes x) (node_at V.nodes y) ≡ true)

  held : (x y : ℕ) → (nat_lt x y && holds_back (node_at V.nodes x) (node_at V.nodes y)) ≡ true → Held x y
  held x y h = let p = and_parts (nat_lt x y) (holds_back (node_at V.nodes x) (node_at V.nodes y)) h in (ltb-true x y p.0, p.1)

  -- edges to and from commands are by their stages
  to_command : (x y : ℕ) → edge V.nodes x y ≡ true → command_at V y ≡ true → Held x y
  to_command x y e c = ⊎_elim (λ h. held x y h) (λ h. absurd (⊎_elim (λ s. by_signal (next_signal V.nodes x) refl (and_parts (is_signal (node_at V.nodes x).kind) (goes_to V.nodes y (next_signal V.nodes x)) s).1) (λ m. no_meeting V.nodes (node_at V.nodes y).kind x c m) (or_cases (signalled V.nodes x y) (is_at (meeting V.nodes (node_at V.nodes y).kind) x) h))) (or_cases (nat_lt x y && holds_back (node_at V.nodes x) (node_at V.nodes y)) (signalled V.nodes x y || is_at (meeting V.nodes (node_at V.nodes y).kind) x) e)
    where
      by_signal : (o : Option ℕ) → next_signal V.nodes x ≡ o → goes_to V.nodes y o ≡ true → ⊥
      by_signal None p h = no_host (node_at V.nodes y).kind c h
      by_signal (Some z) p h = no_signal (node_at V.nodes y).kind c (next_is x y (p ∙ ap (λ t. Some t) (eqb-true z y h)))

  from_command : (x y : ℕ) → edge V.nodes x y ≡ true → command_at V x ≡ true → Held x y
  from_command x y e c = ⊎_elim (λ h. held x y h) (λ h. absurd (⊎_elim (λ s. no_signal (node_at V.nodes x).kind c (and_parts (is_signal (node_at V.nodes x).kind) (goes_to V.nodes y (next_signal V.nodes x)) s).0) (λ m. no_signal (node_at V.nodes x).kind c (met_signal (node_at V.nodes y).kind x (is_some_at (meeting V.nodes (node_at V.nodes y).kind) x m))) (or_cases (signalled V.nodes x y) (is_at (meeting V.nodes (node_at V.nodes y).kind) x) h))) (or_cases (nat_lt x y && holds_back (node_at V.nodes x) (node_at V.nodes y)) (signalled V.nodes x y || is_at (meeting V.nodes (node_at V.nodes y).kind) x) e)

  -- a command has one stage
  abbrev pub Single : Type 0
  Single = (c d s : ℕ) → c < length V.nodes → command_at V c ≡ true → meets d (node_at V.nodes c).src_stages.0 ≡ true → meets (node_at V.nodes c).dst_stages.0 s ≡ true → meets d s ≡ true

  pub two : (x y : ℕ) → edge V.nodes x y ≡ true → command_at V x ≡ true → command_at V y ≡ true → ⊥
  two x y e c d =
      let h = (to_command x y e d).1 in
      let a = node_at V.nodes x in
      let b = node_at V.nodes y in
      let s = (and_parts (is_sync a.kind || is_sync b.kind) (meets a.dst_stages.0 b.src_stages.0) (and_parts (a.queue == b.queue) ((is_sync a.kind || is_sync b.kind) && meets a.dst_stages.0 b.src_stages.0) h).1).0 in
      ⊎_elim (λ q. false≢true (sym (no_sync a.kind c) ∙ q)) (λ q. false≢true (sym (no_sync b.kind d) ∙ q)) (or_cases (is_sync a.kind) (is_sync b.kind) s)

  pub joins : Single → (x c y : ℕ) → command_at V c ≡ true → edge V.nodes x c ≡ true → edge V.nodes c y ≡ true → edge V.nodes x y ≡ true
  joins J x c y k e f =
      let p = to_command x c e k in
      let q = from_command c y f k in
      let a = node_at V.nodes x in
      let m = node_at V.nodes c in
      let b = node_at V.nodes y in
      let pa = and_parts (a.queue == m.queue) ((is_sync a.kind || is_sync m.kind) && meets a.dst_stages.0 m.src_stages.0) p.1 in
      let pb = and_parts (is_sync a.kind || is_sync m.kind) (meets a.dst_stages.0 m.src_stages.0) pa.1 in
      let qa = and_parts (m.queue == b.queue) ((is_sync m.kind || is_sync b.kind) && meets m.dst_stages.0 b.src_stages.0) q.1 in
      let qb = and_parts (is_sync m.kind || is_sync b.kind) (meets m.dst_stages.0 b.src_stages.0) qa.1 in
      let s : is_sync a.kind ≡ true = ⊎_elim (λ h. h) (λ h. absurd (false≢true (sym (no_sync m.kind k) ∙ h))) (or_cases (is_sync a.kind) (is_sync m.kind) pb.0) in
      let lt : x < y = (let u : x < c = p.0 in let v : c < y = q.0 in omega (arith, u, v)) in
      or_left (nat_lt x y && holds_back a b) (signalled V.nodes x y || is_at (meeting V.nodes b.kind) x)
      (and_from (nat_lt x y) (holds_back a b) (lt-ltb x y lt)
      (and_from (a.queue == b.queue) ((is_sync a.kind || is_sync b.kind) && meets a.dst_stages.0 b.src_stages.0) (eq-eqb a.queue b.queue (eqb-true a.queue m.queue pa.0 ∙ eqb-true m.queue b.queue qa.0))
      (and_from (is_sync a.kind || is_sync b.kind) (meets a.dst_stages.0 b.src_stages.0) (or_left (is_sync a.kind) (is_sync b.kind) s) (J c a.dst_stages.0 b.src_stages.0 (edge_within V.nodes x c e).1 k pb.1 qb.1))))
