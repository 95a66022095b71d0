-- A node that stands to a given one holds no more back, and does the same.
use Rattle.std.proofs.Common.{◌≡◌, inl, inr, ℕ, zero, suc, ◌==◌, not, Bool, true, false, List, [], ◌∷◌, map, Option, Some, None, refl, sym, ap, ap₂, ◌∙◌, subst, eq-eqb, eqb-true}
use Rattle.std.specs.Int.RustNames.{bit_and}
use Rattle.std.specs.Prelude.{slice_get, option_and_then}
use Rattle.std.proofs.lemmas.Bool.{false≢true}
use Rattle.std.proofs.lemmas.Nat.{and_comm, and_assoc}
use Rattle.vk.specs.Sets.{has, meets}
use Rattle.vk.specs.Stages.{expand}
use Rattle.check_program.specs.Apart.{op_in}
use Rattle.check_order.specs.Edges.{is_wait, node_at}
use Rattle.check_order.specs.Nodes.{entry_node, no_node}
use Rattle.check_order.specs.declared.kind.Kind.TheVariants as kinds
use Rattle.check_order.specs.declared.node.Node.{Node}
use Rattle.program.specs.Entries.{Entry, OfWait, OfItem, OfSignal, OfHost}
use Rattle.law_tight.proofs.Embedded.{Both}
use Rattle.law_tight.proofs.Entries.{IsWait, IsNarrowed, EntryStands}

-- what meets some of a set's bits meets the set
meets_more : (set some bits : ℕ) → has set some ≡ true → meets some bits ≡ true → meets set bits ≡ true
meets_more set some bits h m = go (bit_and set bits == 0) refl
  where
    go : (b : Bool) → (bit_and set bits == 0) ≡ b → not b ≡ true
    go false e = refl
    go true e =
        let within : bit_and set some ≡ some = eqb-true (bit_and set some) some h in
        let apart : bit_and set bits ≡ 0 = eqb-true (bit_and set bits) 0 e in
        let none : bit_and some bits ≡ 0 =
        ap (λ z. bit_and z bits) (sym within ∙ and_comm set some)
        ∙ and_assoc bits some set
        ∙ ap (bit_and some) apart
        ∙ and_comm some 0 in
        absurd (false≢true (ap not (sym (eq-eqb (bit_and some bits) 0 none)) ∙ m))

-- the same but for what waits for it, which is no more than for the given one
pub record Lighter (given node : Node) : Type 0 where
  pub kind : node.kind ≡ given.kind
  pub queue : node.queue ≡ given.queue
  pub waits_for : node.src_stages ≡ given.src_stages
  pub held : (stages : ℕ) → meets node.dst_stages.0 stages ≡ true → meets given.dst_stages.0 stages ≡ true

lighter_same : (node : Node) → Lighter node node
lighter_same node = record { kind = refl; queue = refl; waits_for = refl; held = λ stages m. m }

-- AS NODES, IN A PROGRAM OF SO MANY QUEUES

module _ (queues : ℕ) where
  abbrev pub node_of : Option Entry → Node
  node_of None = no_node
  node_of (Some entry) = entry_node queues entry

  pub node_is : (entries : List Entry) (n : ℕ) → node_at (map (entry_node queues) entries) n ≡ node_of (slice_get entries n)
  node_is [] n = refl
  node_is (entry ∷ entries) zero = refl
  node_is (entry ∷ entries) (suc n) = node_is entries n

  narrowed_lighter : (given entry : Entry) → IsNarrowed given entry → Lighter (entry_node queues given) (entry_node queues entry)
  narrowed_lighter given entry N =
      let S = N.narrows in
      subst (λ g. Lighter (entry_node queues g) (entry_node queues entry)) (sym N.given_is) (subst (λ e. Lighter (entry_node queues (OfWait N.queue N.of)) (entry_node queues e)) (sym N.is) (record {
        kind = ap₂ kinds.Wait S.queue S.value;
        queue = refl;
        waits_for = refl;
        held = λ stages m. meets_more (expand N.of.stages.0) (expand N.wait.stages.0) stages S.some m;
      }))

  stands_lighter : (given entry : Entry) → EntryStands given entry → Lighter (entry_node queues given) (entry_node queues entry)
  stands_lighter given entry (inl e) = subst (λ z. Lighter (entry_node queues given) (entry_node queues z)) (sym e) (lighter_same (entry_node queues given))
  stands_lighter given entry (inr N) = narrowed_lighter given entry N

  pub both_lighter : (o p : Option Entry) → Both EntryStands o p → Lighter (node_of o) (node_of p)
  both_lighter None None b = lighter_same no_node
  both_lighter None (Some x) b = absurd b
  both_lighter (Some g) None b = absurd b
  both_lighter (Some g) (Some x) b = stands_lighter g x b

  pub wait_node_is : (entry : Entry) → IsWait entry → is_wait (entry_node queues entry).kind ≡ true
  wait_node_is (OfWait q wait) w = refl
  wait_node_is (OfItem q item) w = absurd (false≢true w)
  wait_node_is (OfSignal q signal) w = absurd (false≢true w)
  wait_node_is (OfHost piece) w = absurd (false≢true w)

-- OPERATIONS

pub wait_no_op : (entry : Entry) → IsWait entry → op_in entry ≡ None
wait_no_op (OfWait q wait) w = refl
wait_no_op (OfItem q item) w = absurd (false≢true w)
wait_no_op (OfSignal q signal) w = absurd (false≢true w)
wait_no_op (OfHost piece) w = absurd (false≢true w)

stands_op : (given entry : Entry) → EntryStands given entry → op_in entry ≡ op_in given
stands_op given entry (inl e) = ap op_in e
stands_op given entry (inr N) = ap op_in N.is ∙ sym (ap op_in N.given_is)

pub both_op : (o p : Option Entry) → Both EntryStands o p → option_and_then op_in p ≡ option_and_then op_in o
both_op None None b = refl
both_op None (Some x) b = absurd b
both_op (Some g) None b = absurd b
both_op (Some g) (Some x) b = stands_op g x b
