-- A sound program: a fill, a barrier for the host, a signal and the host's read.
use Rattle.std.proofs.Common.{◌≡◌, ℕ, zero, suc, ◌<◌, Bool, true, List, [], ◌∷◌, Some, None, refl, ap, subst, inl, inr, arith}
use Rattle.std.specs.Prelude.{◌||◌, not, nat_lt, Option}
use Rattle.std.specs.List.{range_with_len, list_all}
use Rattle.std.proofs.lemmas.Bool.{false≢true, ltb-true}
use Rattle.std.proofs.lemmas.Option.{slice_get_within}
use Rattle.base.proofs.Absence.{none_some}
use Rattle.base.specs.declared.op.Op.TheVariants.{FillBuffer}
use Rattle.base.specs.declared.shape.Family.TheVariants.{Graphics}
use Rattle.base.specs.declared.shape.Shape.TheVariants.{Buffer}
use Rattle.vk.specs.Accesses.{transfer_write, host_read}
use Rattle.vk.specs.Stages.{clear, host, all_commands}
use Rattle.vk.specs.declared.sharing.Sharing.TheVariants.{Exclusive}
use Rattle.check_program.specs.Apart.{host_bytes, inputs, output}
use Rattle.check_program.proofs.Ranges.{among_range, range_among, distinct_range, earlier_range, least_range, each_of}
use Rattle.check_program.specs.Sound.{IsSound}
use Rattle.base.specs.Texels.{band, low_bytes}
use Rattle.check_order.specs.Edges.{edge, is_wait, node_at}
use Rattle.check_order.specs.Orders.{Among, Order, IsLeast}
use Rattle.check_order.proofs.Within.{edge_within}
use Rattle.base_reach.specs.Paths.{one, then_on}
use Rattle.check_state.specs.Initialized.{Initialized, InitializedAt}
use Rattle.check_state.specs.StateValid.{StateValid, StateValidAt}
use Rattle.check_access_order.specs.Order.{InOrder}
use Rattle.check_sync.specs.Synchronized.{PairSynchronized, SynchronizedBelow}
use Rattle.check_sync.proofs.Whole.{synchronized_all}
use Rattle.check_access.specs.ValidView.{ValidView, NodeAccessAt}
use Rattle.check_access.specs.Effects.{access}
use Rattle.check_access.specs.Views.{View, view_of, node_accesses_of, node_access}
use Rattle.check_access.specs.declared.access.Agent.TheVariants.{Of, Host}
use Rattle.check_access.specs.declared.access.AccessKind.TheVariants.{Load, Store}
use Rattle.check_access.specs.declared.node_access.NodeAccess.{NodeAccess}
use Rattle.check_access.proofs.Viewing.{shaped}
use Rattle.program.proofs.Few.{is_small}
use Rattle.program.proofs.Obeying.{obeys, entries_obey}
use Rattle.program.specs.FirstFault.{first_broken}
use Rattle.program.specs.declared.program.Item.TheVariants.{Command, BufferBarrier}
use Rattle.program.specs.declared.program.Memory.TheVariants.{Plain}
use Rattle.program.specs.declared.program.Program.{Program}

abbrev pub sample : Program
sample = record {
  memories = Plain 256 ∷ [];
  pieces = record { shape = Buffer 4; memory = 0; offset = 0; sharing = Exclusive } ∷ [];
  queues = record {
    family = Graphics;
    batches = record {
      waits = [];
      items =
          Command (FillBuffer 0 0 4 7)
          ∷ BufferBarrier 0 (record {
            src_stages = record { 0 = clear };
            src_accesses = record { 0 = transfer_write };
            dst_stages = record { 0 = host };
            dst_accesses = record { 0 = host_read };
          })
          ∷ [];
      signal = Some (record { value = 1; stages = record { 0 = all_commands } });
    } ∷ [];
  } ∷ [];
  readbacks = 0 ∷ [];
}

abbrev pub order : List ℕ
order = range_with_len 0 4

pub no_fault : first_broken sample ≡ None
no_fault = refl

stores_sevens : output sample order 0 ≡ Some (7 ∷ 0 ∷ 0 ∷ 0 ∷ [])
unfolding band low_bytes
stores_sevens = refl

reads_sevens : inputs sample order 3 ≡ (7 ∷ 0 ∷ 0 ∷ 0 ∷ []) ∷ []
unfolding band low_bytes
reads_sevens = refl

pub host_sevens : host_bytes sample order 0 ≡ Some (7 ∷ 0 ∷ 0 ∷ 0 ∷ [])
unfolding band low_bytes
host_sevens = refl

-- IT IS SOUND

abbrev V : View
V = view_of sample

shaped_sample : ValidView V
shaped_sample = shaped sample (is_small sample no_fault) (λ rule. entries_obey sample rule (obeys sample no_fault rule))

below : (n : ℕ) → Among n order → n < 4
below n h = (among_range 0 4 n h).1

goes_ahead : ℕ → ℕ → Bool
goes_ahead x n = not (edge V.nodes x n) || nat_lt x n

all_ahead : list_all (λ x. list_all (goes_ahead x) order) order ≡ true
unfolding goes_ahead
all_ahead = refl

ahead : (x n : ℕ) → edge V.nodes x n ≡ true → x < n
unfolding goes_ahead
ahead x n e =
    let within = edge_within V.nodes x n e in
    let row = each_of (λ x. list_all (goes_ahead x) order) order all_ahead x (range_among 0 4 x (omega arith) within.0) in
    let one = each_of (goes_ahead x) order row n (range_among 0 4 n (omega arith) within.1) in
    ltb-true x n (subst (λ t. (not t || nat_lt x n) ≡ true) e one)

no_wait : list_all (λ n. not (is_wait (node_at V.nodes n).kind)) order ≡ true
no_wait = refl

waits_not : (n : ℕ) → Among n order → is_wait (node_at V.nodes n).kind ≡ true → ⊥
waits_not n h e = false≢true (subst (λ t. not t ≡ true) e (each_of (λ n. not (is_wait (node_at V.nodes n).kind)) order no_wait n h))

pub in_order : Order V.nodes order
in_order = record {
  once = distinct_range 0 4;
  all = λ n lt. range_among 0 4 n (omega arith) lt;
  only = below;
  turns = record {
    queue = λ x n h queued lt same. earlier_range 0 4 x n (omega arith) lt (below n h);
    met = λ n h e. absurd (waits_not n h e);
  };
  forward = λ x n h e. earlier_range 0 4 x n (omega arith) (ahead x n e) (below n h);
}

pub is_least : IsLeast V.nodes order
is_least = record {
  order = in_order;
  least = λ other O. least_range 0 4 other O.once (λ y h. omega arith) (λ y a b. O.all y b);
}

-- the fill's store and the host's load
abbrev store : NodeAccess
store = node_access 0 (access 0 (Store (Of 0 128) None))

abbrev load : NodeAccess
load = node_access 3 (access 0 (Load Host None))

two_accesses : node_accesses_of V order ≡ store ∷ load ∷ []
two_accesses = refl

abbrev inside : NodeAccess → Option NodeAccess → NodeAccess
inside other None = other
inside other (Some a) = a

-- each of the accesses is one of the two
of_two : (P : ℕ → NodeAccess → Type 0) → P 0 store → P 1 load → (j : ℕ) (a : NodeAccess) → NodeAccessAt (node_accesses_of V order) j a → P j a
of_two P p q zero a e = subst (λ b. P 0 b) (ap (inside store) e) p
of_two P p q (suc zero) a e = subst (λ b. P 1 b) (ap (inside load) e) q
of_two P p q (suc (suc j)) a e = absurd (let lt = slice_get_within (node_accesses_of V order) (suc (suc j)) a e in omega (arith, lt))

reaches_host : InOrder V 0 store.access 3 load.access
reaches_host = (1, 3, refl, inr (then_on {b = 2} (one refl) (one refl)), refl)

passed_on : PairSynchronized V store load
passed_on clashing = (reaches_host, λ changed kept. (1, 1, (refl, refl), inl refl, (then_on {b = 2} (one refl) (one refl), refl)))

all_synchronized : SynchronizedBelow V (node_accesses_of V order) 2
all_synchronized i j a b first second lt below = of_two (λ n c. j ≡ n → i < j → j < 2 → NodeAccessAt (node_accesses_of V order) i a → PairSynchronized V a c)
    (λ e rising end at. absurd (omega (arith, e, rising)))
    (λ e rising end at. of_two (λ m d. i ≡ m → PairSynchronized V d load) (λ z. passed_on) (λ z. absurd (omega (arith, e, rising, z))) i a at refl)
    j b second refl lt below first

state_valid_sample : StateValid V (node_accesses_of V order)
state_valid_sample = of_two (StateValidAt V (node_accesses_of V order))
    (record { layout = λ l e. absurd (none_some e); owner = λ needs. refl; match = tt })
    (record { layout = λ l e. absurd (none_some e); owner = λ needs. absurd (false≢true needs); match = tt })

initialized_sample : Initialized V (node_accesses_of V order)
initialized_sample = of_two (InitializedAt V (node_accesses_of V order)) (λ loaded. absurd (false≢true loaded)) (λ loaded. (refl, refl))

pub sample_sound : IsSound sample
sample_sound = (
  order,
  record {
    order_is = is_least;
    synchronized = synchronized_all V order shaped_sample in_order all_synchronized;
    state_valid = state_valid_sample;
    initialized = initialized_sample;
  },
)
