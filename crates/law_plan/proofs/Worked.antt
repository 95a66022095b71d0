-- The facts of a plan can all be met: a fill, a barrier for the host, a signal and the host's read.
use Rattle.std.proofs.Common.{◌≡◌, ◌⊎◌, inl, inr, ℕ, zero, suc, ◌+◌, ◌-◌, ◌<◌, ◌==◌, ◌&&◌, true, false, [], ◌∷◌, slice_get, Some, None, refl, sym, ap, ◌∙◌, subst, ⊎_elim, eq-eqb, eqb-true, arith}
use Rattle.std.proofs.lemmas.Bool.{and_parts, false≢true}
use Rattle.base.proofs.Absence.{none_some}
use Rattle.base.specs.declared.shape.Family.TheVariants.{Graphics}
use Rattle.base.specs.declared.shape.Shape.TheVariants.{Buffer}
use Rattle.vk.specs.Stages.{clear, expand, host}
use Rattle.vk.specs.declared.layout.Layout.TheVariants.{Undefined}
use Rattle.vk.specs.declared.sharing.Sharing.TheVariants.{Exclusive}
use Rattle.law_plan.proofs.Crossing.{leads_cases}
use Rattle.law_plan.proofs.Synchronizing.{spot_has}
use Rattle.law_plan.specs.Crossings.{Flushes, IsFull, signal_stages}
use Rattle.law_plan.specs.Facts.{Facts}
use Rattle.law_plan.specs.Kinds.{is_plain}
use Rattle.law_plan.specs.Local.{Local}
use Rattle.law_plan.specs.Masks.{Leaves}
use Rattle.law_plan.specs.Nodes.{Nodes}
use Rattle.law_plan.specs.Plans.{Plan, leads}
use Rattle.law_plan.specs.Spots.{Spot, at_prologue, at_member, at_release, at_reader, OfPrologue, OfMember, OfReader}
use Rattle.law_plan.specs.States.{Laid, Owned, Handed, Changed}
use Rattle.check_order.specs.Edges.{is_host, is_signal, is_wait, node_at}
use Rattle.check_order.specs.Nodes.{node}
use Rattle.check_order.specs.declared.kind.Kind.TheVariants.{Command, Barrier, Signal, Host}
use Rattle.base_reach.specs.Paths.{one, then_on}
use Rattle.law_nodes.specs.Passing.{Before}
use Rattle.check_access.specs.AccessKinds.{loads, wanted}
use Rattle.check_access.specs.Effects.{plain_effect}
use Rattle.check_access.specs.ValidView.{Has}
use Rattle.check_access.specs.Views.{View, family_at, imported_at}
use Rattle.check_access.specs.declared.access.Access.{Access}
use Rattle.check_access.specs.declared.access.Agent.TheVariants as agents
use Rattle.check_access.specs.declared.access.AccessKind.TheVariants.{Load, Store}
use Rattle.check_access.specs.declared.effect.Scope.TheVariants.{Everywhere, Piece}

abbrev store : Access
store = record { piece = 0; kind = Store (agents.Of 0 128) None }

abbrev load : Access
load = record { piece = 0; kind = Load agents.Host None }

abbrev V : View
V = record {
  nodes = node Command 0 clear clear ∷ node Barrier 0 (expand clear) (expand host) ∷ node (Signal 1) 0 signal_stages 0 ∷ node Host 1 0 0 ∷ [];
  effects =
      plain_effect (store ∷ [])
      ∷ record { accesses = []; available = 128; visible = 256; scope = Piece 0 }
      ∷ record { accesses = []; available = 128; visible = 0; scope = Everywhere }
      ∷ plain_effect (load ∷ [])
      ∷ [];
  pieces = record { shape = Buffer 4; memory = 0; offset = 0; sharing = Exclusive } ∷ [];
  imported = false ∷ [];
  families = Graphics ∷ [];
}

-- group 0 is the fill's, group 1 the host read's
abbrev F : Plan
F = record { count = 1; queue = λ c. 0; groups = 2; piece = λ g. g - 1; member = λ c g. (c == 0) && (g == 0); host = λ g. g == 1; over = λ g h. false }

abbrev N : Nodes
N = record { command = λ c. 0; prologue = λ h. 1; has_prologue = λ h. h == 1; alias = λ h. 1; release = λ g. 2; released = λ g. false; reader = λ h. 3 }

-- WHAT IS THERE

first_is : (a b : Access) (i : ℕ) → slice_get (a ∷ []) i ≡ Some b → b ≡ a
first_is a b zero e = cc
first_is a b (suc i) e = absurd (none_some e)

two_accesses : (x : ℕ) (a : Access) → Has V x a → ((x ≡ 0) × (a ≡ store)) ⊎ ((x ≡ 3) × (a ≡ load))
two_accesses zero a (i, e) = inl (refl, first_is store a i e)
two_accesses (suc zero) a (i, e) = absurd (none_some e)
two_accesses (suc (suc zero)) a (i, e) = absurd (none_some e)
two_accesses (suc (suc (suc zero))) a (i, e) = inr (refl, first_is load a i e)
two_accesses (suc (suc (suc (suc n)))) a (i, e) = absurd (none_some e)

one_signal : (s : ℕ) → is_signal (node_at V.nodes s).kind ≡ true → s ≡ 2
one_signal zero e = absurd (false≢true e)
one_signal (suc zero) e = absurd (false≢true e)
one_signal (suc (suc zero)) e = refl
one_signal (suc (suc (suc zero))) e = absurd (false≢true e)
one_signal (suc (suc (suc (suc n)))) e = absurd (false≢true e)

no_wait : (w : ℕ) → is_wait (node_at V.nodes w).kind ≡ true → ⊥
no_wait zero e = false≢true e
no_wait (suc zero) e = false≢true e
no_wait (suc (suc zero)) e = false≢true e
no_wait (suc (suc (suc zero))) e = false≢true e
no_wait (suc (suc (suc (suc n)))) e = false≢true e

no_import : (p : ℕ) → imported_at V p ≡ false
no_import zero = refl
no_import (suc p) = refl

member_zero : (c g : ℕ) → F.member c g ≡ true → (c ≡ 0) × (g ≡ 0)
member_zero c g m = let t = and_parts (c == 0) (g == 0) m in (eqb-true c 0 t.0, eqb-true g 0 t.1)

leads_one : (g h : ℕ) → leads F g h ≡ true → (g ≡ 0) × (h ≡ 1)
leads_one g h l = go (leads_cases F g h l)
  where
    go : ((h ≡ g + 1) × (F.piece g ≡ F.piece h)) ⊎ (F.over g h ≡ true) → (g ≡ 0) × (h ≡ 1)
    go (inl (next, same)) = (omega (arith, next, same), omega (arith, next, same))
    go (inr e) = absurd (false≢true e)

stores : (c g : ℕ) (a : Access) → OfMember F V N c g a → a ≡ store
stores c g a m = ⊎_elim (λ t. t.1) (λ t. absurd (omega (arith, t.0))) (two_accesses 0 a m.has)

no_prologue : (g : ℕ) (a : Access) → OfPrologue F V N g a → ⊥
no_prologue g a t = ⊎_elim (λ z. absurd (omega (arith, z.0))) (λ z. absurd (omega (arith, z.0))) (two_accesses 1 a t.has)

reads : (g : ℕ) (a : Access) → OfReader F V N g a → a ≡ load
reads g a r = ⊎_elim (λ t. absurd (omega (arith, t.0))) (λ t. t.1) (two_accesses 3 a r.has)

wants_none : (x : ℕ) (a : Access) → Has V x a → wanted a.kind ≡ None
wants_none x a h = ⊎_elim (λ t. ap (λ z. wanted z.kind) t.1) (λ t. ap (λ z. wanted z.kind) t.1) (two_accesses x a h)

reaches_host : Before V 1 3
reaches_host = then_on {b = 2} (one refl) (one refl)

-- THE FACTS

full : IsFull V
full = record {
  signals = λ s h. subst (λ z. (node_at V.nodes z).src_stages.0 ≡ signal_stages) (sym (one_signal s h)) refl;
  waits = λ w h. absurd (no_wait w h);
  flushed = λ n s a h sooner command has. ⊎_elim
      (λ t. subst (λ z. Flushes z.kind V s z.piece) (sym t.1) (subst (λ z. Flushes store.kind V z store.piece) (sym (one_signal s h)) refl))
      (λ t. subst (λ z. Flushes z.kind V s z.piece) (sym t.1) tt)
      (two_accesses n a has);
  shown = λ w n a h sooner command has. absurd (no_wait w h);
}

spot_of : (x : ℕ) (a : Access) → ((x ≡ 0) × (a ≡ store)) ⊎ ((x ≡ 3) × (a ≡ load)) → (g : ℕ) × Spot F V N x a g
spot_of x a (inl (e, f)) = (0, at_member {c = 0} e (record { member = refl; has = subst (Has V 0) (sym f) (0, refl); plain = ap (λ z. is_plain z.kind) f; piece = ap (λ z. z.piece) f }))
spot_of x a (inr (e, f)) = (1, at_reader e (record { host = refl; has = subst (Has V 3) (sym f) (0, refl); plain = ap (λ z. is_plain z.kind) f; piece = ap (λ z. z.piece) f }))

within : (x : ℕ) (a : Access) (g : ℕ) → Spot F V N x a g → g < 2
within x a g (at_prologue e t) = absurd (no_prologue g a t)
within x a g (at_member {c = c} e m) = let z = (member_zero c g m.member).1 in omega (arith, z)
within x a g (at_release e r) = absurd (false≢true r.released)
within x a g (at_reader e r) = let z = eqb-true g 1 r.host in omega (arith, z)

local : Local F V N
local = record {
  grouped = record { rising = λ g h le. omega (arith, le); over_last = λ g h k o. absurd (false≢true o); over_first = λ g h k o. absurd (false≢true o) };
  spots = record {
    all = λ x a h. spot_of x a (two_accesses x a h);
    within = within;
    some = λ g t h. absurd (false≢true (sym h ∙ t));
    alone = λ c d g a m k n. (member_zero c g m.member).0 ∙ sym (member_zero d g n).0;
    host_alone = λ g c h m. let z = eqb-true g 1 h in let w = (member_zero c g m).1 in omega (arith, z, w);
    host_last = λ g h e l. let z = eqb-true g 1 e in let w = (leads_one g h l).0 in omega (arith, z, w);
    host_kept = λ g r. absurd (false≢true r);
  };
  roles = record {
    commands = λ c g m. record { kind = refl; opened = record { into = refl; out = refl } };
    prologues = λ h t. record { sync = refl; opened = record { into = refl; out = refl } };
    releases = λ g r. absurd (false≢true r);
    readers = λ h e. refl;
  };
  places = record {
    steps = λ c d e lt below. absurd (omega (arith, lt, below));
    has_prologue = λ g h l. eq-eqb h 1 (leads_one g h l).1;
    into_prologue = λ g c e r m. inl (record { same = refl; less = omega arith });
    onto = λ h d t m. let z = eqb-true h 1 t in let w = (member_zero d h m).1 in absurd (omega (arith, z, w));
    into_release = λ g c r m. absurd (false≢true r);
    into_acquire = λ g h r l. absurd (false≢true r);
  };
  masks = record {
    takes_prologue = λ g c a e r m s. record { stage = refl; flushes = subst (λ z. Flushes z.kind V 1 z.piece) (sym (stores c g a m)) refl };
    takes_release = λ g c a r m s. absurd (false≢true r);
    gives = λ h d b t m s. let z = eqb-true h 1 t in let w = (member_zero d h m.member).1 in absurd (omega (arith, z, w));
    reads = λ h b t r. subst (Leaves V 1 3) (sym (reads h b r)) (record { from = inr reaches_host; shown = (1, inl refl, (inr (refl, reaches_host), refl)) });
  };
  aliases = record {
    ordered = λ g h low high ne o. absurd (ne (omega (arith, low, high)));
    barriers = λ g h o. absurd (false≢true o);
    into = λ g h c o. absurd (false≢true o);
    takes = λ g h c a o. absurd (false≢true o);
    onto = λ g h o. absurd (false≢true o);
    kept = λ g h o. absurd (false≢true o);
  };
}

laid : Laid F V N
laid = record {
  sets = λ g. false;
  layout = λ g. Undefined;
  there = λ g s. absurd (false≢true s);
  known = λ g a t. absurd (no_prologue g a t);
  steady = λ g e s. refl;
  member = λ c g a l m w. absurd (none_some (sym (wants_none 0 a m.has) ∙ w));
  prologue = λ h a l t. absurd (no_prologue h a t);
  begins = λ x g i a l s w. absurd (none_some (sym (wants_none x a (spot_has F V N x a g s)) ∙ w));
}

owned : Owned F V N
owned = record {
  sets = λ g. false;
  family = λ g. Some Graphics;
  there = λ g s. absurd (false≢true s);
  known = λ g a t. absurd (no_prologue g a t);
  runs = λ x g a s shared queued. ⊎_elim
      (λ t. ap (family_at V) t.0)
      (λ t. absurd (false≢true (sym queued ∙ ap (λ z. is_host (node_at V.nodes z).kind) t.0)))
      (two_accesses x a (spot_has F V N x a g s));
  steady = λ g e shared kept. refl;
}

handed : Handed F V N
handed = record {
  handover = λ g. record { from = Graphics; to = Graphics; layouts = None };
  next = λ g r. absurd (false≢true r);
  release = λ g r. absurd (false≢true r);
  acquire = λ g r. absurd (false≢true r);
  released = λ g a r. absurd (false≢true r.released);
  acquired = λ h a what t. absurd (no_prologue h a t);
}

loads_after : (x g : ℕ) (a : Access) → Spot F V N x a g → loads a.kind ≡ true → (i : ℕ) × (F.piece i ≡ F.piece g) × (i < g) × ((i == 0) ≡ true)
loads_after x g a (at_prologue e t) tk = absurd (no_prologue g a t)
loads_after x g a (at_member {c = c} e m) tk = absurd (false≢true (sym (ap (λ z. loads z.kind) (stores c g a m)) ∙ tk))
loads_after x g a (at_release e r) tk = absurd (false≢true r.released)
loads_after x g a (at_reader e r) tk = let z = eqb-true g 1 r.host in (0, omega (arith, z), omega (arith, z), refl)

changed : Changed F V N
changed = record {
  stores = λ g. g == 0;
  there = λ g s. let z = eqb-true g 0 s in (0, store, record { member = s; has = (0, refl); plain = refl; piece = omega (arith, z) }, refl);
  known = λ c g a m k. eq-eqb g 0 (member_zero c g m.member).1;
  discards = λ g a t. absurd (no_prologue g a t);
  start = λ x g a s tk fresh. loads_after x g a s tk;
  alone = λ x p a h im. absurd (false≢true (sym (no_import p) ∙ im));
  undiscarded = λ x a h d. no_import a.piece;
}

pub facts : Facts F V N
facts = record { full = full; local = local; laid = laid; owned = owned; handed = handed; changed = changed }
