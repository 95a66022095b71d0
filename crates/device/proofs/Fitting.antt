-- The table stays that of the program, and its pieces and memories stay cut out.
use Rattle.std.proofs.Common.{◌≡◌, ℕ, ◌+◌, ◌<◌, ◌≤◌, Bool, true, false, length, if◌then◌else◌, refl, sym, ap, ◌∙◌, subst, arith}
use Rattle.std.specs.Prelude.{List, slice_index}
use Rattle.base.specs.declared.memory_range.MemoryRange.{MemoryRange}
use Rattle.device_cache.specs.Tables.{Table, is_cut, missing, InMemory, Keeps}
use Rattle.device.specs.Internal.Tables.{IsCutOut, HasCut, FitsProgram, Stays}
use Rattle.device_model.specs.Agents.{piece_range}
use Rattle.program.specs.declared.program.Program.{Program}
use Rattle.check_access.specs.Views.{View, view_of}

both_cut : (a b : Bool) → (if a then 0 else 1) + (if b then 0 else 1) ≡ 0 → (a ≡ true) × (b ≡ true)
both_cut true true e = (refl, refl)
both_cut true false e = absurd (omega (arith, e))
both_cut false true e = absurd (omega (arith, e))
both_cut false false e = absurd (omega (arith, e))

pub none_missing : (t : Table) (m i n : ℕ) → is_cut t m i ≡ true → is_cut t m (i + n) ≡ true → missing t m i n ≡ 0
none_missing t m i n a b = ap (λ z. (if z then 0 else 1) + (if is_cut t m (i + n) then 0 else 1)) a ∙ ap (λ z. 0 + (if z then 0 else 1)) b

one_end : (b : Bool) → (if b then 0 else 1) ≤ 1
one_end true = omega arith
one_end false = omega arith

pub missing_le : (t : Table) (m i n : ℕ) → missing t m i n ≤ 2
missing_le t m i n = omega (arith, one_end (is_cut t m i), one_end (is_cut t m (i + n)))

pub still_in : (t u : Table) (m i n : ℕ) → Keeps t u → InMemory t m i n → InMemory u m i n
still_in t u m i n K I = record { there = omega (arith, I.there, K.memories); within = omega (arith, I.within, K.sizes m) }

pub still_cut : (t u : Table) (r : MemoryRange) → Keeps t u → IsCutOut t r → IsCutOut u r
still_cut t u r K C =
    let ends = both_cut (is_cut t r.memory r.start) (is_cut t r.memory (r.start + r.len)) C.cut in
    record {
      within = still_in t u r.memory r.start r.len K C.within;
      cut = none_missing u r.memory r.start r.len (K.cuts r.memory r.start ends.0) (K.cuts r.memory (r.start + r.len) ends.1);
    }

pub still_has : (t u : Table) (V : View) → Keeps t u → HasCut t V → HasCut u V
still_has t u V K H = record {
  pieces = λ p lt. still_cut t u (piece_range V p) K (H.pieces p lt);
  junk = λ p lt. subst (λ junk. (piece_range V p).len ≤ length junk) (sym K.junk) (H.junk p lt);
  short = H.short;
}

pub still_fits : (t u : Table) (program : Program) (fill : ℕ) → Keeps t u → FitsProgram t program fill → FitsProgram u program fill
still_fits t u program fill K F = record {
  agents = K.agents ∙ F.agents;
  memories = K.memories ∙ F.memories;
  sizes = λ m. K.sizes m ∙ F.sizes m;
  cuts = still_has t u (view_of program) K F.cuts;
  junk = subst (λ (junk : List ℕ). (k : ℕ) → k < length junk → slice_index junk k ≡ fill) (sym K.junk) F.junk;
}

-- CHANGES THAT TAKE NO ROOM

pub stays_same : (t : Table) → Stays t t
stays_same t = record {
  keeps = record { agents = refl; memories = refl; sizes = λ m. refl; junk = refl; cuts = λ m i e. e };
  cuts = omega arith;
  stores = refl;
}

pub stays_on : (t u v : Table) → Stays t u → Stays u v → Stays t v
stays_on t u v A B = record {
  keeps = record {
    agents = B.keeps.agents ∙ A.keeps.agents;
    memories = B.keeps.memories ∙ A.keeps.memories;
    sizes = λ m. B.keeps.sizes m ∙ A.keeps.sizes m;
    junk = B.keeps.junk ∙ A.keeps.junk;
    cuts = λ m i e. B.keeps.cuts m i (A.keeps.cuts m i e);
  };
  cuts = omega (arith, A.cuts, B.cuts);
  stores = B.stores ∙ A.stores;
}
