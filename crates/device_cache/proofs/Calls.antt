-- What a call leaves.
use Rattle.std.proofs.Common.{◌≡◌, ℕ, true, List, length, refl, sym, ap, ◌∙◌, subst}
use Rattle.device_cache.specs.Places.{cut_in}
use Rattle.device_cache.specs.Tables.{Table, size_of, address, is_cut, missing, junk_of, InMemory, Keeps}

-- only the segments and the room for cuts are other ones, and no cut is lost
pub keeps_cut : (old new : Table) → new ≡ record old { segments = new.segments; cuts_left = new.cuts_left } → ((x : ℕ) → cut_in old.segments x ≡ true → cut_in new.segments x ≡ true) → Keeps old new
unfolding size_of address is_cut junk_of
keeps_cut old new same cuts =
    let P : Table → Type 0 = λ t. Keeps old t in
    subst P (sym same) (record { agents = refl; memories = refl; sizes = λ m. refl; junk = refl; cuts = λ m i h. cuts (address old m i) h })

-- only the segments are other ones
pub keeps_segments : (old new : Table) → new ≡ record old { segments = new.segments } → ((x : ℕ) → cut_in old.segments x ≡ true → cut_in new.segments x ≡ true) → Keeps old new
unfolding size_of address is_cut junk_of
keeps_segments old new same cuts =
    let P : Table → Type 0 = λ t. Keeps old t in
    subst P (sym same) (record { agents = refl; memories = refl; sizes = λ m. refl; junk = refl; cuts = λ m i h. cuts (address old m i) h })

pub keeps_itself : (t : Table) → Keeps t t
keeps_itself t = record { agents = refl; memories = refl; sizes = λ m. refl; junk = refl; cuts = λ m i h. h }

pub keeps_all : (a b c : Table) → Keeps a b → Keeps b c → Keeps a c
keeps_all a b c k l = record {
  agents = l.agents ∙ k.agents;
  memories = l.memories ∙ k.memories;
  sizes = λ m. l.sizes m ∙ k.sizes m;
  junk = l.junk ∙ k.junk;
  cuts = λ m i h. l.cuts m i (k.cuts m i h);
}

-- only the slots and the room for stores are other ones, and the junk is the same
pub keeps_stored : (old new : Table) (slots : List (List ℕ)) (left : ℕ) → new ≡ record old { slots = slots; stores_left = left } → junk_of new ≡ junk_of old → Keeps old new
unfolding size_of address is_cut
keeps_stored old new slots left same junk =
    let P : Table → Type 0 = λ t. (m : ℕ) → size_of t m ≡ size_of old m in
    let Q : Table → Type 0 = λ t. (m i : ℕ) → is_cut old m i ≡ true → is_cut t m i ≡ true in
    record { agents = ap (λ (t : Table). t.agents) same; memories = ap (λ (t : Table). length t.memories) same; sizes = subst P (sym same) (λ m. refl); junk = junk; cuts = subst Q (sym same) (λ m i h. h) }

module _ (old new : Table) (slots : List (List ℕ)) (left : ℕ) (same : new ≡ record old { slots = slots; stores_left = left }) (memory start size : ℕ) where
  pub stored_range : InMemory old memory start size → InMemory new memory start size
  unfolding size_of
  stored_range R = let P : Table → Type 0 = λ t. InMemory t memory start size in subst P (sym same) (record { there = R.there; within = R.within })

  pub stored_missing : missing new memory start size ≡ missing old memory start size
  unfolding address is_cut
  stored_missing = ap (λ (t : Table). missing t memory start size) same
