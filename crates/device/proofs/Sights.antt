-- What loads take from a table is what they take in the state.
use Rattle.std.proofs.Common.{◌≡◌, ℕ, ◌+◌, ◌<◌, ◌≤◌, List, [], ◌∷◌, length, get_or, Bool, true, false, Option, Some, None, if◌then◌else◌, sym, ap, ◌∙◌, subst, arith}
use Rattle.std.specs.Arc.{arc_value}
use Rattle.std.specs.Prelude.{replicate}
use Rattle.std.proofs.lemmas.List.{length-replicate}
use Rattle.std.proofs.lemmas.List.FromFn.{length-map-range_with_len}
use Rattle.std.proofs.lemmas.Option.{slice_get-get_or}
use Rattle.base.specs.declared.memory_range.MemoryRange.{MemoryRange}
use Rattle.base.specs.Shapes.{bytes_of}
use Rattle.device_cache.specs.Effects.{Caches, load}
use Rattle.device_nodes.specs.Controls.{phase_of}
use Rattle.device.proofs.Junk.{all_junk}
use Rattle.device.proofs.SeenBytes.{loads_alike, reads_alike}
use Rattle.device.specs.Internal.Kept.{device_in, IsKept}
use Rattle.device.specs.Internal.Loads.{HasReadAll}
use Rattle.device.specs.Internal.Reads.{read_into}
use Rattle.device.specs.Internal.Tables.{memory_size, HasBytes}
use Rattle.device.specs.declared.device.Device.TheInside.{Inside}
use Rattle.device_model.specs.Agents.{agent_of, piece_range, bytes_in}
use Rattle.device_model.specs.Devices.{Device, state_of}
use Rattle.device_model.specs.Ready.{loads_undefined, read_node}
use Rattle.device_model.specs.States.{State, is_done, junk_bytes}
use Rattle.device_model.specs.Steps.{sight, loaded_by, host_takes}
use Rattle.program.specs.declared.program.Program.{Program}
use Rattle.check_access.specs.Views.{View, view_of, piece_at, accesses_of}
use Rattle.check_access.specs.declared.access.Access.{Access}

module _ (program : Program) (c : Caches) (s : State) (B : HasBytes program c s) (n fill : ℕ) (a : Access) (within : (piece_at (view_of program) a.piece).offset + bytes_of (piece_at (view_of program) a.piece).shape ≤ memory_size program (piece_at (view_of program) a.piece).memory) where
  abbrev V : View
  V = view_of program

  abbrev size : ℕ
  size = bytes_of (piece_at (view_of program) a.piece).shape

  -- by an agent
  pub takes : (undefined : Bool) → loads_undefined (view_of program) s n a ≡ undefined → (if undefined then replicate (bytes_of (piece_at (view_of program) a.piece).shape) fill else load (agent_of a.kind) (piece_range (view_of program) a.piece) c) ≡ loaded_by (view_of program) s n (fill ∷ []) a
  takes true e = all_junk fill size ∙ sym (ap (λ b. if b then junk_bytes (fill ∷ []) size else sight V s a) e)
  takes false e = loads_alike program c s B (agent_of a.kind) (piece_at V a.piece).memory (piece_at V a.piece).offset size within ∙ sym (ap (λ b. if b then junk_bytes (fill ∷ []) size else sight V s a) e)

  -- by the host, whose node has this access alone
  pub host_reads : accesses_of (view_of program) n ≡ a ∷ [] → (undefined : Bool) → loads_undefined (view_of program) s n a ≡ undefined → read_into (if undefined then Some fill else None) (piece_range (view_of program) a.piece) c ≡ host_takes (view_of program) s n (fill ∷ []) (accesses_of (view_of program) n)
  host_reads only true e = all_junk fill size ∙ sym (ap (host_takes V s n (fill ∷ [])) only ∙ ap (λ b. if b then junk_bytes (fill ∷ []) size else bytes_in V s.main a.piece) e)
  host_reads only false e = reads_alike program c s B (piece_at V a.piece).memory (piece_at V a.piece).offset size within ∙ sym (ap (host_takes V s n (fill ∷ [])) only ∙ ap (λ b. if b then junk_bytes (fill ∷ []) size else bytes_in V s.main a.piece) e)

pub read_long : (junk : Option ℕ) (r : MemoryRange) (c : Caches) → length (read_into junk r c) ≡ r.len
read_long None r c = length-map-range_with_len (λ k. c.main r.memory (r.start + k)) 0 r.len
read_long (Some byte) r c = length-replicate r.len byte

-- once the host has read, its bytes are those of the state
pub read_is : (program : Program) (reads : List (List ℕ)) (s : State) → HasReadAll program reads s → (k : ℕ) → k < length program.readbacks → is_done (s.phase (read_node program k)) ≡ true → get_or reads k [] ≡ s.host (read_node program k)
read_is program reads s R k lt done = (R.each k (get_or program.readbacks k 0) (slice_get-get_or program.readbacks k 0 lt)).bytes done

-- of read-back k, whose node is read off the program
module _ (i : Inside) (K : IsKept i) (d : Device) (is : device_in i ≡ d) (k : ℕ) (lt : k < length d.program.readbacks) (node : ℕ) (node_is : node ≡ read_node (arc_value i.program) k) where
  pub read_inside : k < length i.reads.items
  read_inside = subst (λ (d : Device). k < length d.program.readbacks → k < length i.reads.items) is (λ lt. omega (arith, K.state.has_read.count, lt)) lt

  pub done_is : is_done (phase_of i.control node) ≡ is_done ((state_of d).phase (read_node d.program k))
  done_is =
      ap is_done (K.state.agrees.phase node)
      ∙ ap (λ n. is_done ((state_of (device_in i)).phase n)) node_is
      ∙ ap (λ (d : Device). is_done ((state_of d).phase (read_node d.program k))) is

  pub bytes_are : is_done (phase_of i.control node) ≡ true → get_or i.reads.items k [] ≡ (state_of d).host (read_node d.program k)
  bytes_are done = subst (λ (d : Device). k < length d.program.readbacks → is_done ((state_of d).phase (read_node d.program k)) ≡ true → get_or i.reads.items k [] ≡ (state_of d).host (read_node d.program k)) is (λ lt done. read_is (arc_value i.program) i.reads.items (state_of (device_in i)) K.state.has_read k lt done) lt (sym done_is ∙ done)
