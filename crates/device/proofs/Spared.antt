-- Memory that a table needs no more is taken from it.
use Rattle.std.proofs.Common.{◌≡◌, ℕ, ◌*◌, ◌≤◌, refl, sym, subst}
use Rattle.std.specs.Arc.{arc_value}
use Rattle.device_cache.specs.Effects.{Caches}
use Rattle.device_cache.specs.Tables.{Table, caches_of, Keeps}
use Rattle.device.proofs.Changed.{kept_with}
use Rattle.device.proofs.Fitting.{still_fits}
use Rattle.device.specs.Internal.Kept.{device_in, IsKept}
use Rattle.device.specs.Internal.Fields.{node_count}
use Rattle.device.specs.Internal.Rooms.{stores_left, left_of}
use Rattle.device.specs.Internal.Tables.{HasBytes}
use Rattle.device.specs.declared.device.Device.TheInside.{Inside}
use Rattle.device_model.specs.Devices.{state_of}

-- a table with the same bytes and lines, and as much room, does as well
pub kept_table : (i : Inside) → IsKept i → (table : Table) → caches_of table ≡ caches_of i.table → Keeps i.table table → table.cuts_left ≡ i.table.cuts_left → table.stores_left ≡ i.table.stores_left → IsKept (record i { table = table })
kept_table i K table bytes keeps cuts stores =
    let program = arc_value i.program in
    let s = state_of (device_in i) in
    kept_with i K i.control table i.pending i.reads i.history i.moves refl refl (still_fits i.table table program i.fill keeps K.table) s refl
    (record {
      agrees = K.state.agrees;
      bytes = subst (λ (c : Caches). HasBytes program c s) (sym bytes) K.state.bytes;
      holds = K.state.holds;
      has_read = K.state.has_read;
    })
    (record {
      for_moves = subst (λ (n : ℕ). 2 * i.moves ≤ n) (sym cuts) K.room.for_moves;
      for_stores = subst (λ (n : ℕ). left_of stores_left s.phase (node_count program) ≤ n) (sym stores) K.room.for_stores;
      for_events = K.room.for_events;
    })
    K.came
