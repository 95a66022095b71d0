use Rattle.std.proofs.Common.{◌≡◌, ℕ, ◌<◌, ◌≤◌, ◌+◌, true, get_or}
use Rattle.device_cache.specs.Places.{row_at, cut_in}
use Rattle.device_cache.specs.Tables.{is_cut}
use Rattle.device_cache.proofs.table.Segments.cut_places.Given as goal

abbrev pub invariant-loop-place : goal.invariant-loop-place
invariant-loop-place l = record {
  same : l.self ≡ record l.initial.self { segments = l.self.segments; cuts_left = l.self.cuts_left };
  rows : (x : ℕ) → row_at l.self.segments x ≡ row_at l.initial.self.segments x;
  kept : (x : ℕ) → cut_in l.initial.self.segments x ≡ true → cut_in l.self.segments x ≡ true;
  here : (k : ℕ) → k < l.place-index → is_cut l.self (get_or l.cuts k (0, 0)).0 (get_or l.cuts k (0, 0)).1 ≡ true;
  left : l.initial.self.cuts_left ≤ l.self.cuts_left + l.place-index;
}
