use Rattle.std.proofs.Common.{◌≡◌, drop, map, slice_get}
use Rattle.vk.specs.Texts.{names_of}
use Rattle.vk.proofs.mask_text.put_name.Given as goal

abbrev pub invariant-loop-flag : goal.invariant-loop-flag
invariant-loop-flag g l = g.M.Flags.exact → slice_get (names_of (drop l.flag-index (map (λ f. (f.name.now, g.M.Flags.set_of f.value)) l.flag-items)) (g.M.Flags.set_of l.mask)) l.left ≡ slice_get (names_of (map (λ f. (f.name.now, g.M.Flags.set_of f.value)) l.flag-items) (g.M.Flags.set_of l.mask)) l.k
