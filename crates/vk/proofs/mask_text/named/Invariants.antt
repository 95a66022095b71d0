use Rattle.std.proofs.Common.{◌≡◌, drop, map}
use Rattle.vk.specs.Texts.{bits_named}
use Rattle.vk.proofs.mask_text.named.Given as goal

abbrev pub invariant-loop-flag : goal.invariant-loop-flag
invariant-loop-flag g l = bits_named (drop l.flag-index (map (λ f. (f.name.now, g.M.Flags.set_of f.value)) l.flag-items)) l.name ≡ bits_named (map (λ f. (f.name.now, g.M.Flags.set_of f.value)) l.flag-items) l.name
