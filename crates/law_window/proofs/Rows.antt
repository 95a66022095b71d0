-- Worked rows: two frames in one window. Each adds 1 to a persisting buffer and exports what comes out.
use Rattle.std.proofs.Common.{◌≡◌, ℕ, List, [], ◌∷◌, codes, Some, None, true, false, refl, arith}
use Rattle.base.specs.Texels.{band, low_bytes, texel_at}
use Rattle.base.specs.declared.op.Fun.TheVariants.{Add}
use Rattle.base.specs.declared.op.Op.TheVariants.{CopyBuffer, Map}
use Rattle.base.specs.declared.shape.Family.{Family}
use Rattle.base.specs.declared.shape.Family.TheVariants.{Graphics}
use Rattle.base.specs.declared.shape.Shape.TheVariants.{Buffer}
use Rattle.vk.specs.declared.sharing.Sharing.TheVariants.{Exclusive}
use Rattle.frame.proofs.Necessary.{good}
use Rattle.frame.specs.Valid.{IsValid}
use Rattle.frame.specs.Numbered.{NumberedFrame, numbered}
use Rattle.frame.specs.declared.frame.Frame.{Frame}
use Rattle.frame.specs.declared.frame.Spot.{Spot}
use Rattle.frame_meaning.specs.Meaning.{meaning}
use Rattle.law_window.proofs.Each.{all_of}
use Rattle.law_window.proofs.Together.{together_good, together_means}
use Rattle.law_window.specs.Flown.{Flown}
use Rattle.law_window.specs.Persisted.{first_persisted, persisted_after}
use Rattle.law_window.specs.InTurn.{frames_in, persisted_before}
use Rattle.law_window.specs.Means.{MeansTheSame}
use Rattle.law_window.specs.Small.{IsSmall}
use Rattle.law_window.specs.Together.{Flies, FlyTogether}
use Rattle.law_window.specs.Window.{window}

abbrev whole : List ℕ → Spot
whole name = record { name = name; layer = None }

-- the buffer b is an import of four bytes; c is what comes out, and goes into b
abbrev frame : Frame
frame = record {
  queues = record { name = codes "g"; family = Graphics } ∷ [];
  resources = record { name = codes "b"; shape = Buffer 4; layers = 1; import = Some (1 ∷ 0 ∷ 0 ∷ 0 ∷ []); sharing = Exclusive } ∷ record { name = codes "c"; shape = Buffer 4; layers = 1; import = None; sharing = Exclusive } ∷ [];
  passes = record { name = codes "p"; queue = codes "g"; reads = []; writes = record { what = whole (codes "c"); fresh = true } ∷ record { what = whole (codes "b"); fresh = false } ∷ []; ops = Map (whole (codes "b")) (whole (codes "c")) Add 1 ∷ CopyBuffer (whole (codes "c")) (whole (codes "b")) 0 0 4 ∷ []; side_effect = false } ∷ [];
  exports = whole (codes "c") ∷ [];
}

-- of two persisting names the frame has the first, as its unit 0
abbrev flown : Flown
flown = record { frame = numbered frame; places = Some 0 ∷ None ∷ [] }

abbrev families : List Family
families = Graphics ∷ []

-- the import of the first frame that has the name; no frame has the other
abbrev persisted : List (List ℕ)
persisted = (1 ∷ 0 ∷ 0 ∷ 0 ∷ []) ∷ [] ∷ []

first : first_persisted (flown ∷ flown ∷ []) ([] ∷ [] ∷ []) ≡ persisted
first = refl

abbrev two : NumberedFrame
two = window families (flown ∷ flown ∷ []) persisted

-- the second frame's b is no import: a join pass fills it from the first one's
two_is : two ≡ record {
  units = record { shape = Buffer 4; sharing = Exclusive; imported = Some (1 ∷ 0 ∷ 0 ∷ 0 ∷ []) } ∷ record { shape = Buffer 4; sharing = Exclusive; imported = None } ∷ record { shape = Buffer 4; sharing = Exclusive; imported = None } ∷ record { shape = Buffer 4; sharing = Exclusive; imported = None } ∷ [];
  queues = Graphics ∷ [];
  passes = record { queue = 0; reads = []; writes = record { what = 1; fresh = true } ∷ record { what = 0; fresh = false } ∷ []; ops = Map 0 1 Add 1 ∷ CopyBuffer 1 0 0 0 4 ∷ []; side_effect = false }
      ∷ record { queue = 0; reads = 0 ∷ []; writes = record { what = 2; fresh = true } ∷ []; ops = CopyBuffer 0 2 0 0 4 ∷ []; side_effect = false }
      ∷ record { queue = 0; reads = []; writes = record { what = 3; fresh = true } ∷ record { what = 2; fresh = false } ∷ []; ops = Map 2 3 Add 1 ∷ CopyBuffer 3 2 0 0 4 ∷ []; side_effect = false } ∷ [];
  exports = 1 ∷ 3 ∷ 2 ∷ [];
}
two_is = refl

exported_first : meaning two 1 ≡ Some (2 ∷ 0 ∷ 0 ∷ 0 ∷ [])
unfolding band low_bytes texel_at
exported_first = refl

exported_second : meaning two 3 ≡ Some (3 ∷ 0 ∷ 0 ∷ 0 ∷ [])
unfolding band low_bytes texel_at
exported_second = refl

held_then : persisted_after (flown ∷ flown ∷ []) persisted ≡ (3 ∷ 0 ∷ 0 ∷ 0 ∷ []) ∷ [] ∷ []
unfolding band low_bytes texel_at
held_then = refl

-- the same frames one by one: the second begins with what the first left, and no frame has a join pass
alone : window families (frames_in 1 (flown ∷ flown ∷ []) 1) (persisted_before 1 (flown ∷ flown ∷ []) persisted 1) ≡ record (numbered frame) { units = record { shape = Buffer 4; sharing = Exclusive; imported = Some (2 ∷ 0 ∷ 0 ∷ 0 ∷ []) } ∷ record { shape = Buffer 4; sharing = Exclusive; imported = None } ∷ []; exports = 1 ∷ 0 ∷ [] }
unfolding band low_bytes texel_at
alone = refl

exported_alone : meaning (window families (frames_in 1 (flown ∷ flown ∷ []) 1) (persisted_before 1 (flown ∷ flown ∷ []) persisted 1)) 1 ≡ Some (3 ∷ 0 ∷ 0 ∷ 0 ∷ [])
unfolding band low_bytes texel_at
exported_alone = refl

-- the laws speak of them
flies : Flies families (4 ∷ 0 ∷ []) flown
flies = record { good = good frame refl; same = refl; placed = (omega arith, refl, tt, tt) }

together : FlyTogether families (4 ∷ 0 ∷ []) (flown ∷ flown ∷ []) persisted
together = record { some = omega arith; each = all_of (Flies families (4 ∷ 0 ∷ [])) (flown ∷ flown ∷ []) (flies, (flies, tt)); sized = refl }

small : IsSmall two
small = record { units = omega arith; bytes = omega arith; passes = omega arith; ops = omega arith; rects = omega arith; exports = omega arith }

is_good : IsValid two
is_good = together_good families (4 ∷ 0 ∷ []) (flown ∷ flown ∷ []) persisted together small

means : MeansTheSame families (flown ∷ flown ∷ []) persisted
means = together_means families (4 ∷ 0 ∷ []) (flown ∷ flown ∷ []) persisted together small
