-- Worked rows: two frames in one window. Each adds 1 to a persisting buffer and exports what comes out.
use Rattle.std.proofs.Common.{◌≡◌, ℕ, List, [], ◌∷◌, map, codes, Some, None, true, false, refl, arith}
use Rattle.std.specs.Fmt.{digits}
use Rattle.base.specs.declared.op.Fun.TheVariants.{Add}
use Rattle.base.specs.declared.op.Op.TheVariants.{CopyBuffer, Map}
use Rattle.base.specs.declared.shape.Family.TheVariants.{Graphics}
use Rattle.base.specs.declared.shape.Shape.TheVariants.{Buffer}
use Rattle.vk.specs.declared.sharing.Sharing.TheVariants.{Exclusive}
use Rattle.frame.specs.FirstFault.{first_fault}
use Rattle.frame.specs.Numbered.{numbered}
use Rattle.frame.specs.Limits.{limit_broken}
use Rattle.frame.specs.declared.frame.Frame.{Frame}
use Rattle.frame.specs.declared.frame.QueueDecl.{QueueDecl}
use Rattle.frame.specs.declared.frame.Spot.{Spot}
use Rattle.frame.specs.declared.frame.Write.{Write}
use Rattle.law_window.proofs.Faultless.{declared_good, declared_means, declared_numbered}
use Rattle.law_window.proofs.Persisting.{held_by_names}
use Rattle.law_window.specs.Declared.{Declared, declared_in, flown_of}
use Rattle.law_window.specs.Names.{numbered_name}
use Rattle.law_window.specs.NamedTogether.{FliesDeclared, FlyDeclared}
use Rattle.law_window.specs.WindowFrame.{window_frame}
use Rattle.law_window.proofs.Each.{all_of}
use Rattle.law_window.specs.Persisted.{first_persisted}
use Rattle.law_window.specs.Means.{MeansTheSame}
use Rattle.law_window.specs.Window.{window}

a_name : numbered_name 7 12 ≡ codes "7.12"
unfolding digits
a_name = refl

abbrev whole : List ℕ → Spot
whole name = record { name = name; layer = None }

abbrev new : List ℕ → Write Spot
new name = record { what = whole name; fresh = true }

abbrev change : List ℕ → Write Spot
change name = record { what = whole name; fresh = false }

abbrev queues : List QueueDecl
queues = record { name = codes "g"; family = Graphics } ∷ []

-- the buffer b is an import of four bytes; c is what comes out, and goes into b
abbrev frame : Frame
frame = record {
  queues = queues;
  resources = record { name = codes "b"; shape = Buffer 4; layers = 1; import = Some (1 ∷ 0 ∷ 0 ∷ 0 ∷ []); sharing = Exclusive } ∷ record { name = codes "c"; shape = Buffer 4; layers = 1; import = None; sharing = Exclusive } ∷ [];
  passes = record { name = codes "p"; queue = codes "g"; reads = []; writes = new (codes "c") ∷ change (codes "b") ∷ []; ops = Map (whole (codes "b")) (whole (codes "c")) Add 1 ∷ CopyBuffer (whole (codes "c")) (whole (codes "b")) 0 0 4 ∷ []; side_effect = false } ∷ [];
  exports = whole (codes "c") ∷ [];
}

-- no frame has the name d
abbrev persist : List (List ℕ)
persist = codes "b" ∷ codes "d" ∷ []

abbrev two : List Declared
two = map (declared_in persist) (frame ∷ frame ∷ [])

abbrev persisted : List (List ℕ)
persisted = (1 ∷ 0 ∷ 0 ∷ 0 ∷ []) ∷ [] ∷ []

first : first_persisted (map flown_of two) ([] ∷ [] ∷ []) ≡ persisted
first = refl

two_is : window_frame queues two persisted ≡ record {
  queues = queues;
  resources = record { name = codes "0.0"; shape = Buffer 4; layers = 1; import = Some (1 ∷ 0 ∷ 0 ∷ 0 ∷ []); sharing = Exclusive }
      ∷ record { name = codes "0.1"; shape = Buffer 4; layers = 1; import = None; sharing = Exclusive }
      ∷ record { name = codes "1.0"; shape = Buffer 4; layers = 1; import = None; sharing = Exclusive }
      ∷ record { name = codes "1.1"; shape = Buffer 4; layers = 1; import = None; sharing = Exclusive } ∷ [];
  passes = record { name = codes "0.0"; queue = codes "g"; reads = []; writes = new (codes "0.1") ∷ change (codes "0.0") ∷ []; ops = Map (whole (codes "0.0")) (whole (codes "0.1")) Add 1 ∷ CopyBuffer (whole (codes "0.1")) (whole (codes "0.0")) 0 0 4 ∷ []; side_effect = false }
      ∷ record { name = codes "1.join"; queue = codes "g"; reads = whole (codes "0.0") ∷ []; writes = new (codes "1.0") ∷ []; ops = CopyBuffer (whole (codes "0.0")) (whole (codes "1.0")) 0 0 4 ∷ []; side_effect = false }
      ∷ record { name = codes "1.0"; queue = codes "g"; reads = []; writes = new (codes "1.1") ∷ change (codes "1.0") ∷ []; ops = Map (whole (codes "1.0")) (whole (codes "1.1")) Add 1 ∷ CopyBuffer (whole (codes "1.1")) (whole (codes "1.0")) 0 0 4 ∷ []; side_effect = false } ∷ [];
  exports = whole (codes "0.1") ∷ whole (codes "1.1") ∷ whole (codes "1.0") ∷ [];
}
unfolding digits
two_is = refl

-- the laws speak of them
flies : FliesDeclared queues (4 ∷ 0 ∷ []) (declared_in persist frame)
flies = record { none = refl; same = refl; persisted = held_by_names frame.resources (4 ∷ 0 ∷ []) persist refl ((refl, refl), (tt, tt)) }

fly : FlyDeclared queues (4 ∷ 0 ∷ []) two persisted
fly = record { some = omega arith; each = all_of (FliesDeclared queues (4 ∷ 0 ∷ [])) two (flies, (flies, tt)); sized = refl }

within : limit_broken (window_frame queues two persisted) ≡ None
unfolding digits
within = refl

no_fault : first_fault (window_frame queues two persisted) ≡ None
no_fault = declared_good queues (4 ∷ 0 ∷ []) two persisted fly within

numbers : numbered (window_frame queues two persisted) ≡ window (Graphics ∷ []) (map flown_of two) persisted
numbers = declared_numbered queues (4 ∷ 0 ∷ []) two persisted fly

means : MeansTheSame (Graphics ∷ []) (map flown_of two) persisted
means = declared_means queues (4 ∷ 0 ∷ []) two persisted fly within
