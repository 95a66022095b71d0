-- Which shapes operations fit, which stores leave no old byte, and where operations run, worked by hand.
use Rattle.std.proofs.Common.{◌≡◌, ℕ, [], ◌∷◌, map, true, false, Some, None, refl}
use Rattle.std.specs.List.{list_all, list_any}
use Rattle.base.specs.Fits.{fits}
use Rattle.base.specs.InPlace.{in_place}
use Rattle.base.specs.Runs.{runs}
use Rattle.base.specs.Wholes.{is_whole}
use Rattle.base.specs.declared.op.Fun.TheVariants as funs
use Rattle.base.specs.declared.op.Mix.TheVariants as mixes
use Rattle.base.specs.declared.op.Op.{Op}
use Rattle.base.specs.declared.op.Op.TheVariants.{FillBuffer, ClearImage, CopyBuffer, CopyImage, BufferToImage, ImageToBuffer, Ramp, Map, Combine, Select, Convert, Box3, Halve, Histogram, Draw}
use Rattle.base.specs.declared.op.Rect.{Rect}
use Rattle.base.specs.declared.shape.Family.TheVariants.{Graphics, Compute, Transfer}
use Rattle.base.specs.declared.shape.Shape.{Shape}
use Rattle.base.specs.declared.shape.Shape.TheVariants.{Buffer, Image}
use Rattle.base.specs.declared.shape.Texel.TheVariants.{R8, R32}

abbrev wide : Shape
wide = Image 4 4 R32

abbrev narrow : Shape
narrow = Image 4 4 R8

abbrev half : Shape
half = Image 2 2 R32

abbrev tall : Shape
tall = Image 2 4 R32

abbrev line : Shape
line = Image 16 1 R32

abbrev rect : ℕ → ℕ → ℕ → ℕ → Rect
rect x y width height = record { x = x; y = y; width = width; height = height; mix = mixes.Set; value = 9 }

abbrev across : Shape → Shape → ℕ → ℕ → ℕ → ℕ → ℕ → ℕ → Op Shape
across from to src_x src_y dst_x dst_y width height = CopyImage from to src_x src_y dst_x dst_y width height

-- EACH OPERATION AT ITS GREATEST RANGE

fitting : list_all fits (
    FillBuffer (Buffer 16) 4 12 7 ∷ ClearImage narrow 5
    ∷ CopyBuffer (Buffer 64) (Buffer 16) 48 0 16 ∷ CopyBuffer (Buffer 16) (Buffer 64) 0 63 1
    ∷ across wide half 2 2 0 0 2 2 ∷ across half wide 0 0 2 2 2 2
    ∷ BufferToImage (Buffer 1024) wide 960 ∷ ImageToBuffer wide (Buffer 1024) 960
    ∷ Ramp (Buffer 64) 1 1 4 ∷ Map (Buffer 64) line funs.Add 1 ∷ Combine line (Buffer 64) line funs.Xor
    ∷ Select (Buffer 64) line (Buffer 64) line ∷ Convert wide narrow ∷ Box3 wide wide ∷ Halve wide half
    ∷ Histogram narrow (Buffer 1024) ∷ Draw wide None (rect 1 1 1 1 ∷ rect 3 3 1 1 ∷ []) ∷ []) ≡ true
fitting = refl

-- ONE STEP BEYOND, AND OTHER KINDS AND SIDES

no_fills : list_any fits (
    FillBuffer wide 0 16 7 ∷ FillBuffer (Buffer 16) 2 4 7 ∷ FillBuffer (Buffer 16) 0 6 7 ∷ FillBuffer (Buffer 16) 0 0 7
    ∷ FillBuffer (Buffer 16) 4 16 7 ∷ FillBuffer (Buffer 16) 4294967292 8 7 ∷ ClearImage (Buffer 16) 5 ∷ []) ≡ false
no_fills = refl

no_copies : list_any fits (
    CopyBuffer wide (Buffer 16) 0 0 16 ∷ CopyBuffer (Buffer 16) wide 0 0 16 ∷ CopyBuffer (Buffer 16) (Buffer 64) 0 0 0
    ∷ CopyBuffer (Buffer 16) (Buffer 64) 1 0 16 ∷ CopyBuffer (Buffer 64) (Buffer 16) 0 1 16
    ∷ across (Buffer 64) line 0 0 0 0 1 1 ∷ across line (Buffer 64) 0 0 0 0 1 1 ∷ across wide narrow 0 0 0 0 1 1
    ∷ across wide wide 0 0 0 0 0 1 ∷ across wide wide 0 0 0 0 1 0 ∷ across wide wide 3 0 0 0 2 1
    ∷ across wide wide 0 3 0 0 1 2 ∷ across wide wide 0 0 3 0 2 1 ∷ across wide wide 0 0 0 3 1 2
    ∷ BufferToImage wide wide 0 ∷ BufferToImage (Buffer 1024) (Buffer 64) 0 ∷ BufferToImage (Buffer 1024) wide 2
    ∷ BufferToImage (Buffer 64) wide 4 ∷ ImageToBuffer (Buffer 64) (Buffer 1024) 0 ∷ ImageToBuffer wide wide 0
    ∷ ImageToBuffer wide (Buffer 1024) 2 ∷ ImageToBuffer wide (Buffer 64) 4 ∷ []) ≡ false
no_copies = refl

no_kernels : list_any fits (
    Ramp (Buffer 6) 1 1 4 ∷ Map wide narrow funs.Add 1 ∷ Map wide tall funs.Add 1 ∷ Map (Buffer 6) (Buffer 6) funs.Add 1
    ∷ Combine narrow wide wide funs.Xor ∷ Combine wide narrow wide funs.Xor
    ∷ Select narrow wide wide wide ∷ Select wide narrow wide wide ∷ Select wide wide narrow wide
    ∷ Convert wide half ∷ Convert (Buffer 64) line ∷ Convert line (Buffer 64)
    ∷ Box3 (Buffer 64) line ∷ Box3 line (Buffer 64) ∷ Box3 wide narrow
    ∷ Halve narrow half ∷ Halve wide tall ∷ Halve tall half ∷ Halve (Buffer 1024) (Buffer 64)
    ∷ Histogram wide (Buffer 1024) ∷ Histogram (Buffer 16) (Buffer 1024) ∷ Histogram narrow (Buffer 64) ∷ Histogram narrow wide
    ∷ []) ≡ false
no_kernels = refl

no_draws : list_any fits (
    Draw (Buffer 64) None (rect 0 0 1 1 ∷ []) ∷ Draw wide None (rect 0 0 0 1 ∷ []) ∷ Draw wide None (rect 0 0 1 0 ∷ [])
    ∷ Draw wide None (rect 1 1 1 1 ∷ rect 3 0 2 1 ∷ []) ∷ Draw wide None (rect 1 1 1 1 ∷ rect 0 3 1 2 ∷ []) ∷ []) ≡ false
no_draws = refl

-- STORES THAT LEAVE NO OLD BYTE; ALSO OF WHAT DOES NOT FIT

whole : list_all is_whole (
    FillBuffer (Buffer 16) 0 16 7 ∷ CopyBuffer (Buffer 64) (Buffer 16) 48 0 16 ∷ across wide half 2 2 0 0 2 2
    ∷ ImageToBuffer wide (Buffer 64) 0 ∷ Draw narrow (Some 1) (rect 0 0 4 4 ∷ []) ∷ FillBuffer wide 0 64 7
    ∷ CopyBuffer (Buffer 64) wide 0 0 64 ∷ ImageToBuffer (Buffer 64) wide 0 ∷ []) ≡ true
whole = refl

partial : list_any is_whole (
    FillBuffer (Buffer 16) 4 12 7 ∷ CopyBuffer (Buffer 16) (Buffer 64) 0 63 1 ∷ across half wide 0 0 2 2 2 2
    ∷ ImageToBuffer wide (Buffer 1024) 960 ∷ Draw wide None (rect 0 0 4 4 ∷ []) ∷ across wide (Buffer 64) 0 0 0 0 4 4 ∷ []) ≡ false
partial = refl

-- SOURCES THAT ARE THE DESTINATION, BY NUMBERS

in_place_of : map in_place (
    Map 2 2 funs.Add 1 ∷ Combine 9 2 9 funs.Xor ∷ Combine 2 9 9 funs.Xor ∷ Select 9 2 2 9 ∷ Select 2 9 2 9 ∷ Select 2 2 9 9
    ∷ Map 2 9 funs.Add 1 ∷ Combine 2 2 9 funs.Xor ∷ Select 2 2 2 9 ∷ [])
    ≡ true ∷ true ∷ true ∷ true ∷ true ∷ true ∷ false ∷ false ∷ false ∷ []
in_place_of = refl

-- a clear of an image and a kernel want a compute queue, a draw a graphics queue
on_transfer : map (λ op. runs {R = ℕ} op Transfer) (FillBuffer 0 0 4 7 ∷ ClearImage 2 5 ∷ Ramp 1 1 1 4 ∷ Draw 2 None [] ∷ []) ≡ true ∷ false ∷ false ∷ false ∷ []
on_transfer = refl

on_compute : map (λ op. runs {R = ℕ} op Compute) (FillBuffer 0 0 4 7 ∷ ClearImage 2 5 ∷ Ramp 1 1 1 4 ∷ Draw 2 None [] ∷ []) ≡ true ∷ true ∷ true ∷ false ∷ []
on_compute = refl

on_graphics : map (λ op. runs {R = ℕ} op Graphics) (FillBuffer 0 0 4 7 ∷ ClearImage 2 5 ∷ Ramp 1 1 1 4 ∷ Draw 2 None [] ∷ []) ≡ true ∷ true ∷ true ∷ true ∷ []
on_graphics = refl
