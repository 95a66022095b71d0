-- What each operation makes of small bytes, worked by hand.
use Rattle.std.proofs.Common.{◌≡◌, ℕ, List, [], ◌∷◌, ◌++◌, Some, None, replicate, refl}
use Rattle.base.specs.Applied.{effect}
use Rattle.base.specs.Kernels.{three, box3, halved}
use Rattle.base.specs.Texels.{texel_at, low_bytes, band}
use Rattle.base.specs.declared.op.Fun.TheVariants as funs
use Rattle.base.specs.declared.op.Mix.{Mix}
use Rattle.base.specs.declared.op.Mix.TheVariants as mixes
use Rattle.base.specs.declared.op.Op.TheVariants.{FillBuffer, ClearImage, CopyBuffer, CopyImage, BufferToImage, ImageToBuffer, Ramp, Map, Combine, Select, Convert, Box3, Halve, Histogram, Draw}
use Rattle.base.specs.declared.op.Rect.{Rect}
use Rattle.base.specs.declared.shape.Shape.TheVariants.{Buffer, Image}
use Rattle.base.specs.declared.shape.Texel.TheVariants.{R8, R32}

zeros : ℕ → List ℕ
zeros n = replicate n 0

-- the low byte of the word comes first
fill : effect (FillBuffer (Buffer 12) 4 8 67305985) [] [] [] (replicate 12 9) ≡ 9 ∷ 9 ∷ 9 ∷ 9 ∷ 1 ∷ 2 ∷ 3 ∷ 4 ∷ 1 ∷ 2 ∷ 3 ∷ 4 ∷ []
unfolding band low_bytes
fill = refl

-- 258 is 2 in eight bits
clear : effect (ClearImage (Image 2 1 R8) 258) [] [] [] (9 ∷ 9 ∷ []) ≡ 2 ∷ 2 ∷ []
unfolding band low_bytes
clear = refl

copy_bytes : effect (CopyBuffer (Buffer 4) (Buffer 5) 1 2 2) (1 ∷ 2 ∷ 3 ∷ 4 ∷ []) [] [] (5 ∷ 6 ∷ 7 ∷ 8 ∷ 9 ∷ []) ≡ 5 ∷ 6 ∷ 2 ∷ 3 ∷ 9 ∷ []
copy_bytes = refl

nine : List ℕ
nine = 1 ∷ 2 ∷ 3 ∷ 4 ∷ 5 ∷ 6 ∷ 7 ∷ 8 ∷ 9 ∷ []

-- the four texels at the lower right go to the lower left
copy_inner : effect (CopyImage (Image 3 3 R8) (Image 3 3 R8) 1 1 0 1 2 2) nine [] [] (replicate 9 0) ≡ 0 ∷ 0 ∷ 0 ∷ 5 ∷ 6 ∷ 0 ∷ 8 ∷ 9 ∷ 0 ∷ []
unfolding band low_bytes texel_at nine
copy_inner = refl

upload : effect (BufferToImage (Buffer 8) (Image 1 1 R32) 4) (1 ∷ 2 ∷ 3 ∷ 4 ∷ 5 ∷ 6 ∷ 7 ∷ 8 ∷ []) [] [] (replicate 4 0) ≡ 5 ∷ 6 ∷ 7 ∷ 8 ∷ []
upload = refl

download : effect (ImageToBuffer (Image 2 1 R8) (Buffer 7) 4) (1 ∷ 2 ∷ []) [] [] (replicate 7 0) ≡ 0 ∷ 0 ∷ 0 ∷ 0 ∷ 1 ∷ 2 ∷ 0 ∷ []
download = refl

-- 254, 254 + 3, 254 + 1 and 254 + 3 + 1
ramp : effect (Ramp (Image 2 2 R8) 254 3 1) [] [] [] (replicate 4 0) ≡ 254 ∷ 1 ∷ 255 ∷ 2 ∷ []
unfolding band low_bytes
ramp = refl

-- a buffer is one row of words
ramp_words : effect (Ramp (Buffer 8) 1 256 5) [] [] [] (replicate 8 0) ≡ 1 ∷ 0 ∷ 0 ∷ 0 ∷ 1 ∷ 1 ∷ 0 ∷ 0 ∷ []
unfolding band low_bytes
ramp_words = refl

add : effect (Map (Image 2 1 R8) (Image 2 1 R8) funs.Add 266) (250 ∷ 10 ∷ []) [] [] (0 ∷ 0 ∷ []) ≡ 4 ∷ 20 ∷ []
unfolding band low_bytes texel_at
add = refl

add_words : effect (Map (Buffer 4) (Buffer 4) funs.Add 2) (255 ∷ 255 ∷ 255 ∷ 255 ∷ []) [] [] (replicate 4 0) ≡ 1 ∷ 0 ∷ 0 ∷ 0 ∷ []
unfolding band low_bytes texel_at
add_words = refl

-- 33 is 1 modulo 32, and modulo 8
shift_left : effect (Map (Image 1 1 R32) (Image 1 1 R32) funs.Shl 33) (3 ∷ 0 ∷ 0 ∷ 128 ∷ []) [] [] (replicate 4 0) ≡ 6 ∷ 0 ∷ 0 ∷ 0 ∷ []
unfolding band low_bytes texel_at
shift_left = refl

shift_right : effect (Map (Image 1 1 R8) (Image 1 1 R8) funs.Shr 33) (129 ∷ []) [] [] (0 ∷ []) ≡ 64 ∷ []
unfolding band low_bytes texel_at
shift_right = refl

-- the constant is cut before it is compared
least : effect (Map (Image 1 1 R8) (Image 1 1 R8) funs.Min 258) (7 ∷ []) [] [] (0 ∷ []) ≡ 2 ∷ []
unfolding band low_bytes texel_at
least = refl

difference : effect (Combine (Image 2 1 R8) (Image 2 1 R8) (Image 2 1 R8) funs.Sub) (3 ∷ 9 ∷ []) (5 ∷ 2 ∷ []) [] (0 ∷ 0 ∷ []) ≡ 254 ∷ 7 ∷ []
unfolding band low_bytes texel_at
difference = refl

select : effect (Select (Image 2 1 R8) (Image 2 1 R8) (Image 2 1 R8) (Image 2 1 R8)) (0 ∷ 255 ∷ []) (1 ∷ 2 ∷ []) (3 ∷ 4 ∷ []) (0 ∷ 0 ∷ []) ≡ 3 ∷ 2 ∷ []
unfolding band low_bytes texel_at
select = refl

widen : effect (Convert (Image 1 2 R8) (Image 1 2 R32)) (200 ∷ 7 ∷ []) [] [] (replicate 8 9) ≡ 200 ∷ 0 ∷ 0 ∷ 0 ∷ 7 ∷ 0 ∷ 0 ∷ 0 ∷ []
unfolding band low_bytes texel_at
widen = refl

narrow : effect (Convert (Image 1 1 R32) (Image 1 1 R8)) (1 ∷ 2 ∷ 3 ∷ 4 ∷ []) [] [] (9 ∷ []) ≡ 1 ∷ []
unfolding band low_bytes texel_at
narrow = refl

-- at the upper left corner 4 * 1 + 2 * 2 + 2 * 4 + 5 = 21, and 21 / 9 is 2; at the lower right one 69 / 9 is 7
box : effect (Box3 (Image 3 3 R8) (Image 3 3 R8)) nine [] [] (replicate 9 0) ≡ 2 ∷ 3 ∷ 3 ∷ 4 ∷ 5 ∷ 5 ∷ 6 ∷ 7 ∷ 7 ∷ []
unfolding band low_bytes texel_at nine box3 three
box = refl

-- one texel is its own mean, however large
box_alone : effect (Box3 (Image 1 1 R32) (Image 1 1 R32)) (255 ∷ 255 ∷ 255 ∷ 255 ∷ []) [] [] (replicate 4 0) ≡ 255 ∷ 255 ∷ 255 ∷ 255 ∷ []
unfolding band low_bytes texel_at box3 three
box_alone = refl

-- three of 2^32 - 1 and one of 2^32 - 2
halve : effect (Halve (Image 2 2 R32) (Image 1 1 R32)) (replicate 12 255 ++ 254 ∷ 255 ∷ 255 ∷ 255 ∷ []) [] [] (replicate 4 0) ≡ 254 ∷ 255 ∷ 255 ∷ 255 ∷ []
unfolding band low_bytes texel_at halved
halve = refl

histogram : effect (Histogram (Image 2 3 R8) (Buffer 1024)) (replicate 6 5) [] [] (replicate 1024 9) ≡ zeros 20 ++ 6 ∷ zeros 1003
unfolding band low_bytes zeros
histogram = refl

rect : ℕ → ℕ → Mix → ℕ → Rect
rect x width mix value = record { x = x; y = 0; width = width; height = 1; mix = mix; value = value }

-- 12 12 12, then 10 10 12, then 10 2 4, then 11 3 5, then 11 3 250
draw : effect (Draw (Image 3 1 R8) (Some 268) (rect 0 2 mixes.Set 10 ∷ rect 1 2 mixes.And 6 ∷ rect 0 3 mixes.Or 257 ∷ rect 2 1 mixes.Xor 255 ∷ [])) [] [] [] (9 ∷ 9 ∷ 9 ∷ []) ≡ 11 ∷ 3 ∷ 250 ∷ []
unfolding band low_bytes texel_at rect
draw = refl

draw_over : effect (Draw (Image 3 1 R8) None (rect 1 1 mixes.Set 5 ∷ [])) [] [] [] (7 ∷ 8 ∷ 9 ∷ []) ≡ 7 ∷ 5 ∷ 9 ∷ []
unfolding band low_bytes texel_at rect
draw_over = refl
