-- Where a file is cut into lines.
use Rattle.std.proofs.Common.{Bor, ◌≡◌, ◌+◌, ◌-◌, ◌<◌, ◌≤◌, ◌++◌, ◌==◌, ℕ, zero, suc, Bool, true, false, List, [], ◌∷◌, length, map, take, drop, get_or, Some, None, refl, sym, ap, ◌∙◌, add-one, append_assoc, append-nil, arith}
use Rattle.std.specs.Prelude.{◌&&◌, if◌then◌else◌, nat_le, nat_lt}
use Rattle.std.specs.List.{onto_first, position, position_or_len}
use Rattle.std.proofs.Math.Seq.{drop-length}
use Rattle.std.proofs.lemmas.List.{length-append, length-drop, length-map}
use Rattle.std.proofs.lemmas.List.Quantifiers.{position-Some}
use Rattle.std.proofs.lemmas.List.Sums.{fails_before_first}
use Rattle.flight_file.specs.Lines.{lines_of}

abbrev is_feed : ℕ → Bool
is_feed x = x == 10

cut : (text : List ℕ) (at : ℕ) → at < length text → is_feed (get_or text at 0) ≡ true → ((k : ℕ) → k < at → is_feed (get_or text k 0) ≡ false) → lines_of text ≡ take at text ∷ lines_of (drop (suc at) text)
cut [] at lt is not = absurd (omega (arith, lt))
cut (b ∷ bytes) zero lt is not = ap (λ (t : Bool). if t then [] ∷ lines_of bytes else onto_first b (lines_of bytes)) is
cut (b ∷ bytes) (suc at) lt is not =
    ap (λ (t : Bool). if t then [] ∷ lines_of bytes else onto_first b (lines_of bytes)) (not 0 (omega arith))
    ∙ ap (onto_first b) (cut bytes at (omega (arith, lt)) is (λ k less. not (suc k) (omega (arith, less))))

uncut : (b : ℕ) (bytes : List ℕ) → ((k : ℕ) → k < length (b ∷ bytes) → is_feed (get_or (b ∷ bytes) k 0) ≡ false) → lines_of (b ∷ bytes) ≡ (b ∷ bytes) ∷ []
uncut b [] not = ap (λ (t : Bool). if t then [] ∷ [] else onto_first b []) (not 0 (omega arith))
uncut b (c ∷ bytes) not =
    ap (λ (t : Bool). if t then [] ∷ lines_of (c ∷ bytes) else onto_first b (lines_of (c ∷ bytes))) (not 0 (omega arith))
    ∙ ap (onto_first b) (uncut c bytes (λ k less. not (suc k) (omega (arith, less))))

pub take_all : {X : Type 0} (xs : List X) (n : ℕ) → length xs ≤ n → take n xs ≡ xs
take_all [] zero far = refl
take_all [] (suc n) far = refl
take_all (x ∷ xs) zero far = absurd (omega (arith, far))
take_all (x ∷ xs) (suc n) far = ap (λ ys. x ∷ ys) (take_all xs n (omega (arith, far)))

-- what follows a place
rest_from : (text : List ℕ) (n : ℕ) → take (length text - n) (drop n text) ≡ drop n text
rest_from text n = let many : length (drop n text) ≡ length text - n = length-drop n text in take_all (drop n text) (length text - n) (omega (arith, many))

-- a line ends at the first line feed
pub line_cut : (text : List ℕ) (at : ℕ) → position (λ x. x == 10) text ≡ Some at → lines_of text ≡ take at text ∷ lines_of (take (length text - (at + 1)) (drop (at + 1) text))
line_cut text at is =
    let found = position-Some is_feed text at 0 is in
    let cuts : lines_of text ≡ take at text ∷ lines_of (drop (at + 1) text) = rw add-one (cut text at found.0 found.1 found.2) in
    cuts ∙ ap (λ rest. take at text ∷ lines_of rest) (sym (rest_from text (at + 1)))

none_if : (near : Bool) (place : ℕ) → (if near then Some place else None) ≡ None → near ≡ false
none_if true place e = absurd cc
none_if false place e = refl

-- without a line feed all of a text is one line
pub line_last : (text : List ℕ) → 0 < length text → position (λ x. x == 10) text ≡ None → lines_of text ≡ text ∷ lines_of (take (length text - length text) (drop (length text) text))
line_last [] some is = absurd (omega (arith, some))
line_last (b ∷ bytes) some is =
    let text : List ℕ = b ∷ bytes in
    let far : nat_lt (position_or_len is_feed text) (length text) ≡ false = none_if (nat_lt (position_or_len is_feed text) (length text)) (position_or_len is_feed text) is in
    uncut b bytes (λ k less. fails_before_first is_feed text k 0 (before k less far)) ∙ ap (λ rest. text ∷ lines_of rest) (sym (rest_from text (length text) ∙ drop-length text))
  where
    before : (k : ℕ) → k < length (b ∷ bytes) → nat_lt (position_or_len is_feed (b ∷ bytes)) (length (b ∷ bytes)) ≡ false → k < position_or_len is_feed (b ∷ bytes)
    before k less far = grind arith

-- a text that is there has a line
pub some_line : (text : List ℕ) → 0 < length text → 0 < length (lines_of text)
some_line [] some = absurd (omega (arith, some))
some_line (b ∷ bytes) some = by (b == 10)
  where
    onto : (lines : List (List ℕ)) → 0 < length (onto_first b lines)
    onto [] = omega arith
    onto (line ∷ lines) = omega arith

    by : (feed : Bool) → 0 < length (if feed then [] ∷ lines_of bytes else onto_first b (lines_of bytes))
    by true = omega arith
    by false = onto (lines_of bytes)

-- too few or too many
pub too_many : (lines : List (List ℕ)) → 64 < length lines → (nat_le 1 (length lines) && nat_le (length lines) 64) ≡ false
too_many lines many = grind arith

-- LINE AFTER LINE

abbrev pub texts : List (Bor (List ℕ)) → List (List ℕ)
texts lines = map (λ (line : Bor (List ℕ)). line.now) lines

texts_more : (lines : List (Bor (List ℕ))) (line : Bor (List ℕ)) → texts (lines ++ line ∷ []) ≡ texts lines ++ line.now ∷ []
texts_more [] line = refl
texts_more (l ∷ lines) line = ap (λ (rest : List (List ℕ)). l.now ∷ rest) (texts_more lines line)

-- one line further
pub line_on : (lines lines' : List (Bor (List ℕ))) (line : Bor (List ℕ)) (rest rest' : List ℕ) (total : List (List ℕ)) → lines' ≡ lines ++ line ∷ [] → lines_of rest ≡ line.now ∷ lines_of rest' → texts lines ++ lines_of rest ≡ total → texts lines' ++ lines_of rest' ≡ total
line_on lines lines' line rest rest' total grows is so_far =
    ap (λ (ls : List (Bor (List ℕ))). texts ls ++ lines_of rest') grows
    ∙ ap (λ (ts : List (List ℕ)). ts ++ lines_of rest') (texts_more lines line)
    ∙ append_assoc (texts lines) (line.now ∷ []) (lines_of rest')
    ∙ ap (λ (ts : List (List ℕ)). texts lines ++ ts) (sym is)
    ∙ so_far

-- the last line
pub line_end : (lines : List (Bor (List ℕ))) (rest : List ℕ) (total : List (List ℕ)) → length rest ≡ 0 → texts lines ++ lines_of rest ≡ total → texts lines ≡ total
line_end lines [] total none so_far = sym (append-nil (texts lines)) ∙ so_far
line_end lines (b ∷ rest) total none so_far = absurd (omega (arith, none))

-- no line
pub no_lines : (bytes : List ℕ) → length bytes ≡ 0 → (nat_le 1 (length (lines_of bytes)) && nat_le (length (lines_of bytes)) 64) ≡ false
no_lines [] none = refl
no_lines (b ∷ bytes) none = absurd (omega (arith, none))

-- more than 64 lines
pub lines_over : (lines : List (Bor (List ℕ))) (rest bytes : List ℕ) → 64 ≤ length lines → 0 < length rest → texts lines ++ lines_of rest ≡ lines_of bytes → (nat_le 1 (length (lines_of bytes)) && nat_le (length (lines_of bytes)) 64) ≡ false
lines_over lines rest bytes many some so_far =
    let count : length (texts lines) ≡ length lines = length-map lines (λ (line : Bor (List ℕ)). line.now) in
    let all : length (texts lines ++ lines_of rest) ≡ length (texts lines) + length (lines_of rest) = length-append (texts lines) (lines_of rest) in
    let same : length (texts lines ++ lines_of rest) ≡ length (lines_of bytes) = ap length so_far in
    too_many (lines_of bytes) (omega (arith, many, count, all, same, some_line rest some))
