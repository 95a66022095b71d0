-- A JSON text is read alike where a line feed stands behind it, and so are the files that are such texts.
use Rattle.std.proofs.Common.{◌≡◌, ◌++◌, ◌∷◌, [], ◌-◌, ◌+◌, ◌*◌, ◌&&◌, ◌||◌, ◌==◌, ℕ, suc, zero, Bool, true, false, List, length, take, drop, nat_eq, cond, Option, Some, None, Result, Ok, is_ok, refl, sym, ap, ap₂, ◌∙◌, arith, length-append, option_map, option_and_then, is_some, if◌then◌else◌}
use Rattle.std.proofs.lemmas.List.{take-append-le, drop-append-le}
use Rattle.std.proofs.lemmas.List.Sums.{prefix_len-le-length}
use Rattle.std.proofs.lemmas.Bool.{false≢true}
use Rattle.std.proofs.lemmas.Str.{IsUtf8-append, IsUtf8-from_ascii, IsUtf8-from_is_utf8, is_utf8-from_IsUtf8}
use Rattle.std.specs.Char.{is_ascii_digit, is_digit, digit_value}
use Rattle.std.specs.List.{prefix_len, starts_with}
use Rattle.std.specs.Str.{is_utf8, IsAscii}
use Rattle.std.proofs.Math.Bool.{and-false}
use Rattle.json.specs.Lex.{Lexeme, token, Class, quote, backslash, operator, space, other, class, Mode, between, in_word, in_string, in_escape, lex_byte, lex, operator_lexeme, string_token, punctuate, fresh}
use Rattle.json.specs.Text.{Within, plain, after_backslash, after_u, after_high, content, code_unit, short_escape}
use Rattle.json.specs.Token.{Token, bad, number, boolean, null}
use Rattle.json.specs.Word.{ends_word, after_digits, after_minus, after_sign, after_whole, after_fraction, after_exponent, after_number, number_before, literal, word}
use Rattle.json.specs.Ascii as ascii
use Rattle.json.specs.Json as json
use Rattle.serde_json.specs.Data.{Data}
use Rattle.serde_json.specs.Read.{read, of_json, max_depth}
use Rattle.file_json.specs.Json.{json_of}

abbrev line : List ℕ → List ℕ
line text = text ++ 10 ∷ []

-- WORDS

ends_line : (t : List ℕ) → ends_word (line t) ≡ ends_word t
ends_line [] = refl
ends_line (x ∷ xs) = refl

drop_nil : (n : ℕ) → ◌≡◌ {A = List ℕ} (drop n []) []
drop_nil zero = refl
drop_nil (suc n) = refl

ends_later : (n : ℕ) (t : List ℕ) → ends_word (drop n (line t)) ≡ ends_word (drop n t)
ends_later zero t = ends_line t
ends_later (suc n) [] = ap ends_word (drop_nil n)
ends_later (suc n) (x ∷ xs) = ends_later n xs

abbrev NoLine : List ℕ → Type 0
NoLine [] = Unit {0}
NoLine (c ∷ cs) = (nat_eq c 10 ≡ false) × NoLine cs

starts_line : (name t : List ℕ) → NoLine name → starts_with nat_eq (line t) name ≡ starts_with nat_eq t name
starts_line [] t none = refl
starts_line (c ∷ cs) [] none = rw none.0 refl
starts_line (c ∷ cs) (x ∷ xs) none = ap (λ b. nat_eq c x && b) (starts_line cs xs none.1)

literal_line : (name : List ℕ) (k : Token) (t : List ℕ) → NoLine name → literal name k (line t) ≡ literal name k t
literal_line name k t none = ap₂ (λ a b. cond (a && b) k bad) (starts_line name t none) (ends_later (length name) t)

-- what follows a part has a line feed behind it too
abbrev lined : Option (List ℕ) → Option (List ℕ)
lined o = option_map line o

then_line : (f : List ℕ → Option (List ℕ)) → ((t : List ℕ) → f (line t) ≡ lined (f t)) → (a b : Option (List ℕ)) → a ≡ lined b → option_and_then f a ≡ lined (option_and_then f b)
then_line f alike a None is = ap (option_and_then f) is
then_line f alike a (Some t) is = ap (option_and_then f) is ∙ alike t

pick : {X : Type 0} (b : Bool) (p q r s : X) → p ≡ r → q ≡ s → cond b p q ≡ cond b r s
pick true p q r s first rest = first
pick false p q r s first rest = rest

cond_line : (b : Bool) (p q : List ℕ) → cond b (line p) (line q) ≡ line (cond b p q)
cond_line true p q = refl
cond_line false p q = refl

cond_lined : (b : Bool) (p q : Option (List ℕ)) → cond b (lined p) (lined q) ≡ lined (cond b p q)
cond_lined true p q = refl
cond_lined false p q = refl

prefix_line : (t : List ℕ) → prefix_len is_ascii_digit (line t) ≡ prefix_len is_ascii_digit t
prefix_line [] = refl
prefix_line (x ∷ xs) = ap (λ n. cond (is_ascii_digit x) (1 + n) 0) (prefix_line xs)

digits_line : (t : List ℕ) → after_digits (line t) ≡ lined (after_digits t)
digits_line t =
    let n : ℕ = prefix_len is_ascii_digit t in
    ap (λ m. cond (m == 0) None (Some (drop m (line t)))) (prefix_line t) ∙ (ap (λ r. cond (n == 0) None (Some r)) (drop-append-le n t (10 ∷ []) (prefix_len-le-length is_ascii_digit t)) ∙ cond_lined (n == 0) None (Some (drop n t)))

minus_line : (t : List ℕ) → after_minus (line t) ≡ line (after_minus t)
minus_line [] = refl
minus_line (x ∷ xs) = cond_line (x == ascii.minus) xs (x ∷ xs)

sign_line : (t : List ℕ) → after_sign (line t) ≡ line (after_sign t)
sign_line [] = refl
sign_line (x ∷ xs) = cond_line ((x == ascii.minus) || (x == ascii.plus)) xs (x ∷ xs)

whole_line : (t : List ℕ) → after_whole (line t) ≡ lined (after_whole t)
whole_line [] = refl
whole_line (x ∷ xs) = ap (λ o. cond (x == ascii.zero) (Some (line xs)) o) (digits_line (x ∷ xs)) ∙ cond_lined (x == ascii.zero) (Some xs) (after_digits (x ∷ xs))

fraction_line : (t : List ℕ) → after_fraction (line t) ≡ lined (after_fraction t)
fraction_line [] = refl
fraction_line (x ∷ xs) = ap (λ o. cond (x == ascii.dot) o (Some (line (x ∷ xs)))) (digits_line xs) ∙ cond_lined (x == ascii.dot) (after_digits xs) (Some (x ∷ xs))

exponent_line : (t : List ℕ) → after_exponent (line t) ≡ lined (after_exponent t)
exponent_line [] = refl
exponent_line (x ∷ xs) = ap (λ o. cond ((x == ascii.lower_e) || (x == ascii.upper_e)) o (Some (line (x ∷ xs)))) (ap after_digits (sign_line xs) ∙ digits_line (after_sign xs)) ∙ cond_lined ((x == ascii.lower_e) || (x == ascii.upper_e)) (after_digits (after_sign xs)) (Some (x ∷ xs))

number_line : (t : List ℕ) → after_number (line t) ≡ lined (after_number t)
unfolding after_number
number_line t =
    then_line after_exponent exponent_line (option_and_then after_fraction (after_whole (after_minus (line t)))) (option_and_then after_fraction (after_whole (after_minus t)))
    (then_line after_fraction fraction_line (after_whole (after_minus (line t))) (after_whole (after_minus t)) (ap after_whole (minus_line t) ∙ whole_line (after_minus t)))

before_line : (t : List ℕ) (o : Option (List ℕ)) → number_before (line t) (lined o) ≡ number_before t o
before_line t None = refl
before_line t (Some rest) =
    let count : length (line t) - length (line rest) ≡ length t - length rest = omega (arith, length-append t (10 ∷ []), length-append rest (10 ∷ [])) in
    ap₂ (λ e s. cond e (number s) bad) (ends_line rest) (ap (λ n. take n (line t)) count ∙ take-append-le (length t - length rest) t (10 ∷ []) (omega arith))

number_word : (t : List ℕ) → number_before (line t) (after_number (line t)) ≡ number_before t (after_number t)
number_word t = ap (number_before (line t)) (number_line t) ∙ before_line t (after_number t)

-- the head is no letter where there is none
abbrev chosen : ℕ → List ℕ → Token
chosen c t =
    cond (c == ascii.lower_t) (literal ascii.true_text (boolean true) t)
    (cond (c == ascii.lower_f) (literal ascii.false_text (boolean false) t)
    (cond (c == ascii.lower_n) (literal ascii.null_text null t) (number_before t (after_number t))))

chosen_line : (c : ℕ) (t : List ℕ) → chosen c (line t) ≡ chosen c t
chosen_line c t =
    pick (c == ascii.lower_t) _ _ _ _ (literal_line ascii.true_text (boolean true) t (refl, (refl, (refl, (refl, tt)))))
    (pick (c == ascii.lower_f) _ _ _ _ (literal_line ascii.false_text (boolean false) t (refl, (refl, (refl, (refl, (refl, tt))))))
    (pick (c == ascii.lower_n) _ _ _ _ (literal_line ascii.null_text null t (refl, (refl, (refl, (refl, tt))))) (number_word t)))

word_line : (x : ℕ) (xs : List ℕ) → word (line (x ∷ xs)) ≡ word (x ∷ xs)
unfolding word
word_line x xs = chosen_line x (x ∷ xs)

-- STRINGS

neither : (b : Bool) → ◌≡◌ {A = Option (List ℕ)} (cond b None None) None
neither true = refl
neither false = refl

no_unit : (a b c : ℕ) → code_unit a b c 10 ≡ None
unfolding code_unit
no_unit a b c = ap (λ (t : Bool). cond t (Some (digit_value a * 4096 + digit_value b * 256 + digit_value c * 16 + digit_value 10)) None) (and-false (is_digit a 16 && is_digit b 16 && is_digit c 16))

and_then_alike : {X Y : Type 0} (f g : X → Option Y) (o : Option X) → ((x : X) → f x ≡ g x) → option_and_then f o ≡ option_and_then g o
and_then_alike f g None alike = refl
and_then_alike f g (Some x) alike = alike x

no_escape : content after_backslash (10 ∷ []) ≡ None
unfolding content short_escape
no_escape = refl

content_line : (w : Within) (xs : List ℕ) → content w (line xs) ≡ content w xs
unfolding content
content_line plain [] = refl
content_line plain (x ∷ xs) = rw (content_line after_backslash xs, content_line plain xs) refl
content_line after_backslash [] = no_escape
content_line after_backslash (x ∷ xs) = rw (content_line after_u xs, content_line plain xs) refl
content_line after_u [] = refl
content_line after_u (a ∷ []) = refl
content_line after_u (a ∷ b ∷ []) = refl
content_line after_u (a ∷ b ∷ c ∷ []) = rw (no_unit a b c) refl
content_line after_u (a ∷ b ∷ c ∷ d ∷ xs) = and_then_alike _ _ (code_unit a b c d) (λ u. rw (content_line (after_high u) xs, content_line plain xs) refl)
content_line (after_high h) [] = refl
content_line (after_high h) (s ∷ []) = refl
content_line (after_high h) (s ∷ u ∷ []) = refl
content_line (after_high h) (s ∷ u ∷ a ∷ []) = refl
content_line (after_high h) (s ∷ u ∷ a ∷ b ∷ []) = refl
content_line (after_high h) (s ∷ u ∷ a ∷ b ∷ c ∷ []) = rw (no_unit a b c) (neither ((s == ascii.backslash) && (u == ascii.lower_u)))
content_line (after_high h) (s ∷ u ∷ a ∷ b ∷ c ∷ d ∷ xs) = rw (content_line plain xs) refl

-- TOKENS

byte_line : (m : Mode) (c : Class) (x : ℕ) (xs : List ℕ) (k l : Mode → List Lexeme) → ((n : Mode) → k n ≡ l n) → lex_byte m c x (line xs) k ≡ lex_byte m c x xs l
byte_line between quote x xs k l alike = ap₂ (λ (s : Option (List ℕ)) (r : List Lexeme). token (string_token s) ∷ r) (content_line plain xs) (alike in_string)
byte_line between backslash x xs k l alike = ap (λ r. token bad ∷ r) (alike in_word)
byte_line between operator x xs k l alike = ap (λ r. operator_lexeme x ∷ r) (alike between)
byte_line between space x xs k l alike = alike between
byte_line between other x xs k l alike = ap₂ (λ (w : Token) (r : List Lexeme). token w ∷ r) (word_line x xs) (alike in_word)
byte_line in_word quote x xs k l alike = alike in_word
byte_line in_word backslash x xs k l alike = alike in_word
byte_line in_word operator x xs k l alike = ap (λ r. operator_lexeme x ∷ r) (alike between)
byte_line in_word space x xs k l alike = alike between
byte_line in_word other x xs k l alike = alike in_word
byte_line in_string quote x xs k l alike = alike between
byte_line in_string backslash x xs k l alike = alike in_escape
byte_line in_string operator x xs k l alike = alike in_string
byte_line in_string space x xs k l alike = alike in_string
byte_line in_string other x xs k l alike = alike in_string
byte_line in_escape c x xs k l alike = alike in_string

lex_line : (m : Mode) (xs : List ℕ) → lex m (line xs) ≡ lex m xs
unfolding lex
lex_line between [] = refl
lex_line in_word [] = refl
lex_line in_string [] = refl
lex_line in_escape [] = refl
lex_line m (x ∷ xs) = byte_line m (class x) x xs _ _ (λ n. lex_line n xs)

-- A JSON TEXT

read_line : (text : List ℕ) → read (line text) ≡ read text
read_line text = ap (λ ls. option_and_then of_json (option_and_then (λ p. json.if_last p.0 p.1) (json.value max_depth (punctuate fresh ls)))) (lex_line between text)

line_ascii : IsAscii (10 ∷ [])
line_ascii zero = omega arith
line_ascii (suc zero) = omega arith
line_ascii (suc (suc i)) = omega arith

utf8_line : (text : List ℕ) → is_utf8 text ≡ true → is_utf8 (line text) ≡ true
utf8_line text is = is_utf8-from_IsUtf8 (line text) (IsUtf8-append text (10 ∷ []) (IsUtf8-from_is_utf8 text is) (IsUtf8-from_ascii (10 ∷ []) line_ascii))

json_if : (b : Bool) (text : List ℕ) (d : Data) → (b ≡ true → is_utf8 (line text) ≡ true) → (if b then read text else None) ≡ Some d → json_of (line text) ≡ Some d
json_if true text d alike is = rw (alike refl, read_line text) is
json_if false text d alike is = absurd (false≢true (ap is_some is))

json_line : (text : List ℕ) (d : Data) → json_of text ≡ Some d → json_of (text ++ 10 ∷ []) ≡ Some d
json_line text d is = json_if (is_utf8 text) text d (utf8_line text) is

module _ {X E : Type 0} (file_of : Option Data → Result X E) (refused : is_ok (file_of None) ≡ false) where
  again_from : (text : List ℕ) (x : X) (o : Option Data) → json_of text ≡ o → file_of o ≡ Ok x → file_of (json_of (line text)) ≡ Ok x
  again_from text x None at is = absurd (false≢true (sym refused ∙ ap is_ok is))
  again_from text x (Some d) at is = ap file_of (json_line text d at) ∙ is

  -- what is read of a text is read of its line
  pub again_line : (text : List ℕ) (x : X) → file_of (json_of text) ≡ Ok x → file_of (json_of (text ++ 10 ∷ [])) ≡ Ok x
  again_line text x is = again_from text x (json_of text) refl is
