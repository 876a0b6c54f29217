-- Texts of JSON, and bytes that stand for themselves in them.
use Rattle.std.proofs.Common.{inl, inr, ◌≡◌, ◌∙◌, ℕ, zero, suc, ◌+◌, ◌-◌, ◌/◌, ◌%◌, ◌<◌, Bool, true, false, not, ◌&&◌, ◌==◌, nat_lt, List, [], ◌∷◌, ◌++◌, get_or, ltb-true, lt-ltb, le-ltb, ne_eqb, ap, refl, arith, flat_map, codes, IsAscii, IsUtf8, if◌then◌else◌}
use Rattle.std.specs.Fmt.{decimal, digits, digits_onto, digit_glyph}
use Rattle.std.specs.List.{AllPass}
use Rattle.std.specs.Int.{Width, swap_bytes, from_le_bytes, w32, w64}
use Rattle.std.specs.Str.{is_utf8}
use Rattle.std.proofs.lemmas.Bool.{cases_lt}
use Rattle.std.proofs.lemmas.Str.{IsUtf8-from_ascii, IsUtf8-from_is_utf8, is_utf8-from_IsUtf8}
use Rattle.odht_tool_core.specs.Forms.{bytes_text, count_of, number_text}
use Rattle.odht_tool_core.specs.Json.{is_simple, json_byte, json_field, string_field, text_field}
use Rattle.odht_tool_core.specs.StoredTexts.{stored_text}
use Rattle.odht_tool_core.specs.Texts.{hex_text}
use Rattle.odht_tool_core.specs.declared.forms.Form.{Form}
use Rattle.odht_tool_core.specs.declared.forms.Form.TheVariants.{Own, Signed, BigEndian, Plain, OfNumber, OfBytes, OfText}
use Rattle.odht_tool_core.specs.declared.shapes.Part.{Part}
use Rattle.odht_tool_core.specs.declared.shapes.Part.TheVariants.{Nothing, U32, U64, Bytes}

-- of two tests that pass each does
both : (a b : Bool) → (a && b) ≡ true → (a ≡ true) × (b ≡ true)
both true b h = (refl, h)
both false b h = cc

fails : (a : Bool) → not a ≡ true → a ≡ false
fails true h = cc
fails false h = refl

-- a simple byte is itself in a string
simple_byte : (b : ℕ) → is_simple b ≡ true → json_byte b ≡ b ∷ []
simple_byte b h =
    let p = both (nat_lt 31 b) (nat_lt b 128 && (not (b == 34) && not (b == 92))) h in
    let q = both (nat_lt b 128) (not (b == 34) && not (b == 92)) p.1 in
    let r = both (not (b == 34)) (not (b == 92)) q.1 in
    let low : nat_lt b 32 ≡ false = le-ltb b 32 (omega (arith, ltb-true 31 b p.0)) in
    rw (fails (b == 34) r.0, fails (b == 92) r.1, low) refl

simple_ascii : (b : ℕ) → is_simple b ≡ true → b < 128
simple_ascii b h =
    let p = both (nat_lt 31 b) (nat_lt b 128 && (not (b == 34) && not (b == 92))) h in
    ltb-true b 128 (both (nat_lt b 128) (not (b == 34) && not (b == 92)) p.1).0

-- which bytes are
simple_between : (b : ℕ) → 34 < b → b < 128 → (b ≡ 92 → ⊥) → is_simple b ≡ true
simple_between b low high other =
    let above : nat_lt 31 b ≡ true = lt-ltb 31 b (omega (arith, low)) in
    let below : nat_lt b 128 ≡ true = lt-ltb b 128 high in
    let quote : (b == 34) ≡ false = ne_eqb b 34 (λ e. omega (arith, low, e)) in
    let back : (b == 92) ≡ false = ne_eqb b 92 other in
    rw (above, below, quote, back) refl

-- ---- texts of them
all_cons : (b : ℕ) (bs : List ℕ) → is_simple b ≡ true → AllPass is_simple bs → AllPass is_simple (b ∷ bs)
all_cons b bs h hs zero d l = h
all_cons b bs h hs (suc k) d l = hs k d (omega (arith, l))

rest_of : (b : ℕ) (bs : List ℕ) → AllPass is_simple (b ∷ bs) → AllPass is_simple bs
rest_of b bs h k d l = h (suc k) d (omega (arith, l))

first_of : (b : ℕ) (bs : List ℕ) → AllPass is_simple (b ∷ bs) → is_simple b ≡ true
first_of b bs h = h zero 0 (omega arith)

pub simple_text : (bs : List ℕ) → AllPass is_simple bs → flat_map json_byte bs ≡ bs
simple_text [] h = refl
simple_text (b ∷ bs) h = ap (λ t. t ++ flat_map json_byte bs) (simple_byte b (first_of b bs h)) ∙ ap (λ t. b ∷ t) (simple_text bs (rest_of b bs h))

all_ascii : (bs : List ℕ) → AllPass is_simple bs → IsAscii bs
all_ascii [] h i = omega arith
all_ascii (b ∷ bs) h zero = simple_ascii b (first_of b bs h)
all_ascii (b ∷ bs) h (suc i) = all_ascii bs (rest_of b bs h) i

-- ---- fields
pub utf8_field : (name text : List ℕ) → IsUtf8 text → text_field name text ≡ string_field name text
utf8_field name text h = rw (is_utf8-from_IsUtf8 text h) refl

pub simple_field : (name text : List ℕ) → AllPass is_simple text → json_field (text_field name text) ≡ 34 ∷ (name ++ (34 ∷ 58 ∷ 34 ∷ (text ++ (34 ∷ []))))
simple_field name text h =
    ap json_field (utf8_field name text (IsUtf8-from_ascii text (all_ascii text h)))
    ∙ ap (λ t. 34 ∷ (name ++ (34 ∷ 58 ∷ 34 ∷ (t ++ (34 ∷ []))))) (simple_text text h)

false_unless : (b : Bool) → (b ≡ true → ⊥) → b ≡ false
false_unless true h = absurd (h refl)
false_unless false h = refl

-- ---- digits
glyph_simple : (d : ℕ) → d < 16 → is_simple (digit_glyph false d) ≡ true
glyph_simple d l =
    elim (cases_lt d 10) [
      | inl few ↦ rw (lt-ltb d 10 few) (simple_between (48 + d) (omega arith) (omega (arith, few)) (λ e. omega (arith, few, e)))
      | inr more ↦ rw (le-ltb d 10 more) (simple_between (87 + d) (omega arith) (omega (arith, l)) (λ e. omega (arith, more, e)))
    ]

either_way : (b : Bool) (xs ys : List ℕ) → AllPass is_simple xs → AllPass is_simple ys → AllPass is_simple (if b then xs else ys)
either_way true xs ys h k = h
either_way false xs ys h k = k

digits_simple : (k n : ℕ) (acc : List ℕ) → AllPass is_simple acc → AllPass is_simple (digits_onto k 10 false n acc)
digits_simple zero n acc h = h
digits_simple (suc k) n acc h =
    let last = digit_glyph false (n % 10) in
    let one : AllPass is_simple (last ∷ acc) = all_cons last acc (glyph_simple (n % 10) (omega arith)) h in
    either_way (n / 10 == 0) (last ∷ acc) (digits_onto k 10 false (n / 10) (last ∷ acc)) one (digits_simple k (n / 10) (last ∷ acc) one)

pub decimal_simple : (n : ℕ) → AllPass is_simple (decimal n)
unfolding digits
decimal_simple n = digits_simple 64 n [] (λ k d l. absurd (omega (arith, l)))

pub number_simple : (w : Width) (f : Form) (n : ℕ) → AllPass is_simple (number_text w f n)
number_simple w Own n = decimal_simple n
number_simple w Signed n =
    let m = count_of w in
    either_way (nat_lt n (m / 2)) (decimal n) (45 ∷ decimal (m - n)) (decimal_simple n) (all_cons 45 (decimal (m - n)) refl (decimal_simple (m - n)))
number_simple w BigEndian n = decimal_simple (swap_bytes w n)
number_simple w Plain n = decimal_simple n
number_simple w (OfNumber v) n = decimal_simple n
number_simple w (OfBytes l) n = decimal_simple n
number_simple w (OfText l) n = decimal_simple n

pub hex_simple : (bs : List ℕ) → ((k : ℕ) → get_or bs k 0 < 256) → AllPass is_simple (hex_text bs)
hex_simple [] h = λ k d l. absurd (omega (arith, l))
hex_simple (b ∷ bs) h =
    let fits : b < 256 = h zero in
    let rest = hex_simple bs (λ k. h (suc k)) in
    let last = digit_glyph false (b % 16) ∷ hex_text bs in
    all_cons (digit_glyph false (b / 16)) last (glyph_simple (b / 16) (omega (arith, fits)))
    (all_cons (digit_glyph false (b % 16)) (hex_text bs) (glyph_simple (b % 16) (omega arith)) rest)

-- of a text that is no UTF-8 the digits
pub other_field : (name text : List ℕ) → (IsUtf8 text → ⊥) → ((k : ℕ) → get_or text k 0 < 256)
    → json_field (text_field name text) ≡ 34 ∷ ((name ++ codes "_hex") ++ (34 ∷ 58 ∷ 34 ∷ (hex_text text ++ (34 ∷ []))))
other_field name text none bytes =
    let other : is_utf8 text ≡ false = false_unless (is_utf8 text) (λ h. none (IsUtf8-from_is_utf8 text h)) in
    ap (λ b. json_field (if b then string_field name text else string_field (name ++ codes "_hex") (hex_text text))) other
    ∙ ap (λ t. 34 ∷ ((name ++ codes "_hex") ++ (34 ∷ 58 ∷ 34 ∷ (t ++ (34 ∷ []))))) (simple_text (hex_text text) (hex_simple text bytes))

pub bytes_simple : (f : Form) (bs : List ℕ) → (f ≡ Plain → ⊥) → AllPass is_simple (hex_text bs) → AllPass is_simple (bytes_text f bs)
bytes_simple Own bs other h = h
bytes_simple Signed bs other h = h
bytes_simple BigEndian bs other h = h
bytes_simple Plain bs other h = absurd (other refl)
bytes_simple (OfNumber v) bs other h = h
bytes_simple (OfBytes l) bs other h = h
bytes_simple (OfText l) bs other h = h

-- so is each text of a key or a value that is no bytes
pub typed_simple : (f : Form) (p : Part) (b : List ℕ) → ((n : ℕ) → p ≡ Bytes n → ⊥) → AllPass is_simple (stored_text f p b)
typed_simple f Nothing b other = λ k d l. absurd (omega (arith, l))
typed_simple f U32 b other = number_simple w32 f (from_le_bytes w32 b)
typed_simple f U64 b other = number_simple w64 f (from_le_bytes w64 b)
typed_simple f (Bytes n) b other = absurd (other n refl)
