-- What follows from the digits of bytes.
use Rattle.std.proofs.Common.{◌≡◌, ◌∙◌, ℕ, zero, suc, ◌+◌, ◌*◌, ◌/◌, ◌%◌, ◌<◌, false, List, [], ◌∷◌, ◌++◌, length, take, get_or, sym, ap, refl, arith}
use Rattle.std.specs.Char.{to_ascii_lowercase}
use Rattle.std.specs.Fmt.{digit_glyph}
use Rattle.std.specs.Str.{str_to_ascii_lowercase}
use Rattle.std.proofs.lemmas.Grind.{flat_map-append}
use Rattle.std.proofs.lemmas.List.{append_assoc, map-append, take-map}
use Rattle.std.proofs.Math.Seq.{take-suc}
use Rattle.odht_tool_core.specs.Texts.{WritesBytes, hex_digits, hex_text}

-- no digits are those of no bytes
pub no_bytes : WritesBytes [] []
no_bytes = refl

-- two digits more are those of one byte more
pub one_more : (digits bytes : List ℕ) (at high low : ℕ) → WritesBytes (take (2 * at) digits) bytes → 2 * at + 1 < length digits
    → high < 16 → low < 16
    → to_ascii_lowercase (get_or digits (2 * at) 0) ≡ digit_glyph false high
    → to_ascii_lowercase (get_or digits (2 * at + 1) 0) ≡ digit_glyph false low
    → WritesBytes (take (2 * (at + 1)) digits) (bytes ++ ((16 * high + low) ∷ []))
one_more digits bytes at high low h l small_high small_low is_high is_low =
    let n : 2 * (at + 1) ≡ suc (suc (2 * at)) = omega arith in
    let next : 2 * at + 1 ≡ suc (2 * at) = omega arith in
    let first = take-suc digits (2 * at) 0 (omega (arith, l)) in
    let second = take-suc digits (suc (2 * at)) 0 (omega (arith, l)) in
    let front = take (2 * at) digits in
    let d = get_or digits (2 * at) 0 in
    let e = get_or digits (suc (2 * at)) 0 in
    let parts : take (2 * (at + 1)) digits ≡ front ++ (d ∷ e ∷ []) =
    ap (λ k. take k digits) n ∙ second ∙ ap (λ ds. ds ++ (e ∷ [])) first ∙ append_assoc front (d ∷ []) (e ∷ []) in
    let value = 16 * high + low in
    let highs : value / 16 ≡ high = omega (arith, small_low) in
    let lows : value % 16 ≡ low = omega (arith, small_low) in
    let low_digit : to_ascii_lowercase e ≡ digit_glyph false low = ap (λ k. to_ascii_lowercase (get_or digits k 0)) (sym next) ∙ is_low in
    let lower : str_to_ascii_lowercase (d ∷ e ∷ []) ≡ hex_digits value = cc in
    ap str_to_ascii_lowercase parts
    ∙ map-append to_ascii_lowercase front (d ∷ e ∷ []) ∙ ap (λ ds. ds ++ str_to_ascii_lowercase (d ∷ e ∷ [])) h
    ∙ ap (λ ds. hex_text bytes ++ ds) lower ∙ sym (flat_map-append hex_digits bytes (value ∷ []))

-- the first bytes have the first digits, two each
hex_front : (n : ℕ) (bytes : List ℕ) → take (2 * n) (hex_text bytes) ≡ hex_text (take n bytes)
hex_front zero bytes = refl
hex_front (suc n) [] =
    let two : 2 * suc n ≡ suc (suc (2 * n)) = omega arith in
    ap (λ m. take m (hex_text [])) two
hex_front (suc n) (b ∷ bs) =
    let two : 2 * suc n ≡ suc (suc (2 * n)) = omega arith in
    ap (λ m. take m (hex_text (b ∷ bs))) two ∙ ap (λ ds. digit_glyph false (b / 16) ∷ digit_glyph false (b % 16) ∷ ds) (hex_front n bs)

-- the first digits, of which there are two each, write the first bytes
pub front_writes : (digits bytes : List ℕ) (n : ℕ) → WritesBytes digits bytes → WritesBytes (take (2 * n) digits) (take n bytes)
front_writes digits bytes n h = sym (take-map to_ascii_lowercase (2 * n) digits) ∙ ap (λ ds. take (2 * n) ds) h ∙ hex_front n bytes
