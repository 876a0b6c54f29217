-- Worked examples: which lines check bytes.
use Rattle.std.proofs.Common.{◌≡◌, ℕ, ◌<◌, ◌^◌, List, [], ◌∷◌, ◌++◌, length, slice_index, refl, ap, arith, lit<}
use Rattle.std.proofs.lemmas.Bool.{false≢true}
use Rattle.std.proofs.lemmas.List.Elements.{All-cons, All-nil}
use Rattle.std.specs.Prelude.{codes}
use Rattle.odht_table.specs.Commands.{IsHexText, IsCheckText}
use Rattle.odht_table.proofs.HexTexts.{check_digits, digits_even, digits_pass, hex_same}

abbrev IsByte : ℕ → Type 0
IsByte b = b < 2 ^ 8

-- two bytes
two_bytes : (digits : List ℕ) → IsHexText digits (79 ∷ 172 ∷ []) → IsCheckText (codes "check " ++ digits) (79 ∷ 172 ∷ [])
two_bytes digits hex = record { digits = digits; whole = refl; hex = hex }

-- the high half of a byte is written first, in either case
pub lower_case : IsCheckText (codes "check 4fac") (79 ∷ 172 ∷ [])
lower_case = two_bytes (codes "4fac") (record { text = refl; bytes_fit = All-cons IsByte 79 (172 ∷ []) (lit< tt) (All-cons IsByte 172 [] (lit< tt) (All-nil IsByte)) })

pub either_case : IsCheckText (codes "check 4FaC") (79 ∷ 172 ∷ [])
either_case = two_bytes (codes "4FaC") (record { text = refl; bytes_fit = All-cons IsByte 79 (172 ∷ []) (lit< tt) (All-cons IsByte 172 [] (lit< tt) (All-nil IsByte)) })

-- no bytes
pub no_digits : IsCheckText (codes "check ") []
no_digits = record { digits = []; whole = refl; hex = record { text = refl; bytes_fit = All-nil IsByte } }

-- the word alone is no such line
pub word_alone : (bytes : List ℕ) → IsCheckText (codes "check") bytes → ⊥
word_alone bytes h = omega (arith, ap length h.whole)

-- nor is one with an odd number of digits
pub odd_digits : (bytes : List ℕ) → IsCheckText (codes "check 4fa") bytes → ⊥
odd_digits bytes h =
    let even = digits_even (codes "4fa") bytes (check_digits (codes "check 4fa") (codes "4fa") bytes refl h) in
    omega (arith, even)

-- with a byte that is no digit
pub other_letter : (bytes : List ℕ) → IsCheckText (codes "check 4g") bytes → ⊥
other_letter bytes h =
    let hex = check_digits (codes "check 4g") (codes "4g") bytes refl h in
    false≢true (digits_pass (codes "4g") bytes hex.text hex.bytes_fit 1 0 (lit< tt))

-- or with a second space
pub second_space : (bytes : List ℕ) → IsCheckText (codes "check  4f") bytes → ⊥
second_space bytes h =
    let even = digits_even (codes " 4f") bytes (check_digits (codes "check  4f") (codes " 4f") bytes refl h) in
    omega (arith, even)

-- the halves of a byte are not exchanged
pub halves_exchanged : IsHexText (codes "f4") (79 ∷ []) → ⊥
halves_exchanged h = let e = ap (λ ds. slice_index ds 0) h.text in absurd (omega (arith, e))

-- no number from 256 on is a byte
pub no_byte : IsHexText (codes "4f") (335 ∷ []) → ⊥
no_byte h = let small : 335 < 2 ^ 8 = h.bytes_fit 0 0 (lit< tt) in omega (arith, small)

-- a line writes one list of bytes alone
pub bytes_alone : (line xs ys : List ℕ) → IsCheckText line xs → IsCheckText line ys → xs ≡ ys
bytes_alone line xs ys h k = hex_same h.digits xs ys h.hex (check_digits line h.digits ys h.whole k)
