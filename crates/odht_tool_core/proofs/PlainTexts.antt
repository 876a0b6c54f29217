-- What follows from plain texts, which are stored with zeros behind them.
use Rattle.std.proofs.Common.{◌≡◌, ◌∙◌, ℕ, ◌-◌, ◌<◌, ◌≤◌, true, false, List, length, take, get_or, sym, ap, arith, replicate, refl, Bool, not, ◌&&◌, ◌==◌}
use Rattle.std.specs.List.{suffix_len}
use Rattle.std.proofs.Math.Seq.{take-append_seam, get_or-append_right}
use Rattle.std.proofs.lemmas.List.{get_or-replicate, get_or_append_left}
use Rattle.std.proofs.lemmas.List.Sums.{suffix_len_is}
use Rattle.odht_tool_core.specs.PlainTexts.{IsPlainText, PadsText, is_plain, is_zero, plain_text}

-- the first of two tests, of which it has to fail
pub first_fails : (a b : Bool) → (not a && b) ≡ true → a ≡ false
first_fails false b h = refl
first_fails true b h = sym h

-- a byte of a plain text is no zero
pub plain_is_no_zero : (c : ℕ) → is_plain c ≡ true → is_zero c ≡ false
plain_is_no_zero c h = first_fails (c == 0) _ h

-- the text of the bytes that a plain text is stored as is this text
pub text_of_padded : (word bytes : List ℕ) → IsPlainText (length bytes) word → PadsText word bytes → plain_text bytes ≡ word
text_of_padded word bytes is_text padded =
    let n = length word in
    let fill = length bytes - n in
    let zeros : List ℕ = replicate fill 0 in
    let behind = λ (k : ℕ) (from : n ≤ k) (below : k < length bytes).
    let at : get_or bytes k 0 ≡ 0 =
    ap (λ bs. get_or bs k 0) padded ∙ get_or-append_right word zeros k 0 from ∙ get_or-replicate fill (k - n) 0 0 (omega (arith, from, below)) in
    ap is_zero at in
    let last = λ (some : 0 < n).
    let inside : n - 1 < n = omega (arith, some) in
    let at : get_or bytes (n - 1) 0 ≡ get_or word (n - 1) 0 = ap (λ bs. get_or bs (n - 1) 0) padded ∙ get_or_append_left word zeros 0 (n - 1) inside in
    ap is_zero at ∙ plain_is_no_zero (get_or word (n - 1) 0) (is_text.1 (n - 1) 0 inside) in
    let count = suffix_len_is is_zero bytes n 0 is_text.0 behind last in
    let kept : length bytes - suffix_len is_zero bytes ≡ n = omega (arith, count, is_text.0) in
    ap (λ k. take k bytes) kept ∙ ap (take n) padded ∙ take-append_seam word zeros
