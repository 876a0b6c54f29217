-- Bytes whose entries, which end at `to`, were overwritten with zeros.
use Rattle.std.proofs.Common.{◌≡◌, ◌≤◌, ◌∙◌, ◌+◌, ◌-◌, ◌*◌, ◌++◌, ℕ, sym, ap, List, take, drop, length, arith, append_assoc, length-take-le, length-drop, drop-drop, replicate}
use borrow.Rule.Slice.PartMut.{put_mid}
use Rattle.std.proofs.lemmas.List.{length-replicate}
use Rattle.odht_raw.specs.Words.{bytes_at, entry_len, Format, image_len, overwritten_at}
use Rattle.odht_raw.specs.Parts.{IsZeros}
use Rattle.odht_raw.proofs.lemmas.NewTables.{bytes_at-overwritten_at}

-- what a write of that many zeros leaves
pub cleared : (xs ys : List ℕ) (m to : ℕ) → to ≡ 32 + m → to ≤ length xs → ys ≡ replicate (length (take (to - 32) (drop 32 xs))) 0
    → put_mid 32 (to - 32) xs ys ≡ overwritten_at xs 32 (replicate m 0)
cleared xs ys m to at fits zeros =
    let rest = drop (to - 32) (drop 32 xs) in
    let k : to - 32 ≡ m = omega (arith, at) in
    let long : m ≤ length (drop 32 xs) = omega (arith, length-drop 32 xs, at, fits) in
    let few : ys ≡ replicate m 0 = zeros ∙ ap (λ n. replicate n 0) (ap (λ n. length (take n (drop 32 xs))) k ∙ length-take-le m (drop 32 xs) long) in
    let es : List ℕ = replicate m 0 in
    let es_long : length es ≡ m = length-replicate m 0 in
    let end : 32 + (to - 32) ≡ 32 + length es = omega (arith, at, es_long) in
    ap (λ t. take 32 xs ++ (t ++ rest)) few ∙ sym (append_assoc (take 32 xs) es rest) ∙ ap (λ t. (take 32 xs ++ es) ++ t) (drop-drop (to - 32) 32 xs ∙ ap (λ n. drop n xs) end)

-- and that they are zeros
pub zeros-cleared : (F : Format) (s : ℕ) (A B : List ℕ) → length B ≡ image_len F s → A ≡ overwritten_at B 32 (replicate (s * entry_len F) 0) → IsZeros (s * entry_len F) (bytes_at A 32 (s * entry_len F))
zeros-cleared F s A B long written =
    let n = s * entry_len F in
    ap (λ t. bytes_at t 32 n) written ∙ bytes_at-overwritten_at B 32 n (replicate n 0) (omega (arith, long)) (length-replicate n 0)
