-- Bytes read and written at an offset between two lists.
use Rattle.std.proofs.Common.{◌≡◌, ◌<◌, ◌≤◌, ◌∙◌, ◌+◌, ◌-◌, ◌++◌, ℕ, suc, sym, ap, ap₂, All, List, [], ◌∷◌, take, drop, set, length, get_or, get_or-take, get_or-drop, slice_index, arith, length-append, length-drop, length-take, append_assoc, take_at, drop_at, take-append-drop, drop-cons, drop-drop, take-take}
use Rattle.std.proofs.Math.Seq.{take-add, take-length}
use Rattle.std.proofs.lemmas.List.{take-append-le, drop-append-le, drop-take, set_split}
use Rattle.std.proofs.lemmas.List.Elements.{All-take, All-drop}
use Rattle.odht_base.specs.Bytes.{bytes_at, overwritten_at}

-- a list around its element i
pub split_at : {X : Type 0} (xs : List X) (i : ℕ) (d : X) → i < length xs → xs ≡ take i xs ++ get_or xs i d ∷ drop (suc i) xs
split_at xs i d h = sym (take-append-drop i xs) ∙ ap (λ ys. take i xs ++ ys) (drop-cons xs i d h)

-- n bytes at an offset, by `take` and `drop`
pub bytes_at-take : (B : List ℕ) (at n : ℕ) → bytes_at B at n ≡ take n (drop at B)
bytes_at-take B at n = let e : at + n - at ≡ n = omega arith in ap (λ m. take m (drop at B)) e

-- the bytes between two lists
pub bytes_at-between : (xs ys zs : List ℕ) (at n : ℕ) → length xs ≡ at → length ys ≡ n → bytes_at (xs ++ (ys ++ zs)) at n ≡ ys
bytes_at-between xs ys zs at n a b =
    bytes_at-take (xs ++ (ys ++ zs)) at n ∙ ap (take n) (drop_at xs (ys ++ zs) at a) ∙ take_at ys zs n b

-- n bytes read within a list are n bytes
pub length-bytes_at : (B : List ℕ) (at n : ℕ) → at + n ≤ length B → length (bytes_at B at n) ≡ n
length-bytes_at B at n h = omega (arith, length-take {A = ℕ}, length-drop {A = ℕ})

-- byte i of n bytes at an offset
pub index-bytes_at : (B : List ℕ) (at n i : ℕ) → i < n → slice_index (bytes_at B at n) i ≡ slice_index B (at + i)
index-bytes_at B at n i l = get_or-take (at + n - at) (drop at B) i 0 (omega arith) ∙ get_or-drop at B i 0

-- the bytes at an offset, then the rest
pub drop-bytes_at : (B : List ℕ) (at n : ℕ) → drop at B ≡ bytes_at B at n ++ drop (at + n) B
drop-bytes_at B at n =
    sym (take-append-drop n (drop at B)) ∙ ap₂ (λ xs ys. xs ++ ys) (sym (bytes_at-take B at n)) (drop-drop n at B)

-- a list around n of its bytes
pub split_bytes_at : (B : List ℕ) (at n : ℕ) → B ≡ take at B ++ (bytes_at B at n ++ drop (at + n) B)
split_bytes_at B at n = sym (take-append-drop at B) ∙ ap (λ ys. take at B ++ ys) (drop-bytes_at B at n)

-- all bytes are the list
pub bytes_at-whole : (B : List ℕ) (n : ℕ) → length B ≡ n → bytes_at B 0 n ≡ B
bytes_at-whole B n e = bytes_at-take B 0 n ∙ ap (λ k. take k B) (sym e) ∙ take-length B

-- n bytes, and the m behind them
pub bytes_at-add : (B : List ℕ) (at n m : ℕ) → bytes_at B at (n + m) ≡ bytes_at B at n ++ bytes_at B (at + n) m
bytes_at-add B at n m =
    bytes_at-take B at (n + m) ∙ take-add n m (drop at B)
    ∙ ap₂ (λ xs ys. xs ++ ys) (sym (bytes_at-take B at n)) (ap (take m) (drop-drop n at B) ∙ sym (bytes_at-take B (at + n) m))

-- a range of bytes is a list of bytes
pub All-bytes_at : (B : List ℕ) (at n : ℕ) → All (λ x. x < 256) B → All (λ x. x < 256) (bytes_at B at n)
All-bytes_at B at n h = All-take (λ x. x < 256) (at + n - at) (drop at B) (All-drop (λ x. x < 256) at B h)

-- a write within a list keeps its length
pub length-overwritten_at : (B : List ℕ) (at : ℕ) (d : List ℕ) → at + length d ≤ length B → length (overwritten_at B at d) ≡ length B
length-overwritten_at B at d h =
    let a = length-append (take at B ++ d) (drop (at + length d) B) in
    let b = length-append (take at B) d in
    let t = length-take at B in
    let r = length-drop (at + length d) B in
    omega (arith, a, b, t, r)

-- a write over the bytes between two lists
pub overwritten_at-between : (xs ys zs : List ℕ) (at : ℕ) (d : List ℕ) → length xs ≡ at → length ys ≡ length d → overwritten_at (xs ++ (ys ++ zs)) at d ≡ xs ++ (d ++ zs)
overwritten_at-between xs ys zs at d a b =
    let front = take_at xs (ys ++ zs) at a in
    let n : length (xs ++ ys) ≡ at + length d = length-append xs ys ∙ omega (arith, a, b) in
    let back = ap (drop (at + length d)) (sym (append_assoc xs ys zs)) ∙ drop_at (xs ++ ys) zs (at + length d) n in
    ap (λ t. (t ++ d) ++ drop (at + length d) (xs ++ (ys ++ zs))) front ∙ ap (λ t. (xs ++ d) ++ t) back ∙ append_assoc xs d zs

-- a write to the first of two lists
pub overwritten_at-append_left : (xs ys : List ℕ) (at : ℕ) (d : List ℕ) → at + length d ≤ length xs → overwritten_at (xs ++ ys) at d ≡ overwritten_at xs at d ++ ys
overwritten_at-append_left xs ys at d h =
    let a : at ≤ length xs = omega arith in
    ap (λ t. (t ++ d) ++ drop (at + length d) (xs ++ ys)) (take-append-le at xs ys a)
    ∙ ap (λ t. (take at xs ++ d) ++ t) (drop-append-le (at + length d) xs ys h)
    ∙ sym (append_assoc (take at xs ++ d) (drop (at + length d) xs) ys)

-- a write to the second, at m in it
pub overwritten_at-append_right : (xs ys : List ℕ) (n at m : ℕ) (d : List ℕ) → length xs ≡ n → n + m ≡ at → m + length d ≤ length ys → overwritten_at (xs ++ ys) at d ≡ xs ++ overwritten_at ys m d
overwritten_at-append_right xs ys n at m d e f h =
    let parts = split_bytes_at ys m (length d) in
    let mid = bytes_at ys m (length d) in
    let back = drop (m + length d) ys in
    let long : length (xs ++ take m ys) ≡ at = length-append xs (take m ys) ∙ omega (arith, length-take m ys) in
    let same : length mid ≡ length d = length-bytes_at ys m (length d) h in
    ap (λ t. overwritten_at (xs ++ t) at d) parts
    ∙ ap (λ t. overwritten_at t at d) (sym (append_assoc xs (take m ys) (mid ++ back)))
    ∙ overwritten_at-between (xs ++ take m ys) mid back at d long same
    ∙ append_assoc xs (take m ys) (d ++ back)
    ∙ ap (λ t. xs ++ t) (sym (append_assoc (take m ys) d back))

-- a write of one byte
pub overwritten_at-single : (B : List ℕ) (at b : ℕ) → at < length B → overwritten_at B at (b ∷ []) ≡ set B at b
overwritten_at-single B at b h =
    let e : at + 1 ≡ suc at = omega arith in
    ap (λ n. (take at B ++ b ∷ []) ++ drop n B) e ∙ append_assoc (take at B) (b ∷ []) (drop (suc at) B) ∙ sym (set_split B at b h)

-- the bytes before a write
pub take-overwritten_at : (B : List ℕ) (at n : ℕ) (d : List ℕ) → n ≤ at → at ≤ length B → take n (overwritten_at B at d) ≡ take n B
take-overwritten_at B at n d h l =
    let a : length (take at B) ≡ at = length-take at B ∙ omega arith in
    let m : n ≤ length (take at B) = omega (arith, a) in
    let k : n ≤ length (take at B ++ d) = omega (arith, m, length-append (take at B) d) in
    take-append-le n (take at B ++ d) (drop (at + length d) B) k ∙ take-append-le n (take at B) d m ∙ take-take n at B h

-- the bytes behind a write
pub drop-overwritten_at : (B : List ℕ) (at n : ℕ) (d : List ℕ) → at + length d ≤ n → at ≤ length B → drop n (overwritten_at B at d) ≡ drop n B
drop-overwritten_at B at n d h l =
    let m = at + length d in
    let k = n - m in
    let e : m + k ≡ n = omega arith in
    let f : length (take at B ++ d) ≡ m = length-append (take at B) d ∙ omega (arith, length-take at B) in
    ap (λ j. drop j (overwritten_at B at d)) (sym e) ∙ sym (drop-drop k m (overwritten_at B at d))
    ∙ ap (drop k) (drop_at (take at B ++ d) (drop m B) m f) ∙ drop-drop k m B ∙ ap (λ j. drop j B) e

-- the list up to the end of a write
pub take-overwritten_at_end : (B : List ℕ) (at : ℕ) (d : List ℕ) → at ≤ length B → take (at + length d) (overwritten_at B at d) ≡ take at B ++ d
take-overwritten_at_end B at d l = take_at (take at B ++ d) (drop (at + length d) B) (at + length d) (length-append (take at B) d ∙ omega (arith, length-take at B))

-- two adjacent writes are one write
pub overwritten_at-twice : (B : List ℕ) (at to : ℕ) (d e : List ℕ) → at + length d ≡ to → to ≤ length B → overwritten_at (overwritten_at B at d) to e ≡ overwritten_at B at (d ++ e)
overwritten_at-twice B at to d e n l =
    let front : take to (overwritten_at B at d) ≡ take at B ++ d = ap (λ m. take m (overwritten_at B at d)) (sym n) ∙ take-overwritten_at_end B at d (omega arith) in
    let back : drop (to + length e) (overwritten_at B at d) ≡ drop (to + length e) B = drop-overwritten_at B at (to + length e) d (omega arith) (omega arith) in
    let end : to + length e ≡ at + length (d ++ e) = omega (arith, length-append d e) in
    ap (λ t. (t ++ e) ++ drop (to + length e) (overwritten_at B at d)) front
    ∙ ap (λ t. ((take at B ++ d) ++ e) ++ t) back
    ∙ ap (λ t. t ++ drop (to + length e) B) (append_assoc (take at B) d e)
    ∙ ap (λ m. (take at B ++ (d ++ e)) ++ drop m B) end

-- bytes of the front of a list
pub bytes_at-take_front : (B : List ℕ) (at n m : ℕ) → at + n ≤ m → bytes_at (take m B) at n ≡ bytes_at B at n
bytes_at-take_front B at n m h =
    let k = m - at in
    let e : m ≡ at + k = omega arith in
    bytes_at-take (take m B) at n
    ∙ ap (λ j. take n (drop at (take j B))) e ∙ ap (take n) (drop-take at k B) ∙ take-take n k (drop at B) (omega arith)
    ∙ sym (bytes_at-take B at n)

-- bytes of the rest of a list
pub bytes_at-drop : (B : List ℕ) (from at n m : ℕ) → from + at ≡ m → bytes_at (drop from B) at n ≡ bytes_at B m n
bytes_at-drop B from at n m e =
    bytes_at-take (drop from B) at n ∙ ap (take n) (drop-drop at from B ∙ ap (λ k. drop k B) e) ∙ sym (bytes_at-take B m n)

-- a range of a range
pub bytes_at-bytes_at : (B : List ℕ) (from n at k m : ℕ) → at + k ≤ n → from + at ≡ m → bytes_at (bytes_at B from n) at k ≡ bytes_at B m k
bytes_at-bytes_at B from n at k m h e =
    ap (λ t. bytes_at t at k) (bytes_at-take B from n) ∙ bytes_at-take_front (drop from B) at k n h ∙ bytes_at-drop B from at k m e
