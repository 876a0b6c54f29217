-- The parts of cells, and the image of a table, after a cell is set.
use Rattle.std.proofs.Common.{◌≡◌, ◌<◌, ◌≤◌, ◌∙◌, ◌+◌, ◌-◌, ◌*◌, ◌++◌, ℕ, zero, suc, Bool, true, false, cond, ltb, ltb-true, ltb-false, sym, ap, refl, List, [], ◌∷◌, Option, Some, map, take, drop, set, length, arith, length-append, length-set, append_assoc}
use Rattle.std.proofs.lemmas.List.{length-map, map-set, set-append_left, set-append_right, take-set-le}
use Rattle.std.proofs.Math.Seq.{take-set-lt}
use Rattle.odht_base.specs.Bytes.{overwritten_at}
use Rattle.odht_base.specs.Format.{Format, entry_len, tag}
use Rattle.odht_base.specs.Image.{header_bytes, entry_bytes, control_byte, entries, controls}
use Rattle.odht_base.specs.Numbers.{le_bytes}
use Rattle.odht_base.specs.Table.{Pair, Cells, cell_at}
use Rattle.odht_base.specs.Writes.{tagged, with_value, with_entry, with_tag, with_pair, with_count}
use Rattle.odht_base.proofs.lemmas.ByteRanges.{overwritten_at-between, overwritten_at-append_left, overwritten_at-append_right, length-overwritten_at}
use Rattle.odht_base.proofs.lemmas.Fits.{HasLengths}
use Rattle.odht_base.proofs.lemmas.Keys.{cell_at-within}
use Rattle.odht_base.proofs.lemmas.Parts.{length-entry_bytes, length-entries-take, length-controls, entries-split, entries-set}
use Rattle.odht_base.proofs.lemmas.PartsOf.{slot_within}

-- a pair written into a slot
pub overwritten_at-entries : (F : Format) (cs : Cells) (i : ℕ) (p : Pair) → HasLengths F cs → i < length cs → length p.key ≡ F.key_len → length p.value ≡ F.value_len
    → overwritten_at (entries F cs) (i * entry_len F) (p.key ++ p.value) ≡ entries F (set cs i (Some p))
overwritten_at-entries F cs i p h lt k v =
    let front = entries F (take i cs) in
    let old = entry_bytes F (cell_at cs i) in
    let back = entries F (drop (suc i) cs) in
    let same : length old ≡ length (p.key ++ p.value) = length-entry_bytes F cs i h ∙ omega (arith, length-append p.key p.value, k, v) in
    ap (λ es. overwritten_at es (i * entry_len F) (p.key ++ p.value)) (entries-split F cs i lt)
    ∙ overwritten_at-between front old back (i * entry_len F) (p.key ++ p.value) (length-entries-take F cs i h lt) same
    ∙ sym (entries-set F cs i (Some p) lt)

-- a value written into the slot that holds its key
pub overwritten_at-entries_value : (F : Format) (cs : Cells) (i : ℕ) (p q : Pair) → HasLengths F cs → cell_at cs i ≡ Some q → q.key ≡ p.key → length p.value ≡ F.value_len
    → overwritten_at (entries F cs) (i * entry_len F + F.key_len) p.value ≡ entries F (set cs i (Some p))
overwritten_at-entries_value F cs i p q h g k v =
    let lt = cell_at-within cs i q g in
    let front = entries F (take i cs) in
    let back = entries F (drop (suc i) cs) in
    let at = i * entry_len F + F.key_len in
    let kl = h.keys i q g in
    let vl = h.values i q g in
    let fl = length-entries-take F cs i h lt in
    let long : length (front ++ q.key) ≡ at = length-append front q.key ∙ omega (arith, fl, kl) in
    let same : length q.value ≡ length p.value = omega (arith, vl, v) in
    let split : entries F cs ≡ (front ++ q.key) ++ (q.value ++ back) =
    entries-split F cs i lt ∙ ap (λ c. front ++ (entry_bytes F c ++ back)) g
    ∙ ap (λ t. front ++ t) (append_assoc q.key q.value back) ∙ sym (append_assoc front q.key (q.value ++ back)) in
    ap (λ es. overwritten_at es at p.value) split
    ∙ overwritten_at-between (front ++ q.key) q.value back at p.value long same
    ∙ ap (λ t. (front ++ t) ++ (p.value ++ back)) k
    ∙ append_assoc front p.key (p.value ++ back)
    ∙ ap (λ t. front ++ t) (sym (append_assoc p.key p.value back))
    ∙ sym (entries-set F cs i (Some p) lt)

-- a control byte and its mirror set
pub tagged-controls : (F : Format) (cs : Cells) (i : ℕ) (c : Option Pair) → 16 ≤ length cs → i < length cs → tagged (controls F cs) i (control_byte F c) ≡ controls F (set cs i c)
unfolding controls
tagged-controls F cs i c enough lt = go (ltb i 16) refl ∙ sym after
  where
    each : List ℕ
    each = map (control_byte F) cs

    b : ℕ
    b = control_byte F c

    long : length (map (control_byte F) cs) ≡ length cs
    long = length-map cs (control_byte F)

    after : controls F (set cs i c) ≡ set each i b ++ take 16 (set each i b)
    after = ap (λ t. t ++ take 16 t) (map-set (control_byte F) cs i c)

    first : set (each ++ take 16 each) i b ≡ set each i b ++ take 16 each
    first = set-append_left each (take 16 each) i b (omega (arith, long))

    go : (t : Bool) → ltb i 16 ≡ t → cond t (set (set (controls F cs) i b) (i + (length (controls F cs) - 16)) b) (set (controls F cs) i b) ≡ set each i b ++ take 16 (set each i b)
    go true e =
        let low = ltb-true i 16 e in
        let n : i + (length (controls F cs) - 16) ≡ length cs + i = omega (arith, length-controls F cs enough) in
        let m : length cs + i - length cs ≡ i = omega arith in
        ap (λ k. set (set (each ++ take 16 each) i b) k b) n
        ∙ ap (λ t. set t (length cs + i) b) first
        ∙ set-append_right (set each i b) (take 16 each) (length cs) (length cs + i) b (length-set each i b ∙ long) (omega arith)
        ∙ ap (λ k. set each i b ++ set (take 16 each) k b) m
        ∙ ap (λ t. set each i b ++ t) (sym (take-set-lt 16 each i b low))
    go false e =
        let high = ltb-false i 16 e in
        first ∙ ap (λ t. set each i b ++ t) (sym (take-set-le 16 each i b high))

-- only a value leaves the control bytes
pub controls-set_value : (F : Format) (cs : Cells) (i : ℕ) (p q : Pair) → cell_at cs i ≡ Some q → q.key ≡ p.key → controls F (set cs i (Some p)) ≡ controls F cs
unfolding controls
controls-set_value F cs i p q g k = ap (λ t. t ++ take 16 t) (map-set (control_byte F) cs i (Some p) ∙ same cs i g)
  where
    same : (ds : Cells) (j : ℕ) → cell_at ds j ≡ Some q → set (map (control_byte F) ds) j (tag F p.key) ≡ map (control_byte F) ds
    same [] j e = refl
    same (d ∷ ds) zero e = ap (λ t. t ∷ map (control_byte F) ds) (ap (tag F) (sym k) ∙ ap (control_byte F) (sym e))
    same (d ∷ ds) (suc j) e = ap (λ t. control_byte F d ∷ t) (same ds j e)

-- a byte set behind two lists
pub set-append_behind : (xs ys zs : List ℕ) (at i b : ℕ) → length xs + length ys + i ≡ at → set (xs ++ (ys ++ zs)) at b ≡ xs ++ (ys ++ set zs i b)
set-append_behind xs ys zs at i b e =
    let m : at - length xs - length ys ≡ i = omega arith in
    set-append_right xs (ys ++ zs) (length xs) at b refl (omega arith)
    ∙ ap (λ t. xs ++ t) (set-append_right ys zs (length ys) (at - length xs) b refl (omega arith) ∙ ap (λ k. ys ++ set zs k b) m)

-- a count written into a header
pub with_count-append : (H xs : List ℕ) (n : ℕ) → 16 ≤ length H → with_count (H ++ xs) n ≡ with_count H n ++ xs
with_count-append H xs n h = overwritten_at-append_left H xs 8 (le_bytes 8 n) h

-- a header with another count
pub with_count-header_bytes : (F : Format) (s c f n : ℕ) → with_count (header_bytes F s c f) n ≡ header_bytes F s n f
with_count-header_bytes F s c f n = refl

-- an entry written behind a header
pub with_entry-append : (F : Format) (s : ℕ) (H es cs : List ℕ) (i : ℕ) (p : Pair) → length H ≡ 32 → length es ≡ s * entry_len F → i < s → length p.key ≡ F.key_len → length p.value ≡ F.value_len
    → with_entry F (H ++ (es ++ cs)) i p ≡ H ++ (overwritten_at es (i * entry_len F) (p.key ++ p.value) ++ cs)
with_entry-append F s H es cs i p h e lt k v =
    let d = p.key ++ p.value in
    let n = length-append p.key p.value in
    let w = slot_within i s (entry_len F) lt in
    let inside : i * entry_len F + length d ≤ length es = omega (arith, n, w, e, k, v) in
    let more : i * entry_len F + length d ≤ length (es ++ cs) = omega (arith, inside, length-append es cs) in
    overwritten_at-append_right H (es ++ cs) 32 (32 + i * entry_len F) (i * entry_len F) d h refl more
    ∙ ap (λ t. H ++ t) (overwritten_at-append_left es cs (i * entry_len F) d inside)

-- a value written behind a header
pub with_value-append : (F : Format) (s : ℕ) (H es cs : List ℕ) (i : ℕ) (v : List ℕ) → length H ≡ 32 → length es ≡ s * entry_len F → i < s → length v ≡ F.value_len
    → with_value F (H ++ (es ++ cs)) i v ≡ H ++ (overwritten_at es (i * entry_len F + F.key_len) v ++ cs)
with_value-append F s H es cs i v h e lt n =
    let at = i * entry_len F + F.key_len in
    let w = slot_within i s (entry_len F) lt in
    let inside : at + length v ≤ length es = omega (arith, n, w, e) in
    let more : at + length v ≤ length (es ++ cs) = omega (arith, inside, length-append es cs) in
    overwritten_at-append_right H (es ++ cs) 32 (32 + i * entry_len F + F.key_len) at v h (omega arith) more
    ∙ ap (λ t. H ++ t) (overwritten_at-append_left es cs at v inside)

-- a control byte and its mirror set behind a header and entries
pub with_tag-append : (F : Format) (s : ℕ) (H es cs : List ℕ) (i c : ℕ) → length H ≡ 32 → length es ≡ s * entry_len F → length cs ≡ s + 16
    → with_tag F s (H ++ (es ++ cs)) i c ≡ H ++ (es ++ tagged cs i c)
with_tag-append F s H es cs i c h e n = go (ltb i 16)
  where
    at : ℕ
    at = 32 + s * entry_len F + i

    first : set (H ++ (es ++ cs)) at c ≡ H ++ (es ++ set cs i c)
    first = set-append_behind H es cs at i c (omega (arith, h, e))

    go : (t : Bool) → cond t (set (set (H ++ (es ++ cs)) at c) (at + s) c) (set (H ++ (es ++ cs)) at c)
        ≡ H ++ (es ++ cond t (set (set cs i c) (i + (length cs - 16)) c) (set cs i c))
    go true =
        ap (λ t. set t (at + s) c) first
        ∙ set-append_behind H es (set cs i c) (at + s) (i + (length cs - 16)) c (omega (arith, h, e, n))
    go false = first

-- an entry and its control byte
pub with_pair-append : (F : Format) (s : ℕ) (H es cs : List ℕ) (i : ℕ) (p : Pair) → length H ≡ 32 → length es ≡ s * entry_len F → length cs ≡ s + 16 → i < s → length p.key ≡ F.key_len → length p.value ≡ F.value_len
    → with_pair F s (H ++ (es ++ cs)) i p ≡ H ++ (overwritten_at es (i * entry_len F) (p.key ++ p.value) ++ tagged cs i (tag F p.key))
with_pair-append F s H es cs i p h e n lt k v =
    let d = p.key ++ p.value in
    let inside : i * entry_len F + length d ≤ length es = omega (arith, length-append p.key p.value, slot_within i s (entry_len F) lt, e, k, v) in
    let long : length (overwritten_at es (i * entry_len F) d) ≡ s * entry_len F = length-overwritten_at es (i * entry_len F) d inside ∙ e in
    ap (λ t. with_tag F s t i (tag F p.key)) (with_entry-append F s H es cs i p h e lt k v)
    ∙ with_tag-append F s H (overwritten_at es (i * entry_len F) d) cs i (tag F p.key) h long n
