-- Laws of the image of a table: what its header says, and what its bytes decode to.
use Rattle.std.proofs.Common.{◌≡◌, ◌≤◌, ◌∙◌, ◌+◌, ◌*◌, ◌++◌, ℕ, zero, suc, sym, ap, refl, ◌∷◌, None, map, take, drop, replicate, length, arith, append_assoc, drop_at, length-append}
use Rattle.std.proofs.lemmas.List.{length-replicate, replicate-append-replicate, take-replicate}
use Rattle.odht_base.specs.Bytes.{bytes_at}
use Rattle.odht_base.specs.Format.{Format, IsFormat, entry_len}
use Rattle.odht_base.specs.Image.{header_bytes, control_byte, entries, controls, parts, image, image_len}
use Rattle.odht_base.specs.Decoded.{header_slots, header_count, header_factor, entries_of, controls_of, decoded_cells, decoded_table, decoded_pairs}
use Rattle.odht_base.specs.Table.{Table, slot_count, count, empty, walk}
use Rattle.odht_base.specs.Valid.{IsValid, HasPairsOf}
use Rattle.odht_base.proofs.lemmas.ByteRanges.{bytes_at-between}
use Rattle.odht_base.proofs.lemmas.Counts.{count_of-le, count_fresh}
use Rattle.odht_base.proofs.lemmas.Fits.{IsSized, IsSized-IsPlaced}
use Rattle.odht_base.proofs.lemmas.Numbers.{num-le_bytes}
use Rattle.odht_base.proofs.lemmas.Parts.{length-header_bytes, length-entries, length-parts, decoded_cells-parts}

-- the header of a sized table's image has its slot count
pub header_slots-image : (F : Format) (P : Table) → IsSized F P → header_slots (image F P) ≡ slot_count P
unfolding image
header_slots-image F P h = num-le_bytes 8 (slot_count P) h.few

-- its count
pub header_count-image : (F : Format) (P : Table) → IsSized F P → header_count (image F P) ≡ count P
unfolding image
header_count-image F P h = let c = count_of-le P.cells in num-le_bytes 8 (count P) (omega (arith, c, h.few))

-- and its factor
pub header_factor-image : (F : Format) (P : Table) → P.factor ≤ 65535 → header_factor (image F P) ≡ P.factor
unfolding image
header_factor-image F P h = num-le_bytes 2 P.factor (omega (arith, h))

-- it has the length of its slot count
pub length-image : (F : Format) (P : Table) → IsSized F P → length (image F P) ≡ image_len F (slot_count P)
unfolding image
length-image F P h =
    let a = length-append (header_bytes F (slot_count P) (count P) P.factor) (parts F P.cells) in
    let p = length-parts F P.cells h.lengths h.enough in
    let q = length-header_bytes F (slot_count P) (count P) P.factor in
    omega (arith, a, p, q)

-- the entries of an image
pub entries_of-image : (F : Format) (P : Table) → IsSized F P → entries_of F (image F P) ≡ entries F P.cells
unfolding image
entries_of-image F P h =
    ap (λ s. bytes_at (image F P) 32 (s * entry_len F)) (header_slots-image F P h)
    ∙ bytes_at-between (header_bytes F (slot_count P) (count P) P.factor) (entries F P.cells) (controls F P.cells) 32 (slot_count P * entry_len F)
    (length-header_bytes F (slot_count P) (count P) P.factor) (length-entries F P.cells h.lengths)

-- its control bytes
pub controls_of-image : (F : Format) (P : Table) → IsSized F P → controls_of F (image F P) ≡ controls F P.cells
unfolding image
controls_of-image F P h =
    let H = header_bytes F (slot_count P) (count P) P.factor in
    let n : length (H ++ entries F P.cells) ≡ 32 + slot_count P * entry_len F =
    length-append H (entries F P.cells) ∙ omega (arith, length-header_bytes F (slot_count P) (count P) P.factor, length-entries F P.cells h.lengths) in
    ap (λ s. drop (32 + s * entry_len F) (image F P)) (header_slots-image F P h)
    ∙ ap (drop (32 + slot_count P * entry_len F)) (sym (append_assoc H (entries F P.cells) (controls F P.cells)))
    ∙ drop_at (H ++ entries F P.cells) (controls F P.cells) (32 + slot_count P * entry_len F) n

-- the image decodes to the cells
pub decoded_cells-image : (F : Format) (P : Table) → IsFormat F → IsSized F P → HasPairsOf F P.cells → decoded_cells F (entries_of F (image F P)) (controls_of F (image F P)) ≡ P.cells
decoded_cells-image F P f h b =
    ap (λ es. decoded_cells F es (controls_of F (image F P))) (entries_of-image F P h)
    ∙ ap (decoded_cells F (entries F P.cells)) (controls_of-image F P h)
    ∙ decoded_cells-parts F P.cells f b h.enough

-- the image of a valid table decodes to the table
pub decoded_table-image : (F : Format) (P : Table) → IsFormat F → IsValid F P → decoded_table F (image F P) ≡ P
decoded_table-image F P f h =
    let factor = header_factor-image F P h.factor_high in
    let cells = decoded_cells-image F P f (IsSized-IsPlaced F P h.placed) h.placed.pairs in
    λ i. record { factor = factor i; cells = cells i }

-- valid bytes decode to their table's pairs
pub decoded_pairs-image : (F : Format) (P : Table) → IsFormat F → IsValid F P → decoded_pairs F (image F P) ≡ walk P
decoded_pairs-image F P f h = ap walk (decoded_table-image F P f h)

-- valid tables with one image are one
pub image-injective : (F : Format) (P Q : Table) → IsFormat F → IsValid F P → IsValid F Q → image F P ≡ image F Q → P ≡ Q
image-injective F P Q f p q e = sym (decoded_table-image F P f p) ∙ ap (decoded_table F) e ∙ decoded_table-image F Q f q

-- the entries of an empty table are zeros
pub entries-empty : (F : Format) (s : ℕ) → entries F (replicate s None) ≡ replicate (s * entry_len F) 0
unfolding entries
entries-empty F zero = let e : 0 ≡ 0 * entry_len F = omega arith in ap (λ n. replicate n 0) e
entries-empty F (suc s) =
    let e : entry_len F + s * entry_len F ≡ suc s * entry_len F = omega arith in
    ap (λ es. replicate (entry_len F) 0 ++ es) (entries-empty F s)
    ∙ replicate-append-replicate (entry_len F) (s * entry_len F) 0 ∙ ap (λ n. replicate n 0) e

-- its control bytes are 255s
pub controls-empty : (F : Format) (s : ℕ) → 16 ≤ s → controls F (replicate s None) ≡ replicate (s + 16) 255
unfolding controls
controls-empty F s enough =
    ap (λ cs. cs ++ take 16 cs) (each s) ∙ ap (λ cs. replicate s 255 ++ cs) (take-replicate 16 s 255 enough) ∙ replicate-append-replicate s 16 255
  where
    each : (n : ℕ) → map (control_byte F) (replicate n None) ≡ replicate n 255
    each zero = refl
    each (suc n) = ap (λ cs. 255 ∷ cs) (each n)

-- the image of an empty table
pub image-empty : (F : Format) (s f : ℕ) → 16 ≤ s → image F (empty s f) ≡ header_bytes F s 0 f ++ (replicate (s * entry_len F) 0 ++ replicate (s + 16) 255)
unfolding image
image-empty F s f enough =
    ap (λ n. header_bytes F n (count (empty s f)) f ++ parts F (replicate s None)) (length-replicate s None)
    ∙ ap (λ c. header_bytes F s c f ++ parts F (replicate s None)) (count_fresh s)
    ∙ ap (λ es. header_bytes F s 0 f ++ (es ++ controls F (replicate s None))) (entries-empty F s)
    ∙ ap (λ cs. header_bytes F s 0 f ++ (replicate (s * entry_len F) 0 ++ cs)) (controls-empty F s enough)
