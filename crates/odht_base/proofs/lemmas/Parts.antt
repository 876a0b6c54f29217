-- Laws of the parts of cells: their lengths and their contents.
use Rattle.std.proofs.Common.{nat_le, leb-true, ◌≡◌, ◌<◌, ◌≤◌, ◌∙◌, ◌+◌, ◌-◌, ◌*◌, ◌++◌, ℕ, suc, cond, is_none, sym, ap, refl, [], ◌∷◌, Option, Some, None, map, take, drop, set, replicate, length, arith, length-append, length-take, take_at, drop_at}
use Rattle.std.specs.Prelude.{slice_index}
use Rattle.std.specs.List.{flat_map, range_with_len}
use Rattle.std.proofs.lemmas.Bool.{false_from_ne_true}
use Rattle.std.proofs.lemmas.List.{length-replicate, length-map, get_or-map, get_or-append-add, get_or_append_left, get_or-take, set_split}
use Rattle.std.proofs.lemmas.List.Concat.{flat_map-append}
use Rattle.std.proofs.lemmas.List.FromFn.{fill_by_all}
use Rattle.odht_base.specs.Format.{Format, IsFormat, entry_len, tag}
use Rattle.odht_base.specs.Image.{header_bytes, entry_bytes, control_byte, entries, controls, parts}
use Rattle.odht_base.specs.Decoded.{slot_entry, slot_key, slot_value, counts_as_free, decoded_cell, decoded_cells}
use Rattle.odht_base.specs.Table.{Pair, Cells, cell_at, is_free}
use Rattle.odht_base.specs.Valid.{HasPairsOf}
use Rattle.odht_base.proofs.lemmas.ByteRanges.{split_at, bytes_at-between}
use Rattle.odht_base.proofs.lemmas.Fits.{HasLengths, HasLengths-HasPairsOf, HasLengths-tail, HasLengths-take, tag-lt}
use Rattle.odht_base.proofs.lemmas.Keys.{cell_at-within}

-- a header is 32 bytes
pub length-header_bytes : (F : Format) (s c f : ℕ) → length (header_bytes F s c f) ≡ 32
length-header_bytes F s c f = refl

-- the entry of a cell
pub length-entry_bytes : (F : Format) (cs : Cells) (i : ℕ) → HasLengths F cs → length (entry_bytes F (cell_at cs i)) ≡ entry_len F
length-entry_bytes F cs i h = go (cell_at cs i) refl
  where
    go : (c : Option Pair) → cell_at cs i ≡ c → length (entry_bytes F c) ≡ entry_len F
    go None e = length-replicate (entry_len F) 0
    go (Some p) e = length-append p.key p.value ∙ omega (arith, h.keys i p e, h.values i p e)

-- all entries
pub length-entries : (F : Format) (cs : Cells) → HasLengths F cs → length (entries F cs) ≡ length cs * entry_len F
unfolding entries
length-entries F [] h = omega arith
length-entries F (c ∷ cs) h =
    let here = length-entry_bytes F (c ∷ cs) 0 h in
    let rest = length-entries F cs (HasLengths-tail F c cs h) in
    length-append (entry_bytes F c) (flat_map (entry_bytes F) cs) ∙ omega (arith, here, rest)

-- the control bytes with the mirror
pub length-controls : (F : Format) (cs : Cells) → 16 ≤ length cs → length (controls F cs) ≡ length cs + 16
unfolding controls
length-controls F cs enough =
    let each = map (control_byte F) cs in
    let n = length-map cs (control_byte F) in
    let t = length-take 16 each in
    length-append each (take 16 each) ∙ omega (arith, n, t)

-- both parts
pub length-parts : (F : Format) (cs : Cells) → HasLengths F cs → 16 ≤ length cs → length (parts F cs) ≡ length cs * entry_len F + length cs + 16
length-parts F cs h enough =
    let e = length-entries F cs h in
    let c = length-controls F cs enough in
    length-append (entries F cs) (controls F cs) ∙ omega (arith, e, c)

-- the entries around that of slot i
pub entries-split : (F : Format) (cs : Cells) (i : ℕ) → i < length cs → entries F cs ≡ entries F (take i cs) ++ (entry_bytes F (cell_at cs i) ++ entries F (drop (suc i) cs))
unfolding entries
entries-split F cs i h =
    ap (flat_map (entry_bytes F)) (split_at cs i None h)
    ∙ flat_map-append (entry_bytes F) (take i cs) (cell_at cs i ∷ drop (suc i) cs)

-- and with that cell set
pub entries-set : (F : Format) (cs : Cells) (i : ℕ) (c : Option Pair) → i < length cs → entries F (set cs i c) ≡ entries F (take i cs) ++ (entry_bytes F c ++ entries F (drop (suc i) cs))
unfolding entries
entries-set F cs i c h =
    ap (flat_map (entry_bytes F)) (set_split cs i c h)
    ∙ flat_map-append (entry_bytes F) (take i cs) (c ∷ drop (suc i) cs)

-- the entries before slot i
pub length-entries-take : (F : Format) (cs : Cells) (i : ℕ) → HasLengths F cs → i < length cs → length (entries F (take i cs)) ≡ i * entry_len F
length-entries-take F cs i h lt =
    let n : length (take i cs) ≡ i = length-take i cs ∙ omega arith in
    length-entries F (take i cs) (HasLengths-take F i cs h) ∙ ap (λ k. k * entry_len F) n

-- the entry of slot i, cut out of all
pub slot_entry-entries : (F : Format) (cs : Cells) (i : ℕ) → HasLengths F cs → i < length cs → slot_entry F (entries F cs) i ≡ entry_bytes F (cell_at cs i)
slot_entry-entries F cs i h lt =
    ap (λ es. slot_entry F es i) (entries-split F cs i lt)
    ∙ bytes_at-between (entries F (take i cs)) (entry_bytes F (cell_at cs i)) (entries F (drop (suc i) cs)) (i * entry_len F) (entry_len F)
    (length-entries-take F cs i h lt) (length-entry_bytes F cs i h)

-- the key of an occupied slot
pub slot_key-entries : (F : Format) (cs : Cells) (i : ℕ) (p : Pair) → HasLengths F cs → cell_at cs i ≡ Some p → slot_key F (entries F cs) i ≡ p.key
slot_key-entries F cs i p h g =
    ap (take F.key_len) (slot_entry-entries F cs i h (cell_at-within cs i p g) ∙ ap (entry_bytes F) g) ∙ take_at p.key p.value F.key_len (h.keys i p g)

-- the value of an occupied slot
pub slot_value-entries : (F : Format) (cs : Cells) (i : ℕ) (p : Pair) → HasLengths F cs → cell_at cs i ≡ Some p → slot_value F (entries F cs) i ≡ p.value
slot_value-entries F cs i p h g =
    ap (drop F.key_len) (slot_entry-entries F cs i h (cell_at-within cs i p g) ∙ ap (entry_bytes F) g) ∙ drop_at p.key p.value F.key_len (h.keys i p g)

-- the zeros of a free slot
pub slot_entry-free : (F : Format) (cs : Cells) (i : ℕ) → HasLengths F cs → i < length cs → cell_at cs i ≡ None → slot_entry F (entries F cs) i ≡ replicate (entry_len F) 0
slot_entry-free F cs i h lt g = slot_entry-entries F cs i h lt ∙ ap (entry_bytes F) g

-- the control byte of slot i
pub slice_index-controls : (F : Format) (cs : Cells) (i : ℕ) → i < length cs → slice_index (controls F cs) i ≡ control_byte F (cell_at cs i)
unfolding controls
slice_index-controls F cs i lt =
    let each = map (control_byte F) cs in
    let n : i < length each = omega (arith, length-map cs (control_byte F)) in
    get_or_append_left each (take 16 each) 0 i n ∙ get_or-map (control_byte F) cs i None 0 lt

-- its mirror, behind the control bytes of all slots
pub slice_index-mirror : (F : Format) (cs : Cells) (i : ℕ) → i < 16 → i < length cs → slice_index (controls F cs) (length cs + i) ≡ control_byte F (cell_at cs i)
unfolding controls
slice_index-mirror F cs i low lt =
    let each = map (control_byte F) cs in
    ap (λ n. slice_index (each ++ take 16 each) (n + i)) (sym (length-map cs (control_byte F)))
    ∙ get_or-append-add each (take 16 each) i 0 ∙ get_or-take 16 each i 0 low ∙ get_or-map (control_byte F) cs i None 0 lt

-- a control byte counts as free exactly where the cell is
pub byte_free : (F : Format) (c : Option Pair) → ((p : Pair) → c ≡ Some p → tag F p.key < 128) → counts_as_free (control_byte F c) ≡ is_none c
byte_free F None t = refl
byte_free F (Some p) t = let l = t p refl in false_from_ne_true (nat_le 128 (tag F p.key)) (λ h. let m = leb-true 128 (tag F p.key) h in omega arith)

pub counts_as_free-control_byte : (F : Format) (cs : Cells) (i : ℕ) → IsFormat F → HasPairsOf F cs → counts_as_free (control_byte F (cell_at cs i)) ≡ is_free cs i
counts_as_free-control_byte F cs i f h = byte_free F (cell_at cs i) (λ p e. tag-lt F p.key f (h i p e).key)

-- the cell that slot i of the parts decodes to
pub decoded_cell-parts : (F : Format) (cs : Cells) (i : ℕ) → IsFormat F → HasPairsOf F cs → i < length cs → decoded_cell F (entries F cs) (controls F cs) i ≡ cell_at cs i
decoded_cell-parts F cs i f h lt =
    ap (λ b. cond b None (Some (record { key = slot_key F (entries F cs) i; value = slot_value F (entries F cs) i })))
    (ap counts_as_free (slice_index-controls F cs i lt) ∙ counts_as_free-control_byte F cs i f h)
    ∙ go (cell_at cs i) refl
  where
    go : (c : Option Pair) → cell_at cs i ≡ c → cond (is_none c) None (Some (record { key = slot_key F (entries F cs) i; value = slot_value F (entries F cs) i })) ≡ c
    go None e = refl
    go (Some p) e =
        let lengths = HasLengths-HasPairsOf F cs h in
        let k = slot_key-entries F cs i p lengths e in
        let v = slot_value-entries F cs i p lengths e in
        λ j. Some (record { key = k j; value = v j })

-- the parts of the cells decode to the cells
pub decoded_cells-parts : (F : Format) (cs : Cells) → IsFormat F → HasPairsOf F cs → 16 ≤ length cs → decoded_cells F (entries F cs) (controls F cs) ≡ cs
unfolding decoded_cells
decoded_cells-parts F cs f h enough =
    let e : length (controls F cs) - 16 ≡ length cs = omega (arith, length-controls F cs enough) in
    ap (λ n. map (decoded_cell F (entries F cs) (controls F cs)) (range_with_len 0 n)) e
    ∙ sym (fill_by_all (decoded_cell F (entries F cs) (controls F cs)) cs (length cs) None refl (λ k lt. sym (decoded_cell-parts F cs k f h lt)))
