-- Slot entries within any bytes: where they end, and their length.
use Rattle.std.proofs.Common.{◌≡◌, ◌<◌, ◌≤◌, ◌+◌, ◌*◌, ℕ, suc, List, length, arith, mul-le-mul_right}
use Rattle.odht_base.specs.Format.{Format, entry_len}
use Rattle.odht_base.specs.Decoded.{slot_entry}
use Rattle.odht_base.proofs.lemmas.ByteRanges.{length-bytes_at}

-- the entry of slot i ends within those of s slots
pub slot_within : (i s w : ℕ) → i < s → i * w + w ≤ s * w
slot_within i s w h = let m : suc i * w ≤ s * w = mul-le-mul_right w h in omega (arith, m)

-- its length
pub length-slot_entry : (F : Format) (es : List ℕ) (s i : ℕ) → length es ≡ s * entry_len F → i < s → length (slot_entry F es i) ≡ entry_len F
length-slot_entry F es s i n lt = length-bytes_at es (i * entry_len F) (entry_len F) (omega (arith, n, slot_within i s (entry_len F) lt))
