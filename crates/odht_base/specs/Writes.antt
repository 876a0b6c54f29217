-- The writes of an insert, for a pair p of the format F and a slot i below the slot count.
--     Of any bytes B:
--     tagged_at B at s i c     the control byte c of slot i at `at`, and for a slot below 16 its mirror, s bytes after
--     Of bytes B with s slots:
--     with_value F B i v       the value v in slot i
--     with_entry F B i p       the pair p in slot i
--     with_tag F s B i c       the control byte c of slot i, and for a slot below 16 its mirror too
--     with_pair F s B i p      the pair p in slot i, with its tag
--     with_count B n           the item count n
--     Of control bytes ctrl with their mirror:
--     tagged ctrl i c          the control byte c at i, and for a slot below 16 its mirror too
use Rattle.std.specs.Prelude.{ℕ, ◌+◌, ◌-◌, ◌*◌, length, set, nat_lt, List, ◌++◌, if◌then◌else◌}
use Rattle.odht_base.specs.Bytes.{overwritten_at}
use Rattle.odht_base.specs.Format.{Format, entry_len, tag}
use Rattle.odht_base.specs.Numbers.{le_bytes}
use Rattle.odht_base.specs.Table.{Pair}

abbrev pub with_value : Format → List ℕ → ℕ → List ℕ → List ℕ
with_value F B i v = overwritten_at B (32 + i * entry_len F + F.key_len) v

abbrev pub with_entry : Format → List ℕ → ℕ → Pair → List ℕ
with_entry F B i p = overwritten_at B (32 + i * entry_len F) (p.key ++ p.value)

abbrev pub tagged_at : List ℕ → ℕ → ℕ → ℕ → ℕ → List ℕ
tagged_at B at s i c = if nat_lt i 16 then set (set B at c) (at + s) c else set B at c

abbrev pub with_tag : Format → ℕ → List ℕ → ℕ → ℕ → List ℕ
with_tag F s B i c = tagged_at B (32 + s * entry_len F + i) s i c

abbrev pub with_pair : Format → ℕ → List ℕ → ℕ → Pair → List ℕ
with_pair F s B i p = with_tag F s (with_entry F B i p) i (tag F p.key)

abbrev pub with_count : List ℕ → ℕ → List ℕ
with_count B n = overwritten_at B 8 (le_bytes 8 n)

abbrev pub tagged : List ℕ → ℕ → ℕ → List ℕ
tagged ctrl i c = tagged_at ctrl i (length ctrl - 16) i c
