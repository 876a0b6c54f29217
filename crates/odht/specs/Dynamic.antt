-- Dynamic tables: the lengths of keys and values are known only at run time. Their keys and values are lists of bytes.
--     DynStore D           a table's lengths, and its store
--     dyn_store kl vl s    the table of these lengths in the store s
--     dyn_format t h       the format of these lengths and of the hash h
--     dyn_coding t h       the coding of this format that leaves lists of bytes as they are
--     dyn_parts t h B      the lengths of t, and the parts of the bytes B
--     dyn_plain t h        the lengths of t, and the plain table that its bytes decode to
--     IsDynImage t h       the lengths of t fit the hash h, and its bytes are the image of that table
--     IsOpened ml h bytes t  header and length of the table's bytes fit, and its keys are long enough for the hash h, which
--                          needs ml bytes; its lengths are at most 255, and it has fewer than 2 ^ 64 bytes; `bytes` has
--                          the bytes of a store
--     dyn_refusal ml F B   the error of opening: a key length below ml, then those of opening a view
--     stated_format h B    the format of the lengths that the header of B states, and of the hash h
--     stated_refusal ml h B  the error of opening bytes as a table of these lengths: those of header and length, then a
--                          key length below ml, then those of the first slots
--     dyn_new_refusal ml F n f len  the error of a new table for n items at the load factor f in len bytes: a key length
--                          below ml, then those of a new table
use Rattle.std.specs.Prelude.{ℕ, ◌<◌, ◌≤◌, ◌^◌, nat_lt, List, length, slice_index, Option, option_map}
use Rattle.std.specs.Bool.{then_some}
use Rattle.std.specs.Option.{option_or}
use Rattle.odht_raw.specs.Words.{Coding, decoded_table, Format, format_of, IsFormat, IsImage, opening_refusal, Table, view_refusal}
use Rattle.odht_header.specs.Refusals.{new_refusal}
use Rattle.odht_raw.specs.Dumps.{parts_of}
use Rattle.odht_raw.specs.Frame.{IsAccepted}
use Rattle.odht_raw.specs.DynParts.{DynParts, bytes_coding}
use Rattle.odht.specs.declared.dynamic.DynError.{DynError}
use Rattle.odht.specs.declared.dynamic.DynError.TheVariants.{KeyTooShort, Rejected}

pub record DynStore (D : Type 0) : Type 0 where
  pub key_len : ℕ
  pub value_len : ℕ
  pub store : D

abbrev pub dyn_store : {D : Type 0} → ℕ → ℕ → D → DynStore D
dyn_store key_len value_len store = record { key_len = key_len; value_len = value_len; store = store }

abbrev pub dyn_format : {D : Type 0} → DynStore D → (List ℕ → ℕ) → Format
dyn_format t h = format_of t.key_len t.value_len h

abbrev pub dyn_coding : {D : Type 0} → DynStore D → (List ℕ → ℕ) → Coding (List ℕ) (List ℕ)
dyn_coding t h = bytes_coding (dyn_format t h)

abbrev pub dyn_parts : {D : Type 0} → DynStore D → (List ℕ → ℕ) → List ℕ → DynParts
dyn_parts t h B = record { key_len = t.key_len; value_len = t.value_len; parts = parts_of (dyn_format t h) B }

abbrev pub dyn_plain : DynStore (List ℕ) → (List ℕ → ℕ) → DynStore Table
dyn_plain t h = dyn_store t.key_len t.value_len (decoded_table (dyn_format t h) t.store)

pub record IsDynImage (t : DynStore (List ℕ)) (h : List ℕ → ℕ) : Type 0 where
  pub format : IsFormat (dyn_format t h)
  pub image : IsImage (dyn_format t h) (decoded_table (dyn_format t h) t.store) t.store

pub record IsOpened {D : Type 0} (ml : ℕ) (h : List ℕ → ℕ) (bytes : D → List ℕ) (t : DynStore D) : Type 0 where
  pub hashes : ml ≤ t.key_len
  pub key_short : t.key_len ≤ 255
  pub value_short : t.value_len ≤ 255
  pub accepted : IsAccepted (dyn_format t h) (bytes t.store)
  pub fits : length (bytes t.store) < 2 ^ 64

abbrev pub dyn_refusal : ℕ → Format → List ℕ → Option DynError
dyn_refusal ml F B = option_or (then_some (nat_lt F.key_len ml) (KeyTooShort F.key_len ml)) (option_map Rejected (view_refusal F B))

abbrev pub stated_format : (List ℕ → ℕ) → List ℕ → Format
stated_format h B = format_of (slice_index B 5) (slice_index B 6) h

abbrev pub stated_refusal : ℕ → (List ℕ → ℕ) → List ℕ → Option DynError
stated_refusal ml h B = option_or (option_map Rejected (opening_refusal (stated_format h B) B)) (dyn_refusal ml (stated_format h B) B)

abbrev pub dyn_new_refusal : ℕ → Format → ℕ → ℕ → ℕ → Option DynError
dyn_new_refusal ml F n f len = option_or (then_some (nat_lt F.key_len ml) (KeyTooShort F.key_len ml)) (option_map Rejected (new_refusal F n f len))
