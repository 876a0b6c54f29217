-- What an insert may do to bytes whose header and length fit, valid or not.
--     IsAccepted F B       the header and the length fit
--     header_maximum B     the maximum item count of the header's slot count and load factor
--     entries_in F B       the entries, as many as the header's slot count
--     IsAbsent F B k       a search for the key k, slot by slot, can end without it
--     InsertFrame F B p r B'              an insert of p, a pair of F, may answer r and leave B'
--     IsBytesFramed F f B p r B'          the same with the answer decoded by f
--     IsFramed c B k v r B'               the same of a key and a value
--     PartsFrame F es ctrl p r es' ctrl'  the same of the parts, which have no item count: Full only where each slot
--                          counts as occupied
--     IsPartsFramed F f es ctrl p r es' ctrl'  the same with the answer decoded by f
--     IsOnlyFull es ctrl r es' ctrl'      Full is the only error, and changes none of the parts
use Rattle.std.specs.Prelude.{◌≡◌, ℕ, ◌+◌, ◌-◌, ◌*◌, ◌<◌, ◌≤◌, length, List, ◌++◌, Option, option_map, Some, None, Result, Ok, Err, OnErr}
use Rattle.std.specs.Result.{result_map_both}
use Rattle.odht_raw.specs.Words.{Coding, controls_of, encoded, entries_of, entry_len, Format, header_count, header_factor, header_slots, key_at, max_items, opening_refusal, overwritten_at, Pair, slot_key, slot_value, tag, tagged, value_at, with_count, with_pair, with_value}
pub use Rattle.odht_raw.specs.ControlBytes.{CountsAsFree, CountsAsOccupied, HasNoFree, EachCountsAsOccupied, IsMissing}
use Rattle.odht_raw.specs.Parts.{EntryBytes}
use Rattle.odht_raw.specs.Words.{Error, Full}

abbrev pub IsAccepted : Format → List ℕ → Type 0
IsAccepted F B = opening_refusal F B ≡ None

abbrev pub header_maximum : List ℕ → ℕ
header_maximum B = max_items (header_slots B) (header_factor B)

abbrev pub entries_in : Format → List ℕ → EntryBytes
entries_in F B = record { slots = header_slots B; bytes = entries_of F B }

abbrev pub IsAbsent : Format → List ℕ → List ℕ → Type 0
IsAbsent F B k = IsMissing F (entries_in F B) (controls_of F B) k

pub data InsertFrame (F : Format) (B : List ℕ) (p : Pair) : Result (Option (List ℕ)) Error → List ℕ → Type 0 where
  full : header_maximum B ≤ header_count B → IsAbsent F B p.key → InsertFrame F B p (Err Full) B
  no_slot : EachCountsAsOccupied (controls_of F B) (header_slots B) → IsAbsent F B p.key → InsertFrame F B p (Err Full) B
  overwrote : (i : ℕ) → i < header_slots B → key_at F B i ≡ p.key → InsertFrame F B p (Ok (Some (value_at F B i))) (with_value F B i p.value)
  added : (i : ℕ) → i < header_slots B → CountsAsFree (controls_of F B) i → header_count B < header_maximum B → InsertFrame F B p (Ok None) (with_count (with_pair F (header_slots B) B i p) (header_count B + 1))

abbrev pub IsBytesFramed : {V : Type 0} → Format → (List ℕ → V) → List ℕ → Pair → Result (Option V) Error → List ℕ → Type 0
IsBytesFramed F f B p r B' = (a : Result (Option (List ℕ)) Error) × (r ≡ result_map_both (option_map f) (λ e. e) a) × InsertFrame F B p a B'

abbrev pub IsFramed : {K V : Type 0} → Coding K V → List ℕ → K → V → Result (Option V) Error → List ℕ → Type 0
IsFramed c B k v r B' = IsBytesFramed c.format c.value_of B (encoded c k v) r B'

pub data PartsFrame (F : Format) (es ctrl : List ℕ) (p : Pair) : Result (Option (List ℕ)) Error → List ℕ → List ℕ → Type 0 where
  no_slot : EachCountsAsOccupied ctrl (length ctrl - 16) → IsMissing F (record { slots = length ctrl - 16; bytes = es }) ctrl p.key → PartsFrame F es ctrl p (Err Full) es ctrl
  overwrote : (i : ℕ) → i < length ctrl - 16 → slot_key F es i ≡ p.key → PartsFrame F es ctrl p (Ok (Some (slot_value F es i))) (overwritten_at es (i * entry_len F + F.key_len) p.value) ctrl
  added : (i : ℕ) → i < length ctrl - 16 → CountsAsFree ctrl i → PartsFrame F es ctrl p (Ok None) (overwritten_at es (i * entry_len F) (p.key ++ p.value)) (tagged ctrl i (tag F p.key))

abbrev pub IsPartsFramed : {V : Type 0} → Format → (List ℕ → V) → List ℕ → List ℕ → Pair → Result (Option V) Error → List ℕ → List ℕ → Type 0
IsPartsFramed F f es ctrl p r es' ctrl' =
    (a : Result (Option (List ℕ)) Error) × (r ≡ result_map_both (option_map f) (λ e. e) a) × PartsFrame F es ctrl p a es' ctrl'

pub record IsOnlyFull {A : Type 0} (es ctrl : List ℕ) (r : Result A Error) (es' ctrl' : List ℕ) : Type 0 where
  pub only_full : OnErr r (r ≡ Err Full)
  pub refused_control : OnErr r (ctrl' ≡ ctrl)
  pub refused_entries : OnErr r (es' ≡ es)
