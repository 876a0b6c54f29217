-- The occupied slots of a table while an order of inserts is searched for: the list `done` of the slots placed in
-- earlier passes, and the list of the others, each of which was placed in this pass or waits. A slot that waits is
-- listed with 2 ^ 63 added to it.
--     waiting i            the slot i, listed as one that waits
--     slot_of n            the slot that is listed as the number n
--     placed_of ns         the slots of the list ns that do not wait, but are placed
--     IsWaiting s n        n is a slot below s that waits, as it is listed
--     AreRising ns         the slots of ns rise
--     WaitsWithin ns a b   one of the slots from a to before b waits
--     WaitsBehind ns s b n   one of the n slots from b on waits, around the end of s slots
--     IsLeft ns i m        of the slots below i, the last that waits is the one before m; where m is 0 none waits
--     IsNext ns i m        slot i is the one that a pass looks at: it waits, the slots of ns rise, and m is as in IsLeft
--     IsFrontier ns s h b p  the slot b is at position p of the probe order of the home h among s slots, where a group
--                          begins, and none of the slots at earlier positions waits
--     IsUnblocked ns h s i   slot i is at a position of the probe order of the home h among s slots, and none of the slots
--                          at earlier positions waits
--     IsPending F P done ns  done and the slots of ns are the occupied slots of P, each once; the slots of ns rise; and
--                          done, with the slots of ns that are placed, are the slots so far in the search for an order
--     IsPass F P done ns n  after a pass that placed n slots, which are the first of ns; where n is 0, no slot is ready
--                          after done but those of done
--     AreWholeParts F P T n  T is the parts of the table P, which is valid and has n pairs
--     IsWhole F T n        T is the parts of a valid table that has n pairs
--     IsOrderAnswer F T n ns b   where T is the parts of a valid table of n pairs, b says whether inserts make this table,
--                          and where they do ns is an order of its slots in which they do
--     AreListed F T ns     the slots of ns wait, and are pending in a table whose parts are T
--     IsBegun F T ns n     n is at most the length of ns, and those behind the first n wait; with the first n done, they
--                          are pending in each valid table whose parts are T, with as many pairs as ns has numbers
--     IsFar F T n          the slot listed as the waiting n is below the home of its key, or past the group from there on
use Rattle.std.specs.Prelude.{◌≡◌, ℕ, ◌+◌, ◌-◌, ◌^◌, ◌%◌, ◌<◌, ◌≤◌, ◌⊎◌, ◌↔◌, Bool, IsTrue, nat_lt, List, ◌++◌, length, map, filter, take, drop, All, AllPairs, Contains, IsPermutation}
use Rattle.odht_raw.specs.Words.{count, Format, IsInsertOrder, IsMade, IsPartsOf, IsSoFar, IsStuck, IsValid, occupied, probe_slot, slot_key, Table}
use Rattle.odht_raw.specs.Parts.{TableParts}

abbrev pub waiting : ℕ → ℕ
waiting i = 2 ^ 63 + i

abbrev pub slot_of : ℕ → ℕ
slot_of n = n % 2 ^ 63

abbrev pub placed_of : List ℕ → List ℕ
placed_of ns = filter (λ n. nat_lt n (2 ^ 63)) ns

abbrev pub IsWaiting : ℕ → ℕ → Type 0
IsWaiting s n = (2 ^ 63 ≤ n) × (n - 2 ^ 63 < s)

abbrev pub AreRising : List ℕ → Type 0
AreRising ns = AllPairs ◌<◌ (map slot_of ns)

abbrev pub WaitsWithin : List ℕ → ℕ → ℕ → Type 0
WaitsWithin ns a b = (j : ℕ) × (a ≤ j) × (j < b) × Contains ns (waiting j)

abbrev pub WaitsBehind : List ℕ → ℕ → ℕ → ℕ → Type 0
WaitsBehind ns s b n = (j : ℕ) × (j < n) × Contains ns (waiting ((b + j) % s))

pub record IsLeft (ns : List ℕ) (i m : ℕ) : Type 0 where
  pub low : m ≤ i
  pub last : 0 < m → Contains ns (waiting (m - 1))
  pub none : (j : ℕ) → m ≤ j → j < i → Contains ns (waiting j) → ⊥

pub record IsNext (ns : List ℕ) (i m : ℕ) : Type 0 where
  pub rising : AreRising ns
  pub waits : Contains ns (waiting i)
  pub left : IsLeft ns i m

pub record IsFrontier (ns : List ℕ) (s h b p : ℕ) : Type 0 where
  pub home_within : h < s
  pub aligned : p % 16 ≡ 0
  pub within : p + 16 ≤ s
  pub base_is : b ≡ probe_slot h s p
  pub free : (q : ℕ) → q < p → Contains ns (waiting (probe_slot h s q)) → ⊥

pub record IsUnblocked (ns : List ℕ) (h s i : ℕ) : Type 0 where
  pub position : ℕ
  pub in_order : position < s
  pub slot_is : probe_slot h s position ≡ i
  pub free : (q : ℕ) → q < position → Contains ns (waiting (probe_slot h s q)) → ⊥

pub record IsPending (F : Format) (P : Table) (done ns : List ℕ) : Type 0 where
  pub listed : IsPermutation (occupied P) (done ++ map slot_of ns)
  pub rising : AreRising ns
  pub so_far : IsSoFar F P (done ++ placed_of ns)

pub record IsPass (F : Format) (P : Table) (done ns : List ℕ) (n : ℕ) : Type 0 where
  pub pending : IsPending F P (done ++ take n ns) (drop n ns)
  pub stuck : n ≡ 0 → IsStuck F P done

pub record AreWholeParts (F : Format) (P : Table) (T : TableParts) (n : ℕ) : Type 0 where
  pub valid : IsValid F P
  pub parts : IsPartsOf F P T.entries.bytes T.control
  pub counted : n ≡ count P

abbrev pub IsWhole : Format → TableParts → ℕ → Type 0
IsWhole F T n = (P : Table) × AreWholeParts F P T n

pub record IsOrderAnswer (F : Format) (T : TableParts) (n : ℕ) (ns : List ℕ) (b : Bool) : Type 0 where
  pub order : (P : Table) → AreWholeParts F P T n → IsTrue b → IsInsertOrder F P ns
  pub made : (P : Table) → AreWholeParts F P T n → (IsTrue b ↔ IsMade F P)

pub record AreListed (F : Format) (T : TableParts) (ns : List ℕ) : Type 0 where
  pub waiting : All (IsWaiting T.entries.slots) ns
  pub table : Table
  pub parts : IsPartsOf F table T.entries.bytes T.control
  pub done : List ℕ
  pub pending : IsPending F table done ns

pub record IsBegun (F : Format) (T : TableParts) (ns : List ℕ) (n : ℕ) : Type 0 where
  pub within : n ≤ length ns
  pub waiting : All (IsWaiting T.entries.slots) (drop n ns)
  pub pending : (P : Table) → AreWholeParts F P T (length ns) → IsPending F P (take n ns) (drop n ns)

abbrev pub IsFar : Format → TableParts → ℕ → Type 0
IsFar F T n = let home = F.hash (slot_key F T.entries.bytes (n - 2 ^ 63)) % T.entries.slots in (n - 2 ^ 63 < home) ⊎ (home + 16 ≤ n - 2 ^ 63)
