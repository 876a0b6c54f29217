-- The search for an insert order of a table takes one slot after the other, each as soon as it is ready.
--     IsReady F P xs i     slot i holds a pair, and in the probe order of its key each slot before slot i is among xs
--     IsSoFar F P xs       the slots xs are all different, and each is ready after those before it in the list
--     IsStuck F P xs       no slot is ready after xs but those of xs
use Rattle.std.specs.Prelude.{◌≡◌, ◌≢◌, ℕ, ◌<◌, List, length, take, slice_index, Contains, AllPairs}
use Rattle.odht_base.specs.Format.{Format, home}
use Rattle.odht_base.specs.Probe.{probe_slot}
use Rattle.odht_base.specs.Table.{Pair, Table, slot_count}
use Rattle.odht_base.specs.Valid.{HoldsPair}

pub record IsReady (F : Format) (P : Table) (xs : List ℕ) (i : ℕ) : Type 0 where
  pub pair : Pair
  pub holds : HoldsPair P i pair
  pub position : ℕ
  pub in_order : position < slot_count P
  pub slot_is : probe_slot (home F pair.key (slot_count P)) (slot_count P) position ≡ i
  pub earlier_taken : (q : ℕ) → q < position → Contains xs (probe_slot (home F pair.key (slot_count P)) (slot_count P) q)

pub record IsSoFar (F : Format) (P : Table) (xs : List ℕ) : Type 0 where
  pub apart : AllPairs (λ i j. i ≢ j) xs
  pub ready : (n : ℕ) → n < length xs → IsReady F P (take n xs) (slice_index xs n)

abbrev pub IsStuck : Format → Table → List ℕ → Type 0
IsStuck F P xs = (i : ℕ) → IsReady F P xs i → Contains xs i
