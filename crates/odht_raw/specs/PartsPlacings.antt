-- What placing a pair p into the parts of a table answers, r, and which entries es' and control bytes ctrl' it leaves.
-- The pair goes into the first free slot, and no key is compared.
--     IsNewTo P p                      the table P has no value for the key of p
--     IsNewPlacing F P p r es' ctrl'   for the parts of P, to which p is new: an Ok leaves the parts of P with p
--                                      placed, and the answer is Full exactly where p has no place: where each slot is
--                                      occupied
--     PlacingFrame F es ctrl p r es' ctrl'  for any parts es and ctrl: p is written with its tag into the first slot of
--                                      its key's probe order that counts as free, or each slot counts as occupied
--     IsAddition F es ctrl p r es' ctrl'  this frame; Full is the only error and changes nothing
use Rattle.std.specs.Prelude.{◌≡◌, ℕ, ◌-◌, ◌*◌, ◌↔◌, List, ◌++◌, length, None, Result, Ok, Err, OnOk}
use Rattle.odht_raw.specs.Words.{entry_len, Error, Format, Full, IsFullWithout, map_of, overwritten_at, Pair, place, Table, tag, tagged}
use Rattle.odht_raw.specs.Frame.{EachCountsAsOccupied, IsOnlyFull}
use Rattle.odht_raw.specs.FreeSlots.{IsFirstFree}
use Rattle.odht_raw.specs.PartsInserts.{ArePartsPlaced}

abbrev pub IsNewTo : Table → Pair → Type 0
IsNewTo P p = map_of P p.key ≡ None

pub record IsNewPlacing (F : Format) (P : Table) (p : Pair) (r : Result (Unit {0}) Error) (es' ctrl' : List ℕ) : Type 0 where
  pub ok : OnOk r (ArePartsPlaced F P p es' ctrl')
  pub full : (r ≡ Err Full) ↔ (place F P p ≡ None)
  pub no_room : (r ≡ Err Full) ↔ IsFullWithout P p.key

pub data PlacingFrame (F : Format) (es ctrl : List ℕ) (p : Pair) : Result (Unit {0}) Error → List ℕ → List ℕ → Type 0 where
  no_slot : EachCountsAsOccupied ctrl (length ctrl - 16) → PlacingFrame F es ctrl p (Err Full) es ctrl
  added : (i : ℕ) → IsFirstFree ctrl (F.hash p.key) (length ctrl - 16) i → PlacingFrame F es ctrl p (Ok tt) (overwritten_at es (i * entry_len F) (p.key ++ p.value)) (tagged ctrl i (tag F p.key))

pub record IsAddition (F : Format) (es ctrl : List ℕ) (p : Pair) (r : Result (Unit {0}) Error) (es' ctrl' : List ℕ) : Type 0 where
  pub frame : PlacingFrame F es ctrl p r es' ctrl'
  pub errors : IsOnlyFull es ctrl r es' ctrl'
