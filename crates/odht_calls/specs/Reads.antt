-- What the calls that read a table return, and what they leave in the buffers that their caller passes.
-- The status is s; the buffers hold `old`, vs and fs before the call, and `new`, vs' and fs' after it.
--     IsGot o old s new    a lookup that finds o answers the status s, and leaves `new` in the buffer that held `old`
--     IsGotAt o old f new  the same for one key among many: f is 1 where it is found, else 0
--     Each of the calls in bytes B, which the coding c reads:
--     GetAnswers c B k old s new              the value of the key k
--     GetAllAnswers c B keys vs fs s vs' fs'  the values of keys, and which of them were found
--     LenAnswers c B old s new                the header's item count; LenAnswersOf F the same, by the format F
--     SizesAnswers F B n m p s n' m' p'       the header's slot count, how many items these slots take at most, and the
--                                             load factor in percent
-- Where the header or length is rejected nothing is written, and neither where arrays are not equally long. A clause
-- `on_valid` applies to the bytes of a valid table, and `on_any` to all whose header and length are accepted.
use Rattle.std.specs.Prelude.{◌≡◌, ℕ, Option, Some, None, IfSome, List, length, slice_get}
use Rattle.odht_base.specs.Format.{Format}
use Rattle.odht_base.specs.Load.{max_items, percent_of}
use Rattle.odht_base.specs.Table.{Table, slot_count, count}
use Rattle.odht_base.specs.Decoded.{header_count, header_slots, header_factor}
use Rattle.odht_base.specs.Valid.{IsImage}
use Rattle.odht_header.specs.Coding.{Coding, value_for, HasStored}
use Rattle.odht_raw.specs.Frame.{IsAccepted, header_maximum}
use Rattle.odht_header.specs.Refusals.{opening_refusal}
use Rattle.odht_header.specs.declared.error.Error.{Error}
use Rattle.odht_calls.specs.Statuses.{status_of, status_or_ok, AreAsLong, done, absent, bad_lengths}

abbrev pub IsGot : {V : Type 0} → Option V → V → ℕ → V → Type 0
IsGot None old s new = (s ≡ absent) × (new ≡ old)
IsGot (Some v) old s new = (s ≡ done) × (new ≡ v)

abbrev pub IsGotAt : {V : Type 0} → Option V → Option V → Option ℕ → Option V → Type 0
IsGotAt None old f new = (f ≡ Some 0) × (new ≡ old)
IsGotAt (Some v) old f new = (f ≡ Some 1) × (new ≡ Some v)

pub record GetAnswers {K V : Type 0} (c : Coding K V) (B : List ℕ) (k : K) (old : V) (s : ℕ) (new : V) : Type 0 where
  pub refused : (e : Error) → opening_refusal c.format B ≡ Some e → (s ≡ status_of e) × (new ≡ old)
  pub on_valid : (P : Table) → IsImage c.format P B → IsGot (value_for c P k) old s new
  pub on_any : IsAccepted c.format B → (o : Option V) × IsGot o old s new × IfSome o (HasStored c B k)

pub record GetAllAnswers {K V : Type 0} (c : Coding K V) (B : List ℕ) (keys : List K)
    (vs : List V) (fs : List ℕ) (s : ℕ) (vs' : List V) (fs' : List ℕ) : Type 0 where
  pub lengths : (AreAsLong (length keys) (length vs) (length fs) → ⊥) → (s ≡ bad_lengths) × (vs' ≡ vs) × (fs' ≡ fs)
  pub refused : (e : Error) → AreAsLong (length keys) (length vs) (length fs)
      → opening_refusal c.format B ≡ Some e → (s ≡ status_of e) × (vs' ≡ vs) × (fs' ≡ fs)
  pub accepted : AreAsLong (length keys) (length vs) (length fs) → IsAccepted c.format B → s ≡ done
  pub on_valid : (P : Table) (i : ℕ) (k : K) → AreAsLong (length keys) (length vs) (length fs)
      → IsImage c.format P B → slice_get keys i ≡ Some k
      → IsGotAt (value_for c P k) (slice_get vs i) (slice_get fs' i) (slice_get vs' i)
  pub on_any : (i : ℕ) (k : K) → AreAsLong (length keys) (length vs) (length fs)
      → IsAccepted c.format B → slice_get keys i ≡ Some k
      → (o : Option V) × IsGotAt o (slice_get vs i) (slice_get fs' i) (slice_get vs' i) × IfSome o (HasStored c B k)

pub record LenAnswersOf (F : Format) (B : List ℕ) (old s new : ℕ) : Type 0 where
  pub status : s ≡ status_or_ok (opening_refusal F B)
  pub refused : (e : Error) → opening_refusal F B ≡ Some e → new ≡ old
  pub by_header : IsAccepted F B → new ≡ header_count B
  pub on_valid : (P : Table) → IsImage F P B → new ≡ count P

abbrev pub LenAnswers : {K V : Type 0} → Coding K V → List ℕ → ℕ → ℕ → ℕ → Type 0
LenAnswers c = LenAnswersOf c.format

pub record SizesAnswers (F : Format) (B : List ℕ) (slots maximum percent s slots' maximum' percent' : ℕ) : Type 0 where
  pub status : s ≡ status_or_ok (opening_refusal F B)
  pub refused : (e : Error) → opening_refusal F B ≡ Some e
      → (slots' ≡ slots) × (maximum' ≡ maximum) × (percent' ≡ percent)
  pub by_header : IsAccepted F B
      → (slots' ≡ header_slots B) × (maximum' ≡ header_maximum B) × (percent' ≡ percent_of (header_factor B))
  pub on_valid : (P : Table) → IsImage F P B
      → (slots' ≡ slot_count P) × (maximum' ≡ max_items (slot_count P) P.factor) × (percent' ≡ percent_of P.factor)
