-- What the calls that read an opened table return, and what they leave in the buffers that their caller passes.
-- An opened table is a view of bytes B whose header and length are accepted, which its caller ensures; so no lookup
-- returns an error of the bytes.
-- The status is s; the buffers hold `old`, vs and fs before the call, and `new`, vs' and fs' after it.
--     OpenViewAnswers F bytes old s new   an opening of bytes with the format F; `old` and `new` are the slice of the
--                                         view: the very slice that was opened, or unchanged after an error
--     ViewGetAnswers c B k old s new      the value of the key k
--     ViewGetAllAnswers c B keys vs fs s vs' fs'   the values of keys, and which of them were found; where arrays are
--                                         not equally long nothing is written
--     ViewLenAnswers c B n                the header's item count; ViewLenAnswersOf F the same, by the format F
-- The coding c reads the bytes. A clause `on_valid` applies to the bytes of a valid table, and `on_any` to all that are
-- accepted.
use Rattle.std.specs.Prelude.{◌≡◌, ℕ, Option, Some, IfSome, List, length, slice_get}
use Rattle.std.specs.Borrow.{Bor}
use Rattle.odht_base.specs.Format.{Format}
use Rattle.odht_base.specs.Table.{Table, count}
use Rattle.odht_base.specs.Decoded.{header_count}
use Rattle.odht_base.specs.Valid.{IsImage}
use Rattle.odht_header.specs.Coding.{Coding, value_for, HasStored}
use Rattle.odht_raw.specs.Frame.{IsAccepted}
use Rattle.odht_header.specs.Refusals.{view_refusal}
use Rattle.odht_calls.specs.Reads.{IsGot, IsGotAt}
use Rattle.odht_calls.specs.Statuses.{status_or_ok, AreAsLong, done, bad_lengths}

pub record OpenViewAnswers (F : Format) (bytes old : Bor (List ℕ)) (s : ℕ) (new : Bor (List ℕ)) : Type 0 where
  pub status : s ≡ status_or_ok (view_refusal F bytes.now)
  pub opened : s ≡ done → new ≡ bytes
  pub accepted : s ≡ done → IsAccepted F new.now
  pub refused : (s ≡ done → ⊥) → new ≡ old

pub record ViewGetAnswers {K V : Type 0} (c : Coding K V) (B : List ℕ) (k : K) (old : V) (s : ℕ) (new : V)
    : Type 0 where
  pub on_valid : (P : Table) → IsImage c.format P B → IsGot (value_for c P k) old s new
  pub on_any : (o : Option V) × IsGot o old s new × IfSome o (HasStored c B k)

pub record ViewGetAllAnswers {K V : Type 0} (c : Coding K V) (B : List ℕ) (keys : List K)
    (vs : List V) (fs : List ℕ) (s : ℕ) (vs' : List V) (fs' : List ℕ) : Type 0 where
  pub lengths : (AreAsLong (length keys) (length vs) (length fs) → ⊥) → (s ≡ bad_lengths) × (vs' ≡ vs) × (fs' ≡ fs)
  pub looked_up : AreAsLong (length keys) (length vs) (length fs) → s ≡ done
  pub on_valid : (P : Table) (i : ℕ) (k : K) → AreAsLong (length keys) (length vs) (length fs)
      → IsImage c.format P B → slice_get keys i ≡ Some k
      → IsGotAt (value_for c P k) (slice_get vs i) (slice_get fs' i) (slice_get vs' i)
  pub on_any : (i : ℕ) (k : K) → AreAsLong (length keys) (length vs) (length fs) → slice_get keys i ≡ Some k
      → (o : Option V) × IsGotAt o (slice_get vs i) (slice_get fs' i) (slice_get vs' i) × IfSome o (HasStored c B k)

pub record ViewLenAnswersOf (F : Format) (B : List ℕ) (n : ℕ) : Type 0 where
  pub by_header : n ≡ header_count B
  pub on_valid : (P : Table) → IsImage F P B → n ≡ count P

abbrev pub ViewLenAnswers : {K V : Type 0} → Coding K V → List ℕ → ℕ → Type 0
ViewLenAnswers c = ViewLenAnswersOf c.format
