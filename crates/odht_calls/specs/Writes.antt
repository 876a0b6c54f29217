-- What the calls that make a table in bytes or write to one return, and what they leave in the caller's buffers.
-- The status is s; the buffers hold B, `old` and n before the call, and B', `new` and n' after it.
--     IsFormer o old s new an insert over the former value o answers the status s, and leaves `new` in the buffer that
--                          held `old`
--     IsAnswered r old s new   the same for an insert that may return an error
--     IsAfterInsert c P k v B' old s new   an insert of k with v into the table P leaves the bytes B' of the table
--                          after it, or answers Full where P is full for the key and leaves all unchanged
--     Each of the calls, of bytes that the coding c reads:
--     BytesNeededAnswers c m p old s new      how many bytes a new table for m items at p percent has
--     InitAnswers c m p B s B'                an empty table for m items at p percent
--     BytesNeededAnswersOf F, InitAnswersOf F the same two, by the format F
--     InsertAnswers c B k v old s B' new      an insert of the key k with the value v, and the value that k had
--     InsertAllAnswers c B keys values n s B' n'   inserts of pairs in order, up to the first that is answered with
--                          Full, and how many were inserted
--     IsListAnswered fits c B items s B' n'   inserts of the items, of which `fits` says which fit, into accepted bytes:
--                          all n' of them, or up to one for which the status is that of Full
-- An error before the first insert leaves all buffers unchanged. A clause `on_valid` applies to the bytes of a valid
-- table, and `on_any` to all whose header and length are accepted.
use Rattle.std.specs.Prelude.{◌≡◌, ◌≤◌, ◌<◌, ◌^◌, ℕ, List, length, take}
use Rattle.std.specs.Prelude.{Option, Some, None, MatchOption, Result, Ok, Err}
use Rattle.std.specs.List.{zip}
use Rattle.odht_base.specs.Format.{Format}
use Rattle.odht_base.specs.Image.{image_len}
use Rattle.odht_base.specs.Insert.{insert_view}
use Rattle.odht_base.specs.Load.{factor_of, slots_for, IsPercent}
use Rattle.odht_base.specs.Table.{Table, fresh}
use Rattle.odht_base.specs.Valid.{IsImage}
use Rattle.odht_header.specs.Coding.{Coding, value_for, encoded}
use Rattle.odht_raw.specs.Frame.{IsAccepted, IsFramed}
use Rattle.odht_raw.specs.Runs.{IsEncodedRun}
use Rattle.odht_header.specs.Refusals.{IsTooLarge, new_refusal, opening_refusal}
use Rattle.odht_header.specs.declared.error.Error.{Error}
use Rattle.odht_header.specs.declared.error.Error.TheVariants.{Full, Capacity}
use Rattle.odht.specs.Lists.{encoded_all, IsAfterInserts, IsFramedRun, IsRefusedAt, IsStoppedAt}
use Rattle.odht_calls.specs.Statuses.{status_of, done, replaced, bad_percent, bad_lengths}

abbrev pub IsFormer : {V : Type 0} → Option V → V → ℕ → V → Type 0
IsFormer None old s new = (s ≡ done) × (new ≡ old)
IsFormer (Some v) old s new = (s ≡ replaced) × (new ≡ v)

abbrev pub IsAnswered : {V : Type 0} → Result (Option V) Error → V → ℕ → V → Type 0
IsAnswered (Ok o) old s new = IsFormer o old s new
IsAnswered (Err e) old s new = (s ≡ status_of e) × (new ≡ old)

abbrev pub IsAfterInsert : {K V : Type 0} → Coding K V → Table → K → V → List ℕ → V → ℕ → V → Type 0
IsAfterInsert c P k v B' old s new =
    MatchOption (insert_view c.format P (encoded c k v))
    (IsImage c.format P B' × (s ≡ status_of Full) × (new ≡ old))
    (λ Q. IsImage c.format Q B' × IsFormer (value_for c P k) old s new)

pub record BytesNeededAnswersOf (F : Format) (m p old s new : ℕ) : Type 0 where
  pub percent : (IsPercent p → ⊥) → (s ≡ bad_percent) × (new ≡ old)
  pub needed : (slots : ℕ) → IsPercent p → slots_for m (factor_of p) ≡ Some slots
      → image_len F slots < 2 ^ 64 → (s ≡ done) × (new ≡ image_len F slots)
  pub capacity : IsPercent p → IsTooLarge F m (factor_of p) → (s ≡ status_of Capacity) × (new ≡ old)

abbrev pub BytesNeededAnswers : {K V : Type 0} → Coding K V → ℕ → ℕ → ℕ → ℕ → ℕ → Type 0
BytesNeededAnswers c = BytesNeededAnswersOf c.format

pub record InitAnswersOf (F : Format) (m p : ℕ) (B : List ℕ) (s : ℕ) (B' : List ℕ) : Type 0 where
  pub percent : (IsPercent p → ⊥) → (s ≡ bad_percent) × (B' ≡ B)
  pub refused : (e : Error) → IsPercent p → new_refusal F m (factor_of p) (length B) ≡ Some e
      → (s ≡ status_of e) × (B' ≡ B)
  pub made : IsPercent p → new_refusal F m (factor_of p) (length B) ≡ None
      → (s ≡ done) × ((P : Table) × (fresh m p ≡ Some P) × IsImage F P B')

abbrev pub InitAnswers : {K V : Type 0} → Coding K V → ℕ → ℕ → List ℕ → ℕ → List ℕ → Type 0
InitAnswers c = InitAnswersOf c.format

pub record InsertAnswers {K V : Type 0} (c : Coding K V) (B : List ℕ) (k : K) (v old : V) (s : ℕ)
    (B' : List ℕ) (new : V) : Type 0 where
  pub refused : (e : Error) → opening_refusal c.format B ≡ Some e → (s ≡ status_of e) × (B' ≡ B) × (new ≡ old)
  pub on_valid : (P : Table) → IsImage c.format P B → IsAfterInsert c P k v B' old s new
  pub on_any : IsAccepted c.format B
      → (r : Result (Option V) Error) × IsAnswered r old s new × IsFramed c B k v r B'

pub record InsertAllAnswers {K V : Type 0} (c : Coding K V) (B : List ℕ) (keys : List K)
    (values : List V) (n s : ℕ) (B' : List ℕ) (n' : ℕ) : Type 0 where
  pub lengths : (length values ≡ length keys → ⊥) → (s ≡ bad_lengths) × (B' ≡ B) × (n' ≡ n)
  pub refused : (e : Error) → length values ≡ length keys → opening_refusal c.format B ≡ Some e
      → (s ≡ status_of e) × (B' ≡ B) × (n' ≡ n)
  pub bound : length values ≡ length keys → IsAccepted c.format B → n' ≤ length keys
  pub all : length values ≡ length keys → IsAccepted c.format B → n' ≡ length keys → s ≡ done
  pub some : length values ≡ length keys → IsAccepted c.format B → n' < length keys → s ≡ status_of Full
  pub inserted : (P : Table) → length values ≡ length keys → IsImage c.format P B
      → IsAfterInserts c.format (insert_view c.format) P (encoded_all c (take n' (zip keys values))) B'
  pub framed : length values ≡ length keys → IsAccepted c.format B
      → IsFramedRun c B (take n' (zip keys values)) B'
  pub at_maximum : (P : Table) → length values ≡ length keys → IsAccepted c.format B → IsImage c.format P B'
      → n' < length keys → IsRefusedAt c P (zip keys values) n'
  pub stopped : length values ≡ length keys → IsAccepted c.format B → n' < length keys
      → IsStoppedAt c (zip keys values) n' B'

pub record IsListAnswered {K V : Type 0} (fits : ℕ → Type 0) (c : Coding K V) (B : List ℕ) (items : List (K × V))
    (s : ℕ) (B' : List ℕ) (n' : ℕ) : Type 0 where
  pub run : IsEncodedRun fits c B items 0 n' B'
  pub all : n' ≡ length items → s ≡ done
  pub some : n' < length items → s ≡ status_of Full
