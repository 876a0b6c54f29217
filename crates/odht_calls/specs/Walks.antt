-- What a call that walks over a table into arrays returns, and what it leaves in the buffers that its caller passes.
-- The status is s; the buffers hold at, ks, vs and n before the call, and at', ks', vs' and n' after it.
--     IsWalked c P at ks vs s at' ks' vs' n'   a walk over the table P from slot `at` on, into arrays that held ks and
--                          vs, answers the status s and writes n' pairs: as many as fit, from the first on. The pairs
--                          that are left are those from slot at' on, which is the slot of the first of them, or the
--                          slot count where none is left
--     WalkAnswers c B at ks vs n s at' ks' vs' n'   the same in bytes B, which the coding c reads
-- Where the header or length is rejected nothing is written, and neither where arrays are not equally long. The clause
-- `on_valid` applies to the bytes of a valid table, and `on_any` to the table to which any accepted bytes decode.
use Rattle.std.specs.Prelude.{◌≡◌, ◌≤◌, ◌<◌, ℕ, min, Some, IsFalse, List, ◌++◌, length, map, take, drop}
use Rattle.odht_base.specs.Decoded.{decoded_table}
use Rattle.odht_base.specs.SlotWalks.{walk_from}
use Rattle.odht_base.specs.Table.{Table, slot_count, is_free}
use Rattle.odht_base.specs.Valid.{IsImage}
use Rattle.odht_header.specs.Coding.{Coding}
use Rattle.odht_raw.specs.Frame.{IsAccepted}
use Rattle.odht_header.specs.Refusals.{opening_refusal}
use Rattle.odht_raw.specs.Walks.{decoded_all}
use Rattle.odht_header.specs.declared.error.Error.{Error}
use Rattle.odht_calls.specs.Statuses.{status_of, done, bad_lengths, too_small}

pub record IsWalked {K V : Type 0} (c : Coding K V) (P : Table) (at : ℕ) (ks : List K) (vs : List V) (s at' : ℕ)
    (ks' : List K) (vs' : List V) (n : ℕ) : Type 0 where
  pub known : n ≡ min (length (walk_from P at)) (length ks)
  pub keys : ks' ≡ map (λ x. x.0) (take n (decoded_all c (walk_from P at))) ++ drop n ks
  pub values : vs' ≡ map (λ x. x.1) (take n (decoded_all c (walk_from P at))) ++ drop n vs
  pub left : walk_from P at' ≡ drop n (walk_from P at)
  pub all : length (walk_from P at) ≤ length ks → (s ≡ done) × (at' ≡ slot_count P)
  pub more : length ks < length (walk_from P at) → (s ≡ too_small) × IsFalse (is_free P.cells at')

pub record WalkAnswers {K V : Type 0} (c : Coding K V) (B : List ℕ) (at : ℕ) (ks : List K) (vs : List V) (n s at' : ℕ)
    (ks' : List K) (vs' : List V) (n' : ℕ) : Type 0 where
  pub lengths : (length vs ≡ length ks → ⊥) → (s ≡ bad_lengths) × (at' ≡ at) × (ks' ≡ ks) × (vs' ≡ vs) × (n' ≡ n)
  pub refused : (e : Error) → length vs ≡ length ks → opening_refusal c.format B ≡ Some e
      → (s ≡ status_of e) × (at' ≡ at) × (ks' ≡ ks) × (vs' ≡ vs) × (n' ≡ n)
  pub on_valid : (P : Table) → length vs ≡ length ks → IsImage c.format P B → IsWalked c P at ks vs s at' ks' vs' n'
  pub on_any : length vs ≡ length ks → IsAccepted c.format B → IsWalked c (decoded_table c.format B) at ks vs s at' ks' vs' n'
