-- What the call for the length of a table at the front of longer bytes returns, and what it leaves in its caller's buffer.
--     TableLenAnswers F B old s new   of bytes B it answers the status s; the buffer held `old`, and holds `new` then
-- Where there is no such table nothing is written.
use Rattle.std.specs.Prelude.{◌≡◌, ℕ, List, None, Some}
use Rattle.odht_base.specs.Format.{Format}
use Rattle.odht_header.specs.Refusals.{prefix_refusal}
use Rattle.odht_header.specs.declared.error.Error.{Error}
use Rattle.odht_raw.specs.Prefixes.{IsFront}
use Rattle.odht_calls.specs.Statuses.{status_or_ok, done}

pub record TableLenAnswers (F : Format) (B : List ℕ) (old s new : ℕ) : Type 0 where
  pub status : s ≡ status_or_ok (prefix_refusal F B)
  pub refused : (e : Error) → prefix_refusal F B ≡ Some e → new ≡ old
  pub front : prefix_refusal F B ≡ None → IsFront F B new
  pub only : (n : ℕ) → IsFront F B n → (s ≡ done) × (new ≡ n)
