-- What the call that writes the table into which another one grows returns, and what it leaves in the caller's bytes.
-- The status is s; the buffers hold `out` and `len` before the call, and out' and len' after it.
--     growth_refusal F B   the error of a growth of the bytes B: that of their header or length, then of a load factor
--                          below 1 percent, then that no slot count is enough or the length does not fit 64 bits
--     IsGrownInto F B n out out'   the first n bytes of out' are grown from B, and those after them are as in out
--     GrowAnswers c B out len s out' len'   the call, in bytes B that the coding c reads; GrowAnswersOf F the same, by
--                          the format F
use Rattle.std.specs.Prelude.{◌≡◌, ◌≤◌, ◌<◌, ℕ, List, [], ◌∷◌, length, take, drop, Option, Some, None, is_none}
use Rattle.odht_base.specs.Format.{Format}
use Rattle.odht_header.specs.Coding.{Coding}
use Rattle.odht_header.specs.Refusals.{◌gives◌, first_of, factor_refusal, opening_refusal}
use Rattle.odht_header.specs.declared.error.Error.{Error}
use Rattle.odht_header.specs.declared.error.Error.TheVariants.{Capacity}
use Rattle.odht.specs.Growths.{grown_len}
pub use Rattle.odht.specs.Growths.{IsGrownFrom}
use Rattle.odht_calls.specs.Statuses.{status_of, done, too_small}

unfoldable pub growth_refusal : Format → List ℕ → Option Error
growth_refusal F B = first_of (opening_refusal F B ∷ factor_refusal B ∷ (is_none (grown_len F B) gives Capacity) ∷ [])

pub record IsGrownInto (F : Format) (B : List ℕ) (n : ℕ) (out out' : List ℕ) : Type 0 where
  pub table : IsGrownFrom F B (take n out')
  pub rest : drop n out' ≡ drop n out

pub record GrowAnswersOf (F : Format) (B out : List ℕ) (len s : ℕ) (out' : List ℕ) (len' : ℕ) : Type 0 where
  pub refused : (e : Error) → growth_refusal F B ≡ Some e → (s ≡ status_of e) × (out' ≡ out) × (len' ≡ len)
  pub short : (n : ℕ) → growth_refusal F B ≡ None → grown_len F B ≡ Some n → length out < n
      → (s ≡ too_small) × (out' ≡ out) × (len' ≡ n)
  pub grown : (n : ℕ) → growth_refusal F B ≡ None → grown_len F B ≡ Some n → n ≤ length out
      → (s ≡ done) × IsGrownInto F B n out out' × (len' ≡ n)

abbrev pub GrowAnswers : {K V : Type 0} → Coding K V → List ℕ → List ℕ → ℕ → ℕ → List ℕ → ℕ → Type 0
GrowAnswers c = GrowAnswersOf c.format
