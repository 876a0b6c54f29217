-- A table of lengths that are known only at run time, at the front of longer bytes: which error its header gives.
use Rattle.std.proofs.Common.{◌≡◌, ◌≤◌, ◌∙◌, ℕ, sym, ap, subst, List, Some, None, Result, Ok, Err, length, arith, le-ltb, nat_lt, take, ◌++◌, refl, Option}
use Rattle.std.specs.Prelude.{IsOk, option_map, slice_index}
use Rattle.std.specs.Bool.{then_some}
use Rattle.std.specs.Option.{option_or}
use Rattle.std.specs.Result.{result_err}
use Rattle.std.proofs.Math.ListN.{get_or-append}
use Rattle.odht_raw.specs.Words.{checked, Error, Format, format_of, IsFormat, IsValidBytes, prefix_refusal}
use Rattle.odht_header.proofs.lemmas.FirstErrors.{IsOk-checked}
use Rattle.odht_header.proofs.lemmas.HeaderFits.{IsOpening-opening_refusal}
use Rattle.odht_raw.specs.Prefixes.{IsFront, front_refusal}
use Rattle.odht_raw.proofs.lemmas.Prefixes.{IsFront-append, IsFront-long, front_refusal-prefix, front_refusal-view, valid_front}
use Rattle.odht_raw.proofs.lemmas.Accepted.{IsAccepted-IsValidBytes}
use Rattle.odht.proofs.lemmas.DynOpens.{stated_key, stated_value}
use Rattle.odht.specs.Dynamic.{dyn_refusal}
use Rattle.odht.specs.DynPrefixes.{dyn_front_refusal}
use Rattle.odht.specs.declared.dynamic.DynError.{DynError}
use Rattle.odht.specs.declared.dynamic.DynError.TheVariants.{KeyTooShort, Rejected}

-- ---- opening a table at the front of the bytes, of keys that a hash function of ml bytes at least takes
module _ (ml : ℕ) (F : Format) (B : List ℕ) where
  -- a table at the front opens as its bytes do
  pub front_as_view : (n : ℕ) → IsFront F B n → dyn_front_refusal ml F B ≡ dyn_refusal ml F (take n B)
  front_as_view n is = ap (λ o. option_or (then_some (nat_lt F.key_len ml) (KeyTooShort F.key_len ml)) (option_map Rejected o)) (front_refusal-view F B n is)

  -- where keys are long enough, an error of the header and the length comes first
  long_enough : ml ≤ F.key_len → then_some (nat_lt F.key_len ml) (KeyTooShort F.key_len ml) ≡ None
  long_enough long = ap (λ b. then_some b (KeyTooShort F.key_len ml)) (le-ltb F.key_len ml long)

  pub front_first : (x : Error) → ml ≤ F.key_len → prefix_refusal F B ≡ Some x → dyn_front_refusal ml F B ≡ Some (Rejected x)
  front_first x long e =
      ap (λ o. option_or o (option_map Rejected (front_refusal F B))) (long_enough long) ∙ ap (option_map Rejected) (front_refusal-prefix F B x e)

-- what a check returns has its error
err_checked : (o : Option Error) → result_err (checked o) ≡ o
err_checked None = refl
err_checked (Some x) = refl

-- valid bytes with anything behind them are opened
pub valid_opens : (ml : ℕ) (F : Format) → IsFormat F → (V R : List ℕ) → ml ≤ F.key_len → IsValidBytes F V → (x : DynError) → Some x ≡ dyn_front_refusal ml F (V ++ R) → ⊥
valid_opens ml F f V R long valid x e =
    let opens : front_refusal F (V ++ R) ≡ None = IsOk-checked _ (valid_front F f V R valid (checked (front_refusal F (V ++ R))) (err_checked _)) in
    let none : Some x ≡ None = e ∙ ap (λ o. option_or o (option_map Rejected (front_refusal F (V ++ R)))) (long_enough ml F (V ++ R) long) ∙ ap (option_map Rejected) opens in
    cc

-- so what has the errors of opening them is Ok
pub opened : {T : Type 0} (ml : ℕ) (F : Format) → IsFormat F → (V R : List ℕ) → ml ≤ F.key_len → IsValidBytes F V → (r : Result T DynError) → result_err r ≡ dyn_front_refusal ml F (V ++ R) → IsOk r
opened ml F f V R long valid (Ok t) e = refl
opened ml F f V R long valid (Err x) e = absurd (valid_opens ml F f V R long valid x e)

-- ---- the lengths that the header of a valid table V at the front states
module _ (hash : List ℕ → ℕ) (key_len value_len : ℕ) (V R : List ℕ) (valid : IsValidBytes (format_of key_len value_len hash) V) where
  front_there : IsFront (format_of key_len value_len hash) (V ++ R) (length V)
  front_there = IsFront-append (format_of key_len value_len hash) V R (IsAccepted-IsValidBytes (format_of key_len value_len hash) V valid)

  -- there are enough bytes for a header
  pub front_header : 32 ≤ length (V ++ R)
  front_header = IsFront-long (format_of key_len value_len hash) (V ++ R) (length V) front_there

  header_long : 32 ≤ length V
  header_long = (IsOpening-opening_refusal (format_of key_len value_len hash) V (IsAccepted-IsValidBytes (format_of key_len value_len hash) V valid)).long

  pub front_key : slice_index (V ++ R) 5 ≡ key_len
  front_key = get_or-append V R 0 5 (omega (arith, header_long)) ∙ stated_key hash key_len value_len valid.0 V valid.1

  pub front_value : slice_index (V ++ R) 6 ≡ value_len
  front_value = get_or-append V R 0 6 (omega (arith, header_long)) ∙ stated_value hash key_len value_len valid.0 V valid.1

  -- so a table of lengths that are the same is there
  pub front_of_lengths : (kl vl : ℕ) → kl ≡ key_len → vl ≡ value_len → IsFront (format_of kl vl hash) (V ++ R) (length V)
  front_of_lengths kl vl k v = subst (λ (F : Format). IsFront F (V ++ R) (length V)) (λ i. format_of (sym k i) (sym v i) hash) front_there

  pub valid_of_lengths : (kl vl : ℕ) → kl ≡ key_len → vl ≡ value_len → IsValidBytes (format_of kl vl hash) V
  valid_of_lengths kl vl k v = subst (λ (F : Format). IsValidBytes F V) (λ i. format_of (sym k i) (sym v i) hash) valid
