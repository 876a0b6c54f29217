-- Tables whose lengths of keys and values, and whose hash function, a caller names by numbers.
--     hash_of h           the hash function of the number h: 0 that of rustc-hash, 1 that of keys that are hashes, 2 XXH64
--     least_of h          how many bytes it needs at least
--     IsLayout l          l names a hash function, and its keys are long enough for it
--     any_coding l        the coding of keys and values of the lengths of l as they are, by the hash function of l
--     bad_layout          the status of a layout that is none
--     DynAnswers Long s Same A   a call whose keys and values have to be as long as the layout says (`Long`): where
--                          they are not it answers bad_lengths, and what `Same` says is unchanged; else A
--     AnyAnswers l s Same A   a call with the layout l: where l is none it answers bad_layout, and what `Same` says is
--                          unchanged; else A of the coding of l
--     IsFoundBy o s        a search that finds o answers the status s
--     ContainsAnswers c B k s   a search for the key k in the bytes B, whose value is not wanted
--     ViewContainsAnswers c B k s   the same in an opened table, whose bytes are B
--     AnyViewLenAnswers B n   the header's item count of an opened table, whatever its layout
--     LayoutAnswers B old s new   the lengths that the header of B states; the hash function of the caller stays
use Rattle.std.specs.Prelude.{◌≡◌, ◌≤◌, ℕ, zero, suc, List, Option, Some, None, IfSome, slice_index}
use Rattle.odht_base.specs.Format.{format_of}
use Rattle.odht_base.specs.Hashes.{fx, un}
use Rattle.odht_base.specs.Table.{Table}
use Rattle.odht_base.specs.Valid.{IsImage}
use Rattle.odht_base.specs.Xxh64.{xxh64_low}
use Rattle.odht_header.specs.Coding.{Coding, value_for, HasStored}
use Rattle.odht_header.specs.Refusals.{opening_refusal}
use Rattle.odht_header.specs.declared.error.Error.{Error}
use Rattle.odht_raw.specs.Frame.{IsAccepted}
use Rattle.odht_raw.specs.DynParts.{bytes_coding}
use Rattle.odht.specs.Dynamic.{stated_format}
use Rattle.odht_calls.specs.declared.any.AnyLayout.{AnyLayout}
use Rattle.odht_calls.specs.Statuses.{status_of, status_or_ok, done, absent, bad_lengths}
use Rattle.odht_calls.specs.Views.{ViewLenAnswers}

abbrev pub hash_of : ℕ → List ℕ → ℕ
hash_of zero = fx
hash_of (suc zero) = un
hash_of (suc (suc h)) = xxh64_low

abbrev pub least_of : ℕ → ℕ
least_of zero = 0
least_of (suc zero) = 4
least_of (suc (suc h)) = 0

pub record IsLayout (l : AnyLayout) : Type 0 where
  pub hash : l.hash ≤ 2
  pub key : least_of l.hash ≤ l.key_len

abbrev pub any_coding : AnyLayout → Coding (List ℕ) (List ℕ)
any_coding l = bytes_coding (format_of l.key_len l.value_len (hash_of l.hash))

abbrev pub bad_layout : ℕ
bad_layout = 38

pub record DynAnswers (Long : Type 0) (s : ℕ) (Same : Type 0) (A : Type 0) : Type 0 where
  pub lengths : (Long → ⊥) → (s ≡ bad_lengths) × Same
  pub answers : Long → A

pub record AnyAnswers (l : AnyLayout) (s : ℕ) (Same : Type 0) (A : Coding (List ℕ) (List ℕ) → Type 0) : Type 0 where
  pub layout : (IsLayout l → ⊥) → (s ≡ bad_layout) × Same
  pub answers : IsLayout l → A (any_coding l)

abbrev pub IsFoundBy : {V : Type 0} → Option V → ℕ → Type 0
IsFoundBy None s = s ≡ absent
IsFoundBy (Some v) s = s ≡ done

pub record ContainsAnswers {K V : Type 0} (c : Coding K V) (B : List ℕ) (k : K) (s : ℕ) : Type 0 where
  pub refused : (e : Error) → opening_refusal c.format B ≡ Some e → s ≡ status_of e
  pub on_valid : (P : Table) → IsImage c.format P B → IsFoundBy (value_for c P k) s
  pub on_any : IsAccepted c.format B → (o : Option V) × IsFoundBy o s × IfSome o (HasStored c B k)

pub record ViewContainsAnswers {K V : Type 0} (c : Coding K V) (B : List ℕ) (k : K) (s : ℕ) : Type 0 where
  pub on_valid : (P : Table) → IsImage c.format P B → IsFoundBy (value_for c P k) s
  pub on_any : (o : Option V) × IsFoundBy o s × IfSome o (HasStored c B k)

abbrev pub AnyViewLenAnswers : List ℕ → ℕ → Type 0
AnyViewLenAnswers B n = (l : AnyLayout) → ViewLenAnswers (any_coding l) B n

pub record LayoutAnswers (B : List ℕ) (old : AnyLayout) (s : ℕ) (new : AnyLayout) : Type 0 where
  pub status : (h : List ℕ → ℕ) → s ≡ status_or_ok (opening_refusal (stated_format h B) B)
  pub stated : s ≡ done
      → new ≡ (record { key_len = slice_index B 5; value_len = slice_index B 6; hash = old.hash })
  pub refused : (s ≡ done → ⊥) → new ≡ old
