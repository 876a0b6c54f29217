-- Calls for dynamic tables: the hash function that is picked, and the lengths of values.
use Rattle.std.proofs.Common.{◌≡◌, ◌≤◌, ◌<◌, ◌*◌, ◌∙◌, ℕ, zero, suc, List, sym, ap, subst, refl, arith, length}
use Rattle.std.proofs.lemmas.List.{length-drop}
use Rattle.odht_base.specs.Decoded.{entries_of, header_slots, slot_entry, value_at}
use Rattle.odht_base.specs.Format.{Format, format_of, entry_len}
use Rattle.odht_base.proofs.lemmas.ByteRanges.{length-bytes_at}
use Rattle.odht_base.proofs.lemmas.PartsOf.{length-slot_entry}
use Rattle.odht_base.specs.Hashes.{fx}
use Rattle.odht_header.specs.Coding.{Coding, HasStored}
use Rattle.odht_raw.specs.Frame.{IsAccepted}
use Rattle.odht_raw.proofs.lemmas.Accepted.{accepted_len}
use Rattle.odht_raw.specs.DynParts.{bytes_coding}
use Rattle.odht_calls.specs.declared.any.AnyLayout.{AnyLayout}
use Rattle.odht_calls.specs.Layouts.{AnyAnswers, DynAnswers, bad_layout, hash_of, least_of}

-- a number that is none of the three is that of no hash function
no_hash : (h k : ℕ) → ((h ≡ 0) × (0 ≤ k) → ⊥) → ((h ≡ 1) × (4 ≤ k) → ⊥) → ((h ≡ 2) × (0 ≤ k) → ⊥) → h ≤ 2 → least_of h ≤ k → ⊥
no_hash zero k a b d low long = a (refl, omega arith)
no_hash (suc zero) k a b d low long = b (refl, long)
no_hash (suc (suc zero)) k a b d low long = d (refl, omega arith)
no_hash (suc (suc (suc h))) k a b d low long = absurd (omega (arith, low))

module _ (l : AnyLayout) (s : ℕ) (Same : Type 0) (A : Coding (List ℕ) (List ℕ) → Type 0) where
  -- the hash function of rustc-hash is picked
  pub by_fx : (l.hash ≡ 0) × (0 ≤ l.key_len) → A (bytes_coding (format_of l.key_len l.value_len fx)) → AnyAnswers l s Same A
  by_fx is answer = record {
    layout = λ other. absurd (other (record { hash = omega (arith, is.0); key = subst (λ h. least_of h ≤ l.key_len) (sym is.0) is.1 }));
    answers = λ ok. subst A (ap (λ h. bytes_coding (format_of l.key_len l.value_len (hash_of h))) (sym is.0)) answer;
  }

  -- or none
  pub by_none : ((l.hash ≡ 0) × (0 ≤ l.key_len) → ⊥) → ((l.hash ≡ 1) × (4 ≤ l.key_len) → ⊥) → ((l.hash ≡ 2) × (0 ≤ l.key_len) → ⊥) → s ≡ bad_layout → Same → AnyAnswers l s Same A
  by_none a b d status same = record {
    layout = λ other. (status, same);
    answers = λ ok. absurd (no_hash l.hash l.key_len a b d ok.hash ok.key);
  }

-- keys and values are as long as the layout says
pub of_long : {Long Same A : Type 0} {s : ℕ} → Long → A → DynAnswers Long s Same A
of_long long answers = record { lengths = λ other. absurd (other long); answers = λ same. answers }

-- ---- values of accepted bytes are as long as the format says
module _ (F : Format) (B : List ℕ) (accepted : IsAccepted F B) where
  value_len : (i : ℕ) → i < header_slots B → length (value_at F B i) ≡ F.value_len
  value_len i low =
      let long : length (entries_of F B) ≡ header_slots B * entry_len F = length-bytes_at B 32 (header_slots B * entry_len F) (omega (arith, accepted_len F B accepted)) in
      let entry = length-slot_entry F (entries_of F B) (header_slots B) i long low in
      length-drop F.key_len (slot_entry F (entries_of F B) i) ∙ omega (arith, entry)

  -- one that is stored
  pub stored_len : (k v : List ℕ) → HasStored (bytes_coding F) B k v → length v ≡ F.value_len
  stored_len k v stored = ap length (stored.1 ∙ sym stored.2.3) ∙ value_len stored.2.0 stored.2.1
