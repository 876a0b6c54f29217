-- What a look at a group says of the slots from b on: whether none of the first n of them is free or holds the key k.
use Rattle.std.proofs.Common.{◌≡◌, ℕ, ◌+◌, ◌%◌, ◌<◌, ◌≤◌, subst, arith, List, length, slice_get, slice_index, Contains, refl, false, [], ◌∷◌}
use Rattle.std.specs.List.Sorted.{IsStrictlyIncreasing}
use Rattle.std.specs.Option.{unwrap_or}
use Rattle.odht_raw.specs.Words.{bytes_at, counts_as_free, Format, GroupMatches, slot_key, tag}
use Rattle.odht_base.proofs.lemmas.ByteRanges.{length-bytes_at}
use Rattle.odht_raw.specs.Checks.{IsFitting, ArePassed, IsGroupSearch}
use Rattle.odht_raw.specs.Parts.{TableParts}
use Rattle.odht_raw.proofs.lemmas.GroupLooks.{rising-first}
use Rattle.odht_raw.proofs.lemmas.KeyPasses.{stopped_free, stopped_key, passes}
use Rattle.odht_raw.proofs.lemmas.SlotFits.{IsMirrored, IsMirrored-mirror_refusal, AllFit-slots_refusal}

module _ (F : Format) (T : TableParts) (mirrored : length T.control ≡ T.entries.slots + 16) (least : 16 ≤ T.entries.slots) (fitting : IsFitting F T)
    (b : ℕ) (from : b < T.entries.slots) (k : List ℕ) (q : GroupMatches) (look : IsGroupSearch (bytes_at T.control b 16) (tag F k) q) where
  abbrev es : List ℕ
  es = T.entries.bytes

  abbrev ctrl : List ℕ
  ctrl = T.control

  abbrev s : ℕ
  s = T.entries.slots

  mirror : IsMirrored ctrl
  mirror = IsMirrored-mirror_refusal ctrl fitting.mirror

  tags : (i : ℕ) → i < s → counts_as_free (slice_index ctrl i) ≡ false → slice_index ctrl i ≡ tag F (slot_key F es i)
  tags i l = (AllFit-slots_refusal F es ctrl fitting.slots i (omega (arith, l, mirrored))).occupied_tag

  within : length (bytes_at ctrl b 16) ≡ 16
  within = length-bytes_at ctrl b 16 (omega (arith, from, mirrored))

  module _ (n : ℕ) (few : n ≤ 16) where
    -- they are passed where no free byte is before them, and no match among them has the key
    pub hold_other_keys : n ≤ unwrap_or q.free 16 → ((x : ℕ) → Contains q.matches x → x < n → slot_key F es ((b + x) % s) ≡ k → ⊥) → ArePassed F T k b n
    hold_other_keys after others = passes F es ctrl s mirrored least mirror b from k q.matches look.report tags within n few (subst (λ o. n ≤ unwrap_or o 16) look.free after) others

    -- so they are where no match is before them
    pub are_clear : n ≤ unwrap_or q.free 16 → n ≤ unwrap_or (slice_get q.matches 0) 16 → ArePassed F T k b n
    are_clear after unmatched = hold_other_keys after (λ x c l same. go q.matches look.report.rising unmatched c l)
      where
        go : (xs : List ℕ) → IsStrictlyIncreasing xs → n ≤ unwrap_or (slice_get xs 0) 16 → {x : ℕ} → Contains xs x → x < n → ⊥
        go [] h u c l = omega (arith, c.1)
        go (y ∷ xs) h u {x} c l = omega (arith, u, l, rising-first (y ∷ xs) y x h refl c)

    -- they are not where a free byte is before them
    pub not_passed_free : unwrap_or q.free 16 < n → ArePassed F T k b n → ⊥
    not_passed_free before passed = stopped_free F es ctrl s mirrored least mirror b from k q.matches look.report n few (subst (λ o. unwrap_or o 16 < n) look.free before) passed

    -- nor where one of them has the key
    pub not_passed_key : (x : ℕ) → x < n → slot_key F es ((b + x) % s) ≡ k → ArePassed F T k b n → ⊥
    not_passed_key x l same passed = stopped_key F es ctrl s mirrored least mirror b from k q.matches look.report n x l same passed
