-- Worked examples: what the whole check reads in the parts of a table, and what it rejects there.
use Rattle.std.proofs.Common.{◌≡◌, ◌+◌, ◌%◌, ℕ, refl, sym, true≢false, not, List, [], ◌∷◌, true, false, replicate, set, lit<}
use Rattle.odht_raw.specs.Words.{le_bytes, overwritten_at, stops_at}
use Rattle.odht_base.proofs.examples.Configs.{direct_config}
use Rattle.odht_raw.specs.Checks.{cells_of, decoded_count, IsFitting, IsHashAt, IsReachAnswer, ArePassed}
use Rattle.odht_raw.specs.Parts.{TableParts}
use Rattle.odht_header.proofs.lemmas.FirstErrors.{not-true}
use Rattle.std.proofs.lemmas.Option.{none-some}
use Rattle.odht_header.proofs.examples.Apart.{unequal, tested}
use Rattle.odht_header.proofs.examples.Opened.{opened}

-- sixteen slots: 5 beside 7 in slot 5 and 6 beside 8 in slot 6, both with their tag 0; the others are free
abbrev pub entries_of_two : List ℕ
entries_of_two = overwritten_at (overwritten_at (replicate 128 0) 40 (5 ∷ 0 ∷ 0 ∷ 0 ∷ 7 ∷ [])) 48 (6 ∷ 0 ∷ 0 ∷ 0 ∷ 8 ∷ [])

abbrev pub parts : List ℕ → TableParts
parts control = record { control = control; entries = record { slots = 16; bytes = entries_of_two } }

abbrev pub two : List ℕ
two = set (set (set (set (replicate 32 255) 5 0) 6 0) 21 0) 22 0

-- both are decoded, and no slot has an error, nor the mirror
pub two_decoded : (decoded_count direct_config (parts two) ≡ 2) × IsFitting direct_config (parts two)
unfolding opened
two_decoded = (refl, record { slots = refl; mirror = refl })

-- a wrong tag, a free slot with an entry, and another mirror do not fit
pub unfitting_refused : (IsFitting direct_config (parts (set (set two 5 1) 21 1)) → ⊥)
    × (IsFitting direct_config (parts (set (set two 5 255) 21 255)) → ⊥)
    × (IsFitting direct_config (parts (set two 21 255)) → ⊥)
unfolding opened
unfitting_refused =
    (λ h. none-some _ (sym h.slots), λ h. none-some _ (sym h.slots), λ h. none-some _ (sym h.mirror))

-- key 5 is its own hash, and has no other; the search for it ends at its slot
pub key_found : IsHashAt direct_config (parts two) 5 5 × IsReachAnswer direct_config (parts two) 5 true
unfolding opened
key_found = (refl, λ fitting. refl)

pub other_answers_refused : (IsHashAt direct_config (parts two) 5 6 → ⊥) × (IsReachAnswer direct_config (parts two) 5 false → ⊥)
unfolding opened
other_answers_refused = (λ h. unequal 6 5 refl h, λ h. true≢false (sym (h two_decoded.1)))

-- slots 5 and 6 are passed by the search for 7
pub passed : ArePassed direct_config (parts two) (le_bytes 4 7) 5 2
unfolding opened
passed j low =
    not-true _ (tested (λ i. not (stops_at (cells_of direct_config (parts two)) (le_bytes 4 7) ((5 + i) % 16))) 2 j refl low)

-- not by that for 6, and slot 7 by none
pub unpassed_refused : (ArePassed direct_config (parts two) (le_bytes 4 6) 5 2 → ⊥) × (ArePassed direct_config (parts two) (le_bytes 4 7) 5 3 → ⊥)
unfolding opened
unpassed_refused = (λ h. true≢false (h 1 (lit< tt)), λ h. true≢false (h 2 (lit< tt)))
