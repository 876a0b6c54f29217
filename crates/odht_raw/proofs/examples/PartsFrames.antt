-- Worked examples: inserts into any parts.
use Rattle.std.proofs.Common.{◌≡◌, ◌*◌, ◌++◌, ◌||◌, ℕ, Bool, true, refl, inl, set, List, [], ◌∷◌, Option, Some, None, Ok, lit<}
use Rattle.std.specs.List.{range_with_len, list_all}
use Rattle.odht_raw.specs.Words.{le_bytes, lists_differ, overwritten_at, tag, tagged}
use Rattle.odht_base.proofs.examples.Configs.{test_config, pair32}
use Rattle.odht_raw.specs.Frame.{PartsFrame}
use Rattle.odht_header.proofs.examples.Apart.{unequal_lists, tested, neither}
use Rattle.odht_raw.proofs.examples.FrameRefusals.{occupied_controls, no_entries, slot_five_free}
use Rattle.odht_header.proofs.examples.Opened.{opened}

-- the entry of 1 in slot 5, beside a value below 256
abbrev one_beside : ℕ → List ℕ
one_beside value = overwritten_at no_entries 40 (1 ∷ 0 ∷ 0 ∷ 0 ∷ value ∷ [])

-- the value beside 1 is overwritten
pub overwritten : PartsFrame test_config (one_beside 3) occupied_controls (pair32 1 7) (Ok (Some (le_bytes 4 3))) (one_beside 7) occupied_controls
unfolding opened
overwritten = PartsFrame.overwrote 5 (lit< tt) refl

-- 1 to 2 goes into the free slot 5, with its tag 19 and the mirror
pub added : PartsFrame test_config no_entries slot_five_free (pair32 1 2) (Ok None) (one_beside 2) (set (set occupied_controls 5 19) 21 19)
unfolding opened
added = PartsFrame.added 5 (lit< tt) (inl refl)

-- whether 1 to 2, added in slot i, leaves other parts than these
abbrev leaves_others : List ℕ → List ℕ → ℕ → Bool
leaves_others es ctrl i =
    lists_differ (overwritten_at no_entries (i * 8) (le_bytes 4 1 ++ le_bytes 4 2)) es || lists_differ (tagged slot_five_free i (tag test_config (le_bytes 4 1))) ctrl

-- parts that it leaves in no slot are left by no insert of it
left_by_none : (es ctrl : List ℕ) → list_all (leaves_others es ctrl) (range_with_len 0 16) ≡ true
    → PartsFrame test_config no_entries slot_five_free (pair32 1 2) (Ok None) es ctrl → ⊥
left_by_none es ctrl others h = go None es ctrl h refl refl refl
  where
    go : (o : Option (List ℕ)) (es' ctrl' : List ℕ) → PartsFrame test_config no_entries slot_five_free (pair32 1 2) (Ok o) es' ctrl' → o ≡ None → es' ≡ es → ctrl' ≡ ctrl → ⊥
    go _ _ _ (PartsFrame.overwrote i low same) is e c = absurd cc
    go _ _ _ (PartsFrame.added i low free) is e c =
        neither (lists_differ (overwritten_at no_entries (i * 8) (le_bytes 4 1 ++ le_bytes 4 2)) es) (lists_differ (tagged slot_five_free i (tag test_config (le_bytes 4 1))) ctrl)
        (λ t. unequal_lists _ es t e)
        (λ t. unequal_lists _ ctrl t c)
        (tested (leaves_others es ctrl) 16 i others low)

-- with another value, another tag or no mirror, or a second entry, they are not
pub others_refused : (PartsFrame test_config no_entries slot_five_free (pair32 1 2) (Ok None) (one_beside 3) (set (set occupied_controls 5 19) 21 19) → ⊥)
    × (PartsFrame test_config no_entries slot_five_free (pair32 1 2) (Ok None) (one_beside 2) (set (set occupied_controls 5 20) 21 20) → ⊥)
    × (PartsFrame test_config no_entries slot_five_free (pair32 1 2) (Ok None) (one_beside 2) (set (set occupied_controls 5 19) 21 255) → ⊥)
    × (PartsFrame test_config no_entries slot_five_free (pair32 1 2) (Ok None) (overwritten_at (one_beside 2) 48 (1 ∷ [])) (set (set occupied_controls 5 19) 21 19) → ⊥)
unfolding opened
others_refused = (left_by_none _ _ refl, left_by_none _ _ refl, left_by_none _ _ refl, left_by_none _ _ refl)
