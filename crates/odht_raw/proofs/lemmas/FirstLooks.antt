-- The first look of a search: what its answer says about where the search ends.
use Rattle.std.proofs.Common.{◌≡◌, ◌∙◌, ◌+◌, ◌*◌, ◌%◌, ◌<◌, ℕ, sym, ap, subst, arith, refl, List, length, Option, Some, None, Contains, true, true≢false}
use Rattle.std.specs.Prelude.{is_some}
use Rattle.odht_raw.proofs.lemmas.Below.{length-bytes_at, mod-eq_of_lt, mod-lt, probe_slot-group, report_from_equal}
use Rattle.odht_raw.specs.Words.{counts_as_free, equal, first_free, Format, home, IsFormat, IsPartsOf, IsReport, IsSlotCount, map_of, slot_key, Table, tag}
use Rattle.odht_raw.specs.SearchResults.{answer}
use Rattle.odht_raw.specs.ControlBytes.{order_slot}
use Rattle.odht_raw.specs.FirstLooks.{home_group}
use Rattle.odht_raw.specs.Parts.{TableParts}
use Rattle.odht_raw.specs.SearchEnds.{GoesOnAmong}
use Rattle.odht_raw.specs.SearchSteps.{IsGroupAt, Passed}
use Rattle.odht_raw.specs.Searches.{IsPassed}
use Rattle.odht_raw.specs.declared.raw_table.search_result.Search.TheVariants.{Found}
use Rattle.odht_raw.proofs.lemmas.GroupLooks.{look_found, look_free, look_on, position-None}
use Rattle.odht_raw.proofs.lemmas.GroupSearches.{IsGroupAt-group, goes_on-more}
use Rattle.odht_raw.proofs.lemmas.Lookups.{answer-Free}

module _ (F : Format) (T : TableParts) (k : List ℕ) (slots : IsSlotCount T.entries.slots) (mirrored : length T.control ≡ T.entries.slots + 16) (small : tag F k < 128) where
  abbrev home_slot : ℕ
  home_slot = home F k T.entries.slots

  -- the home is a slot
  pub home-lt : home_slot < T.entries.slots
  home-lt = let n = slots.least in mod-lt (F.hash k) {m = T.entries.slots} (omega arith)

  -- the group has sixteen bytes
  pub length-home_group : length (home_group F T k) ≡ 16
  length-home_group = let n = home-lt in length-bytes_at T.control home_slot 16 (omega arith)

  report : IsReport (home_group F T k) (tag F k) (equal (home_group F T k) (tag F k))
  report = report_from_equal (home_group F T k) (tag F k) _ small refl

  abbrev pub matches : List ℕ
  matches = equal (home_group F T k) (tag F k)

  -- a match is in the group
  pub match-lt : (i : ℕ) → Contains matches i → i < 16
  match-lt i c = omega (arith, (report.occupied i c).0, length-home_group)

  -- the home is the slot of the first position
  home-first : home_slot ≡ order_slot F T.entries k 0
  home-first =
      let n = slots.least in
      let sum : home_slot + 8 * 0 * (0 + 1) + 0 ≡ home_slot = omega arith in
      sym (probe_slot-group home_slot T.entries.slots 0 0 (omega arith) ∙ ap (λ x. x % T.entries.slots) sum ∙ mod-eq_of_lt {n = home_slot} {m = T.entries.slots} home-lt)

  -- where the search begins
  IsGroupAt-home : (P : Table) → IsFormat F → IsPartsOf F P T.entries.bytes T.control → IsGroupAt F P T.entries k 0 home_slot (home_group F T k)
  IsGroupAt-home P f h =
      let n = slots.least in
      IsGroupAt-group F P T.entries T.control k f h mirrored 0 home_slot (omega arith) (omega arith) home-first (λ q l. absurd (omega arith))

  module _ (P : Table) (f : IsFormat F) (h : IsPartsOf F P T.entries.bytes T.control) where
    -- a match whose entry has the key ends it
    pub first_look-found : (i : ℕ) → Contains matches i → slot_key F T.entries.bytes ((home_slot + i) % T.entries.slots) ≡ k → Found ((home_slot + i) % T.entries.slots) ≡ answer F P.cells k
    first_look-found i c same = (look_found F P T.entries k 0 home_slot (home_group F T k) f (IsGroupAt-home P f h) _ report i c same).0

    -- and a free byte where no match has it: then the key is absent
    pub first_look-absent : ((i : ℕ) → Contains matches i → slot_key F T.entries.bytes ((home_slot + i) % T.entries.slots) ≡ k → ⊥) → is_some (first_free (home_group F T k)) ≡ true → map_of P k ≡ None
    first_look-absent others free = go (first_free (home_group F T k)) refl free
      where
        go : (o : Option ℕ) → first_free (home_group F T k) ≡ o → is_some o ≡ true → map_of P k ≡ None
        go None e some = absurd (true≢false (sym some))
        go (Some i) e some = (answer-Free F P k h.placed _ (look_free F P T.entries k 0 home_slot (home_group F T k) f (IsGroupAt-home P f h) _ report others i e).0).value

  -- and where no byte is free, the search passed sixteen positions
  module _ (f : IsFormat F) (others : (i : ℕ) → Contains matches i → slot_key F T.entries.bytes ((home_slot + i) % T.entries.slots) ≡ k → ⊥) (none : first_free (home_group F T k) ≡ None) where
    goes_on : GoesOnAmong F T.entries (home_group F T k) home_slot k 16
    goes_on i l =
        let within : i < length (home_group F T k) = omega (arith, l, length-home_group) in
        (position-None counts_as_free (home_group F T k) 0 none i within, λ is same. others i (report.complete i within is) same)

    pub first_look-passes : IsPassed F T.entries T.control k 16
    first_look-passes =
        let n = slots.least in
        let all : 0 + length (home_group F T k) ≡ 16 = omega (arith, length-home_group) in
        record {
          on = goes_on-more F T.entries T.control k home_slot 0 mirrored n (omega arith) (omega arith) home-first 16 (omega arith) goes_on (λ q l. absurd (omega arith));
          on_placed = λ P h. subst (Passed F P k) all (look_on F P T.entries k 0 home_slot (home_group F T k) f (IsGroupAt-home P f h) _ report others none);
        }
