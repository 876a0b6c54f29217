use Rattle.std.proofs.Common.{◌≡◌, ◌∙◌, ◌+◌, ◌-◌, ◌%◌, ◌<◌, ℕ, List, bit_and, slice_get, length, sym, ap, subst, arith, Some, Contains, true≢false}
use Rattle.odht_raw.proofs.lemmas.BoundedSearches.{is_none}
use Rattle.odht_raw.specs.Words.{first_free, Format, home, IsFormat, IsSlotCount, slot_key, slot_value, tag}
use Rattle.std.specs.Prelude.{option_map, is_some}
use Rattle.odht_raw.proofs.lemmas.Below.{bit_and-slots, few_slots, IsFormat-format_of, mod-lt}
use Rattle.odht_raw.specs.FirstLooks.{FirstLookOf, first_look_of, home_group}
use Rattle.odht_raw.specs.Parts.{TableParts, hashed_by}
use Rattle.odht_raw.specs.Stored.{StoredEntries, stored_format}
use Rattle.odht_raw.specs.Searches.{IsPassed}
use Rattle.odht_raw.proofs.lemmas.GroupLooks.{taken-first, taken-next, taken-all}
use Rattle.odht_raw.proofs.lemmas.Inserts.{found_value}
use Rattle.odht_raw.proofs.lemmas.Lookups.{answer-Found}
use Rattle.odht_raw.proofs.lemmas.FirstLooks.{matches, home-lt, match-lt, first_look-found, first_look-absent, first_look-passes}
use Rattle.odht_raw.specs.DynParts.{parts_format}
use Rattle.odht_raw.proofs.raw_table.parts.Parts.find_from.Given.{Over}
use Rattle.odht_raw.proofs.raw_table.parts.Parts.find_from.Goals.{After-first_match}
use Rattle.odht_raw.proofs.raw_table.parts.Parts.find_from.Goals as goal

-- what the look says about the table and the key
module _ (g : Over) (c : After-first_match g) where
  abbrev F : Format
  F = parts_format c.args.self.now g.H.HashFn.hash

  abbrev T : TableParts
  T = c.args.self.now.parts

  abbrev k : List ℕ
  k = c.args.key.now

  count : IsSlotCount T.entries.slots
  count = c.len-mask.ensures.whole.slots

  mirrored : length T.control ≡ T.entries.slots + 16
  mirrored = c.len-mask.ensures.whole.mirrored

  fits : IsFormat F
  fits =
      let v = c.len-mask.ensures.whole in
      IsFormat-format_of _ _ _ _ v.fitting.key_short v.fitting.value_short v.hashes g.met.H.HashFn.fits

  looked : record { hash = c.look.inside.hash; matches = c.look.inside.group.matches; free = c.look.inside.group.free } ≡ first_look_of F T k
  looked = c.look.view_is ∙ c.requires.look

  hash : c.look.inside.hash ≡ F.hash k
  hash = ap (λ (l : FirstLookOf). l.hash) looked

  small : tag F k < 128
  small = omega (arith, hash)

  slots : c.len-mask.result ≡ T.entries.slots
  slots = c.len-mask.ensures.value

  at_home : bit_and c.look.inside.hash (c.len-mask.result - 1) ≡ home F k T.entries.slots
  at_home = ap (λ n. bit_and c.look.inside.hash (n - 1)) slots ∙ bit_and-slots c.look.inside.hash T.entries.slots count ∙ ap (λ x. x % T.entries.slots) hash

  -- the slot of a position of the group
  masked : (i : ℕ) → bit_and (bit_and c.look.inside.hash (c.len-mask.result - 1) + i) (c.len-mask.result - 1) ≡ (home F k T.entries.slots + i) % T.entries.slots
  masked i = ap (λ n. bit_and (n + i) (c.len-mask.result - 1)) at_home ∙ ap (λ n. bit_and (home F k T.entries.slots + i) (n - 1)) slots ∙ bit_and-slots (home F k T.entries.slots + i) T.entries.slots count

  listed : c.look.inside.group.matches ≡ matches F T k count mirrored small
  listed = ap (λ (l : FirstLookOf). l.matches) looked

  free : c.look.inside.group.free ≡ first_free (home_group F T k)
  free = ap (λ (l : FirstLookOf). l.free) looked

  -- the match that comes next
  next : (i : ℕ) → Some i ≡ slice_get c.matches.group.matches 0 → Contains (matches F T k count mirrored small) i
  next i e = subst (λ xs. Contains xs i) listed (taken-first _ _ _ i c.matches.invariant.taken e)

pub overflow_add-slot : goal.overflow_add-slot
overflow_add-slot g c =
    let at = (goal.at.overflow_add-slot g c).After-first_match in
    let few = few_slots c.args.self.now.parts.entries.slots (count g at) in
    let low = home-lt (F g at) (T g at) (k g at) (count g at) (mirrored g at) (small g at) in
    let index = match-lt (F g at) (T g at) (k g at) (count g at) (mirrored g at) (small g at) c.in-Some.index (next g at c.in-Some.index (sym c.in-Some.is ∙ c.first_match.ensures)) in
    omega (arith, at_home g at, few, low, index)

pub returns-then-has_key-clause-found : goal.returns-then-has_key-clause-found
returns-then-has_key-clause-found g c =
    let at = (goal.at.returns-then-has_key-clause-found g c).After-first_match in
    let F = F g at in
    let T = c.args.self.now.parts in
    let f = λ (b : List ℕ). b in
    let i : ℕ = c.in-Some.index in
    let slot : ℕ = bit_and (bit_and c.look.inside.hash (c.len-mask.result - 1) + i) (c.len-mask.result - 1) in
    let here : ℕ = (home F (k g at) T.entries.slots + i) % T.entries.slots in
    let read = ap (slot_key F T.entries.bytes) (masked g at i) in
    let key = sym read ∙ c.has_key.ensures.0 c.if-has_key.true in
    let value = c.value.ensures.value ∙ ap (λ n. f (slot_value F T.entries.bytes n)) (masked g at i) in
    record {
      on_placed = λ P h.
          let found = first_look-found F (T) (k g at) (count g at) (mirrored g at) (small g at) P (fits g at) h i (next g at i (sym c.in-Some.is ∙ c.first_match.ensures)) key in
          let there = answer-Found F P (k g at) h.placed _ found in
          ap Some (value ∙ ap f (found_value F P _ _ h (k g at) _ there)) ∙ sym (ap (option_map f) there.value);
      on_any = (here, mod-lt (home F (k g at) T.entries.slots + i) {m = T.entries.slots} (omega (arith, (count g at).least)), key, value);
    }

pub matches-preserved : goal.matches-preserved
matches-preserved g c =
    let at = (goal.at.matches-preserved g c).After-first_match in
    let F = F g at in
    let i : ℕ = c.in-Some.index in
    let slot : ℕ = bit_and (bit_and c.look.inside.hash (c.len-mask.result - 1) + i) (c.len-mask.result - 1) in
    let read = ap (slot_key F c.args.self.now.parts.entries.bytes) (masked g at i) in
    record {
      same = c.drop_match.ensures.free ∙ c.matches.invariant.same;
      taken = taken-next _ _ _ _ i c.matches.invariant.taken (sym c.in-Some.is ∙ c.first_match.ensures) c.drop_match.ensures.rest
          (λ e. true≢false (sym (c.has_key.ensures.1 (read ∙ e)) ∙ c.if-has_key.false));
    }

pub returns-then-any_empty-clause-found : goal.returns-then-any_empty-clause-found
returns-then-any_empty-clause-found g c =
    let at = (goal.at.returns-then-any_empty-clause-found g c).After-first_match in
    let taken = taken-all _ _ _ c.matches.invariant.taken (sym c.in_default.is ∙ c.first_match.ensures) in
    let others = λ (i : ℕ) (m : Contains (matches (F g at) (T g at) (k g at) (count g at) (mirrored g at) (small g at)) i). taken i (subst (λ xs. Contains xs i) (sym (listed g at)) m) in
    let some = ap is_some (sym (free g at)) ∙ ap is_some (sym c.matches.invariant.same) ∙ sym c.any_empty.ensures ∙ c.if-any_empty.true in
    record {
      on_placed = λ P h. sym (ap (option_map (λ (b : List ℕ). b)) (first_look-absent (F g at) (T g at) (k g at) (count g at) (mirrored g at) (small g at) P (fits g at) h others some));
      on_any = tt;
    }

-- where no byte of the group is free, the search passed it
pub search_next_groups-requires-clause-first : goal.search_next_groups-requires-clause-first
search_next_groups-requires-clause-first g c =
    let at = (goal.at.search_next_groups-requires-clause-first g c).After-first_match in
    let F = F g at in
    let taken = taken-all _ _ _ c.matches.invariant.taken (sym c.in_default.is ∙ c.first_match.ensures) in
    let others = λ (i : ℕ) (m : Contains (matches F (T g at) (k g at) (count g at) (mirrored g at) (small g at)) i). taken i (subst (λ xs. Contains xs i) (sym (listed g at)) m) in
    let none = is_none (first_free (home_group F (T g at) (k g at))) (ap is_some (sym (free g at)) ∙ ap is_some (sym c.matches.invariant.same) ∙ sym c.any_empty.ensures ∙ c.if-any_empty.false) in
    subst (λ (x : StoredEntries × List ℕ). IsPassed (hashed_by g.H.HashFn.hash (stored_format x.0)) x.0.entries x.1 (k g at) 16)
    (λ i. (sym c.stored-stored.ensures i, sym c.controls.ensures.value i)) (first_look-passes F (T g at) (k g at) (count g at) (mirrored g at) (small g at) (fits g at) others none)
