use Rattle.std.proofs.Common.{◌≡◌, ◌∙◌, ◌+◌, ◌-◌, ◌%◌, ◌<◌, ◌≤◌, ℕ, List, true≢false, bit_and, sym, ap, subst, arith, refl, inl, inr, length, rules}
use Rattle.std.specs.Option.{unwrap_or}
use Rattle.odht_raw.specs.Words.{Format, slot_key}
use Rattle.odht_base.proofs.lemmas.SlotCounts.{bit_and-slots}
use Rattle.odht_raw.specs.DynParts.{parts_format}
use Rattle.odht_raw.specs.Parts.{TableParts}
use Rattle.odht_raw.proofs.lemmas.GroupLooks.{taken-next, taken-all, rising-first, rising-rest}
use Rattle.odht_raw.proofs.lemmas.PartLooks.{hold_other_keys, not_passed_free, not_passed_key}
use Rattle.odht_raw.proofs.raw_table.check.hold_other_keys.Given.{Over}
use Rattle.odht_raw.proofs.raw_table.check.hold_other_keys.Goals.{After-unwrap_or}
use Rattle.odht_raw.proofs.raw_table.check.hold_other_keys.Goals as goal

-- what is known of the parts, and of the look at the group
module _ (g : Over) (c : After-unwrap_or g) where
  abbrev F : Format
  F = parts_format c.args.table.now g.H.HashFn.hash

  abbrev T : TableParts
  T = c.args.table.now.parts

  abbrev key : List ℕ
  key = slot_key F T.entries.bytes c.args.slot

  mirrored : length T.control ≡ T.entries.slots + 16
  mirrored = c.len-mask.ensures.whole.mirrored

  least : 16 ≤ T.entries.slots
  least = c.len-mask.ensures.whole.slots.least

  masked : (x : ℕ) → bit_and x (c.len-mask.result - 1) ≡ x % T.entries.slots
  masked x = ap (λ n. bit_and x (n - 1)) c.len-mask.ensures.value ∙ bit_and-slots x T.entries.slots c.len-mask.ensures.whole.slots

  first : c.unwrap_or.result ≡ unwrap_or c.args.group.free 16
  first = c.unwrap_or.ensures ∙ ap (λ o. unwrap_or o 16) c.first_empty.ensures

pub overflow_add-start : goal.overflow_add-start
overflow_add-start g c =
    let few = c.len-mask.ensures.few in
    let mirrored = c.len-mask.ensures.whole.mirrored in
    let start = c.requires.start in
    let low = c.if-index-count.false in
    let within = c.requires.count in
    search rules

pub returns-then-unwrap_or-count : goal.returns-then-unwrap_or-count
returns-then-unwrap_or-count g c fitting =
    let at = (goal.at.returns-then-unwrap_or-count g c).After-unwrap_or in (
      λ t. absurd (true≢false (sym t)),
      λ passed. absurd (not_passed_free (F g at) (T g at) (mirrored g at) (least g at) fitting c.args.start c.requires.start (key g at) c.args.group c.requires.group
          c.args.count c.requires.count (subst (λ n. n < c.args.count) (first g at) c.if-unwrap_or-count.true) passed),
    )

pub returns-then-index-count : goal.returns-then-index-count
returns-then-index-count g c fitting =
    let at = (goal.at.returns-then-index-count g c).After-unwrap_or in (
      λ t. hold_other_keys (F g at) (T g at) (mirrored g at) (least g at) fitting c.args.start c.requires.start (key g at) c.args.group c.requires.group
          c.args.count c.requires.count (subst (λ n. c.args.count ≤ n) (first g at) c.if-unwrap_or-count.false)
          (λ x all low. elim (c.matches.invariant.1.others x all) [
            | inl left ↦ λ same. omega (arith, low, c.if-index-count.true, rising-first c.matches.group.matches c.in-Some.index x c.matches.invariant.0 c.in-Some.ensures left)
            | inr taken ↦ taken low
          ]),
      λ passed. refl,
    )

pub returns-then-have_same_key : goal.returns-then-have_same_key
returns-then-have_same_key g c fitting =
    let at = (goal.at.returns-then-have_same_key g c).After-unwrap_or in (
      λ t. absurd (true≢false (sym t)),
      λ passed. absurd (not_passed_key (F g at) (T g at) (mirrored g at) (least g at) fitting c.args.start c.requires.start (key g at) c.args.group c.requires.group
          c.args.count c.requires.count c.in-Some.index (omega (arith, c.if-index-count.false))
          (ap (slot_key (F g at) (T g at).entries.bytes) (sym (masked g at (c.args.start + c.in-Some.index))) ∙ c.have_same_key.ensures.0 c.if-have_same_key.true) passed),
    )

pub matches-preserved : goal.matches-preserved
matches-preserved g c =
    let at = (goal.at.matches-preserved g c).After-unwrap_or in (
      rising-rest c.matches.group.matches c.drop_match.new.self.matches c.drop_match.ensures.rest c.matches.invariant.0,
      taken-next _ _ _ _ c.in-Some.index c.matches.invariant.1 c.in-Some.ensures c.drop_match.ensures.rest (λ low same.
          true≢false (sym (c.have_same_key.ensures.1 (ap (slot_key (F g at) (T g at).entries.bytes) (masked g at (c.args.start + c.in-Some.index)) ∙ same)) ∙ c.if-have_same_key.false)),
    )

pub returns : goal.returns
returns g c fitting =
    let at = (goal.at.returns g c).After-unwrap_or in (
      λ t. hold_other_keys (F g at) (T g at) (mirrored g at) (least g at) fitting c.args.start c.requires.start (key g at) c.args.group c.requires.group
          c.args.count c.requires.count (subst (λ n. c.args.count ≤ n) (first g at) c.if-unwrap_or-count.false)
          (λ x all low. taken-all _ _ _ c.matches.invariant.1 c.in_default.ensures x all low),
      λ passed. refl,
    )
