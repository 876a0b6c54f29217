use Rattle.std.proofs.Common.{◌≡◌, ◌∙◌, ℕ, ◌<◌, ◌%◌, inl, inr, sym, ap, subst, true≢false, false, arith}
use Rattle.std.specs.Prelude.{slice_index}
use Rattle.odht_raw.proofs.lemmas.Below.{bit_and-slots, cases_lt, IsFormat-format_of, probe_slot-onto}
use Rattle.odht_raw.specs.Words.{counts_as_free, Format, format_of, IsSlotCount, probe_slot, slot_key}
use Rattle.odht_raw.proofs.lemmas.PlainSearch.{free_end, key_end, passed_on, no_end}
use Rattle.odht_raw.proofs.raw_table.plain.plain_search.Given.{Over}
use Rattle.odht_raw.proofs.raw_table.plain.plain_search.Goals.{After-probed_slot-slot}
use Rattle.odht_raw.proofs.raw_table.plain.plain_search.Goals as goal

-- the slot at the position is that of the hash
there : (g : Over) (c : After-probed_slot-slot g) → c.probed_slot-slot.result ≡ probe_slot (c.args.hash % c.len-slots.result) c.len-slots.result c.loop-position.position
there g c =
    let count = subst IsSlotCount (sym c.len-slots.ensures) c.requires.slots in
    c.probed_slot-slot.ensures.slot ∙ ap (λ h. probe_slot h c.len-slots.result c.loop-position.position) (bit_and-slots c.args.hash c.len-slots.result count)

pub returns-then-is_empty_or_deleted-clause-on_placed : goal.returns-then-is_empty_or_deleted-clause-on_placed
returns-then-is_empty_or_deleted-clause-on_placed g c P h =
    let f = IsFormat-format_of _ _ _ _ c.requires.lengths.pair.key c.requires.lengths.pair.value c.requires.lengths.pair.hashes g.met.H.HashFn.fits in
    free_end _ P _ _ _ f h _ _ _ _ c.requires.hash (omega arith) c.loop-position-test.true (there g (goal.at.returns-then-is_empty_or_deleted-clause-on_placed g c).After-probed_slot-slot) (c.loop-position.invariant.passed P h) (sym c.is_empty_or_deleted.ensures ∙ c.if-is_empty_or_deleted.true)

pub returns-then-is_at-clause-slot : goal.returns-then-is_at-clause-slot
returns-then-is_at-clause-slot g c = (omega arith, c.is_at.ensures.0 c.if-is_at.true)

pub returns-then-is_at-clause-on_placed : goal.returns-then-is_at-clause-on_placed
returns-then-is_at-clause-on_placed g c P h =
    let f = IsFormat-format_of _ _ _ _ c.requires.lengths.pair.key c.requires.lengths.pair.value c.requires.lengths.pair.hashes g.met.H.HashFn.fits in
    key_end _ P _ _ _ f h _ _ _ _ c.requires.hash (omega arith) c.loop-position-test.true (there g (goal.at.returns-then-is_at-clause-on_placed g c).After-probed_slot-slot) (c.loop-position.invariant.passed P h) (sym c.is_empty_or_deleted.ensures ∙ c.if-is_empty_or_deleted.false)
    (c.is_at.ensures.0 c.if-is_at.true)

pub loop-position-preserved : goal.loop-position-preserved
loop-position-preserved g c = record {
  occupied = λ q l. (
      let occupied = sym c.is_empty_or_deleted.ensures ∙ c.if-is_empty_or_deleted.false in
      let slot = there g (goal.at.loop-position-preserved g c).After-probed_slot-slot ∙ ap (λ s. probe_slot (c.args.hash % s) s c.loop-position.position) c.len-slots.ensures in
      elim (cases_lt q c.loop-position.position) [
        | inl low ↦ c.loop-position.invariant.occupied q low
        | inr past ↦
            let last : c.loop-position.position ≡ q = omega arith in
            subst (λ n. counts_as_free (slice_index c.args.control.now (probe_slot (c.args.hash % c.args.entries.now.slots) c.args.entries.now.slots n)) ≡ false) last
            (subst (λ i. counts_as_free (slice_index c.args.control.now i) ≡ false) slot occupied)
      ]);
  other = λ q l e. (
      let F : Format = format_of g.K.ByteArray.LEN g.V.ByteArray.LEN g.H.HashFn.hash in
      let slot = there g (goal.at.loop-position-preserved g c).After-probed_slot-slot ∙ ap (λ s. probe_slot (c.args.hash % s) s c.loop-position.position) c.len-slots.ensures in
      elim (cases_lt q c.loop-position.position) [
        | inl low ↦ c.loop-position.invariant.other q low e
        | inr past ↦
            let last : q ≡ c.loop-position.position = omega arith in
            let here = ap (λ n. slot_key F c.args.entries.now.bytes (probe_slot (c.args.hash % c.args.entries.now.slots) c.args.entries.now.slots n)) last in
            let same = ap (slot_key F c.args.entries.now.bytes) slot ∙ sym here ∙ e in
            true≢false (sym (c.is_at.ensures.1 same) ∙ c.if-is_at.false)
      ]);
  passed = λ P h. (
      let f = IsFormat-format_of _ _ _ _ c.requires.lengths.pair.key c.requires.lengths.pair.value c.requires.lengths.pair.hashes g.met.H.HashFn.fits in
      passed_on _ P _ _ _ f h _ _ _ _ c.requires.hash (omega arith) c.loop-position-test.true (there g (goal.at.loop-position-preserved g c).After-probed_slot-slot) (c.loop-position.invariant.passed P h) (sym c.is_empty_or_deleted.ensures ∙ c.if-is_empty_or_deleted.false)
      (λ e. true≢false (sym (c.is_at.ensures.1 e) ∙ c.if-is_at.false)));
}

pub returns-clause-slot : goal.returns-clause-slot
returns-clause-slot g c =
    let F : Format = format_of g.K.ByteArray.LEN g.V.ByteArray.LEN g.H.HashFn.hash in
    let at = λ (i : ℕ) (l : i < c.args.entries.now.slots). probe_slot-onto (c.args.hash % c.args.entries.now.slots) c.args.entries.now.slots i c.requires.slots l in (
      λ i l. (
          let q = at i l in
          subst (λ j. counts_as_free (slice_index c.args.control.now j) ≡ false) q.2 (c.loop-position.invariant.occupied q.0 (omega (arith, q.1, c.len-slots.ensures, c.loop-position-test.false)))),
      λ i l e. (
          let q = at i l in
          c.loop-position.invariant.other q.0 (omega (arith, q.1, c.len-slots.ensures, c.loop-position-test.false)) (ap (slot_key F c.args.entries.now.bytes) q.2 ∙ e)),
    )

pub returns-clause-on_placed : goal.returns-clause-on_placed
returns-clause-on_placed g c P h =
    let f = IsFormat-format_of _ _ _ _ c.requires.lengths.pair.key c.requires.lengths.pair.value c.requires.lengths.pair.hashes g.met.H.HashFn.fits in
    no_end _ P _ _ _ f h c.len-slots.result (omega arith) (λ m l. c.loop-position.invariant.passed P h m (omega arith))
