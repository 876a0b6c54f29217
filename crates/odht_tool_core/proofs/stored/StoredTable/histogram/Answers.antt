use Rattle.std.proofs.Common.{◌≡◌, ◌∙◌, ◌<◌, ◌+◌, ◌++◌, ◌∷◌, [], ◌^◌, true, false, sym, ap, ap₂, subst, length, get_or, arith}
use Rattle.odht_base.specs.Decoded.{counts_as_free, slot_key}
use Rattle.odht_header.proofs.lemmas.FirstErrors.{not-false, not-true}
use Rattle.odht_tool_core.specs.GroupNumbers.{capped, groups_to}
use Rattle.odht_tool_core.specs.InfoNumbers.{IsHistogram, file_format, group_numbers}
use Rattle.odht_tool_core.specs.ReadyShapes.{hash_of}
use Rattle.odht_tool_core.proofs.DynSlots.{groups_free, groups_more, groups_few}
use Rattle.odht_tool_core.proofs.Tallies.{length-tallies}
use Rattle.odht_tool_core.proofs.stored.StoredTable.histogram.Goals.{then-is_occupied, else-is_occupied}
use Rattle.odht_tool_core.proofs.stored.StoredTable.histogram.Goals as goal

pub add-requires-clause-all : goal.add-requires-clause-all
add-requires-clause-all c = ap length c.loop-slot.invariant.counts ∙ length-tallies (group_numbers c.args.self.now c.args.hash c.args.bound c.loop-slot.slot)

-- a slot that is occupied is counted, and a free one changes nothing
pub loop-slot-preserved : goal.loop-slot-preserved
loop-slot-preserved c =
    let T = c.args.self.now in
    let h = c.args.hash in
    let o = c.args.bound in
    let n = c.loop-slot.slot in
    let slots = c.len-slots.ensures.value ∙ ap (λ t. t.slots) c.self.view_is in
    elim c.if-is_occupied.branch [
      | then-is_occupied w ↦ (
          let few : length (group_numbers T h o n) < 2 ^ 63 = omega (arith, groups_few T h o n, c.loop-slot-test.true, c.len-slots.ensures.few) in
          let held : counts_as_free (get_or T.control n 0) ≡ false = not-true (counts_as_free (get_or T.control n 0)) (sym c.is_occupied.ensures ∙ w.if-is_occupied.true) in
          let groups : w.groups_to.result ≡ capped o (groups_to (hash_of h (slot_key (file_format T h) T.entries n)) T.slots n) =
          w.groups_to.ensures.groups ∙ ap₂ (λ x s. capped o (groups_to x s n)) w.hash_at-hash.ensures slots in
          let all = groups_more T h o n held ∙ ap (λ g. group_numbers T h o n ++ (g ∷ [])) (sym groups) in
          subst (IsHistogram (group_numbers T h o (n + 1))) (sym w.histogram-is)
          (subst (λ xs. IsHistogram xs w.add.new.self) (sym all) (w.add.ensures (group_numbers T h o n) few c.loop-slot.invariant)))
      | else-is_occupied w ↦ (
          let free : counts_as_free (get_or T.control n 0) ≡ true = not-false (counts_as_free (get_or T.control n 0)) (sym c.is_occupied.ensures ∙ w.if-is_occupied.false) in
          subst (IsHistogram (group_numbers T h o (n + 1))) (sym w.histogram-is)
          (subst (λ xs. IsHistogram xs c.loop-slot.histogram) (sym (groups_free T h o n free)) c.loop-slot.invariant))
    ]
