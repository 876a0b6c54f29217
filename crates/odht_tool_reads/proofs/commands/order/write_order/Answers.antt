use Rattle.std.proofs.Common.{rules, ◌≡◌, get_or, sym, subst}
use Rattle.std.specs.Io.KnownBytes.{Appends}
use Rattle.std.proofs.KnownBytes.{Appends-trans}
use Rattle.odht_base.specs.Decoded.{key_at, value_at}
use Rattle.odht_base.specs.Format.{Format, format_of}
use Rattle.odht_raw.specs.Frame.{IsAccepted}
use Rattle.odht_raw.proofs.lemmas.Accepted.{IsAccepted-IsValidBytes}
use Rattle.odht_tool_reads.specs.Orders.{stored_at}
use Rattle.odht_tool_core.specs.StoredTexts.{key_text, value_text}
use Rattle.odht_tool_core.specs.Texts.{pair_line}
use Rattle.odht_tool_reads.proofs.Ordered.{bare, slot_more}
use Rattle.odht_tool_reads.proofs.commands.order.write_order.Goals as goal

-- valid bytes are accepted
pub open_unchecked-table-requires-clause-accepted : goal.open_unchecked-table-requires-clause-accepted
open_unchecked-table-requires-clause-accepted g c =
    let F : Format = format_of c.args.layout.key_len c.args.layout.value_len g.H.HashFn.hash in
    subst (IsAccepted F) (search rules) (IsAccepted-IsValidBytes F c.args.bytes.now c.requires.valid)

-- the line of one slot more
pub loop-slot-preserved : goal.loop-slot-preserved
loop-slot-preserved g c =
    let F : Format = format_of c.args.layout.key_len c.args.layout.value_len g.H.HashFn.hash in
    let B = c.args.bytes.now in
    let f = key_text c.args.texts in
    let h = value_text c.args.texts in
    let i = c.loop-slot.slot-index in
    let x = get_or c.args.order.now i 0 in
    let old = g.O.Write.contents c.args.output.now in
    let mid = g.O.Write.contents c.loop-slot.output in
    let new = g.O.Write.contents c.write_pair.new.output in
    let key : c.key.result.now ≡ key_at F B x = search rules in
    let value : c.value.result.now ≡ value_at F B x = search rules in
    let line : Appends mid new (pair_line f h (bare (stored_at F B x))) =
    subst (Appends mid new) (λ j. pair_line f h (key j, value j)) c.in_ok-write_pair.ensures in
    subst (Appends old new) (sym (slot_more F c.args.texts B c.args.order.now i 0 c.loop-slot-test.true))
    (Appends-trans old mid new _ (pair_line f h (bare (stored_at F B x))) c.loop-slot.invariant line)
