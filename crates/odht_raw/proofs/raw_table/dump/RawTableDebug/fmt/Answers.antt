use Rattle.std.proofs.Common.{◌≡◌, ◌∙◌, ℕ, Option, Some, Ok, List, codes, sym, ap, arith}
use Rattle.std.proofs.Output.{then_text_assoc, displays_on_ok_of_eq}
use Rattle.std.specs.Fmt.{◌++?◌}
use Rattle.odht_base.specs.Format.{Format}
use Rattle.odht_raw.specs.Parts.{EntryBytes, entry_format}
use Rattle.odht_raw.specs.Dumps.{DebugText, head_text, slot_text, slots_text}
use Rattle.odht_raw.proofs.lemmas.Dumps.{slots_text-more, displayed-append}
use Rattle.odht_raw.proofs.raw_table.dump.RawTableDebug.fmt.Goals as goal

pub loop-slot-preserved : goal.loop-slot-preserved
loop-slot-preserved g c =
    let F : Format = entry_format g.K.ByteArray.LEN g.V.ByteArray.LEN in
    let key_text : DebugText = λ b. g.K.Debug.debug_output (g.K.ByteArray.of_bytes b) in
    let value_text : DebugText = λ b. g.V.Debug.debug_output (g.V.ByteArray.of_bytes b) in
    let T = c.args.self.now in
    let slot = c.loop-slot.slot in
    let head = Some (head_text g.H.HashFn.hash_name T.entries.slots) in
    let lines = slots_text F key_text value_text T slot in
    let line = slot_text F key_text value_text T slot in
    let more = then_text_assoc head lines line ∙ ap (λ o. head ++? o) (sym (slots_text-more F key_text value_text T slot)) in
    displays_on_ok_of_eq g.W.Write.write_str_gives c.args.f.now c.write_slot_line.new.f (Ok tt) _ _ more
    (displayed-append g.W.Write.write_str_gives c.args.f.now c.loop-slot.f c.write_slot_line.new.f (Ok tt) (head ++? lines) line c.loop-slot.invariant c.in_ok-write_slot_line.ensures)

pub returns : goal.returns
returns g c =
    let F : Format = entry_format g.K.ByteArray.LEN g.V.ByteArray.LEN in
    let key_text : DebugText = λ b. g.K.Debug.debug_output (g.K.ByteArray.of_bytes b) in
    let value_text : DebugText = λ b. g.V.Debug.debug_output (g.V.ByteArray.of_bytes b) in
    let T = c.args.self.now in
    let last = Some (codes "}\n") in
    let head = Some (head_text g.H.HashFn.hash_name T.entries.slots) in
    let lines : ℕ → Option (List ℕ) = slots_text F key_text value_text T in
    let all : c.loop-slot.slot ≡ T.entries.slots = omega (arith, c.loop-slot-test.false, c.loop-slot.auto.slot-end, c.len-slot-end.ensures, ap (λ (e : EntryBytes). e.slots) c.entries.ensures) in
    let whole = then_text_assoc head (lines c.loop-slot.slot) last ∙ (λ i. head ++? lines (all i) ++? last) in
    record {
      writes =
          displays_on_ok_of_eq g.W.Write.write_str_gives c.args.f.now c.writeln.new.self c.writeln.result _ _ whole
          (displayed-append g.W.Write.write_str_gives c.args.f.now c.loop-slot.f c.writeln.new.self c.writeln.result (head ++? lines c.loop-slot.slot) last c.loop-slot.invariant c.writeln.ensures.writes);
    }
