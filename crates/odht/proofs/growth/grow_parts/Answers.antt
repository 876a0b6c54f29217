use Rattle.std.proofs.Common.{◌≡◌, ◌∙◌, length}
use Rattle.odht_raw.specs.Words.{Format, format_of, image_len}
use Rattle.odht_raw.proofs.lemmas.ClearedEntries.{zeros-cleared}
use Rattle.odht.proofs.lemmas.GrownBytes.{asked_len}
use Rattle.odht.proofs.lemmas.GrownMoves.{grown_from}
use Rattle.odht.proofs.growth.grow_parts.Given.{Over}
use Rattle.odht.proofs.growth.grow_parts.Goals.{In-Some}
use Rattle.odht.proofs.growth.grow_parts.Goals as goal

abbrev format : (g : Over) → In-Some g → Format
format g c = format_of (g.L.Lengths.key_len c.args.lengths) (g.L.Lengths.value_len c.args.lengths) g.H.HashFn.hash

-- the length of `out` is that of the grown table
long : (g : Over) (c : In-Some g) → length c.args.out.now ≡ image_len (format g c) c.in-Some.slot_count
long g c = asked_len (format g c) c.args.bytes.now c.in-Some.slot_count _ _ c.in-Some.ensures c.requires.len

pub clear_entries-requires-clause-len : goal.clear_entries-requires-clause-len
clear_entries-requires-clause-len g c = long g (goal.at.clear_entries-requires-clause-len g c).In-Some

pub move_parts-requires-clause-room : goal.move_parts-requires-clause-room
move_parts-requires-clause-room g c =
    let at = (goal.at.move_parts-requires-clause-room g c).In-Some in
    record {
      len = c.clear_entries.auto.bytes ∙ long g at;
      zeros = zeros-cleared (format g at) c.in-Some.slot_count c.clear_entries.new.bytes c.args.out.now (long g at) c.clear_entries.ensures;
    }

-- a move into the grown slots is the growth
pub returns : goal.returns
returns g c =
    let moved = c.move_parts.ensures in
    grown_from _ c.args.bytes.now c.move_parts.new.out c.in-Some.slot_count c.in-Some.ensures.slots moved.moved moved.count moved.factor
