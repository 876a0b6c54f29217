use Rattle.std.proofs.Common.{sym, subst, arith, unwrap_or}
use Rattle.std.specs.Io.KnownBytes.{Appends}
use Rattle.std.specs.List.{flat_map, range_with_len}
use Rattle.std.proofs.KnownBytes.{Appends-trans}
use Rattle.odht_tool_reads.specs.FindLines.{table_item}
use Rattle.odht_tool_core.proofs.Counting.{written_more}
use Rattle.odht_tool_core.proofs.Finds.{each_table}
use Rattle.odht_tool_reads.proofs.commands.find.write_tables.Goals as goal

pub write_item-requires-clause-table : goal.write_item-requires-clause-table
write_item-requires-clause-table g c = each_table c.args.job.now.bytes.now 0 c.args.tables.now c.loop-index.index c.requires (omega (arith, c.loop-index-test.true))

-- one table more
pub loop-index-preserved : goal.loop-index-preserved
loop-index-preserved g c =
    let j = c.args.job.now in
    let item = table_item j.is_json (unwrap_or j.at 0) j.bytes.now j.bound c.args.tables.now in
    let n = c.loop-index.index in
    let old = g.O.Write.contents c.args.output.now in
    let mid = g.O.Write.contents c.loop-index.output in
    let new = g.O.Write.contents c.write_item.new.output in
    subst (Appends old new) (sym (written_more item n)) (Appends-trans old mid new (flat_map item (range_with_len 0 n)) (item n) c.loop-index.invariant c.in_ok-write_item.ensures.ok)
