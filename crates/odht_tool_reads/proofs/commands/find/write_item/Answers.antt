use Rattle.std.proofs.Common.{rules, slice_index, unwrap_or}
use Rattle.std.specs.Io.KnownBytes.{Appends}
use Rattle.odht_tool_reads.specs.FindLines.{comma_of, table_text}
use Rattle.odht_tool_core.proofs.InfoLines.{then_appends}
use Rattle.odht_tool_reads.proofs.commands.find.write_item.Goals as goal

-- the comma, and then the table
pub returns-clause-ok : goal.returns-clause-ok
returns-clause-ok g c =
    let j = c.args.job.now in
    let o = g.O.Write.contents in
    let old = o c.args.output.now in
    let mid = o c.write_all.new.self in
    let new = o c.write_table.new.output in
    let comma : Appends old mid (comma_of j.is_json c.args.index) = search rules in
    then_appends c.write_table.result old mid new (comma_of j.is_json c.args.index)
    (table_text j.is_json (unwrap_or j.at 0) j.bytes.now j.bound (slice_index c.args.tables.now c.args.index)) comma c.write_table.ensures.ok
