use Rattle.std.proofs.Common.{rules, ◌≡◌, Err, subst, sym, unwrap_or}
use Rattle.odht_tool_reads.specs.FindLines.{AreFound, AreTablesAsked, found_text}
use Rattle.odht_tool_reads.proofs.FindEnds.{not_found, not_written}
use Rattle.odht_tool_reads.proofs.commands.find.find_file.Goals as goal

pub returns-in_err-tables : goal.returns-in_err-tables
returns-in_err-tables g c =
    let j = c.args.job.now in
    let B = j.bytes.now in
    let text = found_text j.is_json j.file.now (unwrap_or j.at 0) B j.bound in
    let old = g.O.Write.contents c.args.output.now in
    let x = c.in_err-tables.field-0.0 in
    let failed : c.from_residual.result ≡ Err x = search rules in
    subst (AreFound B text old old) (sym failed) (not_found B text old x c.in_err-tables.ensures.err)

pub returns-in_err-write_found : goal.returns-in_err-write_found
returns-in_err-write_found g c =
    let j = c.args.job.now in
    let B = j.bytes.now in
    let text = found_text j.is_json j.file.now (unwrap_or j.at 0) B j.bound in
    let old = g.O.Write.contents c.args.output.now in
    let new = g.O.Write.contents c.write_found.new.output in
    let x = c.in_err-write_found.field-0.0 in
    let failed : c.from_residual-in_err-write_found.result ≡ Err x = search rules in
    let found = c.in_ok-tables.ensures in
    let asked : AreTablesAsked B = record { tables = c.in_ok-tables.tables.items; found = found.ok; honest = found.honest } in
    subst (AreFound B text old new) (sym failed) (not_written B text old new x c.in_err-write_found.ensures.err asked)
