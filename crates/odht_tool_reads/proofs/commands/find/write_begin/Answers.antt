use Rattle.std.proofs.Common.{◌∷◌}
use Rattle.std.specs.Prelude.{codes}
use Rattle.odht_tool_core.specs.Json.{json_field, string_field}
use Rattle.odht_tool_core.proofs.InfoLines.{then_appends}
use Rattle.odht_tool_reads.proofs.commands.find.write_begin.Goals as goal

-- the name and what stands behind it
pub returns : goal.returns
returns g c =
    let o = g.O.Write.contents in
    then_appends c.write_all.result (o c.args.output.now) (o c.write_file_field.new.output) (o c.write_all.new.self)
    (123 ∷ json_field (string_field (codes "file") c.args.file.now)) (codes ",\"tables\":[") c.in_ok-write_file_field.ensures c.write_all.ensures.bytes
