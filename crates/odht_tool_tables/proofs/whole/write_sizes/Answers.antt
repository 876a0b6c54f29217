use Rattle.std.proofs.Common.{◌++◌}
use Rattle.std.specs.Prelude.{codes, decimal}
use Rattle.odht_tool_core.proofs.InfoLines.{then_appends}
use Rattle.odht_tool_tables.proofs.whole.write_sizes.Goals as goal

pub returns : goal.returns
returns g c =
    let old = g.E.Write.contents c.args.errors.now in
    let between = g.E.Write.contents c.write.new.self in
    let new = g.E.Write.contents c.writeln.new.self in
    then_appends c.writeln.result old between new
    (codes "odht: " ++ (c.args.other.now ++ (codes ": its keys have " ++ (decimal c.args.found.0 ++ (codes " and its values " ++ (decimal c.args.found.1
    ++ (codes " bytes, those of " ++ (c.args.file.now ++ codes " "))))))))
    (decimal c.args.expected.0 ++ (codes " and " ++ (decimal c.args.expected.1 ++ codes "\n")))
    c.in_ok-write.ensures.bytes c.writeln.ensures.bytes
