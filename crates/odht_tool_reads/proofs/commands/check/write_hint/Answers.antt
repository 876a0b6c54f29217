use Rattle.std.proofs.Common.{◌++◌, subst}
use Rattle.std.specs.Io.KnownBytes.{Appends}
use Rattle.std.specs.Prelude.{OnOk, codes}
use Rattle.odht_tool_reads.proofs.commands.check.write_hint.Goals as goal

-- the name that is written is that of the hash function
pub returns : goal.returns
returns g c =
    let old = g.E.Write.contents c.args.errors.now in
    let new = g.E.Write.contents c.writeln.new.self in
    subst (λ name. OnOk c.writeln.result (Appends old new (codes "odht: " ++ (c.args.file.now ++ (codes ": all control bytes fit " ++ (name ++ (codes ": try --hash " ++ (name ++ codes ", or `odht info`\n"))))))))
    c.name_of-name.ensures c.writeln.ensures.bytes
