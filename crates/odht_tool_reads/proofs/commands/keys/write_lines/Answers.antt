use Rattle.odht_tool_reads.proofs.commands.keys.write_lines.Goals as goal

pub returns-in-U32-Own : goal.returns-in-U32-Own
returns-in-U32-Own g c = rw (c.in-U32-Own.is-0, c.in-U32-Own.is-1) c.write_sides.ensures

pub returns-in-U64-Own : goal.returns-in-U64-Own
returns-in-U64-Own g c = rw (c.in-U64-Own.is-0, c.in-U64-Own.is-1) c.write_sides-in-U64-Own.ensures
