use Rattle.std.proofs.Common.{arith}
use Rattle.odht_tool_reads.proofs.FileReads.{left_of}
use Rattle.odht_tool_reads.proofs.positions.remembered.Remembered.known_from.Goals as goal

pub returns-in-Some : goal.returns-in-Some
returns-in-Some g c B read =
    left_of B c.args.self.now.bytes.now c.args.self.now.at c.in-Some.skipped c.args.offset read (omega (arith, c.if-skipped-bytes.true))
    (omega (arith, c.in-Some.ensures.0, c.in-Some.ensures.1))
