use Rattle.std.proofs.Common.{◌≡◌, take, fold}
use Rattle.odht_base.specs.Xxh64.{add_byte}
use Rattle.odht_base.proofs.hash.xxh64.add_bytes.Given as goal

abbrev pub invariant-loop-byte : goal.invariant-loop-byte
invariant-loop-byte l = l.state ≡ fold add_byte l.fn.state (take l.byte-index l.bytes)
