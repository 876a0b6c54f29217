use Rattle.std.proofs.Common.{bit_and, arith}
use Rattle.odht_raw.proofs.lemmas.ProbeSteps.{bit_and-mask, at_home}
use Rattle.odht_raw.proofs.raw_table.probe_seq.ProbeSeq.new.Goals as goal

pub invariant_of-result : goal.invariant_of-result
invariant_of-result g c = at_home g.row.GROUP_SIZE (bit_and c.args.h1 c.args.mask) c.args.mask c.requires.slots c.requires.divides (omega (arith, bit_and-mask c.args.h1 c.args.mask c.requires.slots))

pub returns : goal.returns
returns g c = λ i. record { home = bit_and-mask c.args.h1 c.args.mask c.requires.slots i; mask = c.args.mask; position = 0 }
