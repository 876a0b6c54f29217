use Rattle.std.proofs.Common.{ap, arith, ◌∙◌}
use Rattle.std.specs.Int.{w32, from_le_bytes}
use Rattle.odht_base.specs.Hashes.{un}
use Rattle.odht_base.proofs.lemmas.Words.{from_le_bytes-num}
use Rattle.odht_base.proofs.hash.UnHashFnHashFn.hash.Goals as goal

pub returns : goal.returns
unfolding un
returns c =
    let last = c.in-Some.ensures.cases.1 in
    c.from_le_bytes.ensures ∙ ap (from_le_bytes w32) last.same ∙ from_le_bytes-num w32 _ last.long (omega arith)
