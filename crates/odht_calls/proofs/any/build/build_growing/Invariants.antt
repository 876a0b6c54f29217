use Rattle.std.proofs.Common.{take}
use Rattle.std.specs.List.{zip}
use Rattle.odht_base.specs.Format.{format_of}
use Rattle.odht_raw.specs.DynParts.{bytes_coding}
use Rattle.odht.specs.DynOwned.{IsDynWith}
use Rattle.odht_calls.proofs.lemmas.GrownBuilds.{IsGrownTable}
use Rattle.odht_calls.specs.Pieces.{pieces}
use Rattle.odht_calls.proofs.any.build.build_growing.Given as goal

-- the pairs so far were inserted
abbrev pub invariant-loop-index : goal.invariant-loop-index
invariant-loop-index g l =
    let kl = l.fn.layout.key_len in
    let vl = l.fn.layout.value_len in
    let c = bytes_coding (format_of kl vl g.H.HashFn.hash) in
    IsDynWith kl vl (IsGrownTable c (take l.index (zip (pieces kl l.fn.count l.fn.keys) (pieces vl l.fn.count l.fn.values)))) l.table
