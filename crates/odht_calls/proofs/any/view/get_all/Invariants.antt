use Rattle.odht_base.specs.Format.{format_of}
use Rattle.odht_raw.specs.DynParts.{bytes_coding}
use Rattle.odht_calls.specs.Pieces.{pieces}
use Rattle.odht_calls.proofs.lemmas.AnyLists.{AreGotUpTo}
use Rattle.odht_calls.proofs.any.view.get_all.Given as goal

-- the answers of the keys so far are in the arrays
abbrev pub invariant-loop-index : goal.invariant-loop-index
invariant-loop-index g l =
    let F = format_of l.fn.layout.key_len l.fn.layout.value_len g.H.HashFn.hash in
    AreGotUpTo (bytes_coding F) l.fn.bytes (pieces l.fn.layout.key_len l.fn.count l.fn.keys) (pieces l.fn.layout.value_len l.fn.count l.fn.values) l.index (pieces l.fn.layout.value_len l.fn.count l.values) l.found
