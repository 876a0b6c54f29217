use Rattle.std.proofs.Common.{◌≡◌, ◌++◌, ◌==◌, List, map, length, All}
use Rattle.std.specs.Io.KnownBytes.{Appends}
use Rattle.odht.specs.Dynamic.{dyn_format}
use Rattle.odht_base.specs.Decoded.{decoded_pairs}
use Rattle.odht_base.specs.Table.{Pair}
use Rattle.odht_raw.specs.DynParts.{HasLengthsOf}
use Rattle.odht_tool_reads.specs.Diffs.{side_text}
use Rattle.odht_tool_core.specs.ReadyShapes.{typed_len}
use Rattle.odht_tool_core.specs.StoredTexts.{key_text, value_text}
use Rattle.odht_tool_reads.proofs.dynamic.diffs.write_side.Given as goal

-- the lines of the pairs so far are written, whether there is none is known, and these and what is left are the pairs
abbrev pub invariant-loop-key : goal.invariant-loop-key
invariant-loop-key g l =
    let ys = decoded_pairs (dyn_format l.other g.H.HashFn.hash) l.other.store.0.now in
    let done : List Pair = map (λ x. record { key = x.0.now; value = x.1.now }) l.yielded in
    let text = side_text (key_text l.texts) (value_text l.texts) l.side ys done in
    record {
      written : Appends (g.O.Write.contents l.initial.output) (g.O.Write.contents l.output) text;
      none : l.is_same ≡ (length text == 0);
      lengths : All (HasLengthsOf (typed_len l.texts.key) (typed_len l.texts.value)) l.key-iterator;
      pairs : l.fn.pairs ≡ done ++ l.key-iterator;
    }
