use Rattle.std.proofs.Common.{◌≡◌, ◌++◌, All, map}
use Rattle.std.specs.Io.KnownBytes.{Appends}
use Rattle.odht_raw.specs.DynParts.{HasLengthsOf}
use Rattle.odht_tool_core.specs.StoredTexts.{bare_pairs}
use Rattle.odht_tool_core.specs.Texts.{pairs_text}
use Rattle.odht_tool_reads.proofs.commands.dump.write_pairs.Given as goal

-- the lines of the pairs so far are written, these and what is left are the walk, and they are as long as their types say
abbrev pub invariant-loop-key : goal.invariant-loop-key
invariant-loop-key g l =
    record {
      written : Appends (g.O.Write.contents l.initial.output) (g.O.Write.contents l.output) (pairs_text (g.K.TextWriter.text l.keys) (g.V.TextWriter.text l.values) (bare_pairs (map (λ x. record { key = x.0.now; value = x.1.now }) l.yielded)));
      lengths : All (HasLengthsOf (g.K.TextWriter.len l.keys) (g.V.TextWriter.len l.values)) l.key-iterator;
      pairs : l.fn.pairs ≡ map (λ x. record { key = x.0.now; value = x.1.now }) l.yielded ++ l.key-iterator;
    }
