use Rattle.std.proofs.Common.{◌≡◌, ◌++◌, All, length, map}
use Rattle.std.specs.Io.KnownBytes.{Appends}
use Rattle.odht_tool_core.specs.ReadyShapes.{typed_len}
use Rattle.odht_tool_core.specs.StoredTexts.{side_bytes}
use Rattle.odht_tool_reads.specs.Listings.{side_objects}
use Rattle.odht_tool_reads.proofs.commands.keys.write_objects.Given as goal

-- the objects of the pairs so far are written, these and what is left are the walk, and this side of it is as long as its type says
abbrev pub invariant-loop-key : goal.invariant-loop-key
invariant-loop-key g l =
    record {
      written : Appends (g.O.Write.contents l.initial.output) (g.O.Write.contents l.output) (side_objects l.typed l.side (map (λ x. record { key = x.0.now; value = x.1.now }) l.yielded));
      lengths : All (λ p. length (side_bytes l.side p) ≡ typed_len l.typed.part) l.key-iterator;
      pairs : l.fn.pairs ≡ map (λ x. record { key = x.0.now; value = x.1.now }) l.yielded ++ l.key-iterator;
    }
