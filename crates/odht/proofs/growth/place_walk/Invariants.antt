use Rattle.std.proofs.Common.{All}
use Rattle.odht_raw.specs.Words.{format_of, IsPartsOf, Table}
use Rattle.odht_raw.specs.DynParts.{HasLengthsOf}
use Rattle.odht.specs.Growths.{IsPlacing}
use Rattle.odht.proofs.lemmas.Growths.{LeadsTo}
use Rattle.odht.proofs.growth.place_walk.Given as goal

-- each pair that is left has the lengths of the table, and placing those that are left in the parts gives what placing all
-- of them gives
abbrev pub invariant-loop-key : goal.invariant-loop-key
invariant-loop-key g l =
    let F = format_of (g.L.Lengths.key_len l.lengths) (g.L.Lengths.value_len l.lengths) g.H.HashFn.hash in
    record {
      fitting : All (HasLengthsOf (g.L.Lengths.key_len l.lengths) (g.L.Lengths.value_len l.lengths)) l.key-iterator;
      placed : (P Q : Table) → IsPlacing F P l.initial.key-iterator Q → IsPartsOf F P l.initial.entries l.initial.control → LeadsTo F Q l.key-iterator l.entries l.control;
    }
