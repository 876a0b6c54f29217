use Rattle.std.proofs.Common.{◌*◌, ℕ, List}
use Rattle.odht_base.specs.Format.{format_of}
use Rattle.odht_raw.specs.Reads.{read_entries, read_controls, IsHeldBy}
use Rattle.odht_raw.specs.Searches.{IsPassed}
use Rattle.odht_raw.proofs.raw_table.read_search.search_read.Given as goal

-- the search passed the positions of the groups before
abbrev pub invariant-loop-group : goal.invariant-loop-group
invariant-loop-group g l =
    let F = format_of l.place.layout.key_len l.place.layout.value_len g.H.HashFn.hash in
    record {
      passed : (B : List ℕ) → g.S.ReadAt.gives l.source B → IsHeldBy l.place B → IsPassed F (read_entries l.place B) (read_controls l.place B) l.key (16 * l.group);
    }
