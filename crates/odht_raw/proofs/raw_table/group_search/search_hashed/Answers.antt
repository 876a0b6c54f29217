use Rattle.std.proofs.Common.{subst, List, ℕ}
use Rattle.odht_raw.specs.Parts.{hashed_by}
use Rattle.odht_raw.specs.Searches.{IsSearch}
use Rattle.odht_raw.specs.Stored.{StoredEntries, stored_format}
use Rattle.odht_raw.proofs.raw_table.group_search.search_hashed.Goals as goal

-- the search among the same entries for the bytes of the key
pub returns : goal.returns
returns g c =
    subst (λ (x : StoredEntries × List ℕ). IsSearch (hashed_by g.H.HashFn.hash (stored_format x.0)) x.0.entries x.1 c.args.scan.now c.search_stored.new.scan c.search_stored.result)
    (λ i. (c.stored.ensures i, c.as_slice.ensures.value i)) c.search_stored.ensures
