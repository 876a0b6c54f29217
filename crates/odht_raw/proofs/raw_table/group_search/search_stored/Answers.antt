use Rattle.std.proofs.Common.{◌≡◌, arith, ap, subst, List, ℕ}
use Rattle.odht_raw.specs.Words.{Format, IsSlotCount}
use Rattle.odht_raw.specs.Parts.{hashed_by}
use Rattle.odht_raw.proofs.lemmas.WholeSearches.{rest-IsSearch}
use Rattle.odht_raw.specs.Stored.{stored_format}
use Rattle.odht_raw.proofs.raw_table.group_search.search_stored.Goals as goal

-- the scan has a slot count, and it is that of the keys
pub search_from-requires-clause-slots : goal.search_from-requires-clause-slots
search_from-requires-clause-slots g c =
    let same : c.slots.result ≡ c.args.stored.now.entries.slots = omega (arith, c.slots.ensures.control, c.requires.mirrored) in
    subst IsSlotCount same c.slots.ensures.count

-- the rest of a search from its first position is the search
pub returns : goal.returns
returns g c =
    let F : Format = hashed_by g.H.HashFn.hash (stored_format c.args.stored.now) in
    let k : List ℕ = c.args.key.now in
    rest-IsSearch F c.args.stored.now.entries k _ _ c.new-probe.result c.new-probe.result _ c.search_from.ensures (ap (λ q. q.position) c.new-probe.ensures)
