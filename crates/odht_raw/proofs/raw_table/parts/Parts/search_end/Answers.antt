use Rattle.std.proofs.Common.{◌∙◌, ap, subst}
use Rattle.odht_base.specs.Format.{Format}
use Rattle.odht_raw.specs.Parts.{hashed_by}
use Rattle.odht_raw.specs.Stored.{StoredEntries, stored_format}
use Rattle.odht_raw.specs.Searches.{IsSearchEnd}
use Rattle.odht_raw.specs.DynParts.{parts_format}
use Rattle.odht_raw.proofs.raw_table.parts.Parts.search_end.Goals as goal

-- the search ends where it ends in the table's control bytes, which the scan has
pub returns-clause-end : goal.returns-clause-end
returns-clause-end g c =
    let F : Format = parts_format c.args.self.now g.H.HashFn.hash in
    subst (λ ctrl. IsSearchEnd F c.args.self.now.parts.entries ctrl c.args.key.now c.search_stored-end.result)
    (ap (λ s. s.control) c.new-scan.ensures ∙ c.controls.ensures.value)
    (subst (λ (S : StoredEntries). IsSearchEnd (hashed_by g.H.HashFn.hash (stored_format S)) S.entries c.new-scan.result.control c.args.key.now c.search_stored-end.result) c.stored-stored.ensures c.search_stored-end.ensures.end)
