use Rattle.std.proofs.Common.{◌∙◌, ℕ, sym, subst}
use Rattle.odht.specs.Files.{FileStore, IsOver, file_bytes, file_format}
use Rattle.odht.specs.Walks.{IsItemCount}
use Rattle.odht.proofs.lemmas.ViewInserts.{count_header}
use Rattle.odht.proofs.dynamic.file.FileTable.len.Goals as goal

pub returns-clause-given : goal.returns-clause-given
returns-clause-given g c B =
    let hash = g.H.HashFn.hash in
    let items : ℕ = c.self.inside.items in
    subst (λ (t : FileStore g.row.S.Denot). IsOver hash t B → IsItemCount (file_format t hash) (file_bytes t B) items) c.self.view_is
    (λ over. record { by_header = sym over.items; on_valid = λ P is. sym over.items ∙ count_header _ P _ is })
