use Rattle.std.proofs.Common.{◌∙◌, ◌+◌, ◌++◌, ap, map, min}
use Rattle.odht_raw.specs.Parts.{TableParts, entry_format}
use Rattle.odht_raw.specs.Walks.{numbered_of, numbered_from}
use Rattle.odht_raw.proofs.lemmas.Walks.{few-numbered, numbered_from-min}
use Rattle.odht_raw.proofs.raw_table.walk.RawSlots.new.Goals as goal

pub returns-clause-items : goal.returns-clause-items
returns-clause-items g c =
    let f = g.K.ByteArray.of_bytes in
    let h = g.V.ByteArray.of_bytes in
    let F = entry_format g.K.ByteArray.LEN g.V.ByteArray.LEN in
    let T : TableParts = record { control = c.args.control.now; entries = c.args.entries } in
    ap (λ xs. numbered_of f h F T (map (λ i. c.min-first.result + i) xs) ++ numbered_from f h F T c.min-first.result) c.empty.ensures
    ∙ ap (numbered_from f h F T) (c.min-first.ensures ∙ ap (min c.args.from) c.len.ensures) ∙ numbered_from-min f h F T c.args.from

pub returns-clause-few : goal.returns-clause-few
returns-clause-few g c =
    let f = g.K.ByteArray.of_bytes in
    let h = g.V.ByteArray.of_bytes in
    let F = entry_format g.K.ByteArray.LEN g.V.ByteArray.LEN in
    let T : TableParts = record { control = c.args.control.now; entries = c.args.entries } in
    rw c.empty.ensures (few-numbered f h F T c.min-first.result)
