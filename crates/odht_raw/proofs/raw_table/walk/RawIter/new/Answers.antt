use Rattle.std.proofs.Common.{◌∙◌, ℕ, ap, map, arith}
use Rattle.std.proofs.lemmas.List.{length-map}
use Rattle.odht_raw.specs.Parts.{TableParts, entry_format}
use Rattle.odht_raw.specs.Walks.{Item}
use Rattle.odht_raw.proofs.lemmas.Walks.{items-numbered_from}
use Rattle.odht_raw.proofs.raw_table.walk.RawIter.new.Goals as goal

pub returns-clause-items : goal.returns-clause-items
returns-clause-items g c =
    let T : TableParts = record { control = c.args.control.now; entries = c.args.entries } in
    ap (map (λ x. x.1)) c.new.ensures.items ∙ items-numbered_from g.K.ByteArray.of_bytes g.V.ByteArray.of_bytes (entry_format g.K.ByteArray.LEN g.V.ByteArray.LEN) T 0

pub returns-clause-few : goal.returns-clause-few
returns-clause-few g c =
    let same = length-map c.new.result (λ (x : ℕ × Item g.row.K.Denot g.row.V.Denot). x.1) in
    omega (arith, same, c.new.ensures.few)
