use Rattle.std.proofs.Common.{◌∙◌, ap}
use Rattle.odht_raw.specs.Words.{controls_of, entries_of, Format, format_of}
use Rattle.odht_raw.proofs.lemmas.Below.{controls_of-image, entries_of-image, IsSized-IsPlaced}
use Rattle.odht_raw.proofs.memory_layout.opening.cut.Goals as goal

pub returns-clause-on_valid : goal.returns-clause-on_valid
returns-clause-on_valid g c P is =
    let F : Format = format_of (g.L.Lengths.key_len c.args.lengths) (g.L.Lengths.value_len c.args.lengths) g.H.HashFn.hash in
    let sized = IsSized-IsPlaced F P is.valid.placed in
    record {
      placed = is.valid.placed;
      entries_are = ap (entries_of F) is.bytes ∙ entries_of-image F P sized;
      controls_are = ap (controls_of F) is.bytes ∙ controls_of-image F P sized;
    }
