use Rattle.std.proofs.Common.{All, ◌∙◌, ap, subst}
use Rattle.std.specs.List.{filter_map}
use Rattle.odht_raw.specs.Checks.{cells_of}
use Rattle.odht_raw.specs.DynParts.{HasLengthsOf, DynParts, parts_format}
use Rattle.odht_raw.proofs.lemmas.Walks.{decoded_pairs-image}
use Rattle.odht.specs.Dynamic.{dyn_format}
use Rattle.odht.proofs.dynamic.DynTable.iter.Goals as goal

pub returns-clause-pairs : goal.returns-clause-pairs
returns-clause-pairs g c =
    let pairs = c.iter.ensures.items ∙ ap (λ (S : DynParts). filter_map (λ x. x) (cells_of (parts_format S g.H.HashFn.hash) S.parts)) c.as_dynamic.ensures.parts in
    record {
      on_valid = λ P is. pairs ∙ decoded_pairs-image (dyn_format c.args.self.now g.H.HashFn.hash) P _ c.as_dynamic.ensures.format is;
      on_any = pairs;
    }

pub returns-clause-lengths : goal.returns-clause-lengths
returns-clause-lengths g c = subst (λ (S : DynParts). All (HasLengthsOf S.key_len S.value_len) c.iter.result) c.as_dynamic.ensures.parts c.iter.ensures.lengths
