use Rattle.std.proofs.Common.{◌∙◌, ap, drop}
use Rattle.odht_raw.specs.Words.{numbered}
use Rattle.odht_raw.specs.Checks.{cells_of}
use Rattle.odht_raw.specs.DynParts.{DynParts, parts_format}
use Rattle.odht_raw.proofs.lemmas.Walks.{slots-image}
use Rattle.odht.specs.Dynamic.{dyn_format}
use Rattle.odht.proofs.dynamic.DynTable.iter_from.Goals as goal

pub returns-clause-slots : goal.returns-clause-slots
returns-clause-slots g c =
    let slots = c.iter_from.ensures.items ∙ ap (λ (S : DynParts). numbered c.args.from (drop c.args.from (cells_of (parts_format S g.H.HashFn.hash) S.parts))) c.as_dynamic.ensures.parts in
    record {
      on_valid = λ P is. slots ∙ slots-image (dyn_format c.args.self.now g.H.HashFn.hash) P _ c.args.from c.as_dynamic.ensures.format is;
      on_any = slots;
    }
