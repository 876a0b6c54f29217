use Rattle.std.proofs.Common.{◌∙◌, sym, true≢false}
use Rattle.odht.specs.Dynamic.{dyn_format}
use Rattle.odht.proofs.lemmas.DynLookups.{absent}
use Rattle.odht.proofs.dynamic.DynTable.get.Goals as goal

pub returns-then-not-takes : goal.returns-then-not-takes
returns-then-not-takes g c = record {
  on_valid = λ P is. absent (dyn_format c.args.self.now g.H.HashFn.hash) P c.args.key.now is.valid.placed (λ e. true≢false (sym (c.takes.ensures.1 e) ∙ c.if-not-takes.true));
  on_any = tt;
}
