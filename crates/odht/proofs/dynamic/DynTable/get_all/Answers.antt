use Rattle.std.proofs.Common.{◌∙◌, ◌<◌, arith, length}
use Rattle.std.specs.Option.{option_copied}
use Rattle.std.proofs.lemmas.List.{length-set}
use Rattle.std.proofs.lemmas.Option.{slice_get-get_or}
use Rattle.odht.specs.Dynamic.{dyn_coding}
use Rattle.odht.proofs.lemmas.ManyGets.{known_none, known_more, known_all}
use Rattle.odht.proofs.dynamic.DynTable.get_all.Goals as goal

pub loop-index-init : goal.loop-index-init
loop-index-init g c =
    (known_none (dyn_coding c.args.self.now g.H.HashFn.hash) (g.D.ByteStore.bytes c.args.self.now.store) (λ key. key.now) (λ value. option_copied value) c.args.keys.now c.args.values.now, c.requires)

pub loop-index-preserved : goal.loop-index-preserved
loop-index-preserved g c =
    let i = c.loop-index.index in
    let values = c.loop-index.values in
    let within : i < length values = omega (arith, c.loop-index.invariant.1, c.loop-index-test.true) in (
      known_more (dyn_coding c.args.self.now g.H.HashFn.hash) (g.D.ByteStore.bytes c.args.self.now.store) (λ key. key.now) (λ value. option_copied value) c.args.keys.now values i _ c.get.result within
          (slice_get-get_or c.args.keys.now i _ c.loop-index-test.true) c.get.ensures c.loop-index.invariant.0,
      length-set values i c.get.result ∙ c.loop-index.invariant.1,
    )

pub returns : goal.returns
returns g c =
    known_all (dyn_coding c.args.self.now g.H.HashFn.hash) (g.D.ByteStore.bytes c.args.self.now.store) (λ key. key.now) (λ value. option_copied value) c.args.keys.now c.loop-index.values c.loop-index.invariant.1
    (λ j x low at. c.loop-index.invariant.0 j x (omega (arith, low, c.loop-index-test.false)) at)
