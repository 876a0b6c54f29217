use Rattle.std.proofs.Common.{sym, subst, length}
use Rattle.odht_raw.specs.DynParts.{DynParts, parts_format}
use Rattle.odht_raw.specs.Waiting.{IsWhole, IsOrderAnswer}
use Rattle.odht.specs.Dynamic.{dyn_format, dyn_parts}
use Rattle.odht.proofs.lemmas.DynOrders.{dyn_whole, dyn_order, dyn_made}
use Rattle.odht.proofs.dynamic.DynTable.insert_order_with.Goals.{After-insert_order_with}
use Rattle.odht.proofs.dynamic.DynTable.insert_order_with.Given.{Over}
use Rattle.odht.proofs.dynamic.DynTable.insert_order_with.Goals as goal

pub insert_order_with-requires : goal.insert_order_with-requires
insert_order_with-requires g c =
    let h = g.H.HashFn.hash in
    let F = dyn_format c.args.self.now h in
    let B = g.D.ByteStore.bytes c.args.self.now.store in
    record {
      whole = subst (λ (S : DynParts). IsWhole (parts_format S h) S.parts (length c.args.out.now)) (sym c.as_dynamic.ensures.parts)
          (dyn_whole F B (length c.args.out.now) c.requires.counted c.as_dynamic.ensures.on_valid c.requires.valid);
    }

-- what is said of the parts, of those of the bytes
answer : (g : Over) (c : After-insert_order_with g) → IsOrderAnswer (dyn_format c.args.self.now g.H.HashFn.hash) (dyn_parts c.args.self.now g.H.HashFn.hash (g.D.ByteStore.bytes c.args.self.now.store)).parts (length c.args.out.now) c.insert_order_with.new.out c.insert_order_with.result
answer g c =
    subst (λ (S : DynParts). IsOrderAnswer (parts_format S g.H.HashFn.hash) S.parts (length c.args.out.now) c.insert_order_with.new.out c.insert_order_with.result) c.as_dynamic.ensures.parts c.insert_order_with.ensures

pub returns-clause-order : goal.returns-clause-order
returns-clause-order g c =
    dyn_order (dyn_format c.args.self.now g.H.HashFn.hash) (g.D.ByteStore.bytes c.args.self.now.store) (length c.args.out.now) c.requires.counted c.as_dynamic.ensures.on_valid c.insert_order_with.new.out c.insert_order_with.result
    (answer g (goal.at.returns-clause-order g c).After-insert_order_with)

pub returns-clause-made : goal.returns-clause-made
returns-clause-made g c =
    dyn_made (dyn_format c.args.self.now g.H.HashFn.hash) (g.D.ByteStore.bytes c.args.self.now.store) (length c.args.out.now) c.requires.counted c.as_dynamic.ensures.on_valid c.insert_order_with.new.out c.insert_order_with.result
    (answer g (goal.at.returns-clause-made g c).After-insert_order_with)
