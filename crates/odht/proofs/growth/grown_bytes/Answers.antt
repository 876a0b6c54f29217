use Rattle.odht.proofs.lemmas.GrownMoves.{grown_from}
use Rattle.odht.proofs.growth.grown_bytes.Goals as goal

pub returns : goal.returns
returns g c =
    let moved = c.in_ok-grown.ensures in
    grown_from _ c.args.bytes.now c.in_ok-grown.grown.items c.in_ok-slot_count.slot_count c.in_ok-slot_count.ensures.slots moved.moved moved.count moved.factor
