use Rattle.std.proofs.Common.{ap, ◌≡◌, length, arith}
use Rattle.std.specs.List.{zip}
use Rattle.std.proofs.lemmas.Slice.Zip.{length-zip}
use Rattle.odht_raw.proofs.items.ZippedItems.count.Goals as goal

pub returns : goal.returns
returns g c =
    let zipped : length (zip c.self.inside.keys.now c.self.inside.values.now) ≡ length c.args.self.now = ap length c.self.view_is in
    omega (arith, length-zip c.self.inside.keys.now c.self.inside.values.now, zipped, c.self.invariant)
