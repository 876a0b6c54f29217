use Rattle.std.proofs.Common.{ap, sym, ◌∙◌, ap₂, ◌≡◌, ◌<◌, Some, length, arith}
use Rattle.std.specs.List.{zip, slice_get}
use Rattle.odht_raw.proofs.lemmas.Below.{get_or-zip, length-zip, slice_get-get_or}
use Rattle.odht_raw.proofs.items.ZippedItems.at.Given.{Over}
use Rattle.odht_raw.proofs.items.ZippedItems.at.Goals as goal
use Rattle.odht_raw.proofs.items.ZippedItems.at.Goals.{After-self}

-- the index is one of both slices
within : (g : Over) (c : After-self g) → (c.args.index < length c.self.inside.keys.now) × (c.args.index < length c.self.inside.values.now)
within g c =
    let zipped : length (zip c.self.inside.keys.now c.self.inside.values.now) ≡ length c.args.self.now = ap length c.self.view_is in
    let long = length-zip c.self.inside.keys.now c.self.inside.values.now in
    (omega (arith, long, zipped, c.requires), omega (arith, long, zipped, c.requires, c.self.invariant))

pub offset_bounds-keys-index : goal.offset_bounds-keys-index
offset_bounds-keys-index g c = let w = within g (goal.at.offset_bounds-keys-index g c).After-self in omega (arith, w.0)

pub bounds-keys-index : goal.bounds-keys-index
bounds-keys-index g c = (within g (goal.at.bounds-keys-index g c).After-self).0

pub offset_bounds-values-index : goal.offset_bounds-values-index
offset_bounds-values-index g c = let w = within g (goal.at.offset_bounds-values-index g c).After-self in omega (arith, w.1)

pub bounds-values-index : goal.bounds-values-index
bounds-values-index g c = (within g (goal.at.bounds-values-index g c).After-self).1

pub returns : goal.returns
returns g c =
    let w = within g (goal.at.returns g c).After-self in
    let item : g.row.K.Denot × g.row.V.Denot = (c.index-keys-index.result, c.index-values-index.result) in
    let at = get_or-zip c.self.inside.keys.now c.self.inside.values.now c.args.index item w.0 w.1 ∙ ap₂ (λ k v. (k, v)) (sym c.index-keys-index.is) (sym c.index-values-index.is) in
    let low : c.args.index < length (zip c.self.inside.keys.now c.self.inside.values.now) = omega (arith, length-zip c.self.inside.keys.now c.self.inside.values.now, w.0, w.1) in
    ap (λ xs. slice_get xs c.args.index) (sym c.self.view_is)
    ∙ slice_get-get_or (zip c.self.inside.keys.now c.self.inside.values.now) c.args.index item low ∙ ap (λ x. Some x) at
