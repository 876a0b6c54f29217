use Rattle.std.proofs.Common.{◌≡◌, ◌∙◌, ◌-◌, ap, sym, subst, not, length, arith}
use Rattle.odht_raw.specs.Words.{first_longer, IsSlotCount}
use Rattle.odht_header.proofs.lemmas.Formats.{IsFormat-format_of}
use Rattle.odht_raw.specs.DynParts.{parts_format}
use Rattle.odht_raw.proofs.lemmas.BoundedSearches.{bounded, is_none}
use Rattle.odht_raw.proofs.raw_table.parts.Parts.searches_within.Goals as goal

pub first_longer-requires : goal.first_longer-requires
first_longer-requires g c =
    let slots : c.args.self.now.parts.entries.slots ≡ length c.controls.result.now - 16 = omega (arith, c.controls.ensures.len) in
    subst IsSlotCount slots c.controls.ensures.whole.slots

pub returns-clause-bound : goal.returns-clause-bound
returns-clause-bound g c P key h within =
    let v = c.controls.ensures.whole in
    let f = IsFormat-format_of _ _ _ _ v.fitting.key_short v.fitting.value_short v.hashes g.met.H.HashFn.fits in
    let same = ap (λ b. first_longer b c.args.groups) c.controls.ensures.value in
    bounded (parts_format c.args.self.now g.H.HashFn.hash) P c.args.self.now.parts.entries c.args.self.now.parts.control key f h v.mirrored c.args.groups (sym same ∙ sym c.first_longer.ensures ∙ is_none _ (c.is_none.ensures ∙ ap not within))
