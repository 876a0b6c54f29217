use Rattle.std.proofs.Common.{◌∙◌, ◌≤◌, sym, ap, arith, length}
use Rattle.odht.specs.Dynamic.{dyn_format}
use Rattle.odht_base.specs.Format.{Format, IsFormat}
use Rattle.odht_header.proofs.lemmas.Formats.{IsFormat-format_of}
use Rattle.odht_raw.proofs.lemmas.Walks.{decoded_pairs-image}
use Rattle.odht_tool_writes.proofs.dynamic.merges.stated_len.Goals as goal

pub returns : goal.returns
returns g c =
    let t = c.open_valid-table.result in
    let F : Format = dyn_format t g.S.HashFn.hash in
    let key : t.key_len ≤ 255 = omega arith in
    let value : t.value_len ≤ 255 = omega arith in
    let long = c.layout.ensures.hashes in
    let enough : g.S.HashFn.MIN_LEN ≤ t.key_len = omega arith in
    let f : IsFormat F = IsFormat-format_of _ _ _ _ key value enough g.met.S.HashFn.fits in
    let valid = c.open_valid-table.ensures.fits.valid in
    c.len.ensures.on_valid valid.0 valid.1 ∙ sym (ap length (decoded_pairs-image F valid.0 t.store.0.now f valid.1)) ∙ ap length c.open_valid-table.ensures.pairs
