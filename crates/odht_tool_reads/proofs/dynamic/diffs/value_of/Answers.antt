use Rattle.std.proofs.Common.{◌≤◌, arith}
use Rattle.odht.specs.Dynamic.{dyn_format}
use Rattle.odht_base.specs.Format.{Format, IsFormat}
use Rattle.odht_header.proofs.lemmas.Formats.{IsFormat-format_of}
use Rattle.odht_tool_reads.proofs.Diffed.{found_fits, looked_up, value_fits}
use Rattle.odht_tool_reads.proofs.dynamic.diffs.value_of.Goals as goal

pub returns-clause-value : goal.returns-clause-value
returns-clause-value g c =
    let t = c.args.table.now in
    let F : Format = dyn_format t g.H.HashFn.hash in
    let key : t.key_len ≤ 255 = omega arith in
    let value : t.value_len ≤ 255 = omega arith in
    let long = c.layout.ensures.hashes in
    let enough : g.H.HashFn.MIN_LEN ≤ t.key_len = omega arith in
    let f : IsFormat F = IsFormat-format_of _ _ _ _ key value enough g.met.H.HashFn.fits in
    looked_up F f t.store.0.now c.requires c.args.key.now _ (c.get.ensures.on_valid c.requires.0 c.requires.1)

pub returns-clause-fits : goal.returns-clause-fits
returns-clause-fits g c =
    let t = c.args.table.now in
    let F : Format = dyn_format t g.H.HashFn.hash in
    let key : t.key_len ≤ 255 = omega arith in
    let value : t.value_len ≤ 255 = omega arith in
    let long = c.layout.ensures.hashes in
    let enough : g.H.HashFn.MIN_LEN ≤ t.key_len = omega arith in
    let f : IsFormat F = IsFormat-format_of _ _ _ _ key value enough g.met.H.HashFn.fits in
    found_fits c.get.result _ t.value_len
    (looked_up F f t.store.0.now c.requires c.args.key.now _ (c.get.ensures.on_valid c.requires.0 c.requires.1))
    (value_fits F f t.store.0.now c.requires c.args.key.now)
