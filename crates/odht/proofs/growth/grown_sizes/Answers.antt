use Rattle.std.proofs.Common.{◌≡◌, ◌<◌, ◌*◌, ◌^◌, ◌∙◌, sym, ap, arith}
use Rattle.std.proofs.Math.Nat.{max_comm}
use Rattle.std.specs.Prelude.{max}
use Rattle.odht_raw.specs.Words.{Format, format_of, header_count, header_factor}
use Rattle.odht_raw.proofs.lemmas.Accepted.{accepted_opening}
use Rattle.odht.proofs.lemmas.GrownBytes.{none_at_zero, none_of_many, asked_layout}
use Rattle.odht.proofs.growth.grown_sizes.Goals as goal

pub of-header-requires : goal.of-header-requires
of-header-requires g c = (accepted_opening (format_of (g.L.Lengths.key_len c.args.lengths) (g.L.Lengths.value_len c.args.lengths) g.H.HashFn.hash) c.args.bytes.now c.requires.accepted).long

pub returns-in_default : goal.returns-in_default
returns-in_default g c =
    let F : Format = format_of (g.L.Lengths.key_len c.args.lengths) (g.L.Lengths.value_len c.args.lengths) g.H.HashFn.hash in
    let few : c.max_load_factor-factor.result.0 < 65536 = c.max_load_factor-factor.type_inv.1.1.0.1 in
    let many : c.item_count.result * 2 < 2 ^ 64 → ⊥ = c.in_default.ensures in
    let factor = c.max_load_factor-factor.ensures ∙ ap header_factor c.of-header.ensures in
    let items = c.item_count.ensures ∙ ap header_count c.of-header.ensures in
    none_of_many F c.args.bytes.now (omega (arith, few, factor)) (omega (arith, many, items))

pub returns-then-factor-eq0 : goal.returns-then-factor-eq0
returns-then-factor-eq0 g c =
    let F : Format = format_of (g.L.Lengths.key_len c.args.lengths) (g.L.Lengths.value_len c.args.lengths) g.H.HashFn.hash in
    none_at_zero F c.args.bytes.now (sym (c.max_load_factor-factor.ensures ∙ ap header_factor c.of-header.ensures) ∙ c.if-factor-eq0.true)

pub returns : goal.returns
returns g c =
    let F : Format = format_of (g.L.Lengths.key_len c.args.lengths) (g.L.Lengths.value_len c.args.lengths) g.H.HashFn.hash in
    let count = c.item_count.ensures ∙ ap header_count c.of-header.ensures in
    let items : c.max.result ≡ max 1 (2 * header_count c.args.bytes.now) =
    c.max.ensures ∙ max_comm c.in-Some.twice 1 ∙ ap (max 1) (let is = c.in-Some.ensures.1 in omega (arith, is, count)) in
    let made = rw (c.of_lengths.ensures.key, c.of_lengths.ensures.value) at c.table_for.ensures.some g.H.HashFn.hash in
    let none = rw (c.of_lengths.ensures.key, c.of_lengths.ensures.value) at c.table_for.ensures.none g.H.HashFn.hash in
    asked_layout F c.args.bytes.now c.max.result c.max_load_factor-factor.result.0 items (c.max_load_factor-factor.ensures ∙ ap header_factor c.of-header.ensures) c.table_for.result made none.0
