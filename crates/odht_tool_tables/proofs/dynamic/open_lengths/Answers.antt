use Rattle.std.proofs.Common.{rules, ◌≡◌, None, sym, subst}
use Rattle.odht_base.specs.Format.{Format, format_of}
use Rattle.odht_header.specs.Refusals.{view_refusal}
use Rattle.odht_raw.specs.Frame.{IsAccepted}
use Rattle.odht_raw.proofs.lemmas.Openings.{view_refusal-accepted}
use Rattle.odht_tool_tables.proofs.dynamic.open_lengths.Goals as goal

pub open_unchecked-requires-clause-accepted : goal.open_unchecked-requires-clause-accepted
open_unchecked-requires-clause-accepted g c =
    let F : Format = format_of c.args.layout.key_len c.args.layout.value_len g.H.HashFn.hash in
    let passed : view_refusal F c.args.bytes.now ≡ None = search rules in
    subst (IsAccepted F) (sym c.new.ensures) (view_refusal-accepted F c.args.bytes.now passed)
