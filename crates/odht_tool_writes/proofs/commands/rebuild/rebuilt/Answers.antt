use Rattle.std.proofs.Common.{◌≡◌, ◌∙◌, sym, ap, subst, subst₂, None, Ok}
use Rattle.std.specs.Prelude.{IfErr, IfOk, OnOk}
use Rattle.odht_base.specs.Decoded.{header_count}
use Rattle.odht_base.specs.Valid.{IsImage, IsValidBytes}
use Rattle.odht_header.specs.Refusals.{check_refusal_by}
use Rattle.odht_header.proofs.lemmas.FirstErrors.{Ok-checked}
use Rattle.odht_tool_writes.specs.Rebuilds.{IsNewFailure, IsRebuildFailure, IsRebuiltOf, new_hash, rehashed}
use Rattle.odht_tool_writes.proofs.NewTables.{late_failure, long_valid, on_failure, on_value}
use Rattle.odht_tool_core.specs.AnyShapes.{any_format, found_any}
use Rattle.odht_tool_core.specs.InfoNumbers.{least_key_len}
use Rattle.odht_tool_core.specs.Percents.{new_percent}
use Rattle.odht_tool_writes.proofs.commands.rebuild.rebuilt.Goals as goal

pub new_percent-percent-requires : goal.new_percent-percent-requires
new_percent-percent-requires g c =
    let B = c.as_slice-bytes.result.now in
    let F = any_format c.in_ok-shape.shape in
    long_valid F B (subst (λ r. OnOk r (IsValidBytes F B)) c.in-Ok.is c.check_any.ensures.valid)

pub returns-in-Ok-clause-ok : goal.returns-in-Ok-clause-ok
returns-in-Ok-clause-ok g c =
    let B = c.args.bytes.items in
    let s = c.in_ok-shape.shape in
    let t = c.in_ok-hash.hash in
    let bytes = c.as_slice-bytes.ensures.value in
    let found : found_any B None ≡ Ok s = ap (λ b. found_any b None) (sym bytes) ∙ sym c.found_any.ensures.shape ∙ c.in_ok-shape.was in
    let named : new_hash B s c.args.options.hash ≡ Ok t = ap (λ b. new_hash b s c.args.options.hash) (sym bytes) ∙ sym c.new_hash.ensures ∙ c.in_ok-hash.was in
    let checked : check_refusal_by (any_format s) c.args.options.bound B ≡ None =
    ap (check_refusal_by (any_format s) c.args.options.bound) (sym bytes) ∙ Ok-checked _ (sym c.in-Ok.is ∙ c.check_any.ensures.first) in
    let valid : IsValidBytes (any_format s) c.as_slice-bytes.result.now = subst (λ r. OnOk r (IsValidBytes (any_format s) c.as_slice-bytes.result.now)) c.in-Ok.is c.check_any.ensures.valid in
    let image : IsImage (any_format s) valid.0 B = subst (IsImage (any_format s) valid.0) bytes valid.1 in
    let percent : c.new_percent-percent.result ≡ new_percent B c.args.options.percent = c.new_percent-percent.ensures ∙ ap (λ b. new_percent b c.args.options.percent) bytes in
    subst (λ p. IfOk c.rebuilt_for.result (λ new. IsRebuiltOf B c.args.options.hash c.args.options.bound p new.items)) percent
    (on_value c.rebuilt_for.result _ _
    (λ new rebuilt. record {
      shape = s;
      found = found;
      hash = t;
      named = named;
      checked = checked;
      table = valid.0;
      image = image;
      rebuilt = rebuilt;
    }) (c.rebuilt_for.ensures.ok valid.0 valid.1))

pub returns-in-Ok-clause-err : goal.returns-in-Ok-clause-err
returns-in-Ok-clause-err g c =
    let B = c.args.bytes.items in
    let s = c.in_ok-shape.shape in
    let t = c.in_ok-hash.hash in
    let bytes = c.as_slice-bytes.ensures.value in
    let found : found_any B None ≡ Ok s = ap (λ b. found_any b None) (sym bytes) ∙ sym c.found_any.ensures.shape ∙ c.in_ok-shape.was in
    let named : new_hash B s c.args.options.hash ≡ Ok t = ap (λ b. new_hash b s c.args.options.hash) (sym bytes) ∙ sym c.new_hash.ensures ∙ c.in_ok-hash.was in
    let checked : check_refusal_by (any_format s) c.args.options.bound B ≡ None =
    ap (check_refusal_by (any_format s) c.args.options.bound) (sym bytes) ∙ Ok-checked _ (sym c.in-Ok.is ∙ c.check_any.ensures.first) in
    let p = new_percent B c.args.options.percent in
    let percent : c.new_percent-percent.result ≡ p = c.new_percent-percent.ensures ∙ ap (λ b. new_percent b c.args.options.percent) bytes in
    on_failure c.rebuilt_for.result
    (IsNewFailure (least_key_len t) (rehashed (any_format s) t) (header_count B) p)
    (IsRebuildFailure B c.args.options.hash c.args.options.bound p)
    (late_failure B c.args.options.hash c.args.options.bound p s t found named checked)
    (subst₂ (λ b q. IfErr c.rebuilt_for.result (IsNewFailure (least_key_len t) (rehashed (any_format s) t) (header_count b) q)) bytes percent c.rebuilt_for.ensures.err)
