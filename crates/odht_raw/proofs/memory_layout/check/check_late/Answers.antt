use Rattle.std.proofs.Common.{rules, ◌≡◌, ◌∙◌, sym, ap, Err, None, is_some, option_map}
use Rattle.odht_raw.specs.Words.{checked, longer_refusal, mirror_refusal, Unreachable}
use Rattle.odht_header.proofs.lemmas.FirstErrors.{Ok-checked, Err-checked, not-false}
use Rattle.odht_raw.specs.DynParts.{parts_format}
use Rattle.odht_raw.proofs.lemmas.LateStages.{factor_stage, padding_stage, slots_stage, mirror_stage, count_stage, longer_stage, reach_stage}
use Rattle.odht_raw.proofs.memory_layout.check.check_late.Given.{Over}
use Rattle.odht_raw.proofs.memory_layout.check.check_late.Goals.{After-longer_refusal-longer, In_ok-check_mirror}
use Rattle.odht_raw.proofs.memory_layout.check.check_late.Goals as goal

-- the bound, told from the control bytes of the table
longer : (g : Over) (c : After-longer_refusal-longer g) → c.longer_refusal-longer.result ≡ longer_refusal c.args.table.now.parts.control c.args.groups
longer g c = c.longer_refusal-longer.ensures ∙ ap (λ b. longer_refusal b c.args.groups) c.controls-control.ensures.value

-- their mirror has passed
mirror : (g : Over) (c : In_ok-check_mirror g) → mirror_refusal c.args.table.now.parts.control ≡ None
mirror g c = ap mirror_refusal (sym c.controls-control.ensures.value) ∙ Ok-checked _ (sym c.in_ok-check_mirror.was ∙ c.check_mirror.ensures)

pub returns-in_err-check_load_factor : goal.returns-in_err-check_load_factor
returns-in_err-check_load_factor g c =
    let refusal : c.from_residual.result ≡ Err c.in_err-check_load_factor.field-0.0 = search rules in
    refusal ∙ sym (ap checked (factor_stage (parts_format c.args.table.now g.H.HashFn.hash) c.args.groups c.args.header.now _ (Err-checked _ c.in_err-check_load_factor.field-0.0 (sym c.in_err-check_load_factor.was ∙ c.check_load_factor.ensures))))

pub returns-in_err-check_padding : goal.returns-in_err-check_padding
returns-in_err-check_padding g c =
    let refusal : c.from_residual-in_err-check_padding.result ≡ Err c.in_err-check_padding.field-0.0 = search rules in
    refusal ∙ sym (ap checked (padding_stage (parts_format c.args.table.now g.H.HashFn.hash) c.args.groups c.args.header.now _ (Ok-checked _ (sym c.in_ok-check_load_factor.was ∙ c.check_load_factor.ensures)) (Err-checked _ c.in_err-check_padding.field-0.0 (sym c.in_err-check_padding.was ∙ c.check_padding.ensures))))

pub returns-in_err-summary : goal.returns-in_err-summary
returns-in_err-summary g c =
    let refusal : c.from_residual-in_err-summary.result ≡ Err c.in_err-summary.field-0.0 = search rules in
    refusal ∙ sym (ap checked (slots_stage (parts_format c.args.table.now g.H.HashFn.hash) c.args.groups c.args.header.now c.args.table.now.parts c.requires.entries c.requires.control (Ok-checked _ (sym c.in_ok-check_load_factor.was ∙ c.check_load_factor.ensures)) (Ok-checked _ (sym c.in_ok-check_padding.was ∙ c.check_padding.ensures)) _ (sym c.in_err-summary.ensures.err)))

pub returns-in_err-check_mirror : goal.returns-in_err-check_mirror
returns-in_err-check_mirror g c =
    let refusal : c.from_residual-in_err-check_mirror.result ≡ Err c.in_err-check_mirror.field-0.0 = search rules in
    refusal ∙ sym (ap checked (mirror_stage (parts_format c.args.table.now g.H.HashFn.hash) c.args.groups c.args.header.now c.args.table.now.parts c.requires.entries c.requires.control (Ok-checked _ (sym c.in_ok-check_load_factor.was ∙ c.check_load_factor.ensures)) (Ok-checked _ (sym c.in_ok-check_padding.was ∙ c.check_padding.ensures)) (sym c.in_ok-summary.ensures.err) _ (ap mirror_refusal (sym c.controls-control.ensures.value) ∙ Err-checked _ c.in_err-check_mirror.field-0.0 (sym c.in_err-check_mirror.was ∙ c.check_mirror.ensures))))

pub returns-in_err-check_item_count : goal.returns-in_err-check_item_count
returns-in_err-check_item_count g c =
    let refusal : c.from_residual-in_err-check_item_count.result ≡ Err c.in_err-check_item_count.field-0.0 = search rules in
    refusal ∙ sym (ap checked (count_stage (parts_format c.args.table.now g.H.HashFn.hash) c.args.groups c.args.header.now c.args.table.now.parts c.requires.entries c.requires.control (Ok-checked _ (sym c.in_ok-check_load_factor.was ∙ c.check_load_factor.ensures)) (Ok-checked _ (sym c.in_ok-check_padding.was ∙ c.check_padding.ensures)) (sym c.in_ok-summary.ensures.err) (mirror g (goal.at.returns-in_err-check_item_count g c).In_ok-check_mirror) c.in_ok-summary.summary.occupied c.in_ok-summary.ensures.occupied _ (Err-checked _ c.in_err-check_item_count.field-0.0 (sym c.in_err-check_item_count.was ∙ c.check_item_count.ensures))))

pub returns-in-Some : goal.returns-in-Some
returns-in-Some g c =
    let mirror = mirror g (goal.at.returns-in-Some g c).In_ok-check_mirror in
    sym (ap checked (longer_stage (parts_format c.args.table.now g.H.HashFn.hash) c.args.groups c.args.header.now c.args.table.now.parts c.requires.entries c.requires.control (Ok-checked _ (sym c.in_ok-check_load_factor.was ∙ c.check_load_factor.ensures)) (Ok-checked _ (sym c.in_ok-check_padding.was ∙ c.check_padding.ensures)) (sym c.in_ok-summary.ensures.err) mirror c.in_ok-summary.summary.occupied c.in_ok-summary.ensures.occupied
    (Ok-checked _ (sym c.in_ok-check_item_count.was ∙ c.check_item_count.ensures))
    c.in-Some.error (sym (longer g (goal.at.returns-in-Some g c).After-longer_refusal-longer) ∙ c.in-Some.is)))

pub returns-in-Some-unreachable : goal.returns-in-Some-unreachable
returns-in-Some-unreachable g c =
    let mirror = mirror g (goal.at.returns-in-Some-unreachable g c).In_ok-check_mirror in
    let none : c.longer_refusal-longer.result ≡ None = c.in_default.is in
    sym (ap checked (reach_stage (parts_format c.args.table.now g.H.HashFn.hash) c.args.groups c.args.header.now c.args.table.now.parts c.requires.entries c.requires.control (Ok-checked _ (sym c.in_ok-check_load_factor.was ∙ c.check_load_factor.ensures)) (Ok-checked _ (sym c.in_ok-check_padding.was ∙ c.check_padding.ensures)) (sym c.in_ok-summary.ensures.err) mirror c.in_ok-summary.summary.occupied c.in_ok-summary.ensures.occupied
    (Ok-checked _ (sym c.in_ok-check_item_count.was ∙ c.check_item_count.ensures))
    (sym (longer g (goal.at.returns-in-Some-unreachable g c).After-longer_refusal-longer) ∙ none)
    c.in_ok-summary.summary.unreachable (c.in_ok-summary.ensures.reached (not-false _ (sym c.is_none.ensures ∙ ap is_some none)) mirror) ∙ ap (option_map Unreachable) c.in-Some-unreachable.is))

pub returns-in-None : goal.returns-in-None
returns-in-None g c =
    let mirror = mirror g (goal.at.returns-in-None g c).In_ok-check_mirror in
    let none : c.longer_refusal-longer.result ≡ None = c.in_default.is in
    sym (ap checked (reach_stage (parts_format c.args.table.now g.H.HashFn.hash) c.args.groups c.args.header.now c.args.table.now.parts c.requires.entries c.requires.control (Ok-checked _ (sym c.in_ok-check_load_factor.was ∙ c.check_load_factor.ensures)) (Ok-checked _ (sym c.in_ok-check_padding.was ∙ c.check_padding.ensures)) (sym c.in_ok-summary.ensures.err) mirror c.in_ok-summary.summary.occupied c.in_ok-summary.ensures.occupied
    (Ok-checked _ (sym c.in_ok-check_item_count.was ∙ c.check_item_count.ensures))
    (sym (longer g (goal.at.returns-in-None g c).After-longer_refusal-longer) ∙ none)
    c.in_ok-summary.summary.unreachable (c.in_ok-summary.ensures.reached (not-false _ (sym c.is_none.ensures ∙ ap is_some none)) mirror) ∙ ap (option_map Unreachable) c.in-None.is))
