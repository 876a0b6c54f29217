use Rattle.std.proofs.Common.{◌∙◌, Ok, sym, ap, if◌then◌else◌, slice_index}
use Rattle.odht_tool_core.specs.AnyShapes.{any_of_sizes}
use Rattle.odht_tool_core.specs.declared.any.AnyShape.TheVariants.{Ready}
use Rattle.odht_tool_core.specs.declared.shapes.Part.TheVariants.{Bytes}
use Rattle.odht_tool_core.specs.declared.generated.shapes.Shape.TheVariants.{U64ToU32}
use Rattle.odht_tool_core.proofs.any.named_any.Goals as goal

pub returns-then-has_early_refusal-clause-shape : goal.returns-then-has_early_refusal-clause-shape
returns-then-has_early_refusal-clause-shape c =
    let B = c.args.bytes.now in
    let fails = sym c.has_early_refusal.ensures.refused ∙ c.if-has_early_refusal.true in
    ap (λ t. if t then Ok (Ready U64ToU32) else any_of_sizes (Bytes (slice_index B 5)) (Bytes (slice_index B 6)) c.args.hash) (sym fails)
