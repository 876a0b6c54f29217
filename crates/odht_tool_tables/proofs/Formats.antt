-- The format of a shape.
use Rattle.std.proofs.Common.{◌≡◌, refl}
use Rattle.odht_base.specs.Format.{format_of}
use Rattle.odht_tool_core.specs.AnyShapes.{any_format, any_hash, any_key, any_value}
use Rattle.odht_tool_core.specs.ReadyShapes.{hash_of, typed_len}
use Rattle.odht_tool_core.specs.declared.any.AnyShape.{AnyShape}
use Rattle.odht_tool_core.specs.declared.any.AnyShape.TheVariants.{Ready, Other}

-- the format of a shape is of its lengths and its hash function
pub format_is : (s : AnyShape) → format_of (typed_len (any_key s)) (typed_len (any_value s)) (hash_of (any_hash s)) ≡ any_format s
format_is (Ready s) = refl
format_is (Other o) = refl
