-- Worked examples: the bytes of a table of the direct shape, with one pair.
--     C                    the coding of this shape
use Rattle.std.proofs.Common.{◌≡◌, ◌∙◌, ◌≤◌, ℕ, refl, sym, subst, lit≤}
use Rattle.odht_base.specs.Format.{IsFormat}
use Rattle.odht_base.specs.HashLaws.{un-lt}
use Rattle.odht_base.specs.Table.{Table}
use Rattle.odht_base.specs.Valid.{IsImage}
use Rattle.odht_base.proofs.examples.Configs.{direct_config}
use Rattle.odht_base.proofs.lemmas.Image.{image-injective}
use Rattle.odht_base.proofs.lemmas.Placed.{IsPlaced-tests}
use Rattle.odht_header.specs.Coding.{Coding}
use Rattle.odht_header.proofs.examples.Opened.{opened}
use Rattle.odht_tool_core.specs.ReadyShapes.{shape_coding}
use Rattle.odht_tool_core.specs.declared.generated.shapes.Shape.TheVariants.{DirectU32ToU32}
use Rattle.odht_tool_core.proofs.examples.Shapes.{one_item, one_bytes}

abbrev pub C : Coding ℕ ℕ
C = shape_coding DirectU32ToU32

-- the bytes are those of this table alone
pub one_image : IsImage direct_config one_item one_bytes
unfolding opened
one_image = record {
  valid = record {
    placed = IsPlaced-tests direct_config one_item (record { power = refl; least = lit≤ tt }) refl refl;
    factor_low = lit≤ tt;
    factor_high = lit≤ tt;
    room = lit≤ tt;
  };
  bytes = refl;
}

direct_format : IsFormat direct_config
direct_format = record {
  key_short = lit≤ tt;
  value_short = lit≤ tt;
  hash_small = λ b is. un-lt b (subst (λ n. 4 ≤ n) (sym is.len) (lit≤ tt)) is.each;
}

pub same_table : (P : Table) → IsImage direct_config P one_bytes → one_item ≡ P
same_table P image = image-injective direct_config one_item P direct_format one_image.valid image.valid (sym one_image.bytes ∙ image.bytes)
