-- Worked examples: what `order` writes and returns.
use Rattle.std.proofs.Common.{◌≡◌, refl, [], ◌∷◌, Some, None, Err}
use Rattle.std.specs.Prelude.{codes}
use Rattle.std.specs.Fmt.{digits}
use Rattle.odht_base.proofs.examples.InsertOrders.{fifteen_first, fifteen_order}
use Rattle.odht_header.proofs.examples.Apart.{unequal_lists}
use Rattle.odht_header.proofs.examples.Opened.{opened}
use Rattle.odht_base.specs.Bounds.{first_longer}
use Rattle.odht_header.specs.declared.error.Error.TheVariants.{Unreachable}
use Rattle.odht_tool_reads.specs.Orders.{IsFileOrdered, IsOrderText, unmade_text}
use Rattle.odht_tool_core.specs.AnyShapes.{other_format}
use Rattle.odht_tool_core.specs.ReadyShapes.{shape_format}
use Rattle.odht_tool_core.specs.StoredTexts.{texts_of}
use Rattle.odht_tool_core.specs.declared.any.AnyShape.TheVariants.{Ready, Other}
use Rattle.odht_tool_core.specs.declared.failure.Failure.TheVariants.{Refused, Memory}
use Rattle.odht_tool_core.specs.declared.forms.Form.TheVariants.{Own}
use Rattle.odht_tool_core.specs.declared.forms.GivenForms.{GivenForms}
use Rattle.odht_tool_core.specs.declared.shapes.Hash.TheVariants.{Unhash}
use Rattle.odht_tool_core.specs.declared.generated.shapes.Shape.TheVariants.{DirectU32ToU32}
use Rattle.odht_tool_core.proofs.examples.Forms.{unsaid}
use Rattle.odht_tool_core.proofs.examples.FoundShapes.{other, other_bytes}
use Rattle.odht_tool_core.proofs.examples.Shapes.{one_bytes}

abbrev pub own : GivenForms
own = record { key = Own; value = Own }

-- the key whose home is slot 15 comes first, and the other is placed behind it, in slot 0
pub in_order : IsOrderText (shape_format DirectU32ToU32) (texts_of (Ready DirectU32ToU32) own) fifteen_first (codes "15\t15\n31\t31\n")
unfolding digits
in_order = (15 ∷ 0 ∷ [], fifteen_order, refl)

-- the line where there is no order
pub unmade : unmade_text (codes "a") ≡ codes "odht: a: no inserts make this table\n"
unmade = refl

-- without memory nothing is written
pub no_memory : IsFileOrdered one_bytes (Some Unhash) unsaid None (Some (codes "a")) (Some (codes "a")) (Err Memory)
unfolding opened first_longer digits
no_memory = refl

pub written_without_memory : IsFileOrdered one_bytes (Some Unhash) unsaid None (Some (codes "a")) (Some (codes "ab")) (Err Memory) → ⊥
unfolding opened first_longer digits
written_without_memory h = unequal_lists (codes "ab") (codes "a") refl h

-- the same in hexadecimal digits, as dynamic tables have them
pub in_hex : IsOrderText (other_format (other 4 4 Unhash)) (texts_of (Other (other 4 4 Unhash)) own) fifteen_first (codes "0f000000\t0f000000\n1f000000\t1f000000\n")
in_hex = (15 ∷ 0 ∷ [], fifteen_order, refl)

-- a table of keys of six and values of two bytes, in which a search does not reach slot 5
pub other_refused : IsFileOrdered other_bytes None unsaid None (Some (codes "a")) (Some (codes "a")) (Err (Refused (Unreachable 5)))
unfolding opened first_longer digits
other_refused = (refl, refl)

pub other_written_though_refused : IsFileOrdered other_bytes None unsaid None (Some (codes "a")) (Some (codes "ab")) (Err (Refused (Unreachable 5))) → ⊥
unfolding opened
other_written_though_refused h = unequal_lists (codes "ab") (codes "a") refl h.1
