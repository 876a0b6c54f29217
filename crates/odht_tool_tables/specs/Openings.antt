-- Bytes that are opened as a table.
--     IsOpenFailure o f    the failure f is that of opening, whose error is o
--     FitTexts t F B       B is the image of a valid table of the format F, whose keys and values are as long as the texts t
--                          say
use Rattle.std.specs.Prelude.{◌≡◌, ℕ, List, Option, Some}
use Rattle.odht_base.specs.Format.{Format}
use Rattle.odht_base.specs.Valid.{IsValidBytes}
use Rattle.odht_header.specs.declared.error.Error.{Error}
use Rattle.odht_tool_core.specs.ReadyShapes.{typed_len}
use Rattle.odht_tool_core.specs.declared.failure.Failure.{Failure}
use Rattle.odht_tool_core.specs.declared.failure.Failure.TheVariants.{Refused}
use Rattle.odht_tool_core.specs.declared.typed.Texts.{Texts}

abbrev pub IsOpenFailure : Option Error → Failure → Type 0
IsOpenFailure o (Refused error) = o ≡ Some error
IsOpenFailure o _ = ⊥

pub record FitTexts (t : Texts) (F : Format) (B : List ℕ) : Type 0 where
  pub valid : IsValidBytes F B
  pub key : F.key_len ≡ typed_len t.key
  pub value : F.value_len ≡ typed_len t.value
