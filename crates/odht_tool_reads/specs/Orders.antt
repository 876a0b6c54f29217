-- What `order` does with the bytes B of a file.
--     stored_at F B i      the pair of the entry of slot i, as the format F has it
--     unmade_text file     the line on standard error where no inserts make the table
--     IsOrderText F t P text       the text is the lines, by the texts t, of the pairs of the table P of the format F in some
--                          insert order of it
--     IsOrderTold F t P old new status     where inserts make P such a text was written, which took the writer from the bytes
--                          old to new, and the status is Done; where none do nothing was, and it is NotDone
--     IsOrdered F t B old new r    what `order` returns, r, and writes for valid bytes of the format F; without memory nothing
--     IsFileOrdered B h ks o old new r     the same of the bytes of a file, where the hash function h, or none, is named, and
--                          ks is said of keys and values; but the first rule that they break, by the bound o, is a failure
use Rattle.std.specs.Prelude.{◌≡◌, ℕ, List, ◌++◌, codes, Option, Result, Ok, Err, MatchResult}
use Rattle.std.specs.Io.KnownBytes.{Appends, Keeps}
use Rattle.odht.specs.Tables.{OfTable}
use Rattle.odht_base.specs.Decoded.{key_at, value_at}
use Rattle.odht_base.specs.Format.{Format}
use Rattle.odht_base.specs.Made.{pairs_of, IsMade, IsInsertOrder}
use Rattle.odht_base.specs.Table.{Pair, Table}
use Rattle.odht_tool_tables.specs.Wholes.{whole_any}
use Rattle.odht_tool_core.specs.AnyShapes.{any_format}
use Rattle.odht_tool_core.specs.StoredTexts.{lines_of, texts_of}
use Rattle.odht_tool_core.specs.declared.any.AnyShape.{AnyShape}
use Rattle.odht_tool_core.specs.declared.failure.Failure.{Failure}
use Rattle.odht_tool_core.specs.declared.failure.Failure.TheVariants.{Output, Memory}
use Rattle.odht_tool_core.specs.declared.forms.GivenForms.{GivenForms}
use Rattle.odht_tool_core.specs.declared.forms.Kinds.{Kinds}
use Rattle.odht_tool_core.specs.declared.shapes.Hash.{Hash}
use Rattle.odht_tool_core.specs.declared.status.Status.{Status}
use Rattle.odht_tool_core.specs.declared.status.Status.TheVariants.{Done, NotDone}
use Rattle.odht_tool_core.specs.declared.typed.Texts.{Texts}

abbrev pub stored_at : Format → List ℕ → ℕ → Pair
stored_at F B i = record { key = key_at F B i; value = value_at F B i }

abbrev pub unmade_text : List ℕ → List ℕ
unmade_text file = codes "odht: " ++ (file ++ codes ": no inserts make this table\n")

module _ (F : Format) (t : Texts) where
  abbrev pub IsOrderText : Table → List ℕ → Type 0
  IsOrderText P text = (order : List ℕ) × IsInsertOrder F P order × (text ≡ lines_of t (pairs_of P order))

  abbrev pub IsOrderTold : Table → Option (List ℕ) → Option (List ℕ) → Status → Type 0
  IsOrderTold P old new Done = (text : List ℕ) × IsOrderText P text × Appends old new text
  IsOrderTold P old new NotDone = (IsMade F P → ⊥) × Keeps old new
  IsOrderTold P old new _ = ⊥

  abbrev pub IsOrdered : List ℕ → Option (List ℕ) → Option (List ℕ) → Result Status Failure → Type 0
  IsOrdered B old new (Ok status) = OfTable F B (λ P. IsOrderTold P old new status)
  IsOrdered B old new (Err Memory) = Keeps old new
  IsOrdered B old new (Err (Output error)) = OfTable F B (λ P. (text : List ℕ) × IsOrderText P text)
  IsOrdered B old new (Err _) = ⊥

-- ---- of a file
abbrev pub order_of_forms : List ℕ → Option (List ℕ) → Option (List ℕ) → Result Status Failure → AnyShape × GivenForms → Type 0
order_of_forms B old new r x = IsOrdered (any_format x.0) (texts_of x.0 x.1) B old new r

abbrev pub IsFileOrdered : List ℕ → Option Hash → Kinds → Option ℕ → Option (List ℕ) → Option (List ℕ) → Result Status Failure → Type 0
IsFileOrdered B h ks o old new r = MatchResult (whole_any B h ks o) (order_of_forms B old new r) (λ failure. (r ≡ Err failure) × Keeps old new)
