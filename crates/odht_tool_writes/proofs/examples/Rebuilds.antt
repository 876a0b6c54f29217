-- Worked examples: what `rebuild` makes of a file, and why it fails.
use Rattle.std.proofs.Common.{◌≡◌, refl, [], ◌∷◌, Some, None, Ok, Err, arith}
use Rattle.odht_base.specs.Bounds.{first_longer}
use Rattle.odht_base.specs.Bytes.{overwritten_at}
use Rattle.odht_base.specs.Format.{Format, format_of}
use Rattle.odht_base.specs.Hashes.{fx, un}
use Rattle.odht_base.specs.Image.{image}
use Rattle.odht_base.specs.Insert.{insert_owned}
use Rattle.odht_base.proofs.lemmas.FreeSlots.{fresh-IsValid}
use Rattle.odht_header.specs.declared.error.Error.TheVariants.{TooShort, SearchTooLong}
use Rattle.odht_header.proofs.examples.Opened.{opened}
use Rattle.odht.proofs.lemmas.ListInserts.{inserted_none}
use Rattle.odht_tool_writes.specs.Rebuilds.{IsNewFailure, IsRebuildFailure, IsRebuilt, new_hash, rebuild_refusal, rehashed}
use Rattle.odht_tool_writes.proofs.NewTables.{made_anew}
use Rattle.odht_tool_core.specs.ReadyShapes.{shape_format}
use Rattle.odht_tool_core.specs.declared.any.AnyShape.TheVariants.{Ready}
use Rattle.odht_tool_core.specs.declared.failure.Failure.TheVariants.{Refused, NoHash, ShortKeys}
use Rattle.odht_tool_core.specs.declared.shapes.Hash.TheVariants.{Fx, Unhash}
use Rattle.odht_tool_core.specs.declared.generated.shapes.Shape.TheVariants.{U32ToU32, DirectU32ToU32}
use Rattle.odht_tool_core.proofs.examples.Shapes.{one_bytes}
use Rattle.odht_tool_tables.proofs.examples.Openings.{made, start}

-- the hash function stays, or is another one, of other sizes too, unless keys are too short for it
pub hashes : (new_hash one_bytes (Ready DirectU32ToU32) None ≡ Ok Unhash)
    × (new_hash one_bytes (Ready DirectU32ToU32) (Some Fx) ≡ Ok Fx)
    × (new_hash (overwritten_at one_bytes 6 (0 ∷ [])) (Ready DirectU32ToU32) (Some Fx) ≡ Ok Fx)
    × (new_hash (overwritten_at one_bytes 5 (3 ∷ [])) (Ready DirectU32ToU32) (Some Unhash) ≡ Err (ShortKeys 3))
unfolding opened
hashes = (refl, refl, refl, refl)

pub other_format : rehashed (shape_format U32ToU32) Unhash ≡ shape_format DirectU32ToU32
other_format = refl

-- nothing fails before a new table is made; or a bound, no table, and tags that are those of no hash function
pub refusals : (rebuild_refusal one_bytes None (Some 128) ≡ None)
    × (rebuild_refusal one_bytes None (Some 0) ≡ Some (Refused (SearchTooLong 0 0)))
    × (rebuild_refusal (79 ∷ 68 ∷ []) None None ≡ Some (Refused (TooShort 2)))
    × (rebuild_refusal (overwritten_at one_bytes 165 (1 ∷ [])) None None ≡ Some (NoHash 4 4))
unfolding opened first_longer
refusals = (refl, refl, refl, refl)

-- then it is this failure
pub failed : IsRebuildFailure (79 ∷ 68 ∷ []) None None 87 (Refused (TooShort 2))
unfolding opened
failed = refl

-- a new table fails by keys that are too short, but not where they are long enough, nor by a rule of the format
pub too_short : IsNewFailure 4 (format_of 3 0 un) 9 87 (ShortKeys 3)
too_short = (omega arith, refl)

pub long_enough : IsNewFailure 0 (format_of 3 0 fx) 9 87 (ShortKeys 3) → ⊥
long_enough h = let low = h.0 in omega arith

pub other_rule : IsNewFailure 0 (format_of 3 0 fx) 9 87 (Refused (TooShort 2)) → ⊥
other_rule h = let both = h.0 in cc

-- ---- of no pairs the empty table is made
pub of_none : (F : Format) → IsRebuilt F 87 start (image F start)
of_none F =
    let valid = fresh-IsValid 0 87 start made F (omega arith) (omega arith) in
    made_anew F F 87 start start (image F start) valid.placed made (inserted_none F (insert_owned F) start (image F start) (record { valid = valid; bytes = refl }))
