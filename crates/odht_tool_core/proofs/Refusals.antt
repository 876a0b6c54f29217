-- What has no error where opening has none.
use Rattle.std.proofs.Common.{◌≡◌, ℕ, List, Option, Some, None, length, slice_index, nat_lt, refl}
use Rattle.std.specs.Option.{option_or}
use Rattle.odht_header.specs.Refusals.{◌gives◌, tag_refusal, version_refusal, wrong_size, header_refusal, opening_refusal}
use Rattle.odht_header.specs.declared.error.Error.{Error}
use Rattle.odht_header.specs.declared.error.Error.TheVariants.{TooShort}
use Rattle.odht_header.specs.declared.error.Part.TheVariants.{EntryMetadata, EncodedKey}
use Rattle.odht_tool_core.specs.InfoNumbers.{info_refusal}
use Rattle.odht_tool_core.specs.ReadyShapes.{early_refusal}

-- where opening has no error, there is none before it comes to the sizes of keys and values
pub early_passes : (B : List ℕ) → info_refusal B ≡ None → early_refusal B ≡ None
unfolding opening_refusal header_refusal
early_passes B = firsts (nat_lt (length B) 32 gives TooShort (length B)) (tag_refusal B) (version_refusal B) (wrong_size B 4 EntryMetadata 1) (option_or (wrong_size B 5 EncodedKey (slice_index B 5)) _)
  where
    firsts : (a t v m r : Option Error) → option_or a (option_or t (option_or v (option_or m r))) ≡ None → option_or a (option_or t (option_or v (option_or m None))) ≡ None
    firsts None None None None r e = refl
    firsts None None None (Some x) r e = cc
    firsts None None (Some x) m r e = cc
    firsts None (Some x) v m r e = cc
    firsts (Some x) t v m r e = cc
