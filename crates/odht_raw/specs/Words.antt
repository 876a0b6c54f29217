-- The words of the crates below that contracts, definitions and proofs of this crate name.
pub use Rattle.odht_base.specs.Bounds.{AreWithin, ends_within, group_of}
unfoldable pub use Rattle.odht_base.specs.Bounds.{first_longer}
pub use Rattle.odht_base.specs.Bytes.{bytes_at, overwritten_at}
pub use Rattle.odht_base.specs.Decoded.{controls_of, counts_as_free, decoded_cell, decoded_pairs, decoded_table, entries_of, header_count, header_factor, header_slots, key_at, slot_entry, slot_key, slot_value, value_at}
unfoldable pub use Rattle.odht_base.specs.Decoded.{decoded_cells}
pub use Rattle.odht_base.specs.Format.{entry_len, Format, format_of, home, IsFormat, tag}
pub use Rattle.odht_base.specs.Groups.{equal, first_free, free_in, GroupMatches, IsReport, late_free}
pub use Rattle.odht_base.specs.HashLaws.{num-lt, un-lt}
pub use Rattle.odht_base.specs.Image.{control_byte, entry_bytes, header_bytes, image_len, parts}
unfoldable pub use Rattle.odht_base.specs.Image.{controls, entries, image}
pub use Rattle.odht_base.specs.Insert.{place_all}
unfoldable pub use Rattle.odht_base.specs.Insert.{place}
pub use Rattle.odht_base.specs.Load.{factor_of, IsSlotCount, max_items, percent_of}
unfoldable pub use Rattle.odht_base.specs.Load.{is_power_of_two}
pub use Rattle.odht_base.specs.Made.{IsInsertOrder, IsMade, occupied}
pub use Rattle.odht_base.specs.Map.{map_of}
pub use Rattle.odht_base.specs.Numbers.{IsBytes, le_bytes, num}
pub use Rattle.odht_base.specs.Probe.{probe_slot}
unfoldable pub use Rattle.odht_base.specs.Probe.{order}
pub use Rattle.odht_base.specs.Ready.{IsReady, IsSoFar, IsStuck}
pub use Rattle.odht_base.specs.Search.{groups_read, is_at, search_order, stops_at}
unfoldable pub use Rattle.odht_base.specs.Search.{reach, search_end}
pub use Rattle.odht_base.specs.SlotWalks.{numbered, slots_from}
pub use Rattle.odht_base.specs.Table.{cell_at, Cells, count, empty, has_key, is_free, Pair, slot_count, Table, walk}
pub use Rattle.odht_base.specs.Valid.{HasPairsOf, HoldsPair, IsFullWithout, IsImage, IsPairOf, IsPartsOf, IsPlaced, IsReached, IsValid, IsValidBytes}
pub use Rattle.odht_base.specs.Writes.{tagged, tagged_at, with_count, with_entry, with_pair, with_tag, with_value}
pub use Rattle.odht_header.specs.Coding.{Coding, coding_of, encoded, value_for}
pub use Rattle.odht_header.specs.Refusals.{bad_free_control, check_refusal, checked, control_mismatch, count_refusal, differs, factor_refusal, first_of, first_slot, hashes_refusal_at, late_refusal, late_refusals, lists_differ, longer_refusal, mirror_refusal_at, non_zero_empty, padding_refusal, room_refusal, slot_refusal_at, unreachable, ◌gives◌}
unfoldable pub use Rattle.odht_header.specs.Refusals.{check_refusal_by, field_refusal, front_header_refusal, hashes_refusal, header_refusal, late_refusal_by, mirror_refusal, opening_refusal, prefix_refusal, reach_refusal, slots_refusal, view_refusal}
pub use Rattle.odht_header.specs.declared.error.Error.{Error}
pub use Rattle.odht_header.specs.declared.error.Error.TheVariants.{BadFreeControl, ControlMismatch, Full, MirrorMismatch, NonZeroEmpty, SearchTooLong, SlotCountNotPowerOfTwo, SlotCountTooSmall, TooShort, Unreachable, WrongLength, WrongSizeOf, WrongTag, WrongVersion}
