-- The lemmas of std and of the crates below that proofs of this crate cite.
pub use Rattle.odht_base.proofs.lemmas.ByteRanges.{All-bytes_at, bytes_at-add, bytes_at-between, bytes_at-bytes_at, bytes_at-drop, bytes_at-take, bytes_at-take_front, drop-bytes_at, drop-overwritten_at, index-bytes_at, length-bytes_at, length-overwritten_at, overwritten_at-single, overwritten_at-twice, split_bytes_at, take-overwritten_at}
pub use Rattle.odht_base.proofs.lemmas.Counts.{free_cell}
pub use Rattle.odht_base.proofs.lemmas.DistinctKeys.{walk-IsPairOf}
pub use Rattle.odht_base.proofs.lemmas.FirstMatch.{find-None, find_is, find_none, position_none}
pub use Rattle.odht_base.proofs.lemmas.Fits.{HasLengths, HasLengths-HasPairsOf, HasLengths-IsPlaced, IsSized, IsSized-empty, IsSized-IsPlaced}
pub use Rattle.odht_base.proofs.lemmas.Grown.{place-IsInsert, slot_count-place_all}
pub use Rattle.odht_base.proofs.lemmas.Image.{controls_of-image, decoded_table-image, entries_of-image, header_count-image, header_factor-image, header_slots-image, image-empty, length-image}
pub use Rattle.odht_base.proofs.lemmas.InsertOrders.{order_if_all}
pub use Rattle.odht_base.proofs.lemmas.InsertRuns.{factor-run, run-append, run-push}
pub use Rattle.odht_base.proofs.lemmas.Keys.{cell_at-within, key_itself, key_pair, pair_key, same_bytes}
pub use Rattle.odht_base.proofs.lemmas.Lookups.{AllArrive-IsPlaced, map_of-search_end, search_end-at, search_end-nowhere}
pub use Rattle.odht_base.proofs.lemmas.MadeTables.{IsMade-IsInsertOrder, not_made_if_fewer}
pub use Rattle.odht_base.proofs.lemmas.MarkedPositions.{occupied-positions, positions_of, report_from_equal}
pub use Rattle.odht_base.proofs.lemmas.Numbers.{le_bytes-num_at, num-le_bytes}
pub use Rattle.odht_base.proofs.lemmas.OccupiedSlots.{contains_filter, length-occupied, occupied-apart, occupied-Contains}
pub use Rattle.odht_base.proofs.lemmas.Options.{and_then_some, some_same}
pub use Rattle.odht_base.proofs.lemmas.Orders.{find-order_some, get_or-order, length-order, order-IsPermutation, position-order, position-order_none, probe_slot-apart, probe_slot-group, probe_slot-lt, probe_slot-onto}
pub use Rattle.odht_base.proofs.lemmas.Pairs.{has_key-None, value_in-Some}
pub use Rattle.odht_base.proofs.lemmas.Parts.{counts_as_free-control_byte, decoded_cells-parts, length-controls, length-entries, length-header_bytes, slice_index-controls, slice_index-mirror, slot_entry-free, slot_key-entries, slot_value-entries}
pub use Rattle.odht_base.proofs.lemmas.PartsOf.{length-slot_entry, slot_within}
pub use Rattle.odht_base.proofs.lemmas.Pigeons.{contains_cases, IsApart, pigeons_fit}
pub use Rattle.odht_base.proofs.lemmas.Placed.{AllArrive, is_at-true, IsPlaced-AllArrive, IsPlaced-tests}
pub use Rattle.odht_base.proofs.lemmas.Places.{count-place, is_free-target, map_of-holds, place-at, place-IsPlaced, place-None, place-search_end, place-written, written, written_here, written_other}
pub use Rattle.odht_base.proofs.lemmas.ReadySlots.{contains_or_not, not_ready, stuck_if_none}
pub use Rattle.odht_base.proofs.lemmas.SearchEnds.{search_end-IsTarget}
pub use Rattle.odht_base.proofs.lemmas.SlotCounts.{bit_and-slots, exponent, few_slots, sixteens, slots_fit, slots_pos}
pub use Rattle.odht_base.proofs.lemmas.SlotWalks.{pairs-numbered}
pub use Rattle.odht_base.proofs.lemmas.SoFar.{so_far_none, so_far_push}
pub use Rattle.odht_base.proofs.lemmas.Writes.{controls-set_value, overwritten_at-entries, overwritten_at-entries_value, tagged-controls, with_count-append, with_count-header_bytes, with_entry-append, with_pair-append, with_tag-append, with_value-append}
pub use Rattle.odht_header.proofs.lemmas.FirstErrors.{checked-IsOk, differs-false, Err-checked, false-differs, false-lists_differ, first_slot-at, first_slot-None, gives-None, gives-Some, gives_both-None, IsOk-checked, last-first, lists_differ-false, None-first_slot, None-gives, None-gives_both, None-option_or, not-false, Ok-checked, option_or-first, option_or-None, option_or-second, two-first}
pub use Rattle.odht_header.proofs.lemmas.Formats.{IsFormat-format_of}
pub use Rattle.odht_header.proofs.lemmas.HeaderChecks.{first_of-behind, front_header_refusal-fields, header_refusal-fields, IsPassed}
pub use Rattle.odht_header.proofs.lemmas.HeaderFits.{IsOpening, IsOpening-opening_refusal, opening_refusal-IsOpening}
pub use Rattle.std.proofs.Math.Nat.{add-mod_left, add-mod_right, add-mul-mod_self_left, div-mul-le_self, div-mul_cancel, dvd-mul_right, le-min, min-le_left, min-le_right, mod-add-mod, mod-eq_of_lt, mod-lt, mod-mod_of_dvd, mul-le-mul_right, mul-mod_right, zero-mod}
pub use Rattle.std.proofs.Math.Seq.{take-add, take-append-add, take-append_seam}
pub use Rattle.std.proofs.lemmas.Bool.Decides.{eqb_tells}
pub use Rattle.std.proofs.lemmas.Bool.{and_parts, cases_eq, cases_lt, cases_order, false_from_ne_true, le-leb, leb-true, lt-leb, ltb-false, ltb-true, or_from, or_left, or_parts, or_right}
pub use Rattle.std.proofs.lemmas.List.Edits.{get_or-remove_below, swap_is}
pub use Rattle.std.proofs.lemmas.List.Elements.{All-append, All-cons, All-contains, All-drop, All-filter, All-from_get_or, All-head, All-nil, All-replicate, All-set, All-tail, All-take, Contains-append_cases, Contains-append_left, Contains-append_right, Contains-get_or, filter-append, filter_map-append, filter_passes}
pub use Rattle.std.proofs.lemmas.List.Folds.{flat_map-map, list_any_at, list_any_none}
pub use Rattle.std.proofs.lemmas.List.FromFn.{get_or-map-range_with_len, get_or-range_with_len, length-map-range_with_len, length-range_with_len, map-range_with_len_more}
pub use Rattle.std.proofs.lemmas.List.Kept.{AllPairs-cons, AllPairs-filter, AllPairs-from_increasing}
pub use Rattle.std.proofs.lemmas.List.Quantifiers.{position-Some}
pub use Rattle.std.proofs.lemmas.List.Sorted.{Contains-permutation, IsNonDecreasingBy-from_default, IsNonDecreasingBy-from_sort, IsPartitionedBy-ltb, IsPermutation-append_comm, IsPermutation-append_right, IsPermutation-filter_both, IsPermutation-map, IsPermutation-put_mid, IsPermutation-refl, IsPermutation-remove, IsPermutation-sym, IsPermutation-trans, length_permutation}
pub use Rattle.std.proofs.lemmas.List.Sums.{fails_before_first}
pub use Rattle.std.proofs.lemmas.List.{append-nil, append_assoc, drop-append-le, drop-drop, drop-map, drop-set-lt, drop-take, drop_all, drop_at, drop_more, ext_get_or, get_or-append-add, get_or-append_right, get_or-drop, get_or-map, get_or-replicate, get_or-set_other, get_or-set_same, get_or-take, get_or_append_left, get_or_default, length-append, length-drop, length-map, length-replicate, length-set, length-take, length-take-le, length_push, map-append, map-set, nil_from_length, replicate-append-replicate, set-get_or, take-append-drop, take-append-le, take-map, take-take, take_all, take_at, take_more, take_more_set, take_rest}
pub use Rattle.std.proofs.lemmas.Nat.Gcd.{dvd_of_mod-eq-zero, le_of_dvd}
pub use Rattle.std.proofs.lemmas.Nat.{mod_low}
pub use Rattle.std.proofs.lemmas.Option.{none-some, same_Some, slice_get-get_or, slice_get-map}
pub use Rattle.std.proofs.lemmas.Result.{err_from_is_err_and}
pub use Rattle.std.proofs.lemmas.Simd.{map-map}
pub use Rattle.std.proofs.lemmas.Slice.Zip.{get_or-zip, length-zip}
