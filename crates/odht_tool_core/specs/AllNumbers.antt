-- All numbers that `info` reports of the bytes B of a table.
--     AreNumbers B o a n   n are the numbers of B, those of groups by the bound o, with the advice a
use Rattle.std.specs.Prelude.{◌≡◌, ℕ, ◌*◌, ◌/◌, List, length, slice_index, Option, None}
use Rattle.odht_base.specs.Decoded.{header_count, header_slots, header_factor}
use Rattle.odht_base.specs.Load.{max_items}
use Rattle.odht_tool_core.specs.AnyShapes.{read_hash}
use Rattle.odht_tool_core.specs.InfoNumbers.{file_parts, groups_by, info_refusal, longest_miss, nearest_percent, stretch_counts, IsHistogram}
use Rattle.odht_tool_core.specs.declared.advice.Advice.{Advice}
use Rattle.odht_tool_core.specs.declared.numbers.Numbers.{Numbers}

pub record AreNumbers (B : List ℕ) (o : Option ℕ) (a : Option Advice) (n : Numbers) : Type 0 where
  pub opens : info_refusal B ≡ None
  pub key_size : n.key_size ≡ slice_index B 5
  pub value_size : n.value_size ≡ slice_index B 6
  pub len : n.len ≡ length B
  pub items : n.item_count ≡ header_count B
  pub slots : n.slot_count ≡ header_slots B
  pub maximum : n.max_item_count ≡ max_items (header_slots B) (header_factor B)
  pub load : n.load ≡ header_count B * 100 / header_slots B
  pub max_load : n.max_load ≡ nearest_percent (header_factor B)
  pub stretches : n.stretches.items ≡ stretch_counts (file_parts B)
  pub hash : n.hash ≡ read_hash B
  pub bound : n.bound ≡ o
  pub histogram : IsHistogram (groups_by (file_parts B) n.hash o) n.histogram
  pub miss : n.longest_miss ≡ longest_miss (file_parts B) o
  pub advice : n.advice ≡ a
