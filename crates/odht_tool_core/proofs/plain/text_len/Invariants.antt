use Rattle.std.proofs.Common.{◌≡◌, ◌+◌, ◌≤◌, length, take}
use Rattle.std.specs.List.{suffix_len}
use Rattle.odht_tool_core.specs.PlainTexts.{is_zero}
use Rattle.odht_tool_core.proofs.plain.text_len.Given as goal

-- the bytes that were passed are zeros: those at the end are they and those at the end of what is left
abbrev pub invariant-loop-count : goal.invariant-loop-count
invariant-loop-count l = record {
  inside : l.count ≤ length l.bytes;
  zeros : suffix_len is_zero l.bytes + l.count ≡ length l.bytes + suffix_len is_zero (take l.count l.bytes);
}

abbrev pub decreases-loop-count : goal.decreases-loop-count
decreases-loop-count l = l.count
