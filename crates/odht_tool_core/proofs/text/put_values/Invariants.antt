use Rattle.std.proofs.Common.{◌≡◌, ℕ, ◌<◌, length, get_or}
use Rattle.std.specs.Char.{is_ascii_hexdigit}
use Rattle.std.specs.List.{AllPass}
use Rattle.odht_tool_core.specs.Digits.{IsValueOf}
use Rattle.odht_tool_core.proofs.text.put_values.Given as goal

-- where all bytes so far are digits, their values are at their places
abbrev pub invariant-loop-at : goal.invariant-loop-at
invariant-loop-at l = record {
  long : length l.values ≡ 64;
  values : l.largest < 16 → (k : ℕ) → k < l.at → IsValueOf (get_or l.digits k 0) (get_or l.values k 0);
  other : AllPass is_ascii_hexdigit l.digits → l.largest < 16;
}
