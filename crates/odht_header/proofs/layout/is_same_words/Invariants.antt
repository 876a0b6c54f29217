use Rattle.std.proofs.Common.{◌≡◌, ◌-◌, ◌≤◌}
use Rattle.odht_base.specs.Bytes.{bytes_at}
use Rattle.odht_header.proofs.layout.is_same_words.Given as goal

-- the words so far are the same
abbrev pub invariant-words : goal.invariant-words
invariant-words l = record {
  same : bytes_at l.left 0 l.at ≡ bytes_at l.right 0 l.at;
  within : l.at ≤ l.len;
}

abbrev pub decreases-words : goal.decreases-words
decreases-words l = l.len - l.at
