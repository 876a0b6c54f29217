-- The report of `info`, of the numbers n of a table.
--     line name l s e      a field of this name, whose value s stands on a line behind the label l, and e behind it
--     help_said at name n  what helps the table, which stands at a byte of the file of this name where that is told
--     info_report o at name n  the report. The line of the file's name is left out where it is the only one, o
--     info_as j o at name n    what is written of it: an object of JSON with j
--     IsInfoDone t B o a old new r   `info` of the bytes B by the bound o and with the advice a, which took the writer from
--                          the bytes old to new and returned r, wrote the text t of the numbers of B; only opening, memory
--                          or the writer may have kept it from that
-- In JSON a number of groups that is above the bound is one more than the bound.
use Rattle.std.specs.Prelude.{◌≡◌, ℕ, Bool, List, [], ◌∷◌, codes, Option, Some, None, Result, Ok, Err, if◌then◌else◌}
use Rattle.std.specs.Io.KnownBytes.{Appends, Keeps}
use Rattle.odht_tool_core.specs.Advice.{needs_whole, rebuilt_name}
use Rattle.odht_tool_core.specs.AllNumbers.{AreNumbers}
use Rattle.odht_tool_core.specs.InfoNumbers.{info_refusal, IsInfoFailure}
use Rattle.odht_tool_core.specs.InfoTexts.{hash_name}
use Rattle.odht_tool_core.specs.Reports.{Said, Told, Wording, between, field, report_as, said_number}
use Rattle.odht_tool_core.specs.Reports.Said.{nothing, number, groups, text, stretches, histogram, help}
use Rattle.odht_tool_core.specs.declared.advice.Advice.{Advice}
use Rattle.odht_tool_core.specs.declared.failure.Failure.{Failure}
use Rattle.odht_tool_core.specs.declared.failure.Failure.TheVariants.{Output}
use Rattle.odht_tool_core.specs.declared.numbers.Numbers.{Numbers}
use Rattle.odht_tool_core.specs.declared.shapes.Hash.{Hash}
use Rattle.odht_tool_core.specs.declared.status.Status.{Status}
use Rattle.odht_tool_core.specs.declared.status.Status.TheVariants.{Done}

-- ---- fields
abbrev pub line : List ℕ → List ℕ → Said → List ℕ → Told
line name label s end = field name s (between label end)

abbrev pub number_line : List ℕ → List ℕ → ℕ → Told
number_line name label n = line name label (number n) (10 ∷ [])

abbrev pub percent_line : List ℕ → List ℕ → ℕ → Told
percent_line name label n = line name label (number n) (codes " percent\n")

abbrev pub file_words : Bool → Option Wording
file_words is_one = if is_one then None else between (codes "file          ") (10 ∷ [])

abbrev pub hash_said : Option Hash → Said
hash_said None = nothing
hash_said (Some h) = text (hash_name h)

-- the head of the histogram stands behind its line
abbrev pub hash_field : Option Hash → Told
hash_field h =
    field (codes "hash") (hash_said h) (Some (record {
      before = codes "hash          ";
      after = codes "\n  groups         items\n";
      otherwise = codes "hash          none of fx, unhash and xxh64\n";
    }))

abbrev pub hit_said : Option Hash → Option ℕ → ℕ → Said
hit_said None o l = nothing
hit_said (Some h) o l = groups l o

abbrev pub help_with : Option Advice → List ℕ → Bool → Said
help_with None name is_whole = nothing
help_with (Some a) name is_whole = help a name is_whole

abbrev pub help_said : Option ℕ → List ℕ → Numbers → Said
help_said at name n = help_with n.advice (rebuilt_name at name) (needs_whole n)

-- ---- the report
abbrev pub info_report : Bool → Option ℕ → List ℕ → Numbers → List Told
info_report is_one at name n =
    field (codes "file") (text name) (file_words is_one)
    ∷ line (codes "at") (codes "at byte       ") (said_number at) (10 ∷ [])
    ∷ number_line (codes "key_bytes") (codes "key bytes     ") n.key_size
    ∷ number_line (codes "value_bytes") (codes "value bytes   ") n.value_size
    ∷ number_line (codes "header_bytes") (codes "header bytes  ") 32
    ∷ number_line (codes "all_bytes") (codes "all bytes     ") n.len
    ∷ number_line (codes "items") (codes "items         ") n.item_count
    ∷ number_line (codes "slots") (codes "slots         ") n.slot_count
    ∷ number_line (codes "maximum") (codes "maximum       ") n.max_item_count
    ∷ percent_line (codes "load_percent") (codes "load          ") n.load
    ∷ percent_line (codes "maximum_load_percent") (codes "maximum load  ") n.max_load
    ∷ line (codes "along_slots") (codes "along slots   ") (stretches n.slot_count n.stretches.items) (10 ∷ [])
    ∷ hash_field n.hash
    ∷ field (codes "bound") (said_number n.bound) None
    ∷ line (codes "histogram") [] (histogram n.histogram.counts.items n.histogram.longest) []
    ∷ line (codes "longest_hit") (codes "longest hit   ") (hit_said n.hash n.bound n.histogram.longest) (10 ∷ [])
    ∷ line (codes "longest_miss") (codes "longest miss  ") (groups n.longest_miss n.bound) (10 ∷ [])
    ∷ line (codes "may_help") (codes "may help      ") (help_said at name n) (10 ∷ [])
    ∷ []

abbrev pub info_as : Bool → Bool → Option ℕ → List ℕ → Numbers → List ℕ
info_as is_json is_one at name n = report_as is_json (info_report is_one at name n)

abbrev pub IsInfoDone : (Numbers → List ℕ) → List ℕ → Option ℕ → Option Advice → Option (List ℕ) → Option (List ℕ) → Result Status Failure → Type 0
IsInfoDone t B o a old new (Ok status) = (status ≡ Done) × ((n : Numbers) × AreNumbers B o a n × Appends old new (t n))
IsInfoDone t B o a old new (Err (Output error)) = info_refusal B ≡ None
IsInfoDone t B o a old new (Err failure) = IsInfoFailure B failure × Keeps old new
