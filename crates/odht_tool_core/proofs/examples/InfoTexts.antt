-- Worked examples: what `info` writes.
use Rattle.std.proofs.Common.{◌≡◌, ◌∙◌, ℕ, Bool, false, true, refl, List, [], ◌∷◌, ◌++◌, Option, Some, None, Ok, Err, map, set, replicate, take, drop, ap, ap₂}
use Rattle.std.specs.Prelude.{codes}
use Rattle.std.specs.Fmt.{digits}
use Rattle.odht_header.specs.declared.error.Error.TheVariants.{TooShort}
use Rattle.odht_header.proofs.examples.Apart.{unequal_lists}
use Rattle.odht_header.proofs.examples.Opened.{opened}
use Rattle.odht_tool_core.specs.Advice.{help_text, needs_whole, rebuilt_name}
use Rattle.odht_tool_core.specs.InfoNumbers.{tallies, largest, IsHistogram}
use Rattle.odht_tool_core.specs.InfoReports.{file_words, hash_field, help_with, info_as, info_report, line, number_line, percent_line, IsInfoDone}
use Rattle.odht_tool_core.specs.InfoTexts.{stretch_sign, aligned, bar, longer_mark, tallies_text, groups_words}
use Rattle.odht_tool_core.specs.Reports.{Told, field, report_as, report_text, said_number, value_json, value_text}
use Rattle.odht_tool_core.specs.Reports.Said.{groups, help, histogram, number, stretches, text}
use Rattle.odht_tool_core.specs.declared.advice.Advice.TheVariants.{LowerLoad, Mixing}
use Rattle.odht_tool_core.specs.declared.failure.Failure.TheVariants.{Refused, Memory}
use Rattle.odht_tool_core.specs.declared.numbers.Numbers.{Numbers}
use Rattle.odht_tool_core.specs.declared.shapes.Hash.TheVariants.{Fx, Unhash}
use Rattle.odht_tool_core.specs.declared.status.Status.TheVariants.{Done, NotDone}
use Rattle.odht_tool_core.proofs.examples.Shapes.{one_bytes}

-- a label, a number and what is behind it
pub lines : (report_text (number_line (codes "items") (codes "items         ") 120 ∷ []) ≡ codes "items         120\n")
    × (report_text (percent_line (codes "load_percent") (codes "load  ") 6 ∷ []) ≡ codes "load  6 percent\n")
unfolding digits
lines = (refl, refl)

-- spaces before a number, and none before one that is as long or longer
pub columns : (aligned 8 64 ≡ codes "      64") × (aligned 3 640 ≡ codes "640") × (aligned 2 640 ≡ codes "640")
unfolding digits aligned
columns = (refl, refl, refl)

-- forty signs for the largest count, rounded down for the others, and one at least
pub bars : (bar 5 5 ≡ replicate 40 35) × (bar 3 7 ≡ replicate 17 35) × (bar 1 1000 ≡ codes "#") × (bar 0 5 ≡ [])
unfolding bar
bars = (refl, refl, refl, refl)

-- a `+` at the 64 groups that are the last count, if some search reads more
pub marks : (longer_mark 65 64 ≡ codes "+") × (longer_mark 64 64 ≡ []) × (longer_mark 65 63 ≡ [])
marks = (refl, refl, refl)

-- two keys by one group, none by two, one by three
pub bars_of_counts : tallies_text (tallies (1 ∷ 3 ∷ 1 ∷ [])) 3 ≡ codes "       1             2  ########################################\n       2             0  \n       3             1  ####################\n"
unfolding tallies largest digits aligned bar
bars_of_counts = refl

-- no hash function, and one
pub hashes : (report_text (hash_field None ∷ []) ≡ codes "hash          none of fx, unhash and xxh64\n")
    × (report_text (hash_field (Some Fx) ∷ []) ≡ codes "hash          fx\n  groups         items\n")
hashes = (refl, refl)

-- what is above the bound is told as that
pub bounds : (groups_words 128 (Some 128) ≡ codes "128 groups") × (groups_words 129 (Some 128) ≡ codes "more than 128 groups") × (groups_words 129 None ≡ codes "129 groups")
unfolding digits
bounds = (refl, refl, refl)

-- the byte at which the table stands, where that is told, and the name, where the file is not the only one
pub places : (report_text (line (codes "at") (codes "at byte       ") (said_number None) (codes "\n") ∷ []) ≡ [])
    × (report_text (line (codes "at") (codes "at byte       ") (said_number (Some 4096)) (codes "\n") ∷ []) ≡ codes "at byte       4096\n")
    × (report_text (field (codes "file") (text (codes "a")) (file_words true) ∷ []) ≡ [])
    × (report_text (field (codes "file") (text (codes "a")) (file_words false) ∷ []) ≡ codes "file          a\n")
unfolding digits
places = (refl, refl, refl, refl)

-- of 64 slots: none is occupied, one, the first whole eighth, all but one, and all; the one slot of a stretch is occupied
pub stretch_signs : (map (stretch_sign 64) (0 ∷ 1 ∷ 7 ∷ 8 ∷ 63 ∷ 64 ∷ []) ≡ codes ".11289") × (map (stretch_sign 1) (0 ∷ 1 ∷ []) ≡ codes ".9")
stretch_signs = (refl, refl)

pub stretches_shown : value_text (stretches 128 (0 ∷ 1 ∷ 2 ∷ [])) ≡ codes ".59"
stretches_shown = refl

-- ---- all of a table
abbrev one : Numbers → Numbers
one n = record n {
  key_size = 4;
  value_size = 4;
  len = 192;
  item_count = 1;
  slot_count = 16;
  max_item_count = 1;
  load = 6;
  max_load = 7;
  hash = Some Unhash;
  bound = Some 128;
  longest_miss = 1;
  advice = None;
}

-- with these stretches and this histogram
abbrev one_report : Numbers → Option ℕ → List ℕ → List ℕ → ℕ → List Told
one_report n at slots counts longest =
    let told = info_report true at (codes "a") (one n) in
    take 11 told
    ++ (line (codes "along_slots") (codes "along slots   ") (stretches 16 slots) (codes "\n")
    ∷ hash_field (Some Unhash)
    ∷ field (codes "bound") (number 128) None
    ∷ line (codes "histogram") [] (histogram counts longest) []
    ∷ line (codes "longest_hit") (codes "longest hit   ") (groups longest (Some 128)) (codes "\n")
    ∷ drop 16 told)

known : (n : Numbers) (is_json : Bool) (at : Option ℕ) → IsHistogram (1 ∷ []) n.histogram → n.stretches.items ≡ set (replicate 16 0) 5 1
    → info_as is_json true at (codes "a") (one n) ≡ report_as is_json (one_report n at (set (replicate 16 0) 5 1) (tallies (1 ∷ [])) (largest (1 ∷ [])))
known n is_json at is along =
    ap (λ slots. report_as is_json (one_report n at slots n.histogram.counts.items n.histogram.longest)) along
    ∙ ap₂ (λ counts longest. report_as is_json (one_report n at (set (replicate 16 0) 5 1) counts longest)) is.counts is.longest

-- its lines
pub whole : (n : Numbers) → IsHistogram (1 ∷ []) n.histogram → n.stretches.items ≡ set (replicate 16 0) 5 1
    → info_as false true None (codes "a") (one n) ≡ codes "key bytes     4\nvalue bytes   4\nheader bytes  32\nall bytes     192\nitems         1\nslots         16\nmaximum       1\nload          6 percent\nmaximum load  7 percent\nalong slots   .....9..........\nhash          unhash\n  groups         items\n       1             1  ########################################\nlongest hit   1 groups\nlongest miss  1 groups\n"
unfolding tallies largest digits aligned bar
whole n is along = known n false None is along

-- and its object
pub object : (n : Numbers) → IsHistogram (1 ∷ []) n.histogram → n.stretches.items ≡ set (replicate 16 0) 5 1
    → info_as true true (Some 2) (codes "a") (one n) ≡ codes "{\"file\":\"a\",\"at\":2,\"key_bytes\":4,\"value_bytes\":4,\"header_bytes\":32,\"all_bytes\":192,\"items\":1,\"slots\":16,\"maximum\":1,\"load_percent\":6,\"maximum_load_percent\":7,\"along_slots\":[0,0,0,0,0,1,0,0,0,0,0,0,0,0,0,0],\"hash\":\"unhash\",\"bound\":128,\"histogram\":[1],\"longest_hit\":1,\"longest_miss\":1,\"may_help\":null}\n"
unfolding tallies largest digits
object n is along = known n true (Some 2) is along

-- ---- what helps
-- its line; from more than 128 groups on with `--whole`, and with FILE for a table inside a file, or on standard input
pub helps : (help_text LowerLoad (codes "a") false ≡ codes "a lower load: odht rebuild a --percent 50")
    × (help_text Mixing (codes "a") true ≡ codes "another hash function: odht rebuild a --hash xxh64 --whole")
    × (rebuilt_name None (codes "a") ≡ codes "a")
    × (rebuilt_name (Some 2) (codes "a") ≡ codes "FILE")
    × (rebuilt_name None (codes "-") ≡ codes "FILE")
helps = (refl, refl, refl, refl, refl)

pub whole_help : (n : Numbers) → (needs_whole (record n { longest_miss = 128 }) ≡ false) × (needs_whole (record n { longest_miss = 129 }) ≡ true)
whole_help n = (refl, refl)

-- and its string
pub help_strings : (value_json (help_with None (codes "a") true) ≡ codes "null")
    × (value_json (help Mixing (codes "a") false) ≡ codes "\"--hash xxh64\"")
    × (value_json (help LowerLoad (codes "a") true) ≡ codes "\"--percent 50 --whole\"")
help_strings = (refl, refl, refl)

-- ---- what a call did
-- bytes that do not open: their error, and nothing is written
pub refused : IsInfoDone (info_as false true None (codes "a")) (79 ∷ 68 ∷ []) None None (Some (codes "a")) (Some (codes "a")) (Err (Refused (TooShort 2)))
unfolding opened
refused = (refl, refl)

pub refused_late : IsInfoDone (info_as false true None (codes "a")) (79 ∷ 68 ∷ []) None None (Some (codes "a")) (Some (codes "ab")) (Err (Refused (TooShort 2))) → ⊥
refused_late h = unequal_lists (codes "ab") (codes "a") refl h.1

pub not_refused : IsInfoDone (info_as false true None (codes "a")) (79 ∷ 68 ∷ []) None None (Some (codes "a")) (Some (codes "ab")) (Ok Done) → ⊥
unfolding opened
not_refused h = cc (h.1.1.opens)

-- out of memory: nothing is written
pub no_memory : IsInfoDone (info_as false true None (codes "a")) one_bytes None None (Some (codes "a")) (Some (codes "a")) (Err Memory)
unfolding opened
no_memory = (refl, refl)

-- a text is written, and the status is `Done`
pub silent : IsInfoDone (info_as false true None (codes "a")) one_bytes None None (Some []) (Some []) (Ok Done) → ⊥
silent h = cc (h.1.2)

pub other_status : IsInfoDone (info_as false true None (codes "a")) one_bytes None None None None (Ok NotDone) → ⊥
other_status h = cc
