-- Reports: lists of names and values, and what is printed for them.
--     Said                 the value of a field: none, true or false, a number, a number of groups with their bound, a text,
--                          the number of occupied slots in each stretch of a table with so many slots, the counts of a
--                          histogram with the longest number of groups, or the command that helps a file
--     Wording              the words before and after a value in a text, and those written instead if there is no value or
--                          it is false
--     Told                 a field: its name, its value, and the words around it; only the object has a field without words
--     told f               the field f as such a record
--     value_json s         the value s in JSON: null if there is none
--     is_said s            there is a value, and it is not false
--     value_text s         the value s as a text; true and false are told only by the words around them
--     with_words w s       the text of s with the words w
--     report_object ts     the object of the fields ts
--     report_text ts       the texts of the fields ts, one after the other
--     report_among j ts    one report among several: the object if j, else the text
--     report_as j ts       one report: the object in one line if j, else the text
--     field, between, said_number    a field of these parts; the words around a value; the number, if there is one
use Rattle.std.specs.Prelude.{ℕ, Bool, true, false, List, [], ◌∷◌, ◌++◌, codes, decimal, flat_map, length, map, Option, Some, None, if◌then◌else◌}
use Rattle.std.specs.Option.{option_map}
use Rattle.odht_tool_core.specs.Advice.{help_text, options}
use Rattle.odht_tool_core.specs.InfoNumbers.{stretch_len}
use Rattle.odht_tool_core.specs.InfoTexts.{counts_array, groups_words, stretch_sign, tallies_text}
use Rattle.odht_tool_core.specs.Json.{json_object, json_string, truth}
use Rattle.odht_tool_core.specs.Refusals.{refusal_text}
use Rattle.odht_tool_core.specs.declared.advice.Advice.{Advice}
use Rattle.odht_tool_core.specs.declared.report.Field.{Field}
use Rattle.odht_tool_core.specs.declared.report.Value.{Value}
use Rattle.odht_tool_core.specs.declared.report.Value.TheVariants.{Absent, Truth, Number, Groups, Text, Refused, Stretches, Histogram, Help}
use Rattle.odht_tool_core.specs.declared.report.Words.{Words}

pub data Said : Type 0 where
  nothing : Said
  whether : Bool → Said
  number : ℕ → Said
  groups : ℕ → Option ℕ → Said
  text : List ℕ → Said
  stretches : ℕ → List ℕ → Said
  histogram : List ℕ → ℕ → Said
  help : Advice → List ℕ → Bool → Said

pub record Wording : Type 0 where
  pub before : List ℕ
  pub after : List ℕ
  pub otherwise : List ℕ

pub record Told : Type 0 where
  pub name : List ℕ
  pub said : Said
  pub words : Option Wording

-- ---- the fields of the program
abbrev pub said : Value → Said
said Absent = nothing
said (Truth b) = whether b
said (Number n) = number n
said (Groups count bound) = groups count bound
said (Text t) = text t.now
said (Refused error) = text (refusal_text error)
said (Stretches slot_count counts) = stretches slot_count counts.now
said (Histogram counts longest) = histogram counts.now longest
said (Help advice file is_whole) = help advice file.now is_whole

abbrev pub wording : Words → Wording
wording w = record {
  before = w.before.now;
  after = w.after.now;
  otherwise = w.otherwise.now;
}

abbrev pub told : Field → Told
told f = record {
  name = f.name.now;
  said = said f.value;
  words = option_map wording f.words;
}

-- ---- as JSON
abbrev pub value_json : Said → List ℕ
value_json nothing = codes "null"
value_json (whether b) = truth b
value_json (number n) = decimal n
value_json (groups n o) = decimal n
value_json (text t) = json_string t
value_json (stretches s cs) = counts_array cs (length cs)
value_json (histogram cs l) = counts_array cs l
value_json (help a name is_whole) = json_string (options a is_whole)

abbrev pub member : Told → List ℕ × List ℕ
member t = (t.name, value_json t.said)

abbrev pub report_object : List Told → List ℕ
report_object ts = json_object (map member ts)

-- ---- as a text
abbrev pub is_said : Said → Bool
is_said nothing = false
is_said (whether b) = b
is_said _ = true

abbrev pub value_text : Said → List ℕ
value_text nothing = []
value_text (whether b) = []
value_text (number n) = decimal n
value_text (groups n o) = groups_words n o
value_text (text t) = t
value_text (stretches s cs) = map (stretch_sign (stretch_len s)) cs
value_text (histogram cs l) = tallies_text cs l
value_text (help a name is_whole) = help_text a name is_whole

abbrev pub with_words : Wording → Said → List ℕ
with_words w s = if is_said s then w.before ++ (value_text s ++ w.after) else w.otherwise

abbrev pub worded : Option Wording → Said → List ℕ
worded None s = []
worded (Some w) s = with_words w s

abbrev pub told_text : Told → List ℕ
told_text t = worded t.words t.said

abbrev pub report_text : List Told → List ℕ
report_text ts = flat_map told_text ts

abbrev pub report_among : Bool → List Told → List ℕ
report_among is_json ts = if is_json then report_object ts else report_text ts

abbrev pub report_as : Bool → List Told → List ℕ
report_as is_json ts = if is_json then report_object ts ++ (10 ∷ []) else report_text ts

-- ---- parts of reports
abbrev pub field : List ℕ → Said → Option Wording → Told
field name s words = record { name = name; said = s; words = words }

-- a value with these words round it
abbrev pub between : List ℕ → List ℕ → Option Wording
between before after = Some (record { before = before; after = after; otherwise = [] })

-- the number, where there is one
abbrev pub said_number : Option ℕ → Said
said_number None = nothing
said_number (Some n) = number n
