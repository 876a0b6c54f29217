-- The commands of the program and their options. Generated from lists/commands.txt by make generate.
--     command_name t       the name of the command t
--     commands             all commands, in the order of the help text
--     option_name s        the name of the option s
--     options_of t         the options that the command t has
use Rattle.std.specs.Prelude.{ℕ, List, [], ◌∷◌, codes}
use Rattle.odht_tool_core.specs.declared.generated.topics.Setting.{Setting}
use Rattle.odht_tool_core.specs.declared.generated.topics.Setting.TheVariants.{Help, Slots, Values, Json, Null, Check as WithCheck, Whole, Progress, BreakLinks, Force, CheckOnly, At, Hash, Key, Value, Duplicates, Delimiter, Percent, Capacity}
use Rattle.odht_tool_core.specs.declared.generated.topics.Topic.{Topic}
use Rattle.odht_tool_core.specs.declared.generated.topics.Topic.TheVariants.{Info, Check, Count, Get, Dump, Keys, Find, Order, Diff, Build, Put, Delete, Rebuild, Merge}

abbrev pub command_name : Topic → List ℕ
command_name Info = codes "info"
command_name Check = codes "check"
command_name Count = codes "count"
command_name Get = codes "get"
command_name Dump = codes "dump"
command_name Keys = codes "keys"
command_name Find = codes "find"
command_name Order = codes "order"
command_name Diff = codes "diff"
command_name Build = codes "build"
command_name Put = codes "put"
command_name Delete = codes "delete"
command_name Rebuild = codes "rebuild"
command_name Merge = codes "merge"

abbrev pub commands : List Topic
commands = Info ∷ Check ∷ Count ∷ Get ∷ Dump ∷ Keys ∷ Find ∷ Order ∷ Diff ∷ Build ∷ Put ∷ Delete ∷ Rebuild ∷ Merge ∷ []

abbrev pub option_name : Setting → List ℕ
option_name Help = codes "--help"
option_name Slots = codes "--slots"
option_name Values = codes "--values"
option_name Json = codes "--json"
option_name Null = codes "--null"
option_name WithCheck = codes "--check"
option_name Whole = codes "--whole"
option_name Progress = codes "--progress"
option_name BreakLinks = codes "--break-links"
option_name Force = codes "--force"
option_name CheckOnly = codes "--check-only"
option_name At = codes "--at"
option_name Hash = codes "--hash"
option_name Key = codes "--key"
option_name Value = codes "--value"
option_name Duplicates = codes "--duplicates"
option_name Delimiter = codes "--delimiter"
option_name Percent = codes "--percent"
option_name Capacity = codes "--capacity"

abbrev pub options_of : Topic → List Setting
options_of Info = Help ∷ Whole ∷ Json ∷ At ∷ []
options_of Check = Help ∷ Whole ∷ Json ∷ Hash ∷ At ∷ []
options_of Count = Help ∷ WithCheck ∷ Whole ∷ Hash ∷ At ∷ []
options_of Get = Help ∷ Values ∷ Json ∷ Null ∷ Key ∷ Value ∷ Whole ∷ Hash ∷ At ∷ []
options_of Dump = Help ∷ Slots ∷ Values ∷ Json ∷ Null ∷ Key ∷ Value ∷ Whole ∷ Hash ∷ At ∷ []
options_of Keys = Help ∷ Json ∷ Null ∷ Key ∷ Hash ∷ At ∷ []
options_of Find = Help ∷ Whole ∷ Json ∷ []
options_of Order = Help ∷ Whole ∷ Key ∷ Value ∷ Hash ∷ At ∷ []
options_of Diff = Help ∷ Whole ∷ Key ∷ Value ∷ Hash ∷ []
options_of Build = Help ∷ Key ∷ Value ∷ Duplicates ∷ Delimiter ∷ Null ∷ CheckOnly ∷ Hash ∷ Percent ∷ Capacity ∷ Progress ∷ BreakLinks ∷ Force ∷ []
options_of Put = Help ∷ Duplicates ∷ Delimiter ∷ Null ∷ Key ∷ Value ∷ Whole ∷ Hash ∷ Progress ∷ BreakLinks ∷ []
options_of Delete = Help ∷ Null ∷ Key ∷ Whole ∷ Hash ∷ Progress ∷ BreakLinks ∷ []
options_of Rebuild = Help ∷ Percent ∷ Whole ∷ Hash ∷ Progress ∷ BreakLinks ∷ []
options_of Merge = Help ∷ Duplicates ∷ Key ∷ Value ∷ Whole ∷ Hash ∷ Percent ∷ Progress ∷ BreakLinks ∷ Force ∷ []
