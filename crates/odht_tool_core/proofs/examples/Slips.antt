-- Words that one slip makes of each other, and commands and options that are found by their names.
use Rattle.std.proofs.Common.{◌≡◌, true, false, [], refl}
use Rattle.std.specs.Prelude.{Some, None, codes, find, bytes_eq}
use Rattle.odht_tool_core.specs.Asking.{asking_name, asking_words, meant}
use Rattle.odht_tool_core.specs.generated.Commands.{command_name, commands, option_name, options_of}
use Rattle.odht_tool_core.specs.Near.{is_near, is_without, is_replaced, is_swapped}
use Rattle.odht_tool_core.specs.declared.arguments.asking.Asking.TheVariants.{Help, Version}
use Rattle.odht_tool_core.specs.declared.generated.topics.Setting.TheVariants.{Slots, Hash}
use Rattle.odht_tool_core.specs.declared.generated.topics.Topic.TheVariants.{Check, Dump, Find, Info}

-- a byte left out, at the end and in the midst, and one too many
pub left_out : (is_near (codes "inf") (codes "info") ≡ true) × (is_near (codes "dmp") (codes "dump") ≡ true) × (is_near (codes "gett") (codes "get") ≡ true)
left_out = (refl, refl, refl)

-- another byte, and two that have changed places
pub changed : (is_near (codes "cheek") (codes "check") ≡ true) × (is_near (codes "ptu") (codes "put") ≡ true)
changed = (refl, refl)

-- two slips are too many, also where each is at an end
pub far : (is_near (codes "tup") (codes "put") ≡ false) × (is_near (codes "nf") (codes "info") ≡ false) × (is_near (codes "iinfoo") (codes "info") ≡ false)
far = (refl, refl, refl)

-- of nothing one byte is made, and no two
pub of_nothing : (is_near [] (codes "x") ≡ true) × (is_near [] (codes "xy") ≡ false) × (is_near [] [] ≡ false)
of_nothing = (refl, refl, refl)

-- which slip it is, and where
pub places : (is_without 3 (codes "dumps") (codes "dump") ≡ false) × (is_without 4 (codes "dumps") (codes "dump") ≡ true) × (is_replaced 2 (codes "cheek") (codes "check") ≡ false) × (is_replaced 3 (codes "cheek") (codes "check") ≡ true) × (is_swapped 1 (codes "ptu") (codes "put") ≡ true)
places = (refl, refl, refl, refl, refl)

-- the command of a name, and the one that is near to a word
pub commands_found : (find (λ t. bytes_eq (command_name t) (codes "find")) commands ≡ Some Find) × (find (λ t. bytes_eq (command_name t) (codes "fin")) commands ≡ None)
    × (find (λ t. is_near (command_name t) (codes "chek")) commands ≡ Some Check) × (find (λ t. is_near (command_name t) (codes "lookup")) commands ≡ None)
commands_found = (refl, refl, refl, refl)

-- the options of a command alone
pub options_found : (find (λ s. bytes_eq (option_name s) (codes "--slots")) (options_of Dump) ≡ Some Slots) × (find (λ s. bytes_eq (option_name s) (codes "--slots")) (options_of Info) ≡ None)
    × (find (λ s. is_near (option_name s) (codes "--hahs")) (options_of Dump) ≡ Some Hash)
options_found = (refl, refl, refl)

-- the word that asks for a text, and that which is meant by one that does not
pub asked : (find (λ a. bytes_eq (asking_name a) (codes "help")) asking_words ≡ Some Help) × (find (λ a. is_near (asking_name a) (codes "versoin")) asking_words ≡ Some Version)
    × (meant Help ≡ codes "help") × (meant Version ≡ codes "--version")
asked = (refl, refl, refl, refl)
