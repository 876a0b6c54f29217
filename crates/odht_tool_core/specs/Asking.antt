-- The words that ask for a text of the program where a command may stand, and one that somebody takes for such a word.
--     asking_name a    the bytes of the word a
--     asking_words     all these words
--     meant a          the word that the program takes
use Rattle.std.specs.Prelude.{ℕ, List, [], ◌∷◌, codes}
use Rattle.odht_tool_core.specs.declared.arguments.asking.Asking.{Asking}
use Rattle.odht_tool_core.specs.declared.arguments.asking.Asking.TheVariants.{Help, LongHelp, LongVersion, Version}

abbrev pub asking_name : Asking → List ℕ
asking_name Help = codes "help"
asking_name LongHelp = codes "--help"
asking_name LongVersion = codes "--version"
asking_name Version = codes "version"

abbrev pub asking_words : List Asking
asking_words = Help ∷ LongHelp ∷ LongVersion ∷ Version ∷ []

abbrev pub meant : Asking → List ℕ
meant Help = codes "help"
meant LongHelp = codes "--help"
meant LongVersion = codes "--version"
meant Version = codes "--version"
