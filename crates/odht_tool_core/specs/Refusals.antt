-- The errors of tables, as the program writes them.
--     spaced_digits b      a space and the two digits of the byte b in base 16
--     foreign_text bs      the bytes bs, with which a file begins, are not those with which a table does
--     advice_text e        what can be done about the error e, where that is known
--     refusal_text e       the text of the error e, with that advice behind it
use Rattle.std.specs.Prelude.{ℕ, List, [], ◌∷◌, ◌++◌, codes, flat_map}
use Rattle.odht_header.specs.ErrorTexts.{error_text}
use Rattle.odht_header.specs.declared.error.Error.{Error}
use Rattle.odht_header.specs.declared.error.Error.TheVariants.{SearchTooLong, WrongTag}
use Rattle.odht_tool_core.specs.Shown.{shown_text}
use Rattle.odht_tool_core.specs.Texts.{hex_digits}

abbrev pub spaced_digits : ℕ → List ℕ
spaced_digits b = 32 ∷ hex_digits b

abbrev pub foreign_text : List ℕ → List ℕ
foreign_text bs = codes "not an odht table: it begins with" ++ flat_map spaced_digits bs ++ codes ", " ++ shown_text bs

abbrev pub advice_text : Error → List ℕ
advice_text (SearchTooLong home groups) = codes "; --whole works without this bound"
advice_text _ = []

abbrev pub refusal_text : Error → List ℕ
refusal_text (WrongTag found) = foreign_text found
refusal_text error = error_text error ++ advice_text error
