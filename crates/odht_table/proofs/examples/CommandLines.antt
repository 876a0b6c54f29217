-- Worked examples: which lines are commands.
use Rattle.std.proofs.Common.{◌≡◌, ◌==◌, ℕ, false, refl, eq-eqb, sym, ap, subst, arith, List, [], drop, slice_index, lit<}
use Rattle.std.specs.Prelude.{codes}
use Rattle.odht_table.specs.Commands.{IsPairText, IsNumberText, IsWordText, IsCommandText}
use Rattle.odht_table.specs.Verbs.{IsVerbText}
use Rattle.odht_table.specs.declared.script.command.Command.TheVariants.{New, OnTable}
use Rattle.odht_table.specs.declared.script.command.Request.TheVariants.{Put, Get, Len, Walk, Hex, Dump}
use Rattle.odht_table.specs.declared.script.command.Verb.TheVariants.{Make, Insert, Find}
use Rattle.odht_header.proofs.examples.Apart.{are_distinct, unequal_lists}
use Rattle.odht_table.proofs.examples.NumberTexts.{a_pair, a_number, another_number, another_second}

-- two lines that differ in the byte at one index
other_byte : (i : ℕ) (line other : List ℕ) → line ≡ other → (slice_index line i == slice_index other i) ≡ false → ⊥
other_byte i line other e differ =
    are_distinct (λ l. slice_index line i == slice_index l i) line other (eq-eqb _ _ refl) differ e

-- ---- words
-- each word that is a command alone
pub words : IsWordText (codes "len") Len
    × IsWordText (codes "walk") Walk
    × IsWordText (codes "hex") Hex
    × IsWordText (codes "dump") Dump
words = (refl, refl, refl, refl)

-- another word is not that request
pub other_words : (IsWordText (codes "hex") Len → ⊥)
    × (IsWordText (codes "len") Walk → ⊥)
    × (IsWordText (codes "len") Hex → ⊥)
    × (IsWordText (codes "walk") Dump → ⊥)
other_words = (unequal_lists _ _ refl, unequal_lists _ _ refl, unequal_lists _ _ refl, unequal_lists _ _ refl)

-- nor is the word with a further byte or in capitals, nor no word
pub longer_words : (IsWordText (codes "len ") Len → ⊥)
    × (IsWordText (codes "walks") Walk → ⊥)
    × (IsWordText (codes "HEX") Hex → ⊥)
    × (IsWordText [] Dump → ⊥)
longer_words = (unequal_lists _ _ refl, unequal_lists _ _ refl, unequal_lists _ _ refl, unequal_lists _ _ refl)

-- no word asks for a request with numbers
pub requests_with_numbers : (IsWordText (codes "put") (Put 1 2) → ⊥) × (IsWordText (codes "get") (Get 1) → ⊥)
requests_with_numbers = (λ h. h, λ h. h)

-- ---- first words
-- each word that numbers follow
pub verbs : IsVerbText (codes "new") Make × IsVerbText (codes "put") Insert × IsVerbText (codes "get") Find
verbs = (refl, refl, refl)

-- none is another's
pub other_verbs : (IsVerbText (codes "put") Make → ⊥)
    × (IsVerbText (codes "get") Insert → ⊥)
    × (IsVerbText (codes "new") Find → ⊥)
other_verbs = (unequal_lists _ _ refl, unequal_lists _ _ refl, unequal_lists _ _ refl)

-- nor is a word with a further byte, in capitals, or that is a command alone, nor no word
pub no_verbs : (IsVerbText (codes "new ") Make → ⊥)
    × (IsVerbText (codes "PUT") Insert → ⊥)
    × (IsVerbText (codes "len") Find → ⊥)
    × (IsVerbText [] Find → ⊥)
no_verbs = (unequal_lists _ _ refl, unequal_lists _ _ refl, unequal_lists _ _ refl, unequal_lists _ _ refl)

-- ---- lines
-- two numbers
pub new_line : IsCommandText (codes "new 1 02") (New 1 2)
new_line = (codes "1 02", refl, a_pair)

-- a key and a value
pub put_line : IsCommandText (codes "put 1 02") (OnTable (Put 1 2))
put_line = (codes "1 02", refl, a_pair, lit< tt)

-- a key
pub get_line : IsCommandText (codes "get 042") (OnTable (Get 42))
get_line = (codes "042", refl, a_number)

-- a word alone
pub word_lines : IsCommandText (codes "len") (OnTable Len)
    × IsCommandText (codes "walk") (OnTable Walk)
    × IsCommandText (codes "hex") (OnTable Hex)
    × IsCommandText (codes "dump") (OnTable Dump)
word_lines = (refl, refl, refl, refl)

-- a line with another name, though its numbers are right
pub other_names : (IsCommandText (codes "put 1 02") (New 1 2) → ⊥)
    × (IsCommandText (codes "new 1 02") (OnTable (Put 1 2)) → ⊥)
    × (IsCommandText (codes "put 042") (OnTable (Get 42)) → ⊥)
other_names = (λ h. other_byte 0 _ _ h.1 refl, λ h. other_byte 0 _ _ h.1 refl, λ h. other_byte 0 _ _ h.1 refl)

-- a name without its space
pub no_spaces : (IsCommandText (codes "new,1 02") (New 1 2) → ⊥)
    × (IsCommandText (codes "put,1 02") (OnTable (Put 1 2)) → ⊥)
    × (IsCommandText (codes "get042") (OnTable (Get 42)) → ⊥)
no_spaces = (λ h. other_byte 3 _ _ h.1 refl, λ h. other_byte 3 _ _ h.1 refl, λ h. other_byte 3 _ _ h.1 refl)

-- other numbers than the command's
pub other_numbers : (IsCommandText (codes "new 1 2") (New 1 3) → ⊥)
    × (IsCommandText (codes "put 1 2") (OnTable (Put 1 3)) → ⊥)
    × (IsCommandText (codes "get 42") (OnTable (Get 43)) → ⊥)
other_numbers = (
  λ h. another_second (subst (λ w. IsPairText w 1 3) (sym (ap (drop 4) h.1)) h.2),
  λ h. another_second (subst (λ w. IsPairText w 1 3) (sym (ap (drop 4) h.1)) h.2),
  λ h. another_number (subst (λ w. IsNumberText w 43) (sym (ap (drop 4) h.1)) h.2),
)

-- a value that 32 bits do not hold
pub great_value : IsCommandText (codes "put 1 4294967296") (OnTable (Put 1 4294967296)) → ⊥
great_value h = omega (arith, h.3)

-- a word with a space after it, and one word for another
pub other_word_lines : (IsCommandText (codes "len ") (OnTable Len) → ⊥)
    × (IsCommandText (codes "walk ") (OnTable Walk) → ⊥)
    × (IsCommandText (codes "dump") (OnTable Hex) → ⊥)
    × (IsCommandText (codes "hex") (OnTable Dump) → ⊥)
other_word_lines = (unequal_lists _ _ refl, unequal_lists _ _ refl, unequal_lists _ _ refl, unequal_lists _ _ refl)
