-- The first look of a search: the hash of a key, and what the group of control bytes at its home slot has.
--     FirstLookOf          a hash, the indices of the group whose byte is the tag, and the first index whose byte
--                          counts as free
--     home_group F T k     the sixteen control bytes of the parts T from the home slot of the key k on
--     first_look_of F T k  the first look of the search for the key k among the parts T
use Rattle.std.specs.Prelude.{ℕ, List, Option}
use Rattle.odht_raw.specs.Words.{bytes_at, equal, first_free, Format, home, tag}
use Rattle.odht_raw.specs.Parts.{TableParts}

pub record FirstLookOf : Type 0 where
  pub hash : ℕ
  pub matches : List ℕ
  pub free : Option ℕ

abbrev pub home_group : Format → TableParts → List ℕ → List ℕ
home_group F T k = bytes_at T.control (home F k T.entries.slots) 16

abbrev pub first_look_of : Format → TableParts → List ℕ → FirstLookOf
first_look_of F T k =
    record { hash = F.hash k; matches = equal (home_group F T k) (tag F k); free = first_free (home_group F T k) }
