-- What `{:?}` writes of bytes is their text.
use Rattle.std.proofs.Common.{◌≡◌, ℕ, List, [], ◌∷◌, ◌++◌, Option, Some, refl}
use Rattle.std.specs.Prelude.{codes, decimal}
use Rattle.std.specs.Fmt.{debug_list, debug_items, comma_space}
use Rattle.std.specs.List.{flat_map}
use Rattle.odht_header.specs.ErrorTexts.{bytes_text}

abbrev byte_text : ℕ → Option (List ℕ)
byte_text n = Some (decimal n)

-- the bytes behind the first, each behind a comma
debug_items-comma : (bs : List ℕ) → debug_items byte_text comma_space bs ≡ Some (flat_map (λ n. codes ", " ++ decimal n) bs)
debug_items-comma [] = refl
debug_items-comma (n ∷ bs) = rw (debug_items-comma bs)

-- all of them, between brackets
pub debug_list-bytes : (bs : List ℕ) → debug_list byte_text bs ≡ Some (bytes_text bs)
debug_list-bytes [] = refl
debug_list-bytes (n ∷ bs) = rw (debug_items-comma bs)
