-- The bytes of a store of a fixed length after a borrow of them.
--     after_borrow_bytes B d    B overwritten by d from the first byte on, cut to the length of B
use Rattle.std.specs.Prelude.{◌≡◌, ◌++◌, ℕ, List, take, drop, length}
use Rattle.std.proofs.Common.{◌∙◌, arith}
use Rattle.std.proofs.lemmas.List.{take-append-le, take_all}

abbrev pub after_borrow_bytes : List ℕ → List ℕ → List ℕ
after_borrow_bytes B d = take (length B) (d ++ drop (length d) B)

-- it is d where d is as long as B
pub after_borrow_bytes-fits : (B d : List ℕ) → length d ≡ length B → after_borrow_bytes B d ≡ d
after_borrow_bytes-fits B d fits =
    take-append-le (length B) d (drop (length d) B) (omega (arith, fits)) ∙ take_all (length B) d (omega (arith, fits))
