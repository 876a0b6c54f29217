-- What an insert answers of the value that a key had.
--     former_of F es r     the value in the entries es where a search ended at r, if it found the key
--     with_former o a      the answer a of a write, with the former value o in an Ok
--     answered F es r a    the answer a of a write where a search ended at r, with the value that is there before
--     write_result w       the answer of a write that was made, or else Full
use Rattle.std.specs.Prelude.{ℕ, Bool, true, false, List, Option, Some, None, Result, Ok, Err}
use Rattle.std.specs.Result.{result_map_both}
use Rattle.odht_raw.specs.Words.{Error, Format, Full, slot_value}
use Rattle.odht_raw.specs.declared.raw_table.search_result.Search.{Search}
use Rattle.odht_raw.specs.declared.raw_table.search_result.Search.TheVariants.{Found, Free, Neither}

abbrev pub former_of : Format → List ℕ → Search → Option (List ℕ)
former_of F es (Found i) = Some (slot_value F es i)
former_of F es (Free i) = None
former_of F es Neither = None

abbrev pub with_former : {V : Type 0} → Option V → Result (Unit {0}) Error → Result (Option V) Error
with_former o a = result_map_both (λ _. o) (λ e. e) a

abbrev pub answered : Format → List ℕ → Search → Result (Unit {0}) Error → Result (Option (List ℕ)) Error
answered F es r a = with_former (former_of F es r) a

abbrev pub write_result : Bool → Result (Unit {0}) Error
write_result true = Ok tt
write_result false = Err Full
