-- Which rebuild makes the searches of the table of the bytes B short.
--     plain_parts F P      the parts of the plain table P of the format F
--     is_long_from F P k   a search from the home of the key k is long in P
--     run_short F P ps     the pairs ps inserted in turn into P; none where the search for the key of one is long in the
--                          table before it, or it is not inserted
--     rebuilt F p ps       the same into the fresh table for as many items as ps has, at p percent
--     has_short_searches F P   no search for an absent key is long in P
--     is_short F p ps      there is a rebuilt table, and it has short searches
--     helps B h p          keys are long enough for the hash function h, and is_short of the format of B with it and of the
--                          pairs of B in slot order
--     has_high_load T      more than half of the slots are occupied, in percent rounded down
--     lower_load_helps B h   the load is high, and the rebuild at 50 percent helps, by the same hash function h
--     mixing_helps B h     h is another function than xxh64, and the rebuild by xxh64 at the load factor of B helps
--     first_help B h       the first of these two that is so
--     is_taken o           no rule is broken by the error o, or only the bound of searches, which `--whole` leaves out
--     taken_hash B         the hash function of B, where `odht rebuild` takes it, with `--whole` where a search is too long
--     has_long B           header and length fit, and some search for an absent key is long
--     advice B             the first help of a table that has a long search, where `odht rebuild` takes it
--     IsRunShort F P ps whole Q   all pairs ps were inserted so, which left the table Q; or they were not
use Rattle.std.specs.Prelude.{◌≡◌, ℕ, ◌*◌, ◌/◌, [], ◌∷◌, Bool, true, false, not, ◌&&◌, is_none, nat_le, nat_lt, length, List, slice_index, Option, Some, None, option_and_then, if◌then◌else◌}
use Rattle.std.specs.Bool.{then_some}
use Rattle.std.specs.Option.{option_map_or}
use Rattle.std.specs.Result.{result_ok}
use Rattle.odht_base.specs.Decoded.{decoded_pairs}
use Rattle.odht_base.specs.Format.{Format, home}
use Rattle.odht_base.specs.Image.{entries, controls}
use Rattle.odht_base.specs.Insert.{insert_owned}
use Rattle.odht_base.specs.Table.{Pair, Table, fresh, slot_count}
use Rattle.odht_header.specs.Refusals.{check_refusal_by}
use Rattle.odht_header.specs.declared.error.Error.{Error}
use Rattle.odht_header.specs.declared.error.Error.TheVariants.{SearchTooLong}
use Rattle.odht_tool_core.specs.AnyShapes.{any_format, any_hash, found_any}
use Rattle.odht_tool_core.specs.GroupNumbers.{capped, groups_to_free}
use Rattle.odht_tool_core.specs.InfoNumbers.{DynParts, format_by, has_long_search, info_refusal, least_key_len, occupied, file_parts}
use Rattle.odht_tool_core.specs.Percents.{kept_percent}
use Rattle.odht_tool_core.specs.ReadyShapes.{same_hash}
use Rattle.odht_tool_core.specs.declared.advice.Advice.{Advice}
use Rattle.odht_tool_core.specs.declared.advice.Advice.TheVariants.{LowerLoad, Mixing}
use Rattle.odht_tool_core.specs.declared.shapes.Hash.{Hash}
use Rattle.odht_tool_core.specs.declared.shapes.Hash.TheVariants.{Xxh64}

-- ---- a rebuild
abbrev pub plain_parts : Format → Table → DynParts
plain_parts F P = record {
  key_len = F.key_len;
  value_len = F.value_len;
  slots = slot_count P;
  entries = entries F P.cells;
  control = controls F P.cells;
}

abbrev pub is_long_from : Format → Table → List ℕ → Bool
is_long_from F P k = nat_lt 24 (capped (Some 24) (groups_to_free (controls F P.cells) (home F k (slot_count P))))

abbrev pub run_short : Format → Table → List Pair → Option Table
run_short F P [] = Some P
run_short F P (p ∷ ps) =
    if is_long_from F P p.key then None else option_and_then (λ Q. run_short F Q ps) (insert_owned F P p)

abbrev pub rebuilt : Format → ℕ → List Pair → Option Table
rebuilt F percent ps = option_and_then (λ start. run_short F start ps) (fresh (length ps) percent)

abbrev pub has_short_searches : Format → Table → Bool
has_short_searches F P = not (has_long_search (plain_parts F P))

abbrev pub is_short : Format → ℕ → List Pair → Bool
is_short F percent ps = option_map_or (has_short_searches F) (rebuilt F percent ps) false

abbrev pub helps : List ℕ → Hash → ℕ → Bool
helps B h percent = nat_le (least_key_len h) (slice_index B 5) && is_short (format_by B h) percent (decoded_pairs (format_by B h) B)

-- ---- which one is named
abbrev pub has_high_load : DynParts → Bool
has_high_load T = nat_lt 50 (length (occupied T T.slots) * 100 / T.slots)

abbrev pub lower_load_helps : List ℕ → Hash → Bool
lower_load_helps B h = has_high_load (file_parts B) && helps B h 50

abbrev pub mixing_helps : List ℕ → Hash → Bool
mixing_helps B h = not (same_hash h Xxh64) && helps B Xxh64 (kept_percent B)

abbrev pub first_help : List ℕ → Hash → Option Advice
first_help B h = if lower_load_helps B h then Some LowerLoad else then_some (mixing_helps B h) Mixing

-- ---- of which table
abbrev pub is_taken : Option Error → Bool
is_taken None = true
is_taken (Some (SearchTooLong home groups)) = true
is_taken (Some _) = false

abbrev pub taken_hash : List ℕ → Option Hash
taken_hash B =
    option_and_then (λ s. then_some (is_taken (check_refusal_by (any_format s) (Some 128) B)) (any_hash s)) (result_ok (found_any B None))

abbrev pub has_long : List ℕ → Bool
has_long B = is_none (info_refusal B) && has_long_search (file_parts B)

abbrev pub advice : List ℕ → Option Advice
advice B = if has_long B then option_and_then (first_help B) (taken_hash B) else None

-- ---- while the pairs are inserted
abbrev pub IsRunShort : Format → Table → List Pair → Bool → Table → Type 0
IsRunShort F P ps true Q = run_short F P ps ≡ Some Q
IsRunShort F P ps false Q = run_short F P ps ≡ None
