-- What `find` writes and returns, of the bytes B of a file, which begin at its byte p, where o is the bound of searches,
-- or there is none.
--     table_text j p B o at    the line of the table at the offset `at` in B; with j its object of JSON
--     comma_of j i         the comma before the object i, but the first
--     tables_text j p B o ts   those of the tables at the offsets ts; there are commas between objects
--     tables_object name t     the object of the file of this name, and of the tables of which the text t tells
--     found_text j name p B o ts   what is written of them: with j this object, and else their lines
--     none_text file       the line on standard error where there is none
--     AreTablesWritten B f old new s    the text f of all tables in B was written, which took the writer from the bytes old
--                          to new, and the status s says whether there is one
--     AreFound B f old new r   a call that took a writer from the bytes old to new and returned r did that; only the writer,
--                          memory, or headers that overlap may have kept it from that
use Rattle.std.specs.Prelude.{◌≡◌, ◌+◌, ℕ, Bool, ◌&&◌, List, [], ◌∷◌, slice_index, drop, length, ◌≤◌, nat_lt, flat_map, codes, ◌++◌, Option, None, Result, Ok, Err, if◌then◌else◌}
use Rattle.std.specs.Io.KnownBytes.{Appends, Keeps}
use Rattle.std.specs.List.{range_with_len}
use Rattle.odht_tool_reads.specs.Outcomes.{check_word}
use Rattle.odht_tool_core.specs.Finds.{AreTables, IsFindFailure, false_slots, table_report}
use Rattle.odht_tool_core.specs.AnyShapes.{found_any}
use Rattle.odht_tool_core.specs.Fronts.{table_front}
use Rattle.odht_tool_core.specs.Json.{json_field, json_object, string_field}
use Rattle.odht_tool_core.specs.Reports.{report_among}
use Rattle.odht_tool_core.specs.declared.failure.Failure.{Failure}
use Rattle.odht_tool_core.specs.declared.failure.Failure.TheVariants.{Output}
use Rattle.odht_tool_core.specs.declared.status.Status.{Status}
use Rattle.odht_tool_core.specs.declared.status.Status.TheVariants.{Done, NotDone}

abbrev pub table_text : Bool → ℕ → List ℕ → Option ℕ → ℕ → List ℕ
table_text is_json p B o at =
    let T = table_front (drop at B) in
    report_among is_json (table_report (p + at) T (check_word o T (found_any T None)))

-- what stands before the table of this index
abbrev pub comma_of : Bool → ℕ → List ℕ
comma_of is_json i = if is_json && nat_lt 0 i then codes "," else []

abbrev pub table_item : Bool → ℕ → List ℕ → Option ℕ → List ℕ → ℕ → List ℕ
table_item is_json p B o ts i = comma_of is_json i ++ table_text is_json p B o (slice_index ts i)

abbrev pub tables_text : Bool → ℕ → List ℕ → Option ℕ → List ℕ → List ℕ
tables_text is_json p B o ts = flat_map (table_item is_json p B o ts) (range_with_len 0 (length ts))

abbrev pub begin_text : List ℕ → List ℕ
begin_text name = 123 ∷ (json_field (string_field (codes "file") name) ++ codes ",\"tables\":[")

abbrev pub tables_object : List ℕ → List ℕ → List ℕ
tables_object name text = json_object (string_field (codes "file") name ∷ (codes "tables", 91 ∷ (text ++ (93 ∷ []))) ∷ []) ++ (10 ∷ [])

abbrev pub found_text : Bool → List ℕ → ℕ → List ℕ → Option ℕ → List ℕ → List ℕ
found_text is_json name p B o ts =
    let text = tables_text is_json p B o ts in
    if is_json then tables_object name text else text

abbrev pub none_text : List ℕ → List ℕ
none_text file = codes "odht: " ++ (file ++ codes ": no table is in it\n")

pub record AreTablesWritten (B : List ℕ) (f : List ℕ → List ℕ) (old new : Option (List ℕ)) (status : Status) : Type 0 where
  pub tables : List ℕ
  pub found : AreTables B 0 tables
  pub honest : false_slots B 0 tables ≤ length B
  pub written : Appends old new (f tables)
  pub returned : status ≡ (if nat_lt 0 (length tables) then Done else NotDone)

-- where the writer failed there were tables to write
pub record AreTablesAsked (B : List ℕ) : Type 0 where
  pub tables : List ℕ
  pub found : AreTables B 0 tables
  pub honest : false_slots B 0 tables ≤ length B

abbrev pub AreFound : List ℕ → (List ℕ → List ℕ) → Option (List ℕ) → Option (List ℕ) → Result Status Failure → Type 0
AreFound B f old new (Ok status) = AreTablesWritten B f old new status
AreFound B f old new (Err (Output error)) = AreTablesAsked B
AreFound B f old new (Err failure) = IsFindFailure B failure × Keeps old new
