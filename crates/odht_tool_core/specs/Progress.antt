-- The lines that `--progress` writes.
--     filled b total       how many of forty characters stand for b bytes of that many
--     progress_bar b total a bar of forty characters, `#` for these and `.` for the rest
--     drawn_bar b drawn    this bar, where one is drawn
--     taken_line t s drawn the line of what is taken, t, after s seconds
--     copied_line pairs s  the line of pairs that are copied, after s seconds
use Rattle.std.specs.Prelude.{ℕ, ◌-◌, ◌*◌, ◌/◌, min, ◌==◌, List, [], ◌∷◌, ◌++◌, replicate, codes, decimal, Option, Some, None, if◌then◌else◌}
use Rattle.odht_tool_core.specs.declared.progress.Taken.{Taken}

abbrev pub filled : ℕ → ℕ → ℕ
filled b total = if total == 0 then 40 else min (b * 40 / total) 40

abbrev pub progress_bar : ℕ → ℕ → List ℕ
progress_bar b total = replicate (filled b total) 35 ++ replicate (40 - filled b total) 46

abbrev pub drawn_bar : ℕ → Option ℕ → List ℕ
drawn_bar b None = []
drawn_bar b (Some total) = codes "  " ++ progress_bar b total

abbrev pub counts_told : Taken → List ℕ
counts_told t = decimal t.lines ++ (codes " lines, " ++ (decimal t.pairs ++ (codes " pairs, " ++ (decimal t.bytes ++ codes " bytes, "))))

abbrev pub taken_line : Taken → ℕ → Option ℕ → List ℕ
taken_line t s drawn = codes "odht: " ++ (counts_told t ++ (decimal s ++ (codes " seconds" ++ (drawn_bar t.bytes drawn ++ (10 ∷ [])))))

abbrev pub copied_line : ℕ → ℕ → List ℕ
copied_line pairs s = codes "odht: " ++ (decimal pairs ++ (codes " pairs, " ++ (decimal s ++ codes " seconds\n")))
