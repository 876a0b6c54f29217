use Rattle.std.proofs.Common.{◌≡◌, ◌∙◌, ◌++◌, ◌∷◌, [], All, Bor, List, ℕ, map, sym, ap, subst, append_assoc}
use Rattle.std.proofs.lemmas.List.{flat_map_more, map-append}
use Rattle.std.specs.Io.KnownBytes.{Appends}
use Rattle.odht_base.specs.Table.{Pair}
use Rattle.odht_raw.specs.DynParts.{HasLengthsOf}
use Rattle.odht_tool_core.specs.StoredTexts.{bare_pairs}
use Rattle.odht_tool_core.specs.Texts.{pair_line, pairs_text}
use Rattle.odht_tool_core.proofs.Answered.{appends_more}
use Rattle.odht_tool_reads.proofs.Diffed.{all_tail}
use Rattle.odht_tool_reads.proofs.commands.dump.write_pairs.Goals as goal

-- the pair of an item
abbrev pair_of : Bor (List ℕ) × Bor (List ℕ) → Pair
pair_of x = record { key = x.0.now; value = x.1.now }

-- its key and its value
abbrev bare : Pair → List ℕ × List ℕ
bare p = (p.key, p.value)

-- the line of one pair more
pub loop-key-preserved : goal.loop-key-preserved
loop-key-preserved g c =
    let f = g.K.TextWriter.text c.args.keys in
    let v = g.V.TextWriter.text c.args.values in
    let text : List Pair → List ℕ = λ ps. pairs_text f v (bare_pairs ps) in
    let fits : Pair → Type 0 = HasLengthsOf (g.K.TextWriter.len c.args.keys) (g.V.TextWriter.len c.args.values) in
    let here : Pair = record { key = c.in-Some.key.now; value = c.in-Some.value.now } in
    let items = c.loop-key.yielded in
    let done : List Pair = map pair_of items in
    let all : map pair_of (items ++ (c.in-Some.key, c.in-Some.value) ∷ []) ≡ done ++ here ∷ [] = map-append pair_of items ((c.in-Some.key, c.in-Some.value) ∷ []) in
    let more : text (map pair_of (items ++ (c.in-Some.key, c.in-Some.value) ∷ [])) ≡ text done ++ pair_line f v (bare here) = ap text all ∙ ap (pairs_text f v) (map-append bare done (here ∷ [])) ∙ sym (flat_map_more (pair_line f v) [] (bare_pairs done) (bare here)) in
    let old = g.O.Write.contents c.args.output.now in
    let before = g.O.Write.contents c.loop-key.output in
    let new = g.O.Write.contents c.write_pair_line.new.output in
    record {
      written = subst (Appends old new) (sym more) (appends_more old before new (text done) (pair_line f v (bare here)) c.loop-key.invariant.written c.in_ok-write_pair_line.ensures);
      lengths = all_tail fits here c.next.new.self (subst (All fits) c.in-Some.ensures.steps c.loop-key.invariant.lengths);
      pairs = c.loop-key.invariant.pairs ∙ ap (λ xs. done ++ xs) c.in-Some.ensures.steps
          ∙ sym (append_assoc done (here ∷ []) c.next.new.self) ∙ ap (λ xs. xs ++ c.next.new.self) (sym all);
    }
