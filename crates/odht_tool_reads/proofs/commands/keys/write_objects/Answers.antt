use Rattle.std.proofs.Common.{◌≡◌, ◌∙◌, ◌++◌, ◌∷◌, [], All, Bor, List, ℕ, map, length, sym, ap, subst, append_assoc}
use Rattle.std.proofs.lemmas.List.{flat_map_more, map-append}
use Rattle.std.specs.Io.KnownBytes.{Appends}
use Rattle.odht_base.specs.Table.{Pair}
use Rattle.odht_tool_core.specs.Json.{text_object}
use Rattle.odht_tool_core.specs.ReadyShapes.{typed_len}
use Rattle.odht_tool_core.specs.StoredTexts.{side_bytes, side_name, stored_text}
use Rattle.odht_tool_reads.specs.Listings.{side_object, side_objects}
use Rattle.odht_tool_core.proofs.Answered.{appends_more}
use Rattle.odht_tool_reads.proofs.Diffed.{all_tail}
use Rattle.odht_tool_reads.proofs.commands.keys.write_objects.Goals as goal

-- the pair of an item
abbrev pair_of : Bor (List ℕ) × Bor (List ℕ) → Pair
pair_of x = record { key = x.0.now; value = x.1.now }

-- the line of one pair more
pub loop-key-preserved : goal.loop-key-preserved
loop-key-preserved g c =
    let line : Pair → List ℕ = side_object c.args.typed c.args.side in
    let text : List Pair → List ℕ = side_objects c.args.typed c.args.side in
    let fits : Pair → Type 0 = λ p. length (side_bytes c.args.side p) ≡ typed_len c.args.typed.part in
    let here : Pair = record { key = c.in-Some.key.now; value = c.in-Some.value.now } in
    let items = c.loop-key.yielded in
    let done : List Pair = map pair_of items in
    let all : map pair_of (items ++ (c.in-Some.key, c.in-Some.value) ∷ []) ≡ done ++ here ∷ [] = map-append pair_of items ((c.in-Some.key, c.in-Some.value) ∷ []) in
    let more : text (map pair_of (items ++ (c.in-Some.key, c.in-Some.value) ∷ [])) ≡ text done ++ line here = ap text all ∙ sym (flat_map_more line [] done here) in
    let old = g.O.Write.contents c.args.output.now in
    let before = g.O.Write.contents c.loop-key.output in
    let new = g.O.Write.contents c.write_side_object.new.output in
    let written : Appends before new (line here) = subst (λ b. Appends before new (text_object (side_name c.args.side) (stored_text c.args.typed.form c.args.typed.part b))) c.of.ensures c.in_ok-write_side_object.ensures in
    record {
      written = subst (Appends old new) (sym more) (appends_more old before new (text done) (line here) c.loop-key.invariant.written written);
      lengths = all_tail fits here c.next.new.self (subst (All fits) c.in-Some.ensures.steps c.loop-key.invariant.lengths);
      pairs = c.loop-key.invariant.pairs ∙ ap (λ xs. done ++ xs) c.in-Some.ensures.steps
          ∙ sym (append_assoc done (here ∷ []) c.next.new.self) ∙ ap (λ xs. xs ++ c.next.new.self) (sym all);
    }
