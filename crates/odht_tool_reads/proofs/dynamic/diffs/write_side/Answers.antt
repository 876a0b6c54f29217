use Rattle.std.proofs.Common.{◌≡◌, ◌∙◌, ◌++◌, ◌∷◌, [], ◌==◌, ◌&&◌, ℕ, All, Bor, List, map, length, refl, sym, ap, subst, append_assoc}
use Rattle.std.proofs.lemmas.List.{flat_map_more, map-append}
use Rattle.std.proofs.KnownBytes.{Appends-nil}
use Rattle.std.specs.Io.KnownBytes.{Appends}
use Rattle.odht.specs.Dynamic.{dyn_format}
use Rattle.odht_base.specs.Decoded.{decoded_pairs}
use Rattle.odht_base.specs.Table.{Pair}
use Rattle.odht_raw.specs.DynParts.{HasLengthsOf}
use Rattle.odht_tool_reads.specs.Diffs.{side_line, side_text}
use Rattle.odht_tool_core.specs.ReadyShapes.{typed_len}
use Rattle.odht_tool_core.specs.StoredTexts.{key_text, value_text}
use Rattle.odht_tool_core.proofs.Answered.{appends_more}
use Rattle.odht_tool_reads.proofs.Diffed.{all_head, all_tail, no_lines}
use Rattle.odht_tool_reads.proofs.dynamic.diffs.write_side.Goals as goal

-- the pair of an item
abbrev pair_of : Bor (List ℕ) × Bor (List ℕ) → Pair
pair_of x = record { key = x.0.now; value = x.1.now }

pub loop-key-init : goal.loop-key-init
loop-key-init g c =
    let fits = HasLengthsOf (typed_len c.args.texts.key) (typed_len c.args.texts.value) in
    let same = sym c.into_iter-key-iterator.ensures.into_iter_gives in
    record {
      written = Appends-nil (g.O.Write.contents c.args.output.now);
      none = refl;
      lengths = subst (All fits) same c.requires.lengths;
      pairs = same;
    }

pub write_beside-requires-clause-lengths : goal.write_beside-requires-clause-lengths
write_beside-requires-clause-lengths g c =
    let fits = HasLengthsOf (typed_len c.args.texts.key) (typed_len c.args.texts.value) in
    let here : Pair = record { key = c.in-Some.key.now; value = c.in-Some.value.now } in
    all_head fits here c.next.new.self (subst (All fits) c.in-Some.ensures.steps c.loop-key.invariant.lengths)

pub loop-key-preserved : goal.loop-key-preserved
loop-key-preserved g c =
    let t = c.args.other.now in
    let ys = decoded_pairs (dyn_format t g.H.HashFn.hash) t.store.0.now in
    let line : Pair → List ℕ = side_line (key_text c.args.texts) (value_text c.args.texts) c.args.side ys in
    let text : List Pair → List ℕ = side_text (key_text c.args.texts) (value_text c.args.texts) c.args.side ys in
    let fits = HasLengthsOf (typed_len c.args.texts.key) (typed_len c.args.texts.value) in
    let here : Pair = record { key = c.in-Some.key.now; value = c.in-Some.value.now } in
    let items = c.loop-key.yielded in
    let done : List Pair = map pair_of items in
    let all : map pair_of (items ++ (c.in-Some.key, c.in-Some.value) ∷ []) ≡ done ++ here ∷ [] = map-append pair_of items ((c.in-Some.key, c.in-Some.value) ∷ []) in
    let more : text (map pair_of (items ++ (c.in-Some.key, c.in-Some.value) ∷ [])) ≡ text done ++ line here = ap text all ∙ sym (flat_map_more line [] done here) in
    let old = g.O.Write.contents c.args.output.now in
    let before = g.O.Write.contents c.loop-key.output in
    let new = g.O.Write.contents c.write_beside.new.output in
    record {
      written = subst (Appends old new) (sym more) (appends_more old before new (text done) (line here) c.loop-key.invariant.written c.in_ok-is_same.ensures.written);
      none = (λ i. c.loop-key.invariant.none i && c.in_ok-is_same.ensures.none i) ∙ sym (no_lines (text done) (line here)) ∙ ap (λ x. length x == 0) (sym more);
      lengths = all_tail fits here c.next.new.self (subst (All fits) c.in-Some.ensures.steps c.loop-key.invariant.lengths);
      pairs = c.loop-key.invariant.pairs ∙ ap (λ xs. done ++ xs) c.in-Some.ensures.steps
          ∙ sym (append_assoc done (here ∷ []) c.next.new.self) ∙ ap (λ xs. xs ++ c.next.new.self) (sym all);
    }
