use Rattle.std.proofs.Common.{◌≡◌, ◌∙◌, ◌==◌, ◌&&◌, List, All, length, sym, ap, subst}
use Rattle.std.specs.Io.KnownBytes.{Appends}
use Rattle.odht.specs.Dynamic.{dyn_format}
use Rattle.odht_base.specs.Decoded.{decoded_pairs}
use Rattle.odht_base.specs.Table.{Pair}
use Rattle.odht_raw.specs.DynParts.{HasLengthsOf}
use Rattle.odht_tool_reads.specs.Diffs.{side_text}
use Rattle.odht_tool_reads.specs.declared.dynamic.diffs.Side.TheVariants.{First, Second}
use Rattle.odht_tool_core.specs.ReadyShapes.{typed_len}
use Rattle.odht_tool_core.specs.StoredTexts.{key_text, value_text}
use Rattle.odht_tool_core.proofs.Answered.{appends_more}
use Rattle.odht_tool_reads.proofs.Diffed.{no_lines}
use Rattle.odht_tool_reads.proofs.dynamic.diffs.write_both.Goals as goal

pub write_side-requires-clause-lengths : goal.write_side-requires-clause-lengths
write_side-requires-clause-lengths g c =
    let t = c.args.one.now in
    subst (λ n. All (HasLengthsOf n (typed_len c.args.texts.value)) c.iter.result) c.requires.one.key
    (subst (λ n. All (HasLengthsOf t.key_len n) c.iter.result) c.requires.one.value c.iter.ensures.lengths)

pub write_side-requires-2-clause-lengths : goal.write_side-requires-2-clause-lengths
write_side-requires-2-clause-lengths g c =
    let t = c.args.two.now in
    subst (λ n. All (HasLengthsOf n (typed_len c.args.texts.value)) c.iter-2.result) c.requires.two.key
    (subst (λ n. All (HasLengthsOf t.key_len n) c.iter-2.result) c.requires.two.value c.iter-2.ensures.lengths)

pub returns-clause-written : goal.returns-clause-written
returns-clause-written g c =
    let f = key_text c.args.texts in
    let v = value_text c.args.texts in
    let xs = decoded_pairs (dyn_format c.args.one.now g.H1.HashFn.hash) c.args.one.now.store.0.now in
    let ys = decoded_pairs (dyn_format c.args.two.now g.H2.HashFn.hash) c.args.two.now.store.0.now in
    let old = g.O.Write.contents c.args.output.now in
    let between = g.O.Write.contents c.write_side.new.output in
    let new = g.O.Write.contents c.write_side-2.new.output in
    appends_more old between new (side_text f v First ys xs) (side_text f v Second xs ys)
    (subst (λ (ps : List Pair). Appends old between (side_text f v First ys ps)) c.iter.ensures.pairs.on_any c.in_ok-is_first_same.ensures.written)
    (subst (λ (ps : List Pair). Appends between new (side_text f v Second xs ps)) c.iter-2.ensures.pairs.on_any c.in_ok-is_second_same.ensures.written)

pub returns-clause-none : goal.returns-clause-none
returns-clause-none g c =
    let f = key_text c.args.texts in
    let v = value_text c.args.texts in
    let xs = decoded_pairs (dyn_format c.args.one.now g.H1.HashFn.hash) c.args.one.now.store.0.now in
    let ys = decoded_pairs (dyn_format c.args.two.now g.H2.HashFn.hash) c.args.two.now.store.0.now in
    let first : c.in_ok-is_first_same.is_first_same ≡ (length (side_text f v First ys xs) == 0) =
    c.in_ok-is_first_same.ensures.none ∙ ap (λ (ps : List Pair). length (side_text f v First ys ps) == 0) c.iter.ensures.pairs.on_any in
    let second : c.in_ok-is_second_same.is_second_same ≡ (length (side_text f v Second xs ys) == 0) =
    c.in_ok-is_second_same.ensures.none ∙ ap (λ (ps : List Pair). length (side_text f v Second xs ps) == 0) c.iter-2.ensures.pairs.on_any in
    (λ i. first i && second i) ∙ sym (no_lines (side_text f v First ys xs) (side_text f v Second xs ys))
