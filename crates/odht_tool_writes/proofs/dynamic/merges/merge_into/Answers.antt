use Rattle.std.proofs.Common.{rules, ◌≡◌, ◌∙◌, ◌≤◌, ◌+◌, ◌++◌, ◌∷◌, [], List, None, suc, refl, Some, sym, ap, subst, length, map, take, drop, arith}
use Rattle.std.specs.Prelude.{OnOk, IfOk, option_map}
use Rattle.std.proofs.lemmas.List.{length-map, length-take-le, map-append, take_all, take_more}
use Rattle.odht_base.specs.Format.{Format, format_of}
use Rattle.odht_base.specs.Table.{Pair, Table}
use Rattle.odht_base.specs.Valid.{IsImage}
use Rattle.odht.specs.Dynamic.{DynStore, dyn_format}
use Rattle.odht_tool_writes.specs.Merges.{IsFilled, IsInputOf, all_of, input_pairs, repeat_in, repeat_of, told_key}
use Rattle.odht_tool_writes.specs.declared.dynamic.merges.Input.{Input}
use Rattle.odht_tool_core.specs.ReadyShapes.{typed_len}
use Rattle.odht_tool_core.specs.StoredTexts.{key_text}
use Rattle.odht_tool_writes.proofs.Merging.{all-snoc, filled_none, is_none_of, is_some_of, merged_anew, repeats_at, repeats_none, split_at}
use Rattle.odht_tool_writes.proofs.dynamic.merges.merge_into.Goals as goal

pub loop-at-preserved : goal.loop-at-preserved
loop-at-preserved g c =
    let h = g.H.HashFn.hash in
    let d = c.args.job.now.duplicates in
    let F = format_of (typed_len c.args.job.now.texts.key) (typed_len c.args.job.now.texts.value) h in
    let inputs = c.args.job.now.inputs.now in
    let at = c.loop-at.at in
    let t = c.loop-at.table in
    let t' = c.insert_input.new.table in
    let was = c.loop-at.invariant in
    let made = c.requires.fresh in
    let start = c.args.table.store in
    let done : List (List Pair) = map input_pairs (take at inputs) in
    let input : Input = c.index-inputs-at.result in
    let taken : take (at + 1) inputs ≡ take at inputs ++ input ∷ [] = take_more inputs at input c.loop-at-test.true ∙ ap (λ x. take at inputs ++ x ∷ []) (sym c.index-inputs-at.is) in
    let all : map input_pairs (take (at + 1) inputs) ≡ done ++ input_pairs input ∷ [] = ap (map input_pairs) taken ∙ map-append input_pairs (take at inputs) (input ∷ []) in
    let formats : dyn_format t h ≡ F = λ i. format_of (was.key_len i) (was.value_len i) h in
    let begun = filled_none F d (length (all_of (map input_pairs inputs))) c.args.job.now.percent start made.store in
    let filled_here : IsFilled (dyn_format t h) d start (all_of done) t.store = subst (λ (X : Format). IsFilled X d start (all_of done) t.store) (sym formats) (was.filled start begun) in
    let found = subst (λ r. IfOk r (λ found. option_map (λ text. text.items) found ≡ option_map (key_text c.args.job.now.texts) (repeat_in d (all_of done) (input_pairs input)))) c.in-Ok-None.is (c.repeated_in.ensures.ok start (all_of done) filled_here) in
    let empty : c.in-Ok-None.field-0 ≡ None = search rules in
    let untold : None ≡ option_map (key_text c.args.job.now.texts) (repeat_in d (all_of done) (input_pairs input)) = ap (option_map (λ text. text.items)) (sym empty) ∙ found in
    record {
      key_len = ap (λ (s : DynStore Table). s.key_len) c.insert_input.ensures.lengths ∙ was.key_len;
      value_len = ap (λ (s : DynStore Table). s.value_len) c.insert_input.ensures.lengths ∙ was.value_len;
      filled = λ P none. (
          let so_far : IsFilled (dyn_format t h) d P (all_of done) t.store = subst (λ (X : Format). IsFilled X d P (all_of done) t.store) (sym formats) (was.filled P none) in
          let more = subst (λ r. OnOk r (IsFilled (dyn_format t h) d P (all_of done ++ input_pairs input) t'.store)) c.in-Ok.is (c.insert_input.ensures.inserted P (all_of done) so_far) in
          let here : IsFilled F d P (all_of done ++ input_pairs input) t'.store = subst (λ (X : Format). IsFilled X d P (all_of done ++ input_pairs input) t'.store) formats more in
          subst (λ (xs : List Pair). IsFilled F d P xs t'.store) (sym (ap all_of all ∙ all-snoc done (input_pairs input))) here);
      none = ap (repeat_of d) all ∙ repeats_none d done (input_pairs input) was.none (is_none_of (key_text c.args.job.now.texts) (repeat_in d (all_of done) (input_pairs input)) (sym untold));
    }

-- the file of a number is one of all
pub repeated_in-requires : goal.repeated_in-requires
repeated_in-requires g c =
    let fits = IsInputOf (typed_len c.args.job.now.texts.key) (typed_len c.args.job.now.texts.value) in
    let input : Input = c.index-inputs-at.result in
    subst fits (sym c.index-inputs-at.is) (c.requires.inputs c.loop-at.at input c.loop-at-test.true)

pub insert_input-requires-clause-input : goal.insert_input-requires-clause-input
insert_input-requires-clause-input g c =
    let fits = IsInputOf (typed_len c.args.job.now.texts.key) (typed_len c.args.job.now.texts.value) in
    let input : Input = c.index-inputs-at.result in
    subst fits (sym c.index-inputs-at.is) (c.requires.inputs c.loop-at.at input c.loop-at-test.true)

pub returns-in-Ok-Some-clause-err : goal.returns-in-Ok-Some-clause-err
returns-in-Ok-Some-clause-err g c =
    let h = g.H.HashFn.hash in
    let d = c.args.job.now.duplicates in
    let texts = c.args.job.now.texts in
    let F = format_of (typed_len texts.key) (typed_len texts.value) h in
    let inputs = c.args.job.now.inputs.now in
    let at = c.loop-at.at in
    let t = c.loop-at.table in
    let was = c.loop-at.invariant in
    let made = c.requires.fresh in
    let start = c.args.table.store in
    let done : List (List Pair) = map input_pairs (take at inputs) in
    let rest : List (List Pair) = map input_pairs (drop (suc at) inputs) in
    let input : Input = c.index-inputs-at.result in
    let formats : dyn_format t h ≡ F = λ i. format_of (was.key_len i) (was.value_len i) h in
    let begun = filled_none F d (length (all_of (map input_pairs inputs))) c.args.job.now.percent start made.store in
    let filled_here : IsFilled (dyn_format t h) d start (all_of done) t.store = subst (λ (X : Format). IsFilled X d start (all_of done) t.store) (sym formats) (was.filled start begun) in
    let found = subst (λ r. IfOk r (λ found. option_map (λ text. text.items) found ≡ option_map (key_text texts) (repeat_in d (all_of done) (input_pairs input)))) c.in-Ok-Some.is (c.repeated_in.ensures.ok start (all_of done) filled_here) in
    let some : c.in-Ok-Some.field-0 ≡ Some c.in-Ok-Some.text = search rules in
    let told : Some c.in-Ok-Some.text.items ≡ option_map (key_text texts) (repeat_in d (all_of done) (input_pairs input)) = ap (option_map (λ text. text.items)) (sym some) ∙ found in
    let key = is_some_of (key_text texts) (repeat_in d (all_of done) (input_pairs input)) c.in-Ok-Some.text.items (sym told) in
    let split : inputs ≡ take at inputs ++ input ∷ drop (suc at) inputs = split_at inputs at input c.loop-at-test.true c.index-inputs-at.is in
    let all : map input_pairs inputs ≡ done ++ input_pairs input ∷ rest = ap (map input_pairs) split ∙ map-append input_pairs (take at inputs) (input ∷ drop (suc at) inputs) in
    let few : at ≤ length inputs = omega (arith, c.loop-at-test.true) in
    let many : length done ≡ at = length-map (take at inputs) input_pairs ∙ length-take-le at inputs few in
    let text = key.2 in
    ap (option_map (told_key texts)) (ap (repeat_of d) all ∙ repeats_at d done (input_pairs input) rest key.0 was.none key.1) ∙ (λ i. Some (many i, text i))

pub returns-clause-ok : goal.returns-clause-ok
returns-clause-ok g c =
    let h = g.H.HashFn.hash in
    let d = c.args.job.now.duplicates in
    let F = format_of (typed_len c.args.job.now.texts.key) (typed_len c.args.job.now.texts.value) h in
    let inputs = c.args.job.now.inputs.now in
    let xss : List (List Pair) = map input_pairs inputs in
    let at = c.loop-at.at in
    let was = c.loop-at.invariant in
    let made = c.requires.fresh in
    let start = c.args.table.store in
    let taken : map input_pairs (take at inputs) ≡ xss = ap (map input_pairs) (take_all at inputs (omega (arith, c.loop-at-test.false))) in
    let begun = filled_none F d (length (all_of xss)) c.args.job.now.percent start made.store in
    let t = c.loop-at.table in
    let formats : dyn_format t h ≡ F = λ i. format_of (was.key_len i) (was.value_len i) h in
    let filled : IsFilled F d start (all_of xss) t.store = subst (λ (yss : List (List Pair)). IsFilled F d start (all_of yss) t.store) taken (was.filled start begun) in
    let image : IsImage F t.store c.into_raw_bytes.result.items = subst (λ (X : Format). IsImage X t.store c.into_raw_bytes.result.items) formats c.into_raw_bytes.ensures in
    merged_anew F d (length (all_of xss)) c.args.job.now.percent xss start t.store c.into_raw_bytes.result.items made.store refl (ap (repeat_of d) (sym taken) ∙ was.none) filled image
