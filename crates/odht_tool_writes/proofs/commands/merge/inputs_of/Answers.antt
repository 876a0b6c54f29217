use Rattle.std.proofs.Common.{◌≡◌, ◌∙◌, ◌++◌, ◌∷◌, ◌+◌, [], All, List, ℕ, suc, Ok, Err, arith, length, length-append, map, sym, ap, subst, append_assoc}
use Rattle.std.specs.Prelude.{IfOk}
use Rattle.std.specs.Vec.Iter.{into_iter_items}
use Rattle.std.proofs.lemmas.List.{map-append}
use Rattle.std.proofs.lemmas.List.Elements.{All-push}
use Rattle.odht_tool_writes.specs.Merges.{IsInputOf, IsTableOf, all_pairs, input_pairs, shape_of_other}
use Rattle.odht_tool_writes.specs.declared.dynamic.merges.Input.{Input}
use Rattle.odht_tool_core.specs.AnyShapes.{any_key, any_value}
use Rattle.odht_tool_core.specs.ReadyShapes.{typed_len}
use Rattle.odht_tool_writes.proofs.Merging.{all_failed, all_more, said}
use Rattle.odht_tool_writes.proofs.commands.merge.inputs_of.Goals as goal

pub loop-bytes-preserved : goal.loop-bytes-preserved
loop-bytes-preserved c =
    let s = c.args.shape in
    let was = c.loop-bytes.invariant in
    let kl = typed_len (any_key s) in
    let vl = typed_len (any_value s) in
    let items = c.loop-bytes.yielded in
    let here = c.in-Some.bytes in
    let slice = c.as_slice.ensures.value in
    let u = c.in-Ok.other in
    let done : List (List ℕ) = map (λ bytes. bytes.items) items in
    let old : List Input = c.loop-bytes.inputs.items in
    let input : Input = record { shape = u; bytes = here } in
    let pushed : c.push_input.new.inputs.items ≡ old ++ input ∷ [] = c.in_ok-push_input-in-Ok.ensures.ok in
    let added = c.in_ok-push_input-in-Ok.ensures.len in
    let all : map (λ bytes. bytes.items) (items ++ here ∷ []) ≡ done ++ here.items ∷ [] = map-append (λ bytes. bytes.items) items (here ∷ []) in
    let long : length (map (λ bytes. bytes.items) (items ++ here ∷ [])) ≡ length done + 1 = ap length all ∙ length-append done (here.items ∷ []) in
    let number : c.len.result ≡ suc (length done) = c.len.ensures ∙ was.many in
    let shaped : shape_of_other s c.args.hash c.args.bound (suc (length done)) here.items ≡ Ok u =
    (λ i. shape_of_other s c.args.hash c.args.bound (sym number i) (sym slice i)) ∙ sym c.shape_of_other.ensures.value ∙ c.in-Ok.is in
    let fits : IsTableOf kl vl u here.items = subst (IsTableOf kl vl u) slice (subst (λ r. IfOk r (λ t. IsTableOf kl vl t c.as_slice.result.now)) c.in-Ok.is c.shape_of_other.ensures.input) in
    record {
      files = was.files ∙ ap (λ xs. items ++ xs) c.in-Some.ensures.steps.0 ∙ sym (append_assoc items (here ∷ []) (into_iter_items c.next.new.self));
      many = omega (arith, added, was.many, long);
      inputs = subst (All (IsInputOf kl vl)) (sym pushed) (All-push (IsInputOf kl vl) old input was.inputs fits);
      pairs = ap (all_pairs s c.args.hash c.args.bound c.args.first.items) all
          ∙ all_more s c.args.hash c.args.bound c.args.first.items done here.items (map input_pairs old) u was.pairs shaped
          ∙ ap Ok (sym (ap (map input_pairs) pushed ∙ map-append input_pairs old (input ∷ [])));
    }

pub returns-in-Err-clause-err : goal.returns-in-Err-clause-err
returns-in-Err-clause-err c =
    let s = c.args.shape in
    let was = c.loop-bytes.invariant in
    let items = c.loop-bytes.yielded in
    let here = c.in-Some.bytes in
    let slice = c.as_slice.ensures.value in
    let u = c.in-Err.unmerged in
    let done : List (List ℕ) = map (λ bytes. bytes.items) items in
    let later : List (List ℕ) = map (λ bytes. bytes.items) (into_iter_items c.next.new.self) in
    let files : c.args.others.items ≡ items ++ here ∷ into_iter_items c.next.new.self = was.files ∙ ap (λ xs. items ++ xs) c.in-Some.ensures.steps.0 in
    let all : map (λ bytes. bytes.items) c.args.others.items ≡ done ++ here.items ∷ later =
    ap (map (λ bytes. bytes.items)) files ∙ map-append (λ bytes. bytes.items) items (here ∷ into_iter_items c.next.new.self) in
    let number : c.len.result ≡ suc (length done) = c.len.ensures ∙ was.many in
    let shaped : shape_of_other s c.args.hash c.args.bound (suc (length done)) here.items ≡ Err u =
    (λ i. shape_of_other s c.args.hash c.args.bound (sym number i) (sym slice i)) ∙ sym c.shape_of_other.ensures.value ∙ c.in-Err.is in
    let pairs = all_pairs s c.args.hash c.args.bound c.args.first.items in
    said u (pairs (map (λ bytes. bytes.items) c.args.others.items) ≡ Err u)
    (ap pairs all ∙ all_failed s c.args.hash c.args.bound c.args.first.items done here.items later (map input_pairs c.loop-bytes.inputs.items) u was.pairs shaped)
