use Rattle.std.proofs.Common.{◌≡◌, ◌∙◌, All, List, ℕ, map, sym, ap, subst}
use Rattle.std.specs.Prelude.{IfErr, IfOk}
use Rattle.odht_base.specs.Format.{Format}
use Rattle.odht_base.specs.Table.{Pair}
use Rattle.odht_tool_writes.specs.Merges.{IsInputOf, IsMerged, IsStopped, input_pairs}
use Rattle.odht_tool_core.specs.AnyShapes.{any_hash}
use Rattle.odht_tool_core.specs.InfoNumbers.{least_key_len}
use Rattle.odht_tool_core.specs.ReadyShapes.{typed_len}
use Rattle.odht_tool_core.specs.declared.shapes.Hash.TheVariants.{Fx, Unhash, Xxh64}
use Rattle.odht_tool_core.specs.declared.typed.Texts.{Texts}
use Rattle.odht_tool_writes.proofs.Deletions.{format_as}
use Rattle.odht_tool_writes.proofs.commands.merge.merged_inputs.Goals as goal

pub merge_lengths-requires : goal.merge_lengths-requires
merge_lengths-requires g c =
    let texts = sym c.of-texts.ensures in
    subst (λ (t : Texts). All (IsInputOf (typed_len t.key) (typed_len t.value)) c.args.inputs.now) texts c.requires

pub returns-in-Fx-clause-ok : goal.returns-in-Fx-clause-ok
returns-in-Fx-clause-ok g c =
    let o = c.args.options.now in
    let texts = c.of-texts.ensures in
    let xss : List (List Pair) = map input_pairs c.args.inputs.now in
    let format = format_as c.args.found.0 (typed_len c.of-texts.result.key) (typed_len c.of-texts.result.value) Fx (ap (λ (t : Texts). typed_len t.key) texts) (ap (λ (t : Texts). typed_len t.value) texts) (sym c.hash.ensures ∙ c.in-Fx.is) in
    subst (λ (F : Format). IfOk c.merge_lengths.result (λ new. IsMerged F o.duplicates c.args.percent xss new.items)) format c.merge_lengths.ensures.ok

pub returns-in-Fx-clause-err : goal.returns-in-Fx-clause-err
returns-in-Fx-clause-err g c =
    let o = c.args.options.now in
    let texts = c.of-texts.ensures in
    let xss : List (List Pair) = map input_pairs c.args.inputs.now in
    let hash = sym c.hash.ensures ∙ c.in-Fx.is in
    let least : least_key_len Fx ≡ least_key_len (any_hash c.args.found.0) = ap least_key_len (sym hash) in
    let format = format_as c.args.found.0 (typed_len c.of-texts.result.key) (typed_len c.of-texts.result.value) Fx (ap (λ (t : Texts). typed_len t.key) texts) (ap (λ (t : Texts). typed_len t.value) texts) hash in
    subst (λ (x : (Texts × ℕ) × Format). IfErr c.merge_lengths.result (IsStopped x.0.0 x.0.1 x.1 o.duplicates c.args.percent xss)) (λ i. ((texts i, least i), format i)) c.merge_lengths.ensures.err

pub merge_lengths-requires-in-Unhash : goal.merge_lengths-requires-in-Unhash
merge_lengths-requires-in-Unhash g c =
    let texts = sym c.of-texts.ensures in
    subst (λ (t : Texts). All (IsInputOf (typed_len t.key) (typed_len t.value)) c.args.inputs.now) texts c.requires

pub merge_lengths-requires-in-Xxh64 : goal.merge_lengths-requires-in-Xxh64
merge_lengths-requires-in-Xxh64 g c =
    let texts = sym c.of-texts.ensures in
    subst (λ (t : Texts). All (IsInputOf (typed_len t.key) (typed_len t.value)) c.args.inputs.now) texts c.requires

pub returns-in-Unhash-clause-ok : goal.returns-in-Unhash-clause-ok
returns-in-Unhash-clause-ok g c =
    let o = c.args.options.now in
    let texts = c.of-texts.ensures in
    let xss : List (List Pair) = map input_pairs c.args.inputs.now in
    let format = format_as c.args.found.0 (typed_len c.of-texts.result.key) (typed_len c.of-texts.result.value) Unhash (ap (λ (t : Texts). typed_len t.key) texts) (ap (λ (t : Texts). typed_len t.value) texts) (sym c.hash.ensures ∙ c.in-Unhash.is) in
    subst (λ (F : Format). IfOk c.merge_lengths-in-Unhash.result (λ new. IsMerged F o.duplicates c.args.percent xss new.items)) format c.merge_lengths-in-Unhash.ensures.ok

pub returns-in-Xxh64-clause-ok : goal.returns-in-Xxh64-clause-ok
returns-in-Xxh64-clause-ok g c =
    let o = c.args.options.now in
    let texts = c.of-texts.ensures in
    let xss : List (List Pair) = map input_pairs c.args.inputs.now in
    let format = format_as c.args.found.0 (typed_len c.of-texts.result.key) (typed_len c.of-texts.result.value) Xxh64 (ap (λ (t : Texts). typed_len t.key) texts) (ap (λ (t : Texts). typed_len t.value) texts) (sym c.hash.ensures ∙ c.in-Xxh64.is) in
    subst (λ (F : Format). IfOk c.merge_lengths-in-Xxh64.result (λ new. IsMerged F o.duplicates c.args.percent xss new.items)) format c.merge_lengths-in-Xxh64.ensures.ok

pub returns-in-Unhash-clause-err : goal.returns-in-Unhash-clause-err
returns-in-Unhash-clause-err g c =
    let o = c.args.options.now in
    let texts = c.of-texts.ensures in
    let xss : List (List Pair) = map input_pairs c.args.inputs.now in
    let hash = sym c.hash.ensures ∙ c.in-Unhash.is in
    let least : least_key_len Unhash ≡ least_key_len (any_hash c.args.found.0) = ap least_key_len (sym hash) in
    let format = format_as c.args.found.0 (typed_len c.of-texts.result.key) (typed_len c.of-texts.result.value) Unhash (ap (λ (t : Texts). typed_len t.key) texts) (ap (λ (t : Texts). typed_len t.value) texts) hash in
    subst (λ (x : (Texts × ℕ) × Format). IfErr c.merge_lengths-in-Unhash.result (IsStopped x.0.0 x.0.1 x.1 o.duplicates c.args.percent xss)) (λ i. ((texts i, least i), format i)) c.merge_lengths-in-Unhash.ensures.err

pub returns-in-Xxh64-clause-err : goal.returns-in-Xxh64-clause-err
returns-in-Xxh64-clause-err g c =
    let o = c.args.options.now in
    let texts = c.of-texts.ensures in
    let xss : List (List Pair) = map input_pairs c.args.inputs.now in
    let hash = sym c.hash.ensures ∙ c.in-Xxh64.is in
    let least : least_key_len Xxh64 ≡ least_key_len (any_hash c.args.found.0) = ap least_key_len (sym hash) in
    let format = format_as c.args.found.0 (typed_len c.of-texts.result.key) (typed_len c.of-texts.result.value) Xxh64 (ap (λ (t : Texts). typed_len t.key) texts) (ap (λ (t : Texts). typed_len t.value) texts) hash in
    subst (λ (x : (Texts × ℕ) × Format). IfErr c.merge_lengths-in-Xxh64.result (IsStopped x.0.0 x.0.1 x.1 o.duplicates c.args.percent xss)) (λ i. ((texts i, least i), format i)) c.merge_lengths-in-Xxh64.ensures.err
