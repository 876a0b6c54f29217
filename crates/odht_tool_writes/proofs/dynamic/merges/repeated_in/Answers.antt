use Rattle.std.proofs.Common.{◌≡◌, ◌∙◌, List, sym, subst, IfOk}
use Rattle.std.specs.Prelude.{option_map}
use Rattle.odht_base.specs.Decoded.{decoded_pairs}
use Rattle.odht_base.specs.Table.{Pair}
use Rattle.odht.specs.Dynamic.{dyn_format}
use Rattle.odht_tool_writes.specs.Merges.{IsFilled, input_pairs, repeat_in}
use Rattle.odht_tool_core.specs.ReadyShapes.{typed_len}
use Rattle.odht_tool_core.specs.StoredTexts.{key_text}
use Rattle.odht_tool_core.specs.declared.arguments.duplicates.Duplicates.{Duplicates}
use Rattle.odht_tool_core.specs.declared.arguments.duplicates.Duplicates.TheVariants.{Error}
use Rattle.odht_tool_core.specs.declared.shapes.Hash.TheVariants.{Fx, Unhash, Xxh64}
use Rattle.odht_tool_writes.proofs.Deletions.{format_as}
use Rattle.odht_tool_writes.proofs.Merging.{filled_keys}
use Rattle.odht_tool_writes.proofs.dynamic.merges.repeated_in.Goals as goal

pub returns-in-Error-Fx-clause-ok : goal.returns-in-Error-Fx-clause-ok
returns-in-Error-Fx-clause-ok g c start ps was =
    let t = c.args.table.now in
    let F = dyn_format t g.H.HashFn.hash in
    let fits = c.requires in
    let texts = c.args.texts in
    let format = format_as c.args.input.now.shape (typed_len texts.key) (typed_len texts.value) Fx (sym fits.key) (sym fits.value) (sym c.hash.ensures ∙ c.in-Error-Fx.is-1) in
    let pairs : c.iter.result ≡ input_pairs c.args.input.now = c.iter.ensures.pairs.on_any ∙ c.open_valid-old.ensures.pairs ∙ (λ i. decoded_pairs (format i) (c.as_slice.ensures.value i)) in
    let filled : IsFilled F Error start ps t.store = subst (λ (x : Duplicates). IsFilled F x start ps t.store) c.in-Error-Fx.is-0 was in
    let found = c.repeated_key.ensures.ok ps (filled_keys F start ps t.store filled) in
    let policy = sym c.in-Error-Fx.is-0 in
    subst (λ (x : Duplicates × List Pair). IfOk c.repeated_key.result (λ found. option_map (λ text. text.items) found ≡ option_map (key_text texts) (repeat_in x.0 ps x.1))) (λ i. (policy i, pairs i)) found

pub returns-in-Error-Unhash-clause-ok : goal.returns-in-Error-Unhash-clause-ok
returns-in-Error-Unhash-clause-ok g c start ps was =
    let t = c.args.table.now in
    let F = dyn_format t g.H.HashFn.hash in
    let fits = c.requires in
    let texts = c.args.texts in
    let format = format_as c.args.input.now.shape (typed_len texts.key) (typed_len texts.value) Unhash (sym fits.key) (sym fits.value) (sym c.hash.ensures ∙ c.in-Error-Unhash.is-1) in
    let pairs : c.iter-in-Error-Unhash.result ≡ input_pairs c.args.input.now = c.iter-in-Error-Unhash.ensures.pairs.on_any ∙ c.open_valid-old-in-Error-Unhash.ensures.pairs ∙ (λ i. decoded_pairs (format i) (c.as_slice-in-Error-Unhash.ensures.value i)) in
    let filled : IsFilled F Error start ps t.store = subst (λ (x : Duplicates). IsFilled F x start ps t.store) c.in-Error-Unhash.is-0 was in
    let found = c.repeated_key-in-Error-Unhash.ensures.ok ps (filled_keys F start ps t.store filled) in
    let policy = sym c.in-Error-Unhash.is-0 in
    subst (λ (x : Duplicates × List Pair). IfOk c.repeated_key-in-Error-Unhash.result (λ found. option_map (λ text. text.items) found ≡ option_map (key_text texts) (repeat_in x.0 ps x.1))) (λ i. (policy i, pairs i)) found

pub returns-in-Error-Xxh64-clause-ok : goal.returns-in-Error-Xxh64-clause-ok
returns-in-Error-Xxh64-clause-ok g c start ps was =
    let t = c.args.table.now in
    let F = dyn_format t g.H.HashFn.hash in
    let fits = c.requires in
    let texts = c.args.texts in
    let format = format_as c.args.input.now.shape (typed_len texts.key) (typed_len texts.value) Xxh64 (sym fits.key) (sym fits.value) (sym c.hash.ensures ∙ c.in-Error-Xxh64.is-1) in
    let pairs : c.iter-in-Error-Xxh64.result ≡ input_pairs c.args.input.now = c.iter-in-Error-Xxh64.ensures.pairs.on_any ∙ c.open_valid-old-in-Error-Xxh64.ensures.pairs ∙ (λ i. decoded_pairs (format i) (c.as_slice-in-Error-Xxh64.ensures.value i)) in
    let filled : IsFilled F Error start ps t.store = subst (λ (x : Duplicates). IsFilled F x start ps t.store) c.in-Error-Xxh64.is-0 was in
    let found = c.repeated_key-in-Error-Xxh64.ensures.ok ps (filled_keys F start ps t.store filled) in
    let policy = sym c.in-Error-Xxh64.is-0 in
    subst (λ (x : Duplicates × List Pair). IfOk c.repeated_key-in-Error-Xxh64.result (λ found. option_map (λ text. text.items) found ≡ option_map (key_text texts) (repeat_in x.0 ps x.1))) (λ i. (policy i, pairs i)) found
