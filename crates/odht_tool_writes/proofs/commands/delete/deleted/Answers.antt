use Rattle.std.proofs.Common.{◌≡◌, ◌∙◌, sym, ap, subst, refl, length, map, Ok}
use Rattle.std.proofs.lemmas.List.{length-map}
use Rattle.std.specs.Prelude.{string_bytes}
use Rattle.odht_base.specs.Valid.{IsImage}
use Rattle.odht_tool_writes.specs.DeleteLines.{are_lines_keys, are_named}
use Rattle.odht_tool_writes.specs.Deletes.{are_keys}
use Rattle.odht_tool_writes.proofs.Deletions.{as_many, deleted_of}
use Rattle.odht_tool_writes.proofs.KeyLines.{lines_are_keys}
use Rattle.odht_tool_writes.proofs.NewTables.{on_value}
use Rattle.odht_tool_core.specs.AnyShapes.{any_format}
use Rattle.odht_tool_tables.specs.Wholes.{asked_whole}
use Rattle.odht_tool_writes.proofs.commands.delete.deleted.Goals as goal

pub returns-in-Words-clause-ok : goal.returns-in-Words-clause-ok
returns-in-Words-clause-ok g c =
    let B = c.args.bytes.items in
    let o = c.args.options.now in
    let s = c.in_ok-found.found.0 in
    let forms = c.in_ok-found.found.1 in
    let input = g.I.Read.remaining c.args.input.now in
    let bytes = c.as_slice-bytes.ensures.value in
    let whole : asked_whole B o.hash o.kinds o.bound ≡ Ok (s, forms) = ap (λ b. asked_whole b o.hash o.kinds o.bound) (sym bytes) ∙ sym c.read_asked.ensures.whole ∙ c.in_ok-found.was in
    let valid = c.in_ok-found.ensures.valid in
    let image : IsImage (any_format s) valid.0 B = subst (IsImage (any_format s) valid.0) bytes valid.1 in
    let ws = map string_bytes c.in-Words.words.items in
    let keys = c.in_ok-keys-in-Words.keys in
    let all : are_keys forms.key ws s keys =
    subst (λ w. are_keys forms.key (map string_bytes w) s keys) c.as_slice-words.ensures.value c.in_ok-keys-in-Words.ensures in
    let texts : are_named forms.key input s ws keys o.keys =
    subst (are_named forms.key input s ws keys) (sym c.in-Words.is) (refl, all) in
    on_value c.deleted_for.result _ _
    (λ x left. deleted_of B o.hash o.kinds o.bound input o.keys s forms whole valid.0 image ws keys texts x.0.items x.1 left)
    (c.deleted_for.ensures.ok valid.0 valid.1)

pub deleted_for-requires-in-Lines-clause-each : goal.deleted_for-requires-in-Lines-clause-each
deleted_for-requires-in-Lines-clause-each g c =
    let s = c.in_ok-found.found.0 in
    let read = c.in_ok-read-in-Lines.read in
    let f = c.in_ok-found.found.1.key in
    let ws = map (λ line. line.items) read.lines.items in
    let many = as_many f ws s read.keys (lines_are_keys f (g.I.Read.remaining c.args.input.now) ws s read.keys c.in_ok-read-in-Lines.ensures) in
    ap length c.as_slice.ensures.value ∙ sym (length-map read.lines.items (λ line. line.items)) ∙ many

pub returns-clause-ok : goal.returns-clause-ok
returns-clause-ok g c =
    let B = c.args.bytes.items in
    let o = c.args.options.now in
    let s = c.in_ok-found.found.0 in
    let forms = c.in_ok-found.found.1 in
    let input = g.I.Read.remaining c.args.input.now in
    let bytes = c.as_slice-bytes.ensures.value in
    let whole : asked_whole B o.hash o.kinds o.bound ≡ Ok (s, forms) = ap (λ b. asked_whole b o.hash o.kinds o.bound) (sym bytes) ∙ sym c.read_asked.ensures.whole ∙ c.in_ok-found.was in
    let valid = c.in_ok-found.ensures.valid in
    let image : IsImage (any_format s) valid.0 B = subst (IsImage (any_format s) valid.0) bytes valid.1 in
    let ws = map (λ line. line.items) c.in_ok-read-in-Lines.read.lines.items in
    let keys = c.in_ok-read-in-Lines.read.keys in
    let all : are_lines_keys forms.key input ws s keys = c.in_ok-read-in-Lines.ensures in
    let texts : are_named forms.key input s ws keys o.keys = subst (are_named forms.key input s ws keys) (sym c.in-Lines.is) all in
    on_value c.deleted_for-in-Lines.result _ _
    (λ x left. deleted_of B o.hash o.kinds o.bound input o.keys s forms whole valid.0 image ws keys texts x.0.items x.1 left)
    (c.deleted_for-in-Lines.ensures.ok valid.0 valid.1)
