use Rattle.std.proofs.Common.{◌≡◌, ◌∙◌, List, ap, subst}
use Rattle.odht_base.specs.Format.{Format, format_of}
use Rattle.odht_base.specs.Table.{Pair, Table, walk}
use Rattle.odht_base.specs.Valid.{IsImage}
use Rattle.odht.specs.Dynamic.{DynStore, dyn_format}
use Rattle.odht.specs.Plain.{IsRunOf}
use Rattle.odht.proofs.lemmas.PlainRuns.{run_bytes}
use Rattle.odht_tool_writes.specs.Deletes.{cleared, without}
use Rattle.odht_tool_writes.proofs.Deletions.{deleted_from}
use Rattle.odht_tool_writes.proofs.dynamic.deletes.left_pairs.Goals as goal

pub returns-clause-ok : goal.returns-clause-ok
returns-clause-ok g c P is =
    let h = g.H.HashFn.hash in
    let F = dyn_format c.args.old.now h in
    let keys = c.args.keys.now in
    let t = c.in_ok-table.table in
    let of_keys = c.in_ok-named.ensures.ok in
    let empty = c.in_ok-table.ensures.ok P is in
    let t' = c.insert_others.new.table in
    let formats : dyn_format t h ≡ F = λ i. format_of (empty.key_len i) (empty.value_len i) h in
    let after : dyn_format t' h ≡ F = ap (λ (s : DynStore Table). dyn_format s h) c.insert_others.ensures.lengths ∙ formats in
    let ran : IsRunOf F t.store (without keys c.iter.result) t'.store =
    subst (λ (X : Format). IsRunOf X t.store (without keys c.iter.result) t'.store) formats (c.in_ok-insert_others.ensures.inserted keys of_keys.store) in
    let walked : IsRunOf F (cleared P) (without keys (walk P)) t'.store =
    subst (λ (Q : Table). IsRunOf F Q (without keys (walk P)) t'.store) empty.store
    (subst (λ (ps : List Pair). IsRunOf F t.store (without keys ps) t'.store) (c.iter.ensures.pairs.on_valid P is) ran) in
    let image : IsImage F t'.store c.into_raw_bytes.result.items = subst (λ (X : Format). IsImage X t'.store c.into_raw_bytes.result.items) after c.into_raw_bytes.ensures in
    deleted_from F keys P c.into_raw_bytes.result.items is.valid (run_bytes F (cleared P) (without keys (walk P)) t'.store c.into_raw_bytes.result.items walked image)
