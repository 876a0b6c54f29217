use Rattle.std.proofs.Common.{rules, ◌≡◌, ◌∙◌, List, Some, All, sym, ap, subst}
use Rattle.odht_base.specs.Format.{Format, format_of}
use Rattle.odht_base.specs.Table.{Pair, Table, count, fresh, walk}
use Rattle.odht_base.specs.Valid.{IsImage}
use Rattle.odht_raw.specs.Frame.{IsAccepted}
use Rattle.odht_raw.specs.DynParts.{HasLengthsOf}
use Rattle.odht_raw.proofs.lemmas.Accepted.{IsAccepted-IsValidBytes}
use Rattle.odht.specs.Dynamic.{DynStore, dyn_format}
use Rattle.odht.specs.Plain.{IsRunOf}
use Rattle.odht.proofs.lemmas.PlainRuns.{run_bytes}
use Rattle.odht_tool_writes.proofs.NewTables.{made_anew}
use Rattle.odht_tool_writes.proofs.commands.rebuild.rebuilt_as.Goals as goal

pub open_unchecked-old-requires-clause-accepted : goal.open_unchecked-old-requires-clause-accepted
open_unchecked-old-requires-clause-accepted g c =
    let F : Format = format_of c.args.layout.key_len c.args.layout.value_len g.S.HashFn.hash in
    subst (IsAccepted F) (sym c.new.ensures) (IsAccepted-IsValidBytes F c.args.bytes.now c.requires.valid)

pub insert_pairs-requires : goal.insert_pairs-requires
insert_pairs-requires g c =
    let old = c.open_unchecked-old.result in
    let t = c.in_ok-table.table in
    let key : old.key_len ≡ c.args.layout.key_len = search rules in
    let value : old.value_len ≡ c.args.layout.value_len = search rules in
    let key' : old.key_len ≡ t.key_len = key ∙ sym c.in_ok-table.ensures.ok.key_len in
    let value' : old.value_len ≡ t.value_len = value ∙ sym c.in_ok-table.ensures.ok.value_len in
    subst (λ n. All (HasLengthsOf t.key_len n) c.iter.result) value' (subst (λ n. All (HasLengthsOf n old.value_len) c.iter.result) key' c.iter.ensures.lengths)

pub returns-clause-ok : goal.returns-clause-ok
returns-clause-ok g c P is =
    let F : Format = format_of c.args.layout.key_len c.args.layout.value_len g.H.HashFn.hash in
    let G : Format = format_of c.args.layout.key_len c.args.layout.value_len g.S.HashFn.hash in
    let old = c.open_unchecked-old.result in
    let t = c.in_ok-table.table in
    let key : c.args.layout.key_len ≡ old.key_len = search rules in
    let value : c.args.layout.value_len ≡ old.value_len = search rules in
    let bytes : c.args.bytes.now ≡ old.store.0.now = search rules in
    let formats : G ≡ format_of old.key_len old.value_len g.S.HashFn.hash = λ i. format_of (key i) (value i) g.S.HashFn.hash in
    let is' : IsImage (format_of old.key_len old.value_len g.S.HashFn.hash) P old.store.0.now =
    subst (λ B. IsImage (format_of old.key_len old.value_len g.S.HashFn.hash) P B) bytes (subst (λ (X : Format). IsImage X P c.args.bytes.now) formats is) in
    let pairs : c.iter.result ≡ walk P = c.iter.ensures.pairs.on_valid P is' in
    let many : c.len.result ≡ count P = c.len.ensures.on_valid P is' in
    let with_lengths = c.in_ok-table.ensures.ok in
    let start = t.store in
    let t' = c.insert_pairs.new.table in
    let made : fresh c.len.result c.args.percent ≡ Some start = with_lengths.store in
    let same : dyn_format t g.H.HashFn.hash ≡ F = λ i. format_of (with_lengths.key_len i) (with_lengths.value_len i) g.H.HashFn.hash in
    let after : dyn_format t' g.H.HashFn.hash ≡ F = ap (λ (s : DynStore Table). dyn_format s g.H.HashFn.hash) c.insert_pairs.ensures.lengths ∙ same in
    let ran : IsRunOf F start c.iter.result t'.store = subst (λ (X : Format). IsRunOf X start c.iter.result t'.store) same c.in_ok-insert_pairs.ensures.inserted in
    let walked : IsRunOf F start (walk P) t'.store = subst (λ (ps : List Pair). IsRunOf F start ps t'.store) pairs ran in
    let image : IsImage F t'.store c.into_raw_bytes.result.items = subst (λ (X : Format). IsImage X t'.store c.into_raw_bytes.result.items) after c.into_raw_bytes.ensures in
    made_anew F G c.args.percent P start c.into_raw_bytes.result.items is.valid.placed
    (subst (λ n. fresh n c.args.percent ≡ Some start) many made)
    (run_bytes F start (walk P) t'.store c.into_raw_bytes.result.items walked image)
