use Rattle.std.proofs.Common.{rules, ◌≡◌, ◌∙◌, true, false, not, Some, length, sym, ap, subst}
use Rattle.odht_base.specs.Decoded.{decoded_pairs}
use Rattle.odht_base.specs.Format.{Format, format_of}
use Rattle.odht_base.specs.Hashes.{fx}
use Rattle.odht_base.specs.Table.{Table, fresh}
use Rattle.odht_base.specs.Valid.{IsImage}
use Rattle.odht_raw.specs.Frame.{IsAccepted}
use Rattle.odht.specs.Dynamic.{DynStore, dyn_format}
use Rattle.odht_tool_tables.specs.Trials.{IsRunShort, run_short}
use Rattle.odht_tool_tables.proofs.ShortRuns.{long_is, same_pairs, short_is}
use Rattle.odht_tool_tables.proofs.trials.is_rebuilt_short.Goals as goal

pub open_unchecked-old-requires-clause-accepted : goal.open_unchecked-old-requires-clause-accepted
open_unchecked-old-requires-clause-accepted g c = subst (IsAccepted (format_of c.args.layout.key_len c.args.layout.value_len fx)) (sym c.new.ensures) c.requires.accepted

pub returns-then-whole-clause-short : goal.returns-then-whole-clause-short
returns-then-whole-clause-short g c =
    let h = g.H.HashFn.hash in
    let kl = c.args.layout.key_len in
    let vl = c.args.layout.value_len in
    let F : Format = format_of kl vl h in
    let B = c.args.bytes.now in
    let old = c.open_unchecked-old.result in
    let t = c.in-Ok.new in
    let key : old.key_len ≡ kl = search rules in
    let value : old.value_len ≡ vl = search rules in
    let bytes : old.store.0.now ≡ B = search rules in
    let walked : decoded_pairs (format_of old.key_len old.value_len fx) old.store.0.now ≡ decoded_pairs F B =
    (λ i. decoded_pairs (format_of (key i) (value i) fx) (bytes i)) ∙ same_pairs kl vl fx h B in
    let pairs : c.iter-2.result ≡ decoded_pairs F B = c.iter-2.ensures.pairs.on_any ∙ walked in
    let many : c.count_of-count.result ≡ length (decoded_pairs F B) = c.count_of-count.ensures ∙ ap length (c.iter.ensures.pairs.on_any ∙ walked) in
    let start = t.store in
    let made = c.in-Ok.ensures.ok.store in
    let percent : c.value-percent.result ≡ c.args.percent = c.value-percent.ensures.value in
    let new : fresh (length (decoded_pairs F B)) c.args.percent ≡ Some start =
    subst (λ n. fresh n c.args.percent ≡ Some start) many (subst (λ p. fresh c.count_of-count.result p ≡ Some start) percent made) in
    let same : dyn_format t h ≡ F = λ i. format_of (c.in-Ok.ensures.ok.key_len i) (c.in-Ok.ensures.ok.value_len i) h in
    let ran = subst (λ (X : Format). IsRunShort X start c.iter-2.result true c.insert_short.new.table.store) same
    (subst (λ b. IsRunShort (dyn_format t h) start c.iter-2.result b c.insert_short.new.table.store) c.if-whole.true c.in_ok-whole.ensures.short) in
    let t' = c.insert_short.new.table in
    let run : run_short F start (decoded_pairs F B) ≡ Some t'.store = ap (run_short F start) (sym pairs) ∙ ran in
    let after : dyn_format t' h ≡ F = ap (λ (s : DynStore Table). dyn_format s h) c.insert_short.ensures.lengths ∙ same in
    let image : IsImage F t'.store c.raw_bytes.result.now = subst (λ (X : Format). IsImage X t'.store c.raw_bytes.result.now) after c.raw_bytes.ensures in
    ap not (c.has_long_search.ensures F t'.store image) ∙ sym (short_is F c.args.percent (decoded_pairs F B) start new t'.store run)

pub returns-clause-short : goal.returns-clause-short
returns-clause-short g c =
    let h = g.H.HashFn.hash in
    let kl = c.args.layout.key_len in
    let vl = c.args.layout.value_len in
    let F : Format = format_of kl vl h in
    let B = c.args.bytes.now in
    let old = c.open_unchecked-old.result in
    let t = c.in-Ok.new in
    let key : old.key_len ≡ kl = search rules in
    let value : old.value_len ≡ vl = search rules in
    let bytes : old.store.0.now ≡ B = search rules in
    let walked : decoded_pairs (format_of old.key_len old.value_len fx) old.store.0.now ≡ decoded_pairs F B =
    (λ i. decoded_pairs (format_of (key i) (value i) fx) (bytes i)) ∙ same_pairs kl vl fx h B in
    let pairs : c.iter-2.result ≡ decoded_pairs F B = c.iter-2.ensures.pairs.on_any ∙ walked in
    let many : c.count_of-count.result ≡ length (decoded_pairs F B) = c.count_of-count.ensures ∙ ap length (c.iter.ensures.pairs.on_any ∙ walked) in
    let start = t.store in
    let made = c.in-Ok.ensures.ok.store in
    let percent : c.value-percent.result ≡ c.args.percent = c.value-percent.ensures.value in
    let new : fresh (length (decoded_pairs F B)) c.args.percent ≡ Some start =
    subst (λ n. fresh n c.args.percent ≡ Some start) many (subst (λ p. fresh c.count_of-count.result p ≡ Some start) percent made) in
    let same : dyn_format t h ≡ F = λ i. format_of (c.in-Ok.ensures.ok.key_len i) (c.in-Ok.ensures.ok.value_len i) h in
    let ran = subst (λ (X : Format). IsRunShort X start c.iter-2.result false c.insert_short.new.table.store) same
    (subst (λ b. IsRunShort (dyn_format t h) start c.iter-2.result b c.insert_short.new.table.store) c.if-whole.false c.in_ok-whole.ensures.short) in
    sym (long_is F c.args.percent (decoded_pairs F B) start new (ap (run_short F start) (sym pairs) ∙ ran))
