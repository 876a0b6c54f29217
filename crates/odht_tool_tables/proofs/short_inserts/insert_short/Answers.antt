use Rattle.std.proofs.Common.{rules, arith, ◌≡◌, ◌∙◌, ◌%◌, false, true, [], Some, All, sym, ap, refl, subst}
use Rattle.std.specs.Prelude.{OnOk, is_err, nat_lt}
use Rattle.std.proofs.lemmas.List.Elements.{All-head, All-tail}
use Rattle.odht_base.specs.Format.{Format}
use Rattle.odht_base.specs.Image.{controls}
use Rattle.odht_base.specs.Insert.{insert_owned}
use Rattle.odht_base.specs.Table.{Pair, Table, slot_count}
use Rattle.odht_raw.specs.DynParts.{HasLengthsOf}
use Rattle.odht.specs.Dynamic.{DynStore, dyn_format, dyn_store}
use Rattle.odht_tool_core.specs.GroupNumbers.{capped, groups_to_free}
use Rattle.odht_tool_tables.specs.Trials.{is_long_from, run_short}
use Rattle.odht_tool_tables.proofs.ShortRuns.{ok_of, run_goes_on, run_stops}
use Rattle.odht_tool_tables.proofs.short_inserts.insert_short.Given.{Over}
use Rattle.odht_tool_tables.proofs.short_inserts.insert_short.Goals.{After-is_long_from}
use Rattle.odht_tool_tables.proofs.short_inserts.insert_short.Goals as goal

pub loop-key-init : goal.loop-key-init
loop-key-init g c =
    let t = c.args.table.now in
    let begun : c.into_iter-key-iterator.result ≡ c.args.pairs = search rules in
    record {
      lengths = refl;
      left = subst (All (HasLengthsOf t.key_len t.value_len)) (sym begun) c.requires.lengths;
      same = ap (run_short (dyn_format t g.H.HashFn.hash) t.store) (sym begun);
    }

pub hash-requires : goal.hash-requires
hash-requires g c =
    let t = c.args.table.now in
    let here : Pair = record { key = c.in-Some.key.now; value = c.in-Some.value.now } in
    let left = subst (All (HasLengthsOf t.key_len t.value_len)) c.in-Some.ensures.steps c.loop-key.invariant.left in
    let key = (All-head (HasLengthsOf t.key_len t.value_len) here c.next.new.self left).key in
    omega (arith, key, c.requires.hashes)

-- whether the search for the key is long in the table so far
looked_up : (g : Over) (c : After-is_long_from g) → is_long_from (dyn_format c.loop-key.table g.H.HashFn.hash) c.loop-key.table.store c.in-Some.key.now ≡ c.is_long_from.result
looked_up g c =
    let P = c.loop-key.table.store in
    let F = dyn_format c.loop-key.table g.H.HashFn.hash in
    ap (λ h. nat_lt 24 (capped (Some 24) (groups_to_free (controls F P.cells) (h % slot_count P)))) (sym c.hash.ensures)
    ∙ sym (c.is_long_from.ensures F P c.raw_bytes.ensures)

pub returns-then-is_long_from-clause-short : goal.returns-then-is_long_from-clause-short
returns-then-is_long_from-clause-short g c =
    let h = g.H.HashFn.hash in
    let F = dyn_format c.args.table.now h in
    let here : Pair = record { key = c.in-Some.key.now; value = c.in-Some.value.now } in
    let P = c.loop-key.table.store in
    let formats : dyn_format c.loop-key.table h ≡ F = ap (λ (s : DynStore Table). dyn_format s h) c.loop-key.invariant.lengths in
    let found = looked_up g (goal.at.returns-then-is_long_from-clause-short g c).After-is_long_from in
    let long : is_long_from F P here.key ≡ true = subst (λ (X : Format). is_long_from X P here.key ≡ true) formats (found ∙ c.if-is_long_from.true) in
    c.loop-key.invariant.same ∙ ap (run_short F P) c.in-Some.ensures.steps ∙ run_stops F P here c.next.new.self long

pub loop-key-preserved : goal.loop-key-preserved
loop-key-preserved g c =
    let h = g.H.HashFn.hash in
    let before = c.args.table.now in
    let F = dyn_format before h in
    let t = c.loop-key.table in
    let P = t.store in
    let t' = c.insert.new.self in
    let here : Pair = record { key = c.in-Some.key.now; value = c.in-Some.value.now } in
    let left = subst (All (HasLengthsOf before.key_len before.value_len)) c.in-Some.ensures.steps c.loop-key.invariant.left in
    let lengths = c.loop-key.invariant.lengths in
    let accepted : is_err c.insert.result ≡ false = search rules in
    let ok = ok_of c.insert.result accepted in
    let one = subst (λ r. OnOk r (insert_owned (dyn_format t h) P here ≡ Some t'.store)) ok.1 c.insert.ensures.inserted in
    let formats : dyn_format t h ≡ F = ap (λ (s : DynStore Table). dyn_format s h) lengths in
    let found = looked_up g (goal.at.loop-key-preserved g c).After-is_long_from in
    let short : is_long_from F P here.key ≡ false = subst (λ (X : Format). is_long_from X P here.key ≡ false) formats (found ∙ c.if-is_long_from.false) in
    let goes = run_goes_on F P here c.next.new.self t'.store short (subst (λ (X : Format). insert_owned X P here ≡ Some t'.store) formats one) in
    record {
      lengths = c.insert.ensures.layout ∙ ap (λ (s : DynStore Table). dyn_store s.key_len s.value_len t'.store) lengths;
      left = All-tail (HasLengthsOf before.key_len before.value_len) here c.next.new.self left;
      same = c.loop-key.invariant.same ∙ ap (run_short F P) c.in-Some.ensures.steps ∙ goes;
    }

pub returns-clause-short : goal.returns-clause-short
returns-clause-short g c =
    let end : c.loop-key.key-iterator ≡ [] = search rules in
    c.loop-key.invariant.same ∙ ap (run_short (dyn_format c.args.table.now g.H.HashFn.hash) c.loop-key.table.store) end
