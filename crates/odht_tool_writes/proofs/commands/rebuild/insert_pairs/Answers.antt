use Rattle.std.proofs.Common.{rules, ◌≡◌, ◌∙◌, ◌++◌, ◌∷◌, [], ℕ, false, Bor, List, map, sym, ap, subst, append_assoc}
use Rattle.std.specs.Prelude.{is_err}
use Rattle.std.proofs.lemmas.List.{map-append}
use Rattle.odht_base.specs.Table.{Pair, Table}
use Rattle.odht.specs.Dynamic.{DynStore, dyn_format, dyn_store}
use Rattle.odht.specs.Plain.{IsRunOf}
use Rattle.odht_tool_writes.proofs.NewTables.{ok_of, one_inserted}
use Rattle.odht_tool_writes.proofs.commands.rebuild.insert_pairs.Goals as goal

-- the pair of an item
abbrev pair_of : Bor (List ℕ) × Bor (List ℕ) → Pair
pair_of x = record { key = x.0.now; value = x.1.now }

pub loop-key-preserved : goal.loop-key-preserved
loop-key-preserved g c =
    let h = g.H.HashFn.hash in
    let before = c.args.table.now in
    let t = c.loop-key.table in
    let t' = c.insert.new.self in
    let k = c.in-Some.key.now in
    let v = c.in-Some.value.now in
    let here : Pair = record { key = k; value = v } in
    let F = dyn_format before h in
    let items = c.loop-key.yielded in
    let done : List Pair = map pair_of items in
    let accepted : is_err c.insert.result ≡ false = search rules in
    let ok = ok_of c.insert.result accepted in
    let all : map pair_of (items ++ (c.in-Some.key, c.in-Some.value) ∷ []) ≡ done ++ here ∷ [] = map-append pair_of items ((c.in-Some.key, c.in-Some.value) ∷ []) in
    let said = c.insert.ensures in
    let more = one_inserted h before t t' c.loop-key.invariant.lengths done k v c.insert.result ok.0 ok.1 c.loop-key.invariant.ran said.inserted said.maps said.stays in
    record {
      lengths = said.layout ∙ ap (λ (s : DynStore Table). dyn_store s.key_len s.value_len t'.store) c.loop-key.invariant.lengths;
      pairs = c.loop-key.invariant.pairs ∙ ap (λ xs. done ++ xs) c.in-Some.ensures.steps
          ∙ sym (append_assoc done (here ∷ []) c.next.new.self) ∙ ap (λ xs. xs ++ c.next.new.self) (sym all);
      ran = subst (λ (xs : List Pair). IsRunOf F before.store xs t'.store) (sym all) more;
    }
