use Rattle.std.proofs.Common.{rules, ◌≡◌, ◌∙◌, ◌+◌, ◌++◌, ◌∷◌, [], false, sym, ap, subst, take}
use Rattle.std.specs.Prelude.{OnOk, is_err}
use Rattle.odht_base.specs.Table.{Table}
use Rattle.odht.specs.Dynamic.{DynStore}
use Rattle.odht.specs.Plain.{HasMapWith}
use Rattle.odht_tool_writes.specs.Deletes.{AreNamed}
use Rattle.odht_tool_tables.proofs.Lines.{taken_more}
use Rattle.odht_tool_writes.proofs.Deletions.{named_more}
use Rattle.odht_tool_writes.proofs.NewTables.{ok_of}
use Rattle.odht_tool_writes.proofs.dynamic.deletes.named_keys.Goals as goal

pub loop-at-preserved : goal.loop-at-preserved
loop-at-preserved g c =
    let t = c.loop-at.named in
    let t' = c.insert.new.self in
    let k = c.at.result.now in
    let keys = c.args.keys.now in
    let i = c.loop-at.at in
    let was = c.loop-at.invariant in
    let accepted : is_err c.insert.result ≡ false = search rules in
    let ok = ok_of c.insert.result accepted in
    let maps = subst (λ r. OnOk r (HasMapWith t.store (record { key = k; value = [] }) t'.store)) ok.1 c.insert.ensures.maps in
    let more = named_more t.store t'.store (take i keys) k was.store maps in
    let all : take i keys ++ k ∷ [] ≡ take (i + 1) keys = sym (taken_more keys i k c.at.ensures) in
    record {
      key_len = ap (λ (u : DynStore Table). u.key_len) c.insert.ensures.layout ∙ was.key_len;
      value_len = ap (λ (u : DynStore Table). u.value_len) c.insert.ensures.layout ∙ was.value_len;
      store = subst (λ ks. AreNamed ks t'.store) all more;
    }
