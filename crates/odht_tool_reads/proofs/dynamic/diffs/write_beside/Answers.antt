use Rattle.std.proofs.Common.{◌≡◌, ◌==◌, IfOk, IfSome, OnOk, Bool, List, Option, ℕ, length, subst}
use Rattle.std.specs.Io.KnownBytes.{Appends}
use Rattle.odht_base.specs.Table.{Pair}
use Rattle.odht_tool_reads.specs.Diffs.{diff_line}
use Rattle.odht_tool_core.specs.StoredTexts.{key_text, value_text}
use Rattle.odht_tool_reads.proofs.dynamic.diffs.write_beside.Goals as goal

pub write_line-requires-clause-found : goal.write_line-requires-clause-found
write_line-requires-clause-found g c = subst (λ n. IfSome c.value_of.result (λ v. length v.now ≡ n)) c.requires.other.value c.value_of.ensures.fits

pub returns-clause-written : goal.returns-clause-written
returns-clause-written g c =
    let p : Pair = record { key = c.args.key.now; value = c.args.value.now } in
    let line = diff_line (key_text c.args.texts) (value_text c.args.texts) c.args.side p in
    let old = g.O.Write.contents c.args.output.now in
    let new = g.O.Write.contents c.write_line.new.output in
    subst (λ (o : Option (List ℕ)). OnOk c.write_line.result (Appends old new (line o))) c.value_of.ensures.value c.write_line.ensures.written

pub returns-clause-none : goal.returns-clause-none
returns-clause-none g c =
    let p : Pair = record { key = c.args.key.now; value = c.args.value.now } in
    let line = diff_line (key_text c.args.texts) (value_text c.args.texts) c.args.side p in
    subst (λ (o : Option (List ℕ)). IfOk c.write_line.result (λ (none : Bool). none ≡ (length (line o) == 0))) c.value_of.ensures.value c.write_line.ensures.none
