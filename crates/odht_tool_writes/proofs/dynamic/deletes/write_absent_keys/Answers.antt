use Rattle.std.proofs.Common.{rules, ◌≡◌, ◌∙◌, ◌++◌, ◌+◌, ◌<◌, suc, [], true, false, cond, sym, ap, subst, arith, get_or, length, map, take}
use Rattle.std.specs.Io.KnownBytes.{Appends}
use Rattle.std.proofs.lemmas.Option.{get_or_from_slice_get}
use Rattle.odht_base.specs.Map.{map_of}
use Rattle.odht_tool_writes.specs.Deletes.{absent_lines, has_value}
use Rattle.odht_tool_core.specs.Misreads.{absent_line}
use Rattle.odht_tool_core.proofs.Answered.{appends_more}
use Rattle.odht_tool_writes.proofs.AbsentKeys.{is_there, lines_same, lines_take}
use Rattle.odht_tool_writes.proofs.dynamic.deletes.write_absent_keys.Goals.{then-not-contains_key+in_ok-write_absent, else-not-contains_key}
use Rattle.odht_tool_writes.proofs.dynamic.deletes.write_absent_keys.Goals as goal

pub loop-at-preserved : goal.loop-at-preserved
loop-at-preserved g c P is =
    let file = c.args.file.now in
    let words = c.args.words.now in
    let keys = c.args.keys.now in
    let at = c.loop-at.at in
    let k = c.at.result.now in
    let old = g.E.Write.contents c.args.errors.now in
    let mid = g.E.Write.contents c.loop-at.errors in
    let new = g.E.Write.contents c.if-not-contains_key.errors in
    let next : at + 1 ≡ suc at = omega arith in
    let inside : at < length keys = omega (arith, c.loop-at-test.true, c.requires) in
    let here : k ≡ get_or keys at k = sym (get_or_from_slice_get keys at k k c.at.ensures) in
    let known : has_value P k ≡ c.contains_key.result = is_there (map_of P k) c.contains_key.result (c.contains_key.ensures.on_valid P is) in
    let lines = absent_lines file P (map g.W.Word.bytes (take at words)) (take at keys) in
    let all : absent_lines file P (map g.W.Word.bytes (take (suc at) words)) (take (suc at) keys) ≡ absent_lines file P (map g.W.Word.bytes (take (at + 1) words)) (take (at + 1) keys) =
    ap (λ n. absent_lines file P (map g.W.Word.bytes (take n words)) (take n keys)) (sym next) in
    elim c.if-not-contains_key.branch [
      | then-not-contains_key+in_ok-write_absent w ↦ (
          let word = w.index-words-at.result in
          let line = absent_line file (g.W.Word.bytes word) in
          let no : c.contains_key.result ≡ false = search rules in
          let one : Appends mid (g.E.Write.contents w.write_absent.new.errors) line =
          subst (λ t. Appends mid (g.E.Write.contents w.write_absent.new.errors) (absent_line file t)) w.bytes.ensures w.in_ok-write_absent.ensures in
          let more = appends_more old mid (g.E.Write.contents w.write_absent.new.errors) lines line (c.loop-at.invariant P is) one in
          let taken : lines ++ line ≡ absent_lines file P (map g.W.Word.bytes (take (at + 1) words)) (take (at + 1) keys) =
          ap (λ b. lines ++ cond b [] line) (sym (known ∙ no)) ∙ sym (lines_take g.W.Word.bytes file P words keys at word k c.loop-at-test.true inside w.index-words-at.is here) ∙ all in
          subst (λ e. Appends old (g.E.Write.contents e) (absent_lines file P (map g.W.Word.bytes (take (at + 1) words)) (take (at + 1) keys))) (sym w.errors-is)
          (subst (Appends old (g.E.Write.contents w.write_absent.new.errors)) taken more))
      | else-not-contains_key w ↦ (
          let yes : c.contains_key.result ≡ true = search rules in
          let taken : lines ≡ absent_lines file P (map g.W.Word.bytes (take (at + 1) words)) (take (at + 1) keys) =
          sym (lines_same g.W.Word.bytes file P words keys at k c.loop-at-test.true inside here (known ∙ yes)) ∙ all in
          subst (λ e. Appends old (g.E.Write.contents e) (absent_lines file P (map g.W.Word.bytes (take (at + 1) words)) (take (at + 1) keys))) (sym w.errors-is)
          (subst (Appends old mid) taken (c.loop-at.invariant P is)))
    ]
