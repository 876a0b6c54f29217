use Rattle.std.proofs.Common.{refl, sym, subst, Some, List, ℕ}
use Rattle.std.specs.Prelude.{codes, decimal, IfSome}
use Rattle.std.specs.Fmt.{debug_list}
use Rattle.std.specs.Io.KnownBytes.{Appends}
use Rattle.odht_header.specs.ErrorTexts.{bytes_text}
use Rattle.odht_header.proofs.lemmas.ErrorTexts.{debug_list-bytes}
use Rattle.odht_base.specs.Image.{image}
use Rattle.odht_table.specs.Answers.{IsAnswered}
use Rattle.odht_table.specs.declared.script.command.Request.TheVariants.{Dump}
use Rattle.odht_table.proofs.DumpTexts.{HasText, HasText-owned_dump}
use Rattle.odht_table.proofs.NewTexts.{OnOk-more}
use Rattle.odht_table.proofs.Puts.{my_coding}
use Rattle.odht_table.proofs.script.serve.Goals as goal

pub returns-in-Dump-clause-answered : goal.returns-in-Dump-clause-answered
returns-in-Dump-clause-answered g c =
    let arrays : (b : List ℕ) → HasText (debug_list (λ n. Some (decimal n)) b) = λ b. (bytes_text b, debug_list-bytes b) in
    let dump = HasText-owned_dump my_coding.format (λ b. debug_list (λ n. Some (decimal n)) b) (λ b. debug_list (λ n. Some (decimal n)) b) arrays arrays (codes "FxHashFn") (image my_coding.format c.args.table.now) in
    let answered : IsAnswered my_coding c.args.table.now Dump dump.0 c.args.table.now = (sym dump.1, refl) in (
      dump.0,
      subst (λ r. IsAnswered my_coding c.args.table.now r dump.0 c.args.table.now) (sym c.in-Dump.is) answered,
      OnOk-more c.write.result (λ written. subst (λ o. IfSome o (Appends (g.W.Write.contents c.args.output.now) (g.W.Write.contents c.write.new.self))) dump.1 written) c.write.ensures.bytes,
    )
