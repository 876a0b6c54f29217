use Rattle.std.proofs.Common.{ℕ, List, ◌++◌, subst}
use Rattle.std.specs.Io.KnownBytes.{Appends}
use Rattle.std.specs.Prelude.{OnOk, codes}
use Rattle.odht_tool_core.specs.Advice.{options}
use Rattle.odht_tool_core.proofs.advice.write_help.Goals as goal

-- the words and the options are those of the advice
pub returns : goal.returns
returns g c =
    let old = g.O.Write.contents c.args.output.now in
    let new = g.O.Write.contents c.write.new.self in
    let text : List ℕ → List ℕ → List ℕ = λ words opts. words ++ (codes ": odht rebuild " ++ (c.args.file.now ++ (codes " " ++ opts))) in
    subst (λ words. OnOk c.write.result (Appends old new (text words (options c.args.advice c.args.is_whole)))) c.reason-reason.ensures
    (subst (λ opts. OnOk c.write.result (Appends old new (text c.reason-reason.result.now opts))) c.options-options.ensures c.write.ensures.bytes)
