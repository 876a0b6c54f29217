use Rattle.std.proofs.Common.{◌∙◌, sym, subst}
use Rattle.odht_tool_core.specs.Endings.{IsDone}
use Rattle.odht_tool_core.specs.declared.shapes.Hash.TheVariants.{Fx, Unhash, Xxh64}
use Rattle.odht_tool_reads.proofs.Diffed.{compared_of}
use Rattle.odht_tool_reads.proofs.commands.diff.diff_tables.Goals as goal

pub returns-in-Fx : goal.returns-in-Fx
returns-in-Fx g c =
    let compared = compared_of c.args.first.now.shape c.args.beside c.args.first.now.forms c.args.first.now.bytes.now c.args.second.now c.of-texts.result Fx c.hash-hash.result c.of-texts.ensures
    (sym c.hash.ensures ∙ c.in-Fx.is) (sym c.hash-hash.ensures) c.requires.sizes in
    subst (λ o. IsDone o (g.O.Write.contents c.args.output.now) (g.O.Write.contents c.diff_with.new.output) c.diff_with.result) compared c.diff_with.ensures

pub returns-in-Unhash : goal.returns-in-Unhash
returns-in-Unhash g c =
    let compared = compared_of c.args.first.now.shape c.args.beside c.args.first.now.forms c.args.first.now.bytes.now c.args.second.now c.of-texts.result Unhash c.hash-hash.result c.of-texts.ensures
    (sym c.hash.ensures ∙ c.in-Unhash.is) (sym c.hash-hash.ensures) c.requires.sizes in
    subst (λ o. IsDone o (g.O.Write.contents c.args.output.now) (g.O.Write.contents c.diff_with-in-Unhash.new.output) c.diff_with-in-Unhash.result) compared c.diff_with-in-Unhash.ensures

pub returns-in-Xxh64 : goal.returns-in-Xxh64
returns-in-Xxh64 g c =
    let compared = compared_of c.args.first.now.shape c.args.beside c.args.first.now.forms c.args.first.now.bytes.now c.args.second.now c.of-texts.result Xxh64 c.hash-hash.result c.of-texts.ensures
    (sym c.hash.ensures ∙ c.in-Xxh64.is) (sym c.hash-hash.ensures) c.requires.sizes in
    subst (λ o. IsDone o (g.O.Write.contents c.args.output.now) (g.O.Write.contents c.diff_with-in-Xxh64.new.output) c.diff_with-in-Xxh64.result) compared c.diff_with-in-Xxh64.ensures
