use Rattle.std.proofs.Common.{refl, subst}
use Rattle.std.specs.Option.{option_copied}
use Rattle.odht_base.specs.Format.{Format, format_of}
use Rattle.odht_raw.specs.Dumps.{parts_of}
use Rattle.odht_raw.specs.DynParts.{DynParts, bytes_coding, parts_format}
use Rattle.odht_raw.specs.Finds.{IsFind}
use Rattle.odht.specs.Gets.{IsGet}
use Rattle.odht_calls.proofs.lemmas.AnyLists.{answer_len}
use Rattle.odht_calls.proofs.lemmas.Got.{stored_answer}
use Rattle.odht_calls.proofs.view.find.Given.{Over}
use Rattle.odht_calls.proofs.view.find.Goals.{After-find}
use Rattle.odht_calls.proofs.view.find.Goals as goal

-- the format of the lengths
abbrev format : (g : Over) → g.row.L.Denot → Format
format g lengths = format_of (g.L.Lengths.key_len lengths) (g.L.Lengths.value_len lengths) g.H.HashFn.hash

-- what the search finds, of the bytes
got : (g : Over) (c : After-find g) → IsGet (bytes_coding (format g c.args.lengths)) c.args.bytes.now c.args.key.now (option_copied c.find.result)
got g c =
    let F = format g c.args.lengths in
    let k = c.args.key.now in
    let o = option_copied c.find.result in
    let found = subst (λ (S : DynParts). IsFind (parts_format S g.H.HashFn.hash) (λ b. b) S.parts k o) c.parts_in.ensures.parts c.find.ensures in
    record {
      on_valid = λ P is. found.on_placed P (c.parts_in.ensures.on_valid P is);
      on_any = stored_answer F (λ b. b) c.args.bytes.now k (parts_of F c.args.bytes.now).entries o refl refl found.on_any;
    }

pub returns-clause-found : goal.returns-clause-found
returns-clause-found g c = got g (goal.at.returns-clause-found g c).After-find

pub returns-clause-len : goal.returns-clause-len
returns-clause-len g c = answer_len (format g c.args.lengths) c.args.bytes.now c.requires.accepted c.args.key.now c.find.result (got g (goal.at.returns-clause-len g c).After-find).on_any
