use Rattle.std.proofs.Common.{All, ◌∙◌, ℕ, ap, map, subst, sym}
use Rattle.odht_raw.proofs.lemmas.Below.{pairs-numbered}
use Rattle.odht_base.specs.Table.{Pair}
use Rattle.odht_raw.specs.Checks.{cells_of}
use Rattle.odht_raw.specs.DynParts.{HasLengthsOf, parts_format}
use Rattle.odht_raw.proofs.lemmas.DynWalks.{walk_dynamic}
use Rattle.odht_raw.proofs.raw_table.walk.PartPairs.new.Goals as goal

pub returns-clause-items : goal.returns-clause-items
returns-clause-items g c = ap (map (λ (x : ℕ × Pair). x.1)) c.new.ensures.items ∙ pairs-numbered 0 (cells_of (parts_format c.args.table g.H.HashFn.hash) c.args.table.parts)

pub returns-clause-lengths : goal.returns-clause-lengths
returns-clause-lengths g c =
    let v = c.len.ensures.whole in
    subst (All (HasLengthsOf c.args.table.key_len c.args.table.value_len)) (sym (returns-clause-items g c)) (walk_dynamic c.args.table g.H.HashFn.hash v.fitting.long v.mirrored)
