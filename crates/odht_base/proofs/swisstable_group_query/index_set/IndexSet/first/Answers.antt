use Rattle.std.proofs.Common.{arith, sym, ap, ◌∙◌, Some, ◌+◌, ◌≡◌}
use Rattle.std.specs.Prelude.{slice_get}
use lib.Count.{count_trailing_zeros}
use Rattle.odht_base.specs.Masks.{bits_from}
use Rattle.odht_base.proofs.lemmas.MaskBits.{lowest, no_bits}
use Rattle.odht_base.proofs.swisstable_group_query.index_set.IndexSet.first.Goals as goal

pub returns-then-self-eq0 : goal.returns-then-self-eq0
returns-then-self-eq0 c = sym (ap (λ xs. slice_get xs 0) (sym c.self.view_is) ∙ ap (λ n. slice_get (bits_from 64 0 n) 0) c.if-self-eq0.true ∙ ap (λ xs. slice_get xs 0) (no_bits 64 0))

pub returns : goal.returns
returns c =
    let at : 0 + count_trailing_zeros 64 c.self.inside.bits ≡ count_trailing_zeros 64 c.self.inside.bits = omega arith in
    sym (ap (λ xs. slice_get xs 0) (sym c.self.view_is) ∙ lowest 64 0 c.self.inside.bits (omega arith) (omega arith) ∙ ap Some at)
