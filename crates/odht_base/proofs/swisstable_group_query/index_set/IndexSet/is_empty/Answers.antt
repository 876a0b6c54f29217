use Rattle.std.proofs.Common.{◌≡◌, ◌↔◌, [], IsTrue, nat_eq, subst, arith}
use Rattle.odht_base.proofs.lemmas.MaskBits.{none_set}
use Rattle.odht_base.proofs.swisstable_group_query.index_set.IndexSet.is_empty.Goals as goal

pub returns : goal.returns
returns c = subst (λ xs. IsTrue (nat_eq c.self.inside.bits 0) ↔ (xs ≡ [])) c.self.view_is (none_set c.self.inside.bits (omega arith))
