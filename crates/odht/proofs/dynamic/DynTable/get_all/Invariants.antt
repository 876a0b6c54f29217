use Rattle.std.proofs.Common.{◌≡◌, length}
use Rattle.std.specs.Option.{option_copied}
use Rattle.odht.specs.Dynamic.{dyn_coding}
use Rattle.odht.proofs.lemmas.ManyGets.{AreKnown}
use Rattle.odht.proofs.dynamic.DynTable.get_all.Given as goal

-- the answers of the keys so far are at their indices
abbrev pub invariant-loop-index : goal.invariant-loop-index
invariant-loop-index g l =
    AreKnown (dyn_coding l.self g.H.HashFn.hash) (g.D.ByteStore.bytes l.self.store) (λ key. key.now) (λ value. option_copied value) l.keys l.values l.index
    × (length l.values ≡ length l.keys)
