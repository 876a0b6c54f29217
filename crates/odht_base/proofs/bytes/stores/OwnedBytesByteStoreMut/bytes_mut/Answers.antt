use Rattle.std.proofs.Common.{◌∙◌, ◌++◌, ap, refl, take, drop, length}
use Rattle.odht_base.specs.AfterBorrow.{after_borrow_bytes}
use Rattle.odht_base.proofs.bytes.stores.OwnedBytesByteStoreMut.bytes_mut.Goals as goal

pub returns : goal.returns
returns c =
    let items = c.self.inside.0.items in (
      (refl, λ w. ap (λ n. take n (w ++ drop (length w) items)) c.self.inside.0.ok.0 ∙ ap (λ B. after_borrow_bytes B w) c.self.view_is),
      record { writes_back = tt; value = c.as_mut_slice.ensures.value ∙ c.self.view_is },
    )
