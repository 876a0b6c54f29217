use Rattle.std.proofs.Common.{◌≡◌, sym, subst, refl}
use Rattle.odht_raw.specs.Words.{Format, format_of, Pair}
use Rattle.odht_raw.specs.PartsPlacings.{IsAddition, IsNewPlacing, IsNewTo}
use Rattle.odht_raw.proofs.raw_table.table_mut.RawTableMut.place_by.Goals as goal

pub returns : goal.returns
returns g c =
    let F : Format = format_of g.K.ByteArray.LEN g.V.ByteArray.LEN g.H.HashFn.hash in
    let t = c.args.self.now in
    let r = c.write_new.result in
    let es' = c.write_new.new.entries in
    let ctrl' = c.write_new.new.control in
    let read : Pair = record { key = c.as_slice-key.result.now; value = c.as_slice-value.result.now } in
    let p : Pair = record { key = g.K.ByteArray.bytes c.args.key; value = g.V.ByteArray.bytes c.args.value } in
    let same : read ≡ p = λ i. record { key = c.as_slice-key.ensures.value i; value = c.as_slice-value.ensures.value i } in
    record {
      parts = λ P h new. subst (λ (q : Pair). IsNewPlacing F P q r es' ctrl') same (c.write_new.ensures.placed P h (subst (IsNewTo P) (sym same) new));
      change = subst (λ (q : Pair). IsAddition F t.entries.now t.control.now q r es' ctrl') same c.write_new.ensures.change;
      control_loan = refl;
      entries_loan = refl;
    }
