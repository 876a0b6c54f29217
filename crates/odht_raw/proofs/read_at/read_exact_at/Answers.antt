use Rattle.std.proofs.Common.{arith, ◌≡◌, ◌∙◌, ℕ, ◌+◌, ◌++◌, sym, ap, ap₂, length, take}
use Rattle.odht_raw.proofs.lemmas.Below.{bytes_at-add, length-take-le, take-append-add}
use Rattle.odht_base.specs.Bytes.{bytes_at}
use Rattle.odht_raw.proofs.lemmas.PendingSlots.{ended, ended-length}
use Rattle.odht_raw.proofs.read_at.read_exact_at.Goals as goal

pub reads-preserved-in-Ok : goal.reads-preserved-in-Ok
reads-preserved-in-Ok g c =
    let a : ℕ = c.reads.filled in
    let m : ℕ = c.in-Ok.more in
    let xs = c.reads.out in
    let ys = c.read_at.new.out in
    let front : length (take a xs) ≡ a = length-take-le a xs c.reads.invariant.within in
    let whole = ended-length xs ys a c.reads.invariant.within in
    record {
      long = omega (arith, whole, c.read_at.auto.out, c.reads.invariant.within, c.reads.invariant.long);
      within = omega (arith, whole, c.in-Ok.ensures.few);
      few = c.reads.invariant.few;
      read = λ B h. (
          ap (take (a + m)) (ended xs ys a c.reads.invariant.within)
          ∙ ap (λ n. take (n + m) (take a xs ++ ys)) (sym front)
          ∙ take-append-add (take a xs) ys m
          ∙ ap₂ (λ s t. s ++ t) (c.reads.invariant.read B h) (c.in-Ok.ensures.given B h ∙ ap (λ n. bytes_at B n m) c.in-Some.ensures.1)
          ∙ sym (bytes_at-add B c.args.offset a m));
    }
