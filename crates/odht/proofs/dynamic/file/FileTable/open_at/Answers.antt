use Rattle.std.proofs.Common.{arith, ◌≡◌, ◌∙◌, ℕ, List, false, nat_lt, sym, ap, subst, le-ltb}
use Rattle.std.specs.Prelude.{option_map}
use Rattle.std.specs.Bool.{then_some}
use Rattle.std.specs.Option.{option_or}
use Rattle.odht_raw.specs.Words.{bytes_at, Format, format_of, header_count, header_slots, view_refusal}
use Rattle.odht_raw.specs.Frame.{IsAccepted}
use Rattle.odht_raw.proofs.lemmas.Openings.{view_refusal-accepted}
use Rattle.odht.specs.declared.dynamic.DynError.TheVariants.{KeyTooShort, Rejected}
use Rattle.odht.proofs.lemmas.Files.{none_rejected}
use Rattle.odht.proofs.dynamic.file.FileTable.open_at.Goals as goal

pub returns-clause-given : goal.returns-clause-given
returns-clause-given g c B h held fits =
    let F : Format = format_of c.args.layout.key_len c.args.layout.value_len g.H.HashFn.hash in
    let at : ℕ → List ℕ = bytes_at B c.args.offset in
    let all = c.in_ok-slots.ensures.given B h held in
    let enough : nat_lt c.args.layout.key_len g.H.HashFn.MIN_LEN ≡ false = le-ltb _ _ (omega (arith, c.if-layout-MIN_LEN.false, c.MIN_LEN.ensures)) in
    let whole = sym c.in_ok-slots.ensures.long in (
      ap (λ b. option_or (then_some b (KeyTooShort F.key_len g.H.HashFn.MIN_LEN)) (option_map Rejected (view_refusal F (at c.args.len)))) enough ∙ all.0,
      record {
        held = omega (arith, held, c.in_ok-slots.ensures.long);
        accepted = subst (λ n. IsAccepted F (at n)) whole (view_refusal-accepted F (at c.args.len) (none_rejected _ all.0));
        slots = subst (λ n. header_slots (at n) ≡ c.in_ok-slots.slots) whole all.1.0;
        items = subst (λ n. header_count (at n) ≡ c.in_ok-slots.items) whole all.1.1;
      },
    )
