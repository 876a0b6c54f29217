use Rattle.std.proofs.Common.{◌≡◌, ◌∙◌, sym, ap, subst, refl, arith, length, None, true, false, true≢false}
use Rattle.odht_base.specs.Decoded.{header_count}
use Rattle.odht_base.specs.Format.{Format, IsFormat, format_of}
use Rattle.odht_base.specs.Table.{Table, count}
use Rattle.odht_base.specs.Valid.{IsImage, IsValidBytes}
use Rattle.odht_header.specs.Refusals.{check_refusal}
use Rattle.odht_header.proofs.lemmas.FirstErrors.{Ok-checked, Err-checked}
use Rattle.odht_header.proofs.lemmas.Formats.{IsFormat-format_of}
use Rattle.odht_raw.specs.Dumps.{parts_of}
use Rattle.odht_raw.specs.DynParts.{parts_format}
use Rattle.odht_raw.specs.Waiting.{AreWholeParts, IsWhole, IsOrderAnswer}
use Rattle.odht_raw.proofs.lemmas.Accepted.{IsAccepted-IsValidBytes, accepted_opening}
use Rattle.odht_raw.proofs.lemmas.WholeChecks.{valid_check}
use Rattle.odht_calls.proofs.lemmas.Ordered.{checked_valid, refused_order, lengths_order, done_order, unmade_order}
use Rattle.odht_calls.proofs.lemmas.Refused.{not_none}
use Rattle.odht_calls.proofs.lemmas.Sizes.{counted}
use Rattle.odht_calls.proofs.read.insert_order.Given.{Over}
use Rattle.odht_calls.proofs.read.insert_order.Goals.{After-item_count, After-parts_in}
use Rattle.odht_calls.proofs.read.insert_order.Goals as goal

pub returns-in-Err : goal.returns-in-Err
returns-in-Err g c =
    let F : Format = format_of (g.L.Lengths.key_len c.args.lengths) (g.L.Lengths.value_len c.args.lengths) g.H.HashFn.hash in
    let B = c.args.bytes.now in
    let fits : IsFormat F = IsFormat-format_of _ _ _ _ c.requires.key c.requires.value c.requires.hashes g.met.H.HashFn.fits in
    let refusal = Err-checked _ c.in-Err.refused c.in-Err.ensures in
    record {
      order = refused_order F B _ c.in-Err.refused _ refusal c.status_of.ensures (λ valid. not_none _ c.in-Err.refused refusal (valid_check F B fits valid));
      unwritten = λ a b. refl;
    }

pub of-requires : goal.of-requires
of-requires g c =
    let F : Format = format_of (g.L.Lengths.key_len c.args.lengths) (g.L.Lengths.value_len c.args.lengths) g.H.HashFn.hash in
    let B = c.args.bytes.now in
    (accepted_opening F B (IsAccepted-IsValidBytes F B (checked_valid F B (λ i. omega (arith, c.type_inv.bytes i)) (Ok-checked _ c.in_default.ensures)))).long

pub parts_in-requires-clause-accepted : goal.parts_in-requires-clause-accepted
parts_in-requires-clause-accepted g c =
    let F : Format = format_of (g.L.Lengths.key_len c.args.lengths) (g.L.Lengths.value_len c.args.lengths) g.H.HashFn.hash in
    let B = c.args.bytes.now in
    IsAccepted-IsValidBytes F B (checked_valid F B (λ i. omega (arith, c.type_inv.bytes i)) (Ok-checked _ c.in_default.ensures))

-- the number of items that the header has
here : (g : Over) (c : After-item_count g) (P : Table) → IsImage (format_of (g.L.Lengths.key_len c.args.lengths) (g.L.Lengths.value_len c.args.lengths) g.H.HashFn.hash) P c.args.bytes.now → c.item_count.result ≡ count P
here g c P is = c.item_count.ensures ∙ ap header_count c.of.ensures ∙ counted _ P c.args.bytes.now is

pub returns-then-out-item_count : goal.returns-then-out-item_count
returns-then-out-item_count g c =
    let at = (goal.at.returns-then-out-item_count g c).After-item_count in
    record {
      order = lengths_order _ _ _ (Ok-checked _ c.in_default.ensures) (λ P is long. c.if-out-item_count.true (long ∙ sym (here g at P is)));
      unwritten = λ a b. refl;
    }

-- the parts of the table
module _ (g : Over) (c : After-parts_in g) where
  abbrev F : Format
  F = format_of (g.L.Lengths.key_len c.args.lengths) (g.L.Lengths.value_len c.args.lengths) g.H.HashFn.hash

  none : check_refusal F c.args.bytes.now ≡ None
  none = Ok-checked _ c.in_default.ensures

  module _ (P : Table) (is : IsImage F P c.args.bytes.now) where
    long : length c.args.out.now ≡ count P
    long = c.if-out-item_count.false ∙ c.item_count.ensures ∙ ap header_count c.of.ensures ∙ counted F P c.args.bytes.now is

    whole : AreWholeParts F P (parts_of F c.args.bytes.now) (length c.args.out.now)
    whole = record { valid = is.valid; parts = c.parts_in.ensures.on_valid P is; counted = long }

pub insert_order_with-requires : goal.insert_order_with-requires
insert_order_with-requires g c =
    let at = (goal.at.insert_order_with-requires g c).After-parts_in in
    let valid : IsValidBytes (F g at) c.args.bytes.now = checked_valid (F g at) c.args.bytes.now (λ i. omega (arith, c.type_inv.bytes i)) (none g at) in
    record { whole = subst (λ S. IsWhole (parts_format S g.H.HashFn.hash) S.parts (length c.args.out.now)) (sym c.parts_in.ensures.parts) (valid.0, whole g at valid.0 valid.1) }

pub returns-then-insert_order_with : goal.returns-then-insert_order_with
returns-then-insert_order_with g c =
    let at = (goal.at.returns-then-insert_order_with g c).After-parts_in in
    let out = c.insert_order_with.new.out in
    let answer = subst (λ S. IsOrderAnswer (parts_format S g.H.HashFn.hash) S.parts (length c.args.out.now) out true) c.parts_in.ensures.parts c.if-insert_order_with.ensures in
    record {
      order = done_order _ _ _ (none g at) _ (long g at) (λ P is. (answer.made P (whole g at P is)).0 refl) (λ P is. answer.order P (whole g at P is) refl);
      unwritten = λ a b. absurd (a refl);
    }

pub returns-else-insert_order_with : goal.returns-else-insert_order_with
returns-else-insert_order_with g c =
    let at = (goal.at.returns-else-insert_order_with g c).After-parts_in in
    let out = c.insert_order_with.new.out in
    let answer = subst (λ S. IsOrderAnswer (parts_format S g.H.HashFn.hash) S.parts (length c.args.out.now) out false) c.parts_in.ensures.parts c.if-insert_order_with.ensures in
    record {
      order = unmade_order _ _ _ (none g at) _ (long g at) (λ P is made. true≢false (sym ((answer.made P (whole g at P is)).1 made)));
      unwritten = λ a b. absurd (b refl);
    }
