use Rattle.std.proofs.Common.{rules, ◌≡◌, ◌∙◌, sym, subst}
use Rattle.odht.specs.Dynamic.{dyn_format}
use Rattle.odht_base.specs.Decoded.{decoded_pairs}
use Rattle.odht_base.specs.Format.{Format, format_of}
use Rattle.odht_base.specs.Valid.{IsValidBytes}
use Rattle.odht_raw.specs.Frame.{IsAccepted}
use Rattle.odht_raw.proofs.lemmas.Accepted.{IsAccepted-IsValidBytes}
use Rattle.odht_tool_core.specs.ReadyShapes.{typed_len}
use Rattle.odht_tool_tables.proofs.dynamic.open_valid.Goals as goal

pub open_unchecked-requires-clause-accepted : goal.open_unchecked-requires-clause-accepted
open_unchecked-requires-clause-accepted g c =
    let h = g.H.HashFn.hash in
    let F : Format = format_of (typed_len c.args.texts.key) (typed_len c.args.texts.value) h in
    let key = sym c.lengths_of-layout.ensures.key in
    let value = sym c.lengths_of-layout.ensures.value in
    let formats : F ≡ format_of c.lengths_of-layout.result.key_len c.lengths_of-layout.result.value_len h = λ i. format_of (key i) (value i) h in
    subst (λ (X : Format). IsAccepted X c.new.result.0.now) formats (subst (IsAccepted F) (sym c.new.ensures) (IsAccepted-IsValidBytes F c.args.bytes.now c.requires.valid))

pub returns-clause-fits : goal.returns-clause-fits
returns-clause-fits g c =
    let h = g.H.HashFn.hash in
    let t = c.open_unchecked.result in
    let F : Format = format_of (typed_len c.args.texts.key) (typed_len c.args.texts.value) h in
    let dynamic_key : t.key_len ≡ c.lengths_of-layout.result.key_len = search rules in
    let dynamic_value : t.value_len ≡ c.lengths_of-layout.result.value_len = search rules in
    let key : t.key_len ≡ typed_len c.args.texts.key = dynamic_key ∙ c.lengths_of-layout.ensures.key in
    let value : t.value_len ≡ typed_len c.args.texts.value = dynamic_value ∙ c.lengths_of-layout.ensures.value in
    let bytes : t.store.0.now ≡ c.args.bytes.now = search rules in
    let formats : F ≡ dyn_format t h = λ i. format_of (sym key i) (sym value i) h in
    record {
      valid = subst (IsValidBytes (dyn_format t h)) (sym bytes) (subst (λ (X : Format). IsValidBytes X c.args.bytes.now) formats c.requires.valid);
      key = key;
      value = value;
    }

pub returns-clause-pairs : goal.returns-clause-pairs
returns-clause-pairs g c =
    let h = g.H.HashFn.hash in
    let t = c.open_unchecked.result in
    let dynamic_key : t.key_len ≡ c.lengths_of-layout.result.key_len = search rules in
    let dynamic_value : t.value_len ≡ c.lengths_of-layout.result.value_len = search rules in
    let key : t.key_len ≡ typed_len c.args.texts.key = dynamic_key ∙ c.lengths_of-layout.ensures.key in
    let value : t.value_len ≡ typed_len c.args.texts.value = dynamic_value ∙ c.lengths_of-layout.ensures.value in
    let bytes : t.store.0.now ≡ c.args.bytes.now = search rules in
    λ i. decoded_pairs (format_of (key i) (value i) h) (bytes i)
