use Rattle.std.proofs.Common.{ℕ, List, sym, subst}
use Rattle.odht_base.specs.Format.{format_of}
use Rattle.odht_raw.specs.DynParts.{bytes_coding}
use Rattle.odht_tool_reads.specs.GetLines.{AreLinesGot}
use Rattle.odht_tool_core.specs.JsonAnswers.{answer_in, printed_as}
use Rattle.odht_tool_core.specs.ReadyShapes.{hash_of, typed_len}
use Rattle.odht_tool_core.specs.DynTexts.{IsDynamicOf, dynamic_forms, dynamic_text, dynamic_wanted}
use Rattle.odht_tool_core.specs.declared.forms.GivenForms.{GivenForms}
use Rattle.odht_tool_core.specs.declared.json.answers.Printed.{Printed}
use Rattle.odht_tool_core.specs.declared.shapes.Hash.{Hash}
use Rattle.odht_tool_core.specs.declared.shapes.Hash.TheVariants.{Fx, Unhash, Xxh64}
use Rattle.odht_tool_reads.proofs.dynamic.gets.get_lines_dynamic.Goals as goal

-- the lengths and the hash function are those of the shape
pub returns-in-Fx : goal.returns-in-Fx
returns-in-Fx g c =
    let got = λ (k v : ℕ) (h : List ℕ → ℕ) (f : GivenForms) (p : Printed). AreLinesGot (bytes_coding (format_of k v h)) (answer_in p (dynamic_text f.key) (dynamic_text f.value)) (IsDynamicOf f.key) (dynamic_wanted f.key)
    c.args.job.now.bytes.now c.args.coming (g.I.Read.remaining c.args.input.now) (g.O.Write.contents c.args.output.now) (g.O.Write.contents c.get_lines_hashed.new.output) c.get_lines_hashed.result in
    let o = c.args.shape in
    let fs = dynamic_forms o c.args.forms in
    let made = c.lengths_of-layout.result in
    let asked = printed_as c.args.job.now.is_json c.args.job.now.is_values in
    subst (λ (k : ℕ). got k (typed_len o.value) (hash_of o.hash) fs asked) c.lengths_of-layout.ensures.key
    (subst (λ (v : ℕ). got made.key_len v (hash_of o.hash) fs asked) c.lengths_of-layout.ensures.value
    (subst (λ (h : Hash). got made.key_len made.value_len (hash_of h) fs asked) (sym c.in-Fx.is)
    (subst (λ (p : Printed). got made.key_len made.value_len (hash_of Fx) fs p) c.printed-printed.ensures
    (subst (λ (f : GivenForms). got made.key_len made.value_len (hash_of Fx) f c.printed-printed.result) c.of-forms.ensures c.get_lines_hashed.ensures))))

pub returns-in-Unhash : goal.returns-in-Unhash
returns-in-Unhash g c =
    let got = λ (k v : ℕ) (h : List ℕ → ℕ) (f : GivenForms) (p : Printed). AreLinesGot (bytes_coding (format_of k v h)) (answer_in p (dynamic_text f.key) (dynamic_text f.value)) (IsDynamicOf f.key) (dynamic_wanted f.key)
    c.args.job.now.bytes.now c.args.coming (g.I.Read.remaining c.args.input.now) (g.O.Write.contents c.args.output.now) (g.O.Write.contents c.get_lines_hashed-in-Unhash.new.output) c.get_lines_hashed-in-Unhash.result in
    let o = c.args.shape in
    let fs = dynamic_forms o c.args.forms in
    let made = c.lengths_of-layout.result in
    let asked = printed_as c.args.job.now.is_json c.args.job.now.is_values in
    subst (λ (k : ℕ). got k (typed_len o.value) (hash_of o.hash) fs asked) c.lengths_of-layout.ensures.key
    (subst (λ (v : ℕ). got made.key_len v (hash_of o.hash) fs asked) c.lengths_of-layout.ensures.value
    (subst (λ (h : Hash). got made.key_len made.value_len (hash_of h) fs asked) (sym c.in-Unhash.is)
    (subst (λ (p : Printed). got made.key_len made.value_len (hash_of Unhash) fs p) c.printed-printed.ensures
    (subst (λ (f : GivenForms). got made.key_len made.value_len (hash_of Unhash) f c.printed-printed.result) c.of-forms.ensures c.get_lines_hashed-in-Unhash.ensures))))

pub returns-in-Xxh64 : goal.returns-in-Xxh64
returns-in-Xxh64 g c =
    let got = λ (k v : ℕ) (h : List ℕ → ℕ) (f : GivenForms) (p : Printed). AreLinesGot (bytes_coding (format_of k v h)) (answer_in p (dynamic_text f.key) (dynamic_text f.value)) (IsDynamicOf f.key) (dynamic_wanted f.key)
    c.args.job.now.bytes.now c.args.coming (g.I.Read.remaining c.args.input.now) (g.O.Write.contents c.args.output.now) (g.O.Write.contents c.get_lines_hashed-in-Xxh64.new.output) c.get_lines_hashed-in-Xxh64.result in
    let o = c.args.shape in
    let fs = dynamic_forms o c.args.forms in
    let made = c.lengths_of-layout.result in
    let asked = printed_as c.args.job.now.is_json c.args.job.now.is_values in
    subst (λ (k : ℕ). got k (typed_len o.value) (hash_of o.hash) fs asked) c.lengths_of-layout.ensures.key
    (subst (λ (v : ℕ). got made.key_len v (hash_of o.hash) fs asked) c.lengths_of-layout.ensures.value
    (subst (λ (h : Hash). got made.key_len made.value_len (hash_of h) fs asked) (sym c.in-Xxh64.is)
    (subst (λ (p : Printed). got made.key_len made.value_len (hash_of Xxh64) fs p) c.printed-printed.ensures
    (subst (λ (f : GivenForms). got made.key_len made.value_len (hash_of Xxh64) f c.printed-printed.result) c.of-forms.ensures c.get_lines_hashed-in-Xxh64.ensures))))
