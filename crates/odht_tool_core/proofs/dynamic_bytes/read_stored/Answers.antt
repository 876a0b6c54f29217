use Rattle.std.proofs.Common.{ℕ, sym, subst}
use Rattle.std.specs.Int.{w32, w64}
use Rattle.odht_tool_core.specs.Forms.{StandsForNumber}
use Rattle.odht_tool_core.specs.ReadyShapes.{StandsFor, typed_of}
use Rattle.odht_tool_core.specs.declared.shapes.Part.{Part}
use Rattle.odht_tool_core.proofs.dynamic_bytes.read_stored.Goals as goal

-- the bytes of a number are read as it
pub returns-in-Some-clause-value : goal.returns-in-Some-clause-value
returns-in-Some-clause-value c is =
    subst (λ (p : Part). StandsFor c.args.form p c.args.word.now (typed_of p c.put_u32.new.bytes)) (sym c.in-U32.is)
    (subst (λ (n : ℕ). StandsForNumber w32 c.args.form c.args.word.now n) (sym c.put_u32.ensures.value) c.in-Some.ensures.value)

pub returns-in-Some-parse-clause-value : goal.returns-in-Some-parse-clause-value
returns-in-Some-parse-clause-value c is =
    subst (λ (p : Part). StandsFor c.args.form p c.args.word.now (typed_of p c.put_u64.new.bytes)) (sym c.in-U64.is)
    (subst (λ (n : ℕ). StandsForNumber w64 c.args.form c.args.word.now n) (sym c.put_u64.ensures.value) c.in-Some-parse.ensures.value)

-- bytes stand for themselves
pub returns-in-Bytes-clause-value : goal.returns-in-Bytes-clause-value
returns-in-Bytes-clause-value c is =
    subst (λ (p : Part). StandsFor c.args.form p c.args.word.now (typed_of p c.read_sized.new.bytes)) (sym c.in-Bytes.is) (c.read_sized.ensures.value is)
