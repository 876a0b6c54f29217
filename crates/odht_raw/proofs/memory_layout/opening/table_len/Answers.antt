use Rattle.std.proofs.Common.{◌∙◌, subst}
use Rattle.std.specs.Prelude.{IfOk, ◌≡◌, Ok}
use Rattle.odht_raw.specs.Words.{Format, format_of, prefix_refusal}
use Rattle.odht_raw.specs.Prefixes.{IsFront}
use Rattle.odht_raw.proofs.memory_layout.opening.table_len.Goals as goal

pub returns-clause-ok : goal.returns-clause-ok
returns-clause-ok g c =
    let hash = g.C.H.HashFn.hash in
    subst (λ (F : Format). IfOk c.dynamic_table_len.result (IsFront F c.args.bytes.now)) (λ i. format_of (c.of.ensures.key i) (c.of.ensures.value i) hash) (c.dynamic_table_len.ensures.ok hash)

pub returns-clause-only : goal.returns-clause-only
returns-clause-only g c n =
    let hash = g.C.H.HashFn.hash in
    subst (λ (F : Format). IsFront F c.args.bytes.now n → c.dynamic_table_len.result ≡ Ok n) (λ i. format_of (c.of.ensures.key i) (c.of.ensures.value i) hash) (c.dynamic_table_len.ensures.only hash n)

pub returns-clause-err : goal.returns-clause-err
returns-clause-err g c =
    let hash = g.C.H.HashFn.hash in
    c.dynamic_table_len.ensures.err hash
    ∙ (λ i. prefix_refusal (format_of (c.of.ensures.key i) (c.of.ensures.value i) hash) c.args.bytes.now)
