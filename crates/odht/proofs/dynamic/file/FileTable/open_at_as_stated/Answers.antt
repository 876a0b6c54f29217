use Rattle.std.proofs.Common.{rules, ◌≡◌, ℕ, List, Err, subst, sym}
use Rattle.std.specs.Prelude.{slice_index}
use Rattle.odht_raw.specs.Words.{bytes_at}
use Rattle.odht_header.specs.declared.layout.Layout.{Layout}
use Rattle.odht.specs.Dynamic.{stated_refusal}
use Rattle.odht.specs.Files.{IsFileResult, IsStatedOver}
use Rattle.odht.proofs.lemmas.Files.{refused_as_stated}
use Rattle.odht.proofs.dynamic.file.FileTable.open_at_as_stated.Goals as goal

pub returns-in_err-layout-clause-given : goal.returns-in_err-layout-clause-given
returns-in_err-layout-clause-given g c B h held fits =
    let T : List ℕ = bytes_at B c.args.offset c.args.len in
    let refusal : c.from_residual.result ≡ Err c.in_err-layout.field-0.0 = search rules in
    subst (IsFileResult (g.S.ReadAt.fails c.args.source) (stated_refusal g.H.HashFn.MIN_LEN g.H.HashFn.hash T) (λ t. IsStatedOver g.H.HashFn.hash t B)) (sym refusal)
    (refused_as_stated (g.S.ReadAt.fails c.args.source) g.H.HashFn.MIN_LEN g.H.HashFn.hash T
    (λ (l : Layout). (l.key_len ≡ slice_index T 5) × (l.value_len ≡ slice_index T 6))
    c.args.source B c.in_err-layout.field-0.0 (c.in_err-layout.ensures.given g.H.HashFn.hash B h held))
