use Rattle.std.proofs.Common.{◌∙◌, ◌++◌, ℕ, length, drop, replicate, ap}
use Rattle.std.proofs.lemmas.List.{drop-replicate}
use Rattle.odht_tool_core.proofs.hexadecimal.with_zeros.Goals as goal

pub returns : goal.returns
returns c =
    let n = length c.args.word.now in
    ap (λ front. front ++ drop n (replicate 64 48)) c.copy_from_slice.ensures.after
    ∙ ap (λ rest. c.args.word.now ++ rest) (drop-replicate {X = ℕ} n 64 48)
