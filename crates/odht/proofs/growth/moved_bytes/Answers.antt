use Rattle.std.proofs.Common.{◌≡◌, ◌*◌, ◌∙◌, ap, arith, length, replicate}
use Rattle.std.proofs.lemmas.List.{length-replicate}
use Rattle.odht_raw.specs.Words.{bytes_at, entry_len, Format, format_of}
use Rattle.odht_raw.proofs.lemmas.NewTables.{bytes_at-zeros}
use Rattle.odht.proofs.growth.moved_bytes.Goals as goal

pub move_parts-requires-clause-room : goal.move_parts-requires-clause-room
move_parts-requires-clause-room g c =
    let F : Format = format_of (g.L.Lengths.key_len c.args.lengths) (g.L.Lengths.value_len c.args.lengths) g.H.HashFn.hash in
    let n = c.args.slot_count * entry_len F in
    let zeros : c.as_mut_slice.result.now ≡ replicate c.args.len 0 = c.as_mut_slice.ensures.value ∙ c.in-Ok.ensures.items_if_clones_equal (λ y e. e) in
    record {
      len = ap length zeros ∙ length-replicate c.args.len 0 ∙ c.requires.len;
      zeros = ap (λ B. bytes_at B 32 n) zeros ∙ bytes_at-zeros c.args.len 32 n (omega (arith, c.requires.len));
    }
