use Rattle.std.proofs.Common.{◌≡◌, ◌∙◌, ℕ, ap, Option, Some, List, codes}
use Rattle.std.proofs.Output.{displays_on_ok_of_eq}
use Rattle.std.specs.Fmt.{◌++?◌}
use Rattle.odht_raw.specs.Words.{Format, format_of, image}
use Rattle.odht_raw.specs.Parts.{TableParts}
use Rattle.odht_raw.specs.Dumps.{DebugText, counts_text, dump_text, parts_of}
use Rattle.odht_raw.proofs.lemmas.Dumps.{displayed-append}
use Rattle.odht.proofs.hash_table_owned.dump.HashTableOwnedDebug.fmt.Goals as goal

pub returns : goal.returns
returns g c =
    let F : Format = format_of g.C.EncodedKey.ByteArray.LEN g.C.EncodedValue.ByteArray.LEN g.C.H.HashFn.hash in
    let key_text : DebugText = λ b. g.C.EncodedKey.Debug.debug_output (g.C.EncodedKey.ByteArray.of_bytes b) in
    let value_text : DebugText = λ b. g.C.EncodedValue.Debug.debug_output (g.C.EncodedValue.ByteArray.of_bytes b) in
    let B = image F c.args.self.now in
    let parts : c.as_raw-table.result ≡ parts_of F B = c.as_raw-table.ensures.bytes ∙ ap (parts_of F) (c.self.invariant.bytes ∙ ap (image F) c.self.view_is) in
    let counts = Some (counts_text B) in
    let dump : TableParts → Option (List ℕ) = λ T. dump_text F key_text value_text g.C.H.HashFn.hash_name T in
    let last = Some (codes "\n") in
    record {
      writes =
          displays_on_ok_of_eq g.W.Write.write_str_gives c.args.f.now c.writeln.new.self c.writeln.result _ _ (λ i. counts ++? dump (parts i) ++? last)
          (displayed-append g.W.Write.write_str_gives c.args.f.now c.write_counts.new.f c.writeln.new.self c.writeln.result counts (dump c.as_raw-table.result ++? last) c.in_ok-write_counts.ensures c.writeln.ensures.writes);
    }
