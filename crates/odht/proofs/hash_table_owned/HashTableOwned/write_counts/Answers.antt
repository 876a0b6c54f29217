use Rattle.std.proofs.Common.{◌∙◌, ap}
use Rattle.std.proofs.Output.{has_written_of_eq}
use Rattle.odht_raw.specs.Words.{Format, format_of, header_count, header_factor, header_slots, image, max_items, percent_of}
use Rattle.odht_raw.specs.Dumps.{counts_text}
use Rattle.odht_raw.proofs.lemmas.Dumps.{counts_text-written}
use Rattle.odht.proofs.hash_table_owned.HashTableOwned.write_counts.Goals as goal

pub returns : goal.returns
returns g c plain ok =
    let F : Format = format_of g.C.EncodedKey.ByteArray.LEN g.C.EncodedValue.ByteArray.LEN g.C.H.HashFn.hash in
    let header = c.header-header.ensures.bytes ∙ ap (λ s. s.table) c.self-inside.view_is ∙ c.self.invariant.bytes ∙ ap (image F) c.self.view_is in
    let items = c.item_count-item_count.ensures ∙ ap header_count header in
    let slots = c.slot_count.ensures ∙ ap header_slots header in
    let factor = c.max_load_factor-factor.ensures ∙ ap header_factor header in
    let most = c.max_item_count_for-max_item_count.ensures.value ∙ (λ i. max_items (slots i) (factor i)) in
    let percent = c.to_percent-percent.ensures ∙ ap percent_of factor in
    has_written_of_eq g.W.Write.write_str_gives c.args.f.now _ (counts_text (image F c.args.self.now)) c.writeln.new.self
    (counts_text-written (image F c.args.self.now) _ _ _ items most percent) (c.writeln.ensures.writes plain ok)
