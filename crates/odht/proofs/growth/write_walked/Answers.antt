use Rattle.std.proofs.Common.{ℕ, List, ◌≡◌, ◌+◌, ◌*◌, ◌∙◌, ◌++◌, sym, ap, append_assoc, length, length-append, replicate, take, take_at, drop, drop_at}
use Rattle.std.proofs.lemmas.List.{length-replicate}
use Rattle.odht_raw.specs.Words.{empty, entry_len, Format, format_of, header_bytes, IsPartsOf}
use Rattle.odht_base.proofs.lemmas.Image.{entries-empty, controls-empty}
use Rattle.odht_base.proofs.lemmas.Parts.{length-header_bytes}
use Rattle.odht_base.proofs.lemmas.FreeSlots.{map_of-empty, empty-IsPlaced}
use Rattle.odht_raw.proofs.lemmas.NewTables.{bytes-new}
use Rattle.odht.proofs.growth.write_walked.Given.{Over}
use Rattle.odht.proofs.growth.write_walked.Goals.{After-split_at_mut-header}
use Rattle.odht.proofs.growth.write_walked.Goals as goal

abbrev format : (g : Over) → After-split_at_mut-header g → Format
format g c = format_of (g.L.Lengths.key_len c.args.lengths) (g.L.Lengths.value_len c.args.lengths) g.H.HashFn.hash

-- the parts of the empty table that was written
record AreNew (g : Over) (c : After-split_at_mut-header g) : Type 0 where
  header : c.split_at_mut-header.result.0.now ≡ header_bytes (format g c) c.args.slot_count c.args.item_count c.args.max_load_factor.0
  parts : IsPartsOf (format g c) (empty c.args.slot_count c.args.max_load_factor.0) c.split_at_mut-header.result.1.now c.split_at_mut-table.result.1.now

new : (g : Over) (c : After-split_at_mut-header g) → AreNew g c
new g c =
    let F = format g c in
    let s = c.args.slot_count in
    let f = c.args.max_load_factor.0 in
    let m = s * entry_len F in
    let head = header_bytes F s c.args.item_count f in
    let es : List ℕ = replicate m 0 in
    let cs : List ℕ = replicate (s + 16) 255 in
    let whole : c.write_empty.new.bytes ≡ (head ++ es) ++ cs = c.write_empty.ensures g.H.HashFn.hash ∙ bytes-new F s c.args.item_count f c.requires.slots ∙ sym (append_assoc head es cs) in
    let es_long : length es ≡ m = length-replicate m 0 in
    let front_long : length (head ++ es) ≡ 32 + m = length-append head es ∙ (λ i. length-header_bytes F s c.args.item_count f i + es_long i) in
    let at : 32 + s * c.entry_len.result ≡ 32 + m = ap (λ n. 32 + s * n) c.entry_len.ensures in
    let table = c.split_at_mut-table.ensures.front ∙ (λ i. take (at i) (whole i)) ∙ take_at (head ++ es) cs (32 + m) front_long in
    let control = c.split_at_mut-table.ensures.back ∙ (λ i. drop (at i) (whole i)) ∙ drop_at (head ++ es) cs (32 + m) front_long in
    let long = length-header_bytes F s c.args.item_count f in
    record {
      header = c.split_at_mut-header.ensures.front ∙ ap (take 32) table ∙ take_at head es 32 long;
      parts = record {
        placed = empty-IsPlaced s f F c.requires.slots;
        entries_are = c.split_at_mut-header.ensures.back ∙ ap (drop 32) table ∙ drop_at head es 32 long ∙ sym (entries-empty F s);
        controls_are = control ∙ sym (controls-empty F s c.requires.slots.least);
      };
    }

pub returns : goal.returns
returns g c =
    let F = format g (goal.at.returns g c).After-split_at_mut-header in
    let s = c.args.slot_count in
    let f = c.args.max_load_factor.0 in
    let header = c.split_at_mut-header.result.0.now in
    let are = new g (goal.at.returns g c).After-split_at_mut-header in
    let split = append_assoc header c.place_walk.new.entries c.place_walk.new.control in
    let long : length header ≡ 32 = ap length are.header ∙ length-header_bytes F s c.args.item_count f in
    record {
      placed = λ Q apart placed.
          let left = c.place_walk.ensures (empty s f) Q (record { apart = apart; new = λ i d l. map_of-empty s f _; placed = placed }) are.parts in
          split ∙ (λ i. are.header i ++ (left.entries_are i ++ left.controls_are i));
      header = ap (take 32) split ∙ take_at header (c.place_walk.new.entries ++ c.place_walk.new.control) 32 long ∙ are.header;
    }
