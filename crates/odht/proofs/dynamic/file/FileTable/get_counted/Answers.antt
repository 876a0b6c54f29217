use Rattle.std.proofs.Common.{arith, refl, ◌≡◌, not, ℕ, List, None, sym, ap, subst, length, eq-eqb}
use Rattle.std.specs.Bool.{then_some}
use Rattle.odht_raw.specs.Words.{bytes_at, Format, format_of, image_len}
use Rattle.odht_raw.specs.Dumps.{parts_of}
use Rattle.odht_raw.specs.Finds.{IsCountedFind}
use Rattle.odht_raw.specs.Parts.{entry_format}
use Rattle.odht_raw.specs.Reads.{IsHeldBy}
use Rattle.odht_raw.specs.declared.raw_table.read_search.ReadPlace.{ReadPlace}
use Rattle.odht.specs.Files.{FileStore, IsOver, file_bytes, file_coding, key_refusal, read_parts, table_place}
use Rattle.odht.specs.Gets.{IsCountedGet}
use Rattle.odht.specs.declared.dynamic.DynError.TheVariants.{WrongKeyLength}
use Rattle.odht.proofs.lemmas.Files.{place_held, read_entries_of, read_controls_of, counted_get}
use Rattle.odht.proofs.dynamic.file.FileTable.get_counted.Goals as goal

pub returns-in-Ok-clause-given : goal.returns-in-Ok-clause-given
returns-in-Ok-clause-given g c B =
    let i = c.self.inside in
    let hash = g.H.HashFn.hash in
    let kl : ℕ = i.layout.key_len in
    let vl : ℕ = i.layout.value_len in
    let F : Format = format_of kl vl hash in
    let n : ℕ = image_len (entry_format kl vl) i.slots in
    let k : List ℕ = c.args.key.now in
    subst (λ (t : FileStore g.row.S.Denot). g.S.ReadAt.gives t.source B → IsOver hash t B → (key_refusal t k ≡ None) × IsCountedGet (file_coding t hash) (file_bytes t B) k c.in-Ok.found) c.self.view_is
    (λ h over. (
    let place = c.place_of-place.ensures in
    let held = subst (λ p. IsHeldBy p B) (sym place) (place_held i.at i.slots kl vl B over.held) in
    let found = subst (λ (p : ReadPlace). IsCountedFind (format_of p.layout.key_len p.layout.value_len hash) (λ b. b) (read_parts p B) k c.in-Ok.found) place (c.in-Ok.ensures.given B h held) in
    let parts : read_parts (table_place i.at i.slots kl vl) B ≡ parts_of F (bytes_at B i.at n) =
    λ j. record {
      control = read_controls_of F B i.at n over.held i.slots over.slots refl j;
      entries = record { slots = sym over.slots j; bytes = read_entries_of F B i.at n over.held i.slots over.slots refl j };
    } in
    let same : length k ≡ kl = omega (arith, c.if-key-self.false) in (
      ap (λ b. then_some (not b) (WrongKeyLength kl (length k))) (eq-eqb (length k) kl same),
      counted_get F (bytes_at B i.at n) (read_parts (table_place i.at i.slots kl vl) B) k c.in-Ok.found parts found,
    )))
