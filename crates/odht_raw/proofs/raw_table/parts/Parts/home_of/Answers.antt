use Rattle.std.proofs.Common.{◌∙◌, ◌-◌, ◌%◌, bit_and, ap}
use Rattle.odht_base.specs.Decoded.{slot_key}
use Rattle.odht_base.proofs.lemmas.SlotCounts.{bit_and-slots}
use Rattle.odht_raw.specs.DynParts.{stored_of}
use Rattle.odht_raw.specs.Stored.{StoredEntries, stored_format}
use Rattle.odht_raw.proofs.raw_table.parts.Parts.home_of.Goals as goal

pub returns-clause-home : goal.returns-clause-home
returns-clause-home g c =
    ap (λ n. bit_and c.hash_by_len.result (n - 1)) c.len-mask.ensures.value ∙ bit_and-slots c.hash_by_len.result c.args.self.now.parts.entries.slots c.len-mask.ensures.whole.slots ∙ ap (λ x. x % c.args.self.now.parts.entries.slots) (c.hash_by_len.ensures ∙ ap g.H.HashFn.hash (c.listed_key.ensures.value ∙ ap (λ (S : StoredEntries). slot_key (stored_format S) S.entries.bytes c.args.slot) (ap stored_of c.self.view_is)))
