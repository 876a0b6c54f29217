use Rattle.std.proofs.Common.{arith, ◌-◌, ◌/◌, ◌^◌, ◌≡◌, ◌∙◌, ℕ, sym, ap, subst, refl, length, Ok}
use Rattle.odht_raw.proofs.lemmas.Below.{IsFormat-format_of, none-some, place-None, written}
use Rattle.odht_raw.specs.Words.{Format, format_of, IsPairOf, IsPartsOf, Pair, tag as key_tag, tagged}
use Rattle.odht_raw.specs.FreeSlots.{IsFirstFree}
use Rattle.odht_raw.specs.PartsPlacings.{PlacingFrame}
use Rattle.odht_raw.proofs.lemmas.FreeSearches.{first_free-answer, no_free-answer}
use Rattle.odht_raw.proofs.lemmas.Inserts.{free_parts}
use Rattle.odht_raw.proofs.lemmas.Lookups.{answer-Free, answer-Neither}
use Rattle.odht_raw.proofs.raw_table.writes.write_new.Goals as goal

-- where each slot is occupied nothing is written
pub returns-in_default-clause-placed : goal.returns-in_default-clause-placed
returns-in_default-clause-placed g c P h new =
    let F : Format = format_of (g.L.Lengths.key_len c.args.lengths) (g.L.Lengths.value_len c.args.lengths) g.H.HashFn.hash in
    let p : Pair = record { key = c.args.key.now; value = c.args.value.now } in
    let f = IsFormat-format_of _ _ _ _ c.requires.lengths.pair.key c.requires.lengths.pair.value c.requires.lengths.pair.hashes g.met.H.HashFn.fits in
    let ctrl = c.args.control.now in
    let few = c.requires.lengths.slots.least in
    let at = answer-Neither F P p.key h.placed (no_free-answer F P p.key c.args.entries.now ctrl f h (length ctrl - 16) (omega arith) new c.in_default.ensures) in
    let none = at.places p refl in
    record { ok = tt; full = (λ d. none, λ d. refl); no_room = (λ d. (place-None F P p h.placed).0 none, λ d. refl) }

pub returns-in_default-clause-change : goal.returns-in_default-clause-change
returns-in_default-clause-change g c =
    record { frame = PlacingFrame.no_slot c.in_default.ensures; errors = record { only_full = refl; refused_control = refl; refused_entries = refl } }

pub returns-clause-placed : goal.returns-clause-placed
returns-clause-placed g c P h new =
    let F : Format = format_of (g.L.Lengths.key_len c.args.lengths) (g.L.Lengths.value_len c.args.lengths) g.H.HashFn.hash in
    let p : Pair = record { key = c.args.key.now; value = c.args.value.now } in
    let f = IsFormat-format_of _ _ _ _ c.requires.lengths.pair.key c.requires.lengths.pair.value c.requires.lengths.pair.hashes g.met.H.HashFn.fits in
    let es = c.args.entries.now in
    let ctrl = c.args.control.now in
    let few = c.requires.lengths.slots.least in
    let tag : c.tag_of.result ≡ key_tag F p.key = c.tag_of.ensures ∙ ap (λ h. h / 2 ^ 25) c.hash-hash.ensures in
    let control : c.write_slot.new.control ≡ tagged ctrl c.in-Some.slot (key_tag F p.key) = c.write_slot.ensures.control ∙ ap (tagged ctrl c.in-Some.slot) tag in
    let first = subst (λ (x : ℕ). IsFirstFree ctrl x (length ctrl - 16) c.in-Some.slot) c.hash-hash.ensures c.in-Some.ensures in
    let fits : IsPairOf F p = record { key = record { len = c.requires.key; each = c.prove_bytes.ensures }; value = record { len = c.requires.value; each = c.prove_bytes-2.ensures } } in
    let at = answer-Free F P p.key h.placed c.in-Some.slot (first_free-answer F P p.key es ctrl f h (length ctrl - 16) (omega arith) new c.in-Some.slot first) in
    let parts : IsPartsOf F (written P c.in-Some.slot p) c.write_slot.new.entries c.write_slot.new.control =
    rw (control, c.write_slot.ensures.entries) (free_parts F P es ctrl h p.key c.in-Some.slot p refl fits at) in
    let some = at.places p refl in
    record {
      ok = (written P c.in-Some.slot p, some, parts);
      full = (λ d. cc, λ d. absurd (none-some _ (sym d ∙ some)));
      no_room = (λ d. cc, λ n. absurd (none-some _ (sym ((place-None F P p h.placed).1 n) ∙ some)));
    }

pub returns-clause-change : goal.returns-clause-change
returns-clause-change g c =
    let F : Format = format_of (g.L.Lengths.key_len c.args.lengths) (g.L.Lengths.value_len c.args.lengths) g.H.HashFn.hash in
    let p : Pair = record { key = c.args.key.now; value = c.args.value.now } in
    let ctrl = c.args.control.now in
    let tag : c.tag_of.result ≡ key_tag F p.key = c.tag_of.ensures ∙ ap (λ h. h / 2 ^ 25) c.hash-hash.ensures in
    let control : c.write_slot.new.control ≡ tagged ctrl c.in-Some.slot (key_tag F p.key) = c.write_slot.ensures.control ∙ ap (tagged ctrl c.in-Some.slot) tag in
    let first = subst (λ (x : ℕ). IsFirstFree ctrl x (length ctrl - 16) c.in-Some.slot) c.hash-hash.ensures c.in-Some.ensures in
    let framed : PlacingFrame F c.args.entries.now ctrl p (Ok tt) c.write_slot.new.entries c.write_slot.new.control =
    rw (control, c.write_slot.ensures.entries) (PlacingFrame.added c.in-Some.slot first) in
    record { frame = framed; errors = record { only_full = tt; refused_control = tt; refused_entries = tt } }
