use Rattle.std.proofs.Common.{rules, ◌≡◌, ◌∙◌, ◌-◌, ◌+◌, ◌<◌, ◌%◌, ◌/◌, ◌^◌, ℕ, List, Some, sym, ap, subst, arith, length, bit_and}
use Rattle.odht_raw.specs.Words.{bytes_at, first_free, Format, home, IsFormat, IsPartsOf, IsReport, IsSlotCount, Table, tag}
use Rattle.odht_raw.proofs.lemmas.Below.{bit_and-slots, IsFormat-format_of}
use Rattle.odht_raw.specs.DynParts.{AreWhole, DynParts, parts_format}
use Rattle.odht_raw.specs.Expected.{IsExpected}
use Rattle.odht_raw.specs.declared.raw_table.search_result.Search.TheVariants.{Free}
use Rattle.odht_raw.proofs.lemmas.Expected.{home_free, no_match, no_slot, size_fits, whole_slots}
use Rattle.odht_raw.proofs.raw_table.parts.Parts.expected_slot.Goals as goal

-- the home is one of the slots
home_low : (hash s : ℕ) → IsSlotCount s → bit_and hash (s - 1) < s
home_low hash s count = let least = count.least in rw (bit_and-slots hash s count) (omega arith)

pub overflow_add-home : goal.overflow_add-home
overflow_add-home g c =
    let count : IsSlotCount c.len-slots.result = subst IsSlotCount (sym c.len-slots.ensures.value) c.len-slots.ensures.whole.slots in
    let few = c.len-slots.ensures.few in
    let positive = count.least in
    let small = size_fits g.Q.Group.SIZE g.met.Q.Group.divides in
    let low = home_low c.hash-hash.result c.len-slots.result count in
    let size = c.SIZE.ensures in
    search rules

pub slice_bounds-of-end : goal.slice_bounds-of-end
slice_bounds-of-end g c =
    let count : IsSlotCount c.len-slots.result = subst IsSlotCount (sym c.len-slots.ensures.value) c.len-slots.ensures.whole.slots in
    let few = c.len-slots.ensures.few in
    let positive = count.least in
    let small = size_fits g.Q.Group.SIZE g.met.Q.Group.divides in
    let low = home_low c.hash-hash.result c.len-slots.result count in
    let size = c.SIZE.ensures in
    let long = c.controls-control.ensures.len in
    let slots = c.len-slots.ensures.value in
    search rules

-- the slot count is expected of any key
unexpected : (ml : ℕ) (S : DynParts) (h : List ℕ → ℕ) (k : List ℕ) (n : ℕ) → IsFormat (parts_format S h) → AreWhole ml S → n ≡ S.parts.entries.slots
    → (P : Table) (es : List ℕ) → IsPartsOf (parts_format S h) P es S.parts.control → IsExpected (parts_format S h) P k n
unexpected ml S h k n f whole is P es parts =
    let same = whole_slots ml S whole in
    subst (IsExpected (parts_format S h) P k) (same ∙ sym is) (no_slot (parts_format S h) P es S.parts.control k f parts (subst IsSlotCount (sym same) whole.slots))

pub returns-then-is_some : goal.returns-then-is_some
returns-then-is_some g c =
    let whole = c.len-slots.ensures.whole in
    let f = IsFormat-format_of _ _ _ _ whole.fitting.key_short whole.fitting.value_short whole.hashes g.met.H.HashFn.fits in
    record { hash = c.hash-hash.ensures; expected = unexpected g.H.HashFn.MIN_LEN c.args.self.now g.H.HashFn.hash c.args.key.now _ f whole c.len-slots.ensures.value }

pub returns-in-Some : goal.returns-in-Some
returns-in-Some g c =
    let S : DynParts = c.args.self.now in
    let F : Format = parts_format S g.H.HashFn.hash in
    let whole = c.len-slots.ensures.whole in
    let f = IsFormat-format_of _ _ _ _ whole.fitting.key_short whole.fitting.value_short whole.hashes g.met.H.HashFn.fits in
    let k : List ℕ = c.args.key.now in
    let ctrl = S.parts.control in
    let s : ℕ = length ctrl - 16 in
    let same : s ≡ S.parts.entries.slots = whole_slots g.H.HashFn.MIN_LEN S whole in
    let count : IsSlotCount s = subst IsSlotCount (sym same) whole.slots in
    let long : c.len-slots.result ≡ s = c.len-slots.ensures.value ∙ sym same in
    let hash = c.hash-hash.ensures in
    let small = size_fits g.Q.Group.SIZE g.met.Q.Group.divides in
    let masked : bit_and c.hash-hash.result (s - 1) ≡ home F k s = bit_and-slots c.hash-hash.result s count ∙ ap (λ x. x % s) hash in
    let home_is : bit_and c.hash-hash.result (c.len-slots.result - 1) ≡ bit_and c.hash-hash.result (s - 1) = ap (λ n. bit_and c.hash-hash.result (n - 1)) long in
    let into = bit_and-slots (bit_and c.hash-hash.result (s - 1) + c.in-Some.index) s count in
    let tag_is = c.tag_of.ensures ∙ ap (λ x. x / 2 ^ 25) hash in
    let xs = g.Q.Group.matches c.of-group.result in
    let read = c.controls-control.ensures.value in
    let report : IsReport (bytes_at ctrl (home F k s) g.Q.Group.SIZE) (tag F k) xs =
    subst (λ (x : List ℕ × ℕ × ℕ × ℕ). IsReport (bytes_at x.0 x.1 x.2) x.3 xs) (λ i. (read i, (home_is ∙ masked) i, c.SIZE.ensures i, tag_is i)) c.of-group.ensures.matches in
    let free : first_free (bytes_at ctrl (home F k s) g.Q.Group.SIZE) ≡ Some c.in-Some.index =
    (λ i. first_free (bytes_at (sym read i) (sym (home_is ∙ masked) i) (sym c.SIZE.ensures i))) ∙ sym (c.in-Some.ensures ∙ c.of-group.ensures.free) in
    let none = no_match (g.Q.Group.matches c.of-group.result) c.first_match.result c.is_some.result c.first_match.ensures c.is_some.ensures c.if-is_some.false in
    record {
      hash = hash;
      expected = λ P es h low.
          rw long (ap Free (into ∙ ap (λ x. (x + c.in-Some.index) % s) masked)
          ∙ home_free F P es ctrl k f h count g.Q.Group.SIZE c.in-Some.index xs small report none free);
    }

pub returns : goal.returns
returns g c =
    let whole = c.len-slots.ensures.whole in
    let f = IsFormat-format_of _ _ _ _ whole.fitting.key_short whole.fitting.value_short whole.hashes g.met.H.HashFn.fits in
    record { hash = c.hash-hash.ensures; expected = unexpected g.H.HashFn.MIN_LEN c.args.self.now g.H.HashFn.hash c.args.key.now _ f whole c.len-slots.ensures.value }
