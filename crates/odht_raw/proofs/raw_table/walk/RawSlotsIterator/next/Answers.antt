use Rattle.std.proofs.Common.{arith, ◌≡◌, ◌∙◌, ◌+◌, ◌-◌, ◌++◌, ◌<◌, ◌≤◌, ◌^◌, ℕ, Fits, w64, List, [], ◌∷◌, suc, sym, ap, subst, map, take, length, length-take, slice_index, get_or-take, min}
use Rattle.odht_raw.proofs.lemmas.Below.{index-bytes_at}
use Rattle.std.specs.Bool.{IsFalse}
use Rattle.odht_raw.specs.Words.{bytes_at, counts_as_free, Format}
use Rattle.odht_base.proofs.lemmas.ByteRanges.{length-bytes_at}
use Rattle.odht_raw.specs.Parts.{TableParts, entry_format}
use Rattle.odht_raw.specs.Walks.{numbered_of, numbered_from, AreOccupied}
use Rattle.odht_raw.proofs.lemmas.Walks.{list-none, list-first, occupied-All, numbered_of-first, numbered_from-group}
use Rattle.odht_raw.proofs.raw_table.walk.RawSlotsIterator.next.Given.{Over}
use Rattle.odht_raw.proofs.raw_table.walk.RawSlotsIterator.next.Goals.{In-Some}
use Rattle.odht_raw.proofs.raw_table.walk.RawSlotsIterator.next.Goals as goal

-- each slot has a control byte
in_control : (i slots n : ℕ) → i < slots → n ≡ slots + 16 → i < n
in_control i slots n below long = omega arith

-- and its index fits a `usize`
in_word : (i n m : ℕ) → i < n → n ≡ m → m < 2 ^ 64 → Fits w64 i
in_word i n m below same word = omega arith

-- a list is longer than what is behind its first item
fewer : {X : Type 0} (x : X) (xs ys : List X) → xs ≡ x ∷ ys → length ys < length xs
fewer x xs ys e = subst (λ l. length ys < length l) (sym e) (omega arith)

-- where an occupied index is next
module _ (g : Over) (c : In-Some g) where
  abbrev parts : TableParts
  parts = record { control = c.groups.self-inside.control.now; entries = c.groups.self-inside.entries }

  mirrored : length c.groups.self-inside.control.now ≡ c.groups.self-inside.entries.slots + 16
  mirrored = ap (λ x. length x.now) c.groups.invariant.control ∙ c.self.invariant.0 ∙ ap (λ e. e.slots + 16) (sym c.groups.invariant.entries)

  -- the index and those behind it are the ones that were left
  split : c.groups.self-inside.occupied ≡ c.in-Some.index ∷ c.take.new.self
  split = list-first c.groups.self-inside.occupied c.in-Some.index c.in-Some.ensures.next ∙ ap (λ xs. c.in-Some.index ∷ xs) (sym c.take.ensures.rest)

  left : AreOccupied parts c.groups.self-inside.base (c.in-Some.index ∷ c.take.new.self)
  left = subst (AreOccupied parts c.groups.self-inside.base) split c.groups.invariant.occupied

  here : (c.groups.self-inside.base + c.in-Some.index < c.groups.self-inside.entries.slots) × IsFalse (counts_as_free (slice_index c.groups.self-inside.control.now (c.groups.self-inside.base + c.in-Some.index)))
  here = left 0 0 (omega arith)

pub overflow_add-slot : goal.overflow_add-slot
overflow_add-slot g c =
    let same = ap (λ x. length x.now) c.groups.invariant.control in
    in_word _ _ _ (in_control _ _ _ (here g c).0 (mirrored g c)) same c.self.told.0

pub bounds-self-inside-slot : goal.bounds-self-inside-slot
bounds-self-inside-slot g c = in_control _ _ _ (here g c).0 (mirrored g c)

pub get-requires-after_bounds : goal.get-requires-after_bounds
get-requires-after_bounds g c κs within = (here g (goal.at.get-requires-after_bounds g c).In-Some).0

pub invariant_of-self : goal.invariant_of-self
invariant_of-self g c =
    let some = (goal.at.invariant_of-self g c).In-Some in
    (mirrored g some, c.groups.invariant.within, λ k d l. left g some (suc k) d (omega (arith, l)))

pub returns-in-Some-clause-steps : goal.returns-in-Some-clause-steps
returns-in-Some-clause-steps g c =
    let F : Format = entry_format g.K.ByteArray.LEN g.V.ByteArray.LEN in
    let some = (goal.at.returns-in-Some-clause-steps g c).In-Some in
    let T = parts g some in
    let at = c.groups.self-inside.base in
    let later = numbered_from g.K.ByteArray.of_bytes g.V.ByteArray.of_bytes F T c.groups.self-inside.next_slot in
    sym c.self.view_is
    ∙ sym c.groups.invariant.left
    ∙ ap (λ xs. numbered_of g.K.ByteArray.of_bytes g.V.ByteArray.of_bytes F T (map (λ i. at + i) xs) ++ later) (split g some)
    ∙ ap (λ xs. xs ++ later) (numbered_of-first g.K.ByteArray.of_bytes g.V.ByteArray.of_bytes F T (at + c.in-Some.index) (map (λ i. at + i) c.take.new.self) c.get.result (here g some).1 c.get.ensures.key c.get.ensures.value)

pub returns-in-Some-clause-goes : goal.returns-in-Some-clause-goes
returns-in-Some-clause-goes g c =
    record { on = λ _. (tt, tt, fewer _ _ _ (returns-in-Some-clause-steps g c)); keeps = tt; rests = λ _. tt }

pub groups-preserved : goal.groups-preserved
groups-preserved g c =
    let F : Format = entry_format g.K.ByteArray.LEN g.V.ByteArray.LEN in
    let v = c.groups.invariant in
    let at = c.groups.self-inside.next_slot in
    let n : ℕ = c.min-size.result in
    let T : TableParts = record { control = c.groups.self-inside.control.now; entries = c.groups.self-inside.entries } in
    let B : List ℕ = bytes_at T.control at 16 in
    let long : length T.control ≡ T.entries.slots + 16 = ap (λ x. length x.now) v.control ∙ c.self.invariant.0 ∙ ap (λ e. e.slots + 16) (sym v.entries) in
    let size : n ≡ min (T.entries.slots - at) 16 = c.min-size.ensures ∙ ap (λ m. min (m - at) 16) c.len-in-groups.ensures in
    let sixteen : length B ≡ 16 = length-bytes_at T.control at 16 (omega (arith, long, v.within)) in
    let len : length (take n B) ≡ n = omega (arith, length-take n B, sixteen, size) in
    let fits : at + n ≤ T.entries.slots = omega (arith, size, v.within) in
    let are = λ (k : ℕ) (l : k < length (take n B)). (let e : slice_index T.control (at + k) ≡ slice_index (take n B) k = sym (get_or-take n B k 0 (omega (arith, l, len)) ∙ index-bytes_at T.control at 16 k (omega (arith, l, len, size))) in e) in
    let none : c.groups.self-inside.occupied ≡ [] = list-none _ c.in_default.ensures.next in
    record {
      control = v.control;
      entries = v.entries;
      within = fits;
      occupied = subst (AreOccupied T at) (sym c.occupied-self-inside.ensures) (occupied-All T at (take n B) (omega (arith, len, fits)) are);
      left =
          ap (λ xs. numbered_of g.K.ByteArray.of_bytes g.V.ByteArray.of_bytes F T (map (λ i. at + i) xs) ++ numbered_from g.K.ByteArray.of_bytes g.V.ByteArray.of_bytes F T (at + n)) c.occupied-self-inside.ensures
          ∙ sym (numbered_from-group g.K.ByteArray.of_bytes g.V.ByteArray.of_bytes F T at n (take n B) len fits are)
          ∙ sym (ap (λ xs. numbered_of g.K.ByteArray.of_bytes g.V.ByteArray.of_bytes F T (map (λ i. c.groups.self-inside.base + i) xs) ++ numbered_from g.K.ByteArray.of_bytes g.V.ByteArray.of_bytes F T at) none)
          ∙ v.left;
    }
