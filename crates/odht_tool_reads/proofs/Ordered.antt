-- The pairs of the slots in an insert order.
use Rattle.std.proofs.Common.{◌≡◌, ◌<◌, ◌∙◌, ◌+◌, ℕ, Bool, true, true≢false, sym, ap, refl, subst, List, [], ◌∷◌, ◌++◌, length, take, get_or, Option, Some, None, Result, Ok, Err, OnOk, All, map, append-nil}
use Rattle.std.specs.Prelude.{is_some}
use Rattle.std.specs.Io.KnownBytes.{Appends}
use Rattle.std.specs.List.{cons_option, range_with_len}
use Rattle.std.proofs.lemmas.List.{map-append, take_more}
use Rattle.std.proofs.lemmas.List.Concat.{flat_map-append}
use Rattle.std.proofs.lemmas.List.Elements.{All-nil, All-cons, All-tail, All-head, filter_passes}
use Rattle.std.proofs.lemmas.List.Sorted.{All-permutation}
use Rattle.odht.proofs.lemmas.Moves.{slots_of_image}
use Rattle.odht.proofs.lemmas.ViewInserts.{parts_here}
use Rattle.odht_base.specs.Decoded.{controls_of, entries_of, header_slots}
use Rattle.odht_base.specs.Format.{Format, IsFormat, format_of}
use Rattle.odht_base.specs.Made.{IsInsertOrder, occupied, pairs_of}
use Rattle.odht_base.specs.Table.{Pair, Table, cell_at, slot_count}
use Rattle.odht_base.specs.Valid.{IsImage, IsPartsOf}
use Rattle.odht_base.proofs.lemmas.Keys.{cell_at-within}
use Rattle.odht_raw.proofs.lemmas.PartCells.{key_is, value_is}
use Rattle.odht.specs.Tables.{OfTable}
use Rattle.odht_tool_reads.specs.Orders.{IsOrderText, IsOrdered, stored_at}
use Rattle.odht_tool_core.specs.Endings.{IsWritten}
use Rattle.odht_tool_core.specs.StoredTexts.{bare_pairs, key_text, lines_of, value_text}
use Rattle.odht_tool_core.specs.Texts.{pair_line, pairs_text}
use Rattle.odht_tool_core.specs.declared.failure.Failure.{Failure}
use Rattle.odht_tool_core.specs.declared.failure.Failure.TheVariants.{Output}
use Rattle.odht_tool_core.specs.declared.status.Status.{Status}
use Rattle.odht_tool_core.specs.declared.typed.Texts.{Texts}

-- formats of the same lengths and the same hash function are the same
pub same_format : (k l v w : ℕ) (h : List ℕ → ℕ) → k ≡ l → v ≡ w → format_of k v h ≡ format_of l w h
same_format k l v w h key value = ap (λ n. format_of n v h) key ∙ ap (λ n. format_of l n h) value

module _ (P : Table) where
  -- the test of an occupied slot
  abbrev holds_some : ℕ → Bool
  holds_some i = is_some (cell_at P.cells i)

  -- each slot of an insert order is occupied
  all_held : (F : Format) (order : List ℕ) → IsInsertOrder F P order → All (λ i. holds_some i ≡ true) order
  all_held F order o = All-permutation (λ i. holds_some i ≡ true) (occupied P) order o.each_once (filter_passes holds_some (range_with_len 0 (slot_count P)))

  -- an occupied slot is one of the table
  held_within : (i : ℕ) → holds_some i ≡ true → i < slot_count P
  held_within i e = go (cell_at P.cells i) refl e
    where
      go : (c : Option Pair) → cell_at P.cells i ≡ c → is_some c ≡ true → i < slot_count P
      go None g t = absurd (true≢false (sym t))
      go (Some p) g t = cell_at-within P.cells i p g

  -- so are all of a list
  all_within : (xs : List ℕ) → All (λ i. holds_some i ≡ true) xs → All (λ i. i < slot_count P) xs
  all_within [] h = All-nil (λ i. i < slot_count P)
  all_within (x ∷ xs) h = All-cons (λ i. i < slot_count P) x xs (held_within x (All-head (λ i. holds_some i ≡ true) x xs h)) (all_within xs (All-tail (λ i. holds_some i ≡ true) x xs h))

  -- their pairs are those of their entries
  all_stored : (s : ℕ → Pair) → ((i : ℕ) (p : Pair) → cell_at P.cells i ≡ Some p → s i ≡ p) → (xs : List ℕ) → All (λ i. holds_some i ≡ true) xs → map s xs ≡ pairs_of P xs
  all_stored s is [] h = refl
  all_stored s is (x ∷ xs) h = go (cell_at P.cells x) refl (All-head (λ i. holds_some i ≡ true) x xs h) (all_stored s is xs (All-tail (λ i. holds_some i ≡ true) x xs h))
    where
      go : (c : Option Pair) → cell_at P.cells x ≡ c → is_some c ≡ true → map s xs ≡ pairs_of P xs → s x ∷ map s xs ≡ cons_option c (pairs_of P xs)
      go None g t rest = absurd (true≢false (sym t))
      go (Some p) g t rest = ap (λ q. q ∷ map s xs) (is x p g) ∙ ap (λ qs. p ∷ qs) rest

module _ (F : Format) (f : IsFormat F) (P : Table) (B : List ℕ) (image : IsImage F P B) where
  -- the slots of an insert order are slots of the table
  pub order_within : (order : List ℕ) → IsInsertOrder F P order → All (λ i. i < header_slots B) order
  order_within order o = subst (λ n. All (λ i. i < n) order) (sym (slots_of_image F P B image)) (all_within P order (all_held P F order o))

  -- and their entries hold its pairs
  pub order_stored : (order : List ℕ) → IsInsertOrder F P order → map (stored_at F B) order ≡ pairs_of P order
  order_stored order o = all_stored P (stored_at F B) same order (all_held P F order o)
    where
      parts : IsPartsOf F P (entries_of F B) (controls_of F B)
      parts = parts_here F P B image

      same : (i : ℕ) (p : Pair) → cell_at P.cells i ≡ Some p → stored_at F B i ≡ p
      same i p g = λ j. record { key = key_is F f P (entries_of F B) (controls_of F B) parts i p g j; value = value_is F f P (entries_of F B) (controls_of F B) parts i p g j }

-- the key and the value of a pair
abbrev pub bare : Pair → List ℕ × List ℕ
bare p = (p.key, p.value)

module _ (F : Format) (t : Texts) where
  -- the line of one slot more
  pub slot_more : (B order : List ℕ) (i d : ℕ) → i < length order → lines_of t (map (stored_at F B) (take (i + 1) order)) ≡ lines_of t (map (stored_at F B) (take i order)) ++ pair_line (key_text t) (value_text t) (bare (stored_at F B (get_or order i d)))
  slot_more B order i d l =
      let f = key_text t in
      let g = value_text t in
      let s = stored_at F B in
      let x = get_or order i d in
      ap (λ xs. lines_of t (map s xs)) (take_more order i d l)
      ∙ ap (lines_of t) (map-append s (take i order) (x ∷ []))
      ∙ ap (pairs_text f g) (map-append bare (map s (take i order)) (s x ∷ []))
      ∙ flat_map-append (pair_line f g) (bare_pairs (map s (take i order))) (bare (s x) ∷ [])
      ∙ ap (λ l. lines_of t (map s (take i order)) ++ l) (append-nil (pair_line f g (bare (s x))))

  -- how the command ends where an order was written
  pub order_told : {E : Type 0} (B T : List ℕ) (old new : Option (List ℕ)) (w : Result (Unit {0}) E) (r : Result Status Failure) → OnOk w (Appends old new T) → OfTable F B (λ P. IsOrderText F t P T) → IsWritten w r → IsOrdered F t B old new r
  order_told B T old new (Ok u) r written text h = subst (IsOrdered F t B old new) (sym h) (λ P is. (T, text P is, written))
  order_told B T old new (Err e) (Ok status) written text h = absurd h
  order_told B T old new (Err e) (Err (Output error)) written text h = λ P is. (T, text P is)
  order_told B T old new (Err e) (Err failure) written text h = absurd h
