-- The lines of a dump, joined as they are written.
use Rattle.std.proofs.Common.{◌≡◌, ℕ, ◌+◌, false, List, [], ◌∷◌, ◌++◌, map, Option, Some, None, Result, Ok, slice_index, refl, sym, ap, ◌∙◌, arith, append_assoc, append-nil}
use Rattle.std.proofs.lemmas.List.FromFn.{map-range_with_len_more}
use Rattle.std.proofs.Output.{then_text_assoc, displays_on_IsOk_append}
use Rattle.std.specs.Prelude.{codes, decimal}
use Rattle.std.specs.Fmt.{◌++?◌, DisplaysOnOk}
use Rattle.std.specs.List.{range_with_len}
use Rattle.std.specs.declared.fmt.Error.{Error}
use Rattle.std.specs.declared.fmt.Formatter.{Formatter}
use Rattle.odht_raw.specs.Words.{counts_as_free, Format, header_count, header_factor, header_slots, max_items, percent_of, slot_key, slot_value}
use Rattle.odht_raw.specs.Parts.{TableParts}
use Rattle.odht_raw.specs.Dumps.{DebugText, texts_in_turn, slot_text, slots_text, counts_text}

-- three texts joined are one text
joined : (a b c : List ℕ) (o : Option (List ℕ)) → Some a ++? Some b ++? Some c ++? o ≡ Some (a ++ b ++ c) ++? o
joined a b c None = refl
joined a b c (Some d) = simp append_assoc

-- the line of an occupied slot, as its pieces are written
pub slot_text-occupied : (F : Format) (key_text value_text : DebugText) (T : TableParts) (i : ℕ) → counts_as_free (slice_index T.control i) ≡ false
    → Some (codes "slot ") ++? Some (decimal i) ++? Some (codes ": key=") ++? key_text (slot_key F T.entries.bytes i)
    ++? Some (codes ", value=") ++? value_text (slot_value F T.entries.bytes i)
    ++? Some (codes ", control_byte=" ++ decimal (slice_index T.control i) ++ codes "\n")
    ≡ slot_text F key_text value_text T i
slot_text-occupied F key_text value_text T i occupied = rw occupied (joined (codes "slot ") (decimal i) (codes ": key=") _)

-- the empty text behind a text, and before it
append-nothing : (o : Option (List ℕ)) → o ++? Some [] ≡ o
append-nothing None = refl
append-nothing (Some a) = ap (λ b. Some b) (append-nil a)

nothing-append : (o : Option (List ℕ)) → Some [] ++? o ≡ o
nothing-append None = refl
nothing-append (Some a) = refl

-- the texts of two lists
texts_in_turn-append : (os ps : List (Option (List ℕ))) → texts_in_turn (os ++ ps) ≡ texts_in_turn os ++? texts_in_turn ps
texts_in_turn-append [] ps = sym (nothing-append (texts_in_turn ps))
texts_in_turn-append (o ∷ os) ps = ap (λ rest. o ++? rest) (texts_in_turn-append os ps) ∙ sym (then_text_assoc o (texts_in_turn os) (texts_in_turn ps))

-- the line of one more slot
pub slots_text-more : (F : Format) (key_text value_text : DebugText) (T : TableParts) (n : ℕ)
    → slots_text F key_text value_text T (n + 1) ≡ slots_text F key_text value_text T n ++? slot_text F key_text value_text T n
slots_text-more F key_text value_text T n =
    let line = slot_text F key_text value_text T in
    ap texts_in_turn (map-range_with_len_more line 0 n n (omega arith)) ∙ texts_in_turn-append (map line (range_with_len 0 n)) (line n ∷ []) ∙ ap (λ last. slots_text F key_text value_text T n ++? last) (append-nothing (line n))

-- a text behind one that is written
pub displayed-append : {W : Type 0} (took : W → List ℕ → W → Type 0) (f g h : Formatter W) (r : Result (Unit {0}) Error) (o p : Option (List ℕ))
    → DisplaysOnOk took f (Ok tt) o g → DisplaysOnOk took g r p h → DisplaysOnOk took f r (o ++? p) h
displayed-append took f g h r o p = displays_on_IsOk_append took f g h (Ok tt) r o p (λ ok. refl)

-- the line of the numbers, as its pieces are written
pub counts_text-written : (B : List ℕ) (n m p : ℕ)
    → n ≡ header_count B → m ≡ max_items (header_slots B) (header_factor B) → p ≡ percent_of (header_factor B)
    → codes "(item_count=" ++ (decimal n ++ (codes ", max_item_count=" ++ (decimal m ++ (codes ", max_load_factor=" ++ (decimal p ++ codes "%)\n"))))) ≡ counts_text B
counts_text-written B n m p items most percent = rw (items, most, percent) (simp append_assoc)
