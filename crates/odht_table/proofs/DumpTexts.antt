-- The dump of a table of arrays has a text.
use Rattle.std.proofs.Common.{◌≡◌, ℕ, refl, Bool, true, false, List, [], ◌∷◌, ◌++◌, map, Option, Some, slice_index}
use Rattle.std.specs.Prelude.{codes, decimal}
use Rattle.std.specs.Fmt.{◌++?◌}
use Rattle.std.specs.List.{range_with_len}
use Rattle.odht_base.specs.Format.{Format}
use Rattle.odht_base.specs.Decoded.{counts_as_free, slot_key, slot_value}
use Rattle.odht_raw.specs.Dumps.{DebugText, texts_in_turn, slot_text, slots_text, head_text, dump_text, counts_text, owned_dump_text, parts_of}
use Rattle.odht_raw.specs.Parts.{TableParts}

-- there is a text
abbrev pub HasText : Option (List ℕ) → Type 0
HasText o = (text : List ℕ) × (o ≡ Some text)

-- a text that is given
given : (text : List ℕ) → HasText (Some text)
given text = (text, refl)

-- two texts, one after the other
HasText-append : (o p : Option (List ℕ)) → HasText o → HasText p → HasText (o ++? p)
HasText-append o p a b = (a.0 ++ b.0, λ i. a.1 i ++? b.1 i)

-- texts in turn
HasText-in_turn : (f : ℕ → Option (List ℕ)) → ((i : ℕ) → HasText (f i)) → (is : List ℕ) → HasText (texts_in_turn (map f is))
HasText-in_turn f h [] = ([], refl)
HasText-in_turn f h (i ∷ is) = HasText-append (f i) (texts_in_turn (map f is)) (h i) (HasText-in_turn f h is)

module _ (F : Format) (key_text value_text : DebugText) (keys : (b : List ℕ) → HasText (key_text b)) (values : (b : List ℕ) → HasText (value_text b)) where
  -- the line of a slot
  HasText-slot : (T : TableParts) (i : ℕ) → HasText (slot_text F key_text value_text T i)
  HasText-slot T i = go (counts_as_free (slice_index T.control i)) refl
    where
      go : (b : Bool) → counts_as_free (slice_index T.control i) ≡ b → HasText (slot_text F key_text value_text T i)
      go true e = rw e (given (codes "slot " ++ decimal i ++ codes ": empty\n"))
      go false e =
          let key = key_text (slot_key F T.entries.bytes i) in
          let value = value_text (slot_value F T.entries.bytes i) in
          let a = codes "slot " ++ decimal i ++ codes ": key=" in
          let b = codes ", value=" in
          let c = codes ", control_byte=" ++ decimal (slice_index T.control i) ++ codes "\n" in
          rw e
          (HasText-append (Some a) (key ++? Some b ++? value ++? Some c) (given a)
          (HasText-append key (Some b ++? value ++? Some c) (keys (slot_key F T.entries.bytes i))
          (HasText-append (Some b) (value ++? Some c) (given b)
          (HasText-append value (Some c) (values (slot_value F T.entries.bytes i)) (given c)))))

  -- the whole dump
  pub HasText-owned_dump : (name B : List ℕ) → HasText (owned_dump_text F key_text value_text name B)
  HasText-owned_dump name B =
      let T = parts_of F B in
      let slots = HasText-in_turn (slot_text F key_text value_text T) (HasText-slot T) (range_with_len 0 T.entries.slots) in
      let lines = slots_text F key_text value_text T T.entries.slots in
      let head = head_text name T.entries.slots in
      HasText-append (Some (counts_text B)) (dump_text F key_text value_text name T ++? Some (codes "\n")) (given (counts_text B))
      (HasText-append (dump_text F key_text value_text name T) (Some (codes "\n"))
      (HasText-append (Some head) (lines ++? Some (codes "}\n")) (given head) (HasText-append lines (Some (codes "}\n")) slots (given (codes "}\n"))))
      (given (codes "\n")))
