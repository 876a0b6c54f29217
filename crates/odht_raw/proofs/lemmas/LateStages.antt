-- What the whole check looks at beyond a view, stage by stage, on the parts T of the bytes B.
use Rattle.std.proofs.Common.{◌≡◌, ◌∙◌, ℕ, sym, ap, List, take, drop, length, Option, Some, None, option_map}
use Rattle.std.specs.List.{filter_map}
use Rattle.std.specs.Option.{option_or}
use Rattle.odht_raw.proofs.lemmas.Below.{first_of-behind, IsPassed, last-first, option_or-first, option_or-None, option_or-second, take-append-drop, two-first}
use Rattle.odht_raw.specs.Words.{controls_of, count_refusal, decoded_cells, entries_of, Error, factor_refusal, first_of, Format, late_refusal_by, late_refusals, longer_refusal, mirror_refusal, padding_refusal, reach_refusal, room_refusal, slots_refusal, Unreachable}
use Rattle.odht_raw.specs.Checks.{decoded_count}
use Rattle.odht_raw.specs.Parts.{TableParts}

-- its error once the first k stages have passed
pub past_late : (F : Format) (o : Option ℕ) (B : List ℕ) (k : ℕ) → IsPassed (take k (late_refusals F o B)) → late_refusal_by F o B ≡ first_of (drop k (late_refusals F o B))
unfolding late_refusal_by
past_late F o B k p = ap first_of (sym (take-append-drop k (late_refusals F o B))) ∙ first_of-behind (take k (late_refusals F o B)) (drop k (late_refusals F o B)) p

-- the load factor
pub factor_stage : (F : Format) (o : Option ℕ) (B : List ℕ) (x : Error) → factor_refusal B ≡ Some x → late_refusal_by F o B ≡ Some x
factor_stage F o B x e = past_late F o B 0 tt ∙ option_or-first _ _ x e

-- the padding
pub padding_stage : (F : Format) (o : Option ℕ) (B : List ℕ) (x : Error) → factor_refusal B ≡ None → padding_refusal B ≡ Some x → late_refusal_by F o B ≡ Some x
padding_stage F o B x factor e = past_late F o B 1 (factor, tt) ∙ option_or-first _ _ x e

module _ (F : Format) (o : Option ℕ) (B : List ℕ) (T : TableParts) (entries : T.entries.bytes ≡ entries_of F B) (control : T.control ≡ controls_of F B)
    (factor : factor_refusal B ≡ None) (padding : padding_refusal B ≡ None) where
  slots_same : slots_refusal F T.entries.bytes T.control ≡ slots_refusal F (entries_of F B) (controls_of F B)
  slots_same = λ i. slots_refusal F (entries i) (control i)

  -- the slots
  pub slots_stage : (x : Error) → slots_refusal F T.entries.bytes T.control ≡ Some x → late_refusal_by F o B ≡ Some x
  slots_stage x e = past_late F o B 2 (factor, (padding, tt)) ∙ option_or-first _ _ x (sym slots_same ∙ e)

  module _ (slots : slots_refusal F T.entries.bytes T.control ≡ None) where
    -- the mirror
    pub mirror_stage : (x : Error) → mirror_refusal T.control ≡ Some x → late_refusal_by F o B ≡ Some x
    mirror_stage x e = past_late F o B 3 (factor, (padding, (sym slots_same ∙ slots, tt))) ∙ option_or-first _ _ x (sym (ap mirror_refusal control) ∙ e)

    module _ (mirror : mirror_refusal T.control ≡ None) (m : ℕ) (counted : m ≡ decoded_count F T) where
      abbrev rest : Option Error
      rest = option_or (longer_refusal T.control o) (option_or (reach_refusal F T.entries.bytes T.control) None)

      past_mirror : late_refusal_by F o B ≡ option_or (count_refusal m B) (option_or (room_refusal B) rest)
      past_mirror =
          let is = counted ∙ (λ i. length (filter_map (λ c. c) (decoded_cells F (entries i) (control i)))) in
          past_late F o B 4 (factor, (padding, (sym slots_same ∙ slots, (sym (ap mirror_refusal control) ∙ mirror, tt))))
          ∙ sym (λ i. option_or (count_refusal (is i) B) (option_or (room_refusal B) (option_or (longer_refusal (control i) o) (option_or (reach_refusal F (entries i) (control i)) None))))

      -- the count and its maximum
      pub count_stage : (x : Error) → option_or (count_refusal m B) (room_refusal B) ≡ Some x → late_refusal_by F o B ≡ Some x
      count_stage x e = past_mirror ∙ two-first (count_refusal m B) (room_refusal B) rest x e

      module _ (fits : option_or (count_refusal m B) (room_refusal B) ≡ None) where
        past_count : late_refusal_by F o B ≡ rest
        past_count = let none = option_or-None _ _ fits in past_mirror ∙ option_or-second _ _ none.0 ∙ option_or-second _ _ none.1

        -- the bound
        pub longer_stage : (x : Error) → longer_refusal T.control o ≡ Some x → late_refusal_by F o B ≡ Some x
        longer_stage x e = past_count ∙ option_or-first _ _ x e

        -- and what is left is the reach, whose first error is that of the slot u
        pub reach_stage : longer_refusal T.control o ≡ None → (u : Option ℕ) → option_map Unreachable u ≡ reach_refusal F T.entries.bytes T.control → late_refusal_by F o B ≡ option_map Unreachable u
        reach_stage e u known = past_count ∙ option_or-second _ _ e ∙ last-first _ ∙ sym known
