-- What follows from a command's text: its first space is after its name.
use Rattle.std.proofs.Common.{◌≡◌, ◌≢◌, ◌∙◌, ℕ, zero, suc, ◌<◌, ◌^◌, List, [], ◌∷◌, ◌++◌, length, Option, Some, None, MatchOption, SomeIff, Bor, sym, ap, ap₂, subst, refl, arith}
use lib.ListN.{get_or}
use lib.ListN.{length-append}
use lib.Chars.{codes}
use Rattle.std.specs.Prelude.{All, Result, Ok, Err, option_map}
use Rattle.std.proofs.Math.Seq.{get_or-append_seam}
use Rattle.std.proofs.lemmas.List.{get_or_default}
use Rattle.std.specs.Result.{OkIff, result_ok}
use Rattle.std.specs.Str.Parse.{IsNumeral, digits_value}
use Rattle.std.proofs.lemmas.Str.Parse.{digit_at}
use Rattle.odht_table.specs.declared.script.command.Command.{Command}
use Rattle.odht_table.specs.declared.script.command.Command.TheVariants.{New, OnTable}
use Rattle.odht_table.specs.declared.script.command.Request.{Request}
use Rattle.odht_table.specs.declared.script.command.Request.TheVariants.{Put, Get, Len, Walk, Hex, Dump}
use Rattle.odht_table.specs.Verbs.{IsVerbText}
use Rattle.odht_tool_core.specs.Cuts.{IsCutAt}
use Rattle.odht_table.specs.declared.script.command.Verb.{Verb}
use Rattle.odht_table.specs.declared.script.command.Verb.TheVariants.{Make, Insert, Find}
use Rattle.odht_table.specs.Commands.{IsNumberText, IsPairText, IsWordText, IsCommandText}

-- none of the bytes is a space, byte by byte
abbrev AreNoSpaces : List ℕ → Type 0
AreNoSpaces [] = Unit {0}
AreNoSpaces (b ∷ bs) = (b ≢ 32) × AreNoSpaces bs

no_spaces : (bs : List ℕ) → AreNoSpaces bs → All (λ x. x ≢ 32) bs
no_spaces [] h i d l = absurd (omega (arith, l))
no_spaces (b ∷ bs) h zero d l = h.0
no_spaces (b ∷ bs) h (suc i) d l = no_spaces bs h.1 i d (omega (arith, l))

-- words are cut in one way
cut_same : (first rest front back : List ℕ) → first ++ (32 ∷ rest) ≡ front ++ (32 ∷ back) → All (λ x. x ≢ 32) first → All (λ x. x ≢ 32) front → (first ≡ front) × (rest ≡ back)
cut_same [] rest [] back e h k = (refl, cc)
cut_same [] rest (x ∷ front) back e h k = absurd (k 0 0 (omega arith) cc)
cut_same (x ∷ first) rest [] back e h k = absurd (h 0 0 (omega arith) cc)
cut_same (x ∷ first) rest (y ∷ front) back e h k =
    let heads : x ≡ y = cc in
    let tails : first ++ (32 ∷ rest) ≡ front ++ (32 ∷ back) = cc in
    let same = cut_same first rest front back tails (λ i d l. h (suc i) d (omega (arith, l))) (λ i d l. k (suc i) d (omega (arith, l))) in
    (ap₂ (λ b bs. b ∷ bs) heads same.0, same.1)

-- what words are cut into
abbrev pub IsCutInto : List ℕ → Option (Bor (List ℕ) × Bor (List ℕ)) → Type 0
IsCutInto words r = MatchOption r (All (λ x. x ≢ 32) words) (λ x. IsCutAt 32 words x.0.now x.1.now)

cut_after : (words front back : List ℕ) (r : Option (Bor (List ℕ) × Bor (List ℕ))) → IsCutInto words r → words ≡ front ++ (32 ∷ back) → All (λ x. x ≢ 32) front
    → MatchOption r ⊥ (λ x. (x.0.now ≡ front) × (x.1.now ≡ back))
cut_after words front back None h e k =
    h (length front) 0 (omega (arith, ap length e, length-append front (32 ∷ back))) (ap (λ bs. get_or bs (length front) 0) e ∙ get_or-append_seam front 32 back 0)
cut_after words front back (Some x) h e k = cut_same x.0.now x.1.now front back (sym h.0 ∙ e) h.1 k

-- no digit of a number is a space
no_space : (word : List ℕ) (n : ℕ) → IsNumberText word n → All (λ x. x ≢ 32) word
no_space word n h i d l e = let digit = digit_at word i h.numeral.1 l in omega (arith, digit, sym (get_or_default word i d 0 l) ∙ e)

-- a number is read from its text
pub number_found : (word : List ℕ) (n : ℕ) (r : Option ℕ) → SomeIff r (IsNumeral 10 word × (digits_value 10 word < 2 ^ 64)) (digits_value 10 word) → IsNumberText word n → r ≡ Some n
number_found word n None misses h = absurd (misses (h.numeral, omega (arith, h.value, h.fits)))
number_found word n (Some x) is h = ap Some (is.1 ∙ h.value)

-- two numbers are cut at their space
pub pair_cut : (words : List ℕ) (m n : ℕ) (r : Option (Bor (List ℕ) × Bor (List ℕ))) → IsCutInto words r → IsPairText words m n
    → MatchOption r ⊥ (λ x. IsNumberText x.0.now m × IsNumberText x.1.now n)
pair_cut words m n r cut h = numbers r (cut_after words h.first h.second r cut h.whole (no_space h.first m h.first_number))
  where
    numbers : (r : Option (Bor (List ℕ) × Bor (List ℕ))) → MatchOption r ⊥ (λ x. (x.0.now ≡ h.first) × (x.1.now ≡ h.second)) → MatchOption r ⊥ (λ x. IsNumberText x.0.now m × IsNumberText x.1.now n)
    numbers None e = e
    numbers (Some x) e = (subst (λ w. IsNumberText w m) (sym e.0) h.first_number, subst (λ w. IsNumberText w n) (sym e.1) h.second_number)

-- the name and the numbers are those of a command with a space
abbrev pub IsCut : List ℕ → List ℕ → Command → Type 0
IsCut name numbers (New items percent) = (name ≡ codes "new") × IsPairText numbers items percent
IsCut name numbers (OnTable (Put key value)) = (name ≡ codes "put") × IsPairText numbers key value × (value < 2 ^ 32)
IsCut name numbers (OnTable (Get key)) = (name ≡ codes "get") × IsNumberText numbers key
IsCut name numbers (OnTable Len) = ⊥
IsCut name numbers (OnTable Walk) = ⊥
IsCut name numbers (OnTable Hex) = ⊥
IsCut name numbers (OnTable Dump) = ⊥

-- a line is cut after its name of three letters
line_cut : (line words : List ℕ) (a b c : ℕ) (name numbers : Bor (List ℕ)) → IsCutInto line (Some (name, numbers)) → a ≢ 32 → b ≢ 32 → c ≢ 32 → line ≡ a ∷ b ∷ c ∷ 32 ∷ words
    → (name.now ≡ a ∷ b ∷ c ∷ []) × (numbers.now ≡ words)
line_cut line words a b c name numbers cut p q r e = cut_after line (a ∷ b ∷ c ∷ []) words (Some (name, numbers)) cut e (no_spaces (a ∷ b ∷ c ∷ []) (p, (q, (r, tt))))

-- a word without a space is not cut
word_not_cut : (line : List ℕ) (name numbers : Bor (List ℕ)) → IsCutInto line (Some (name, numbers)) → (word : List ℕ) → line ≡ word → AreNoSpaces word → ⊥
word_not_cut line name numbers cut word e none =
    let whole = cut.0 in
    let parts : word ≡ name.now ++ (32 ∷ numbers.now) = sym e ∙ whole in
    no_spaces word none (length name.now) 0
    (omega (arith, ap length parts, length-append name.now (32 ∷ numbers.now)))
    (ap (λ bs. get_or bs (length name.now) 0) parts ∙ get_or-append_seam name.now 32 numbers.now 0)

-- what a command's line is cut into
pub command_cut : (line : List ℕ) (name numbers : Bor (List ℕ)) (command : Command) → IsCutInto line (Some (name, numbers)) → IsCommandText line command → IsCut name.now numbers.now command
command_cut line name numbers (New items percent) cut h =
    let k = line_cut line h.0 110 101 119 name numbers cut (omega arith) (omega arith) (omega arith) h.1 in
    (k.0, subst (λ w. IsPairText w items percent) (sym k.1) h.2)
command_cut line name numbers (OnTable (Put key value)) cut h =
    let k = line_cut line h.0 112 117 116 name numbers cut (omega arith) (omega arith) (omega arith) h.1 in
    (k.0, subst (λ w. IsPairText w key value) (sym k.1) h.2, h.3)
command_cut line name numbers (OnTable (Get key)) cut h =
    let k = line_cut line h.0 103 101 116 name numbers cut (omega arith) (omega arith) (omega arith) h.1 in
    (k.0, subst (λ w. IsNumberText w key) (sym k.1) h.2)
command_cut line name numbers (OnTable Len) cut h = absurd (word_not_cut line name numbers cut _ h (omega arith, (omega arith, (omega arith, tt))))
command_cut line name numbers (OnTable Walk) cut h = absurd (word_not_cut line name numbers cut _ h (omega arith, (omega arith, (omega arith, (omega arith, tt)))))
command_cut line name numbers (OnTable Hex) cut h = absurd (word_not_cut line name numbers cut _ h (omega arith, (omega arith, (omega arith, tt))))
command_cut line name numbers (OnTable Dump) cut h = absurd (word_not_cut line name numbers cut _ h (omega arith, (omega arith, (omega arith, (omega arith, tt)))))

-- a name of three letters with a space after it is cut
name_cut : (line words : List ℕ) (a b c : ℕ) → IsCutInto line None → a ≢ 32 → b ≢ 32 → c ≢ 32 → line ≡ a ∷ b ∷ c ∷ 32 ∷ words → ⊥
name_cut line words a b c uncut p q r e = cut_after line (a ∷ b ∷ c ∷ []) words None uncut e (no_spaces (a ∷ b ∷ c ∷ []) (p, (q, (r, tt))))

-- what a line without a space asks for
pub uncut_command : (line : List ℕ) → IsCutInto line None → (r : Option Request) → ((request : Request) → IsWordText line request → r ≡ Some request)
    → (command : Command) → IsCommandText line command → option_map (λ request. OnTable request) r ≡ Some command
uncut_command line uncut r answer (New items percent) h = absurd (name_cut line h.0 110 101 119 uncut (omega arith) (omega arith) (omega arith) h.1)
uncut_command line uncut r answer (OnTable (Put key value)) h = absurd (name_cut line h.0 112 117 116 uncut (omega arith) (omega arith) (omega arith) h.1)
uncut_command line uncut r answer (OnTable (Get key)) h = absurd (name_cut line h.0 103 101 116 uncut (omega arith) (omega arith) (omega arith) h.1)
uncut_command line uncut r answer (OnTable Len) h = ap (option_map (λ request. OnTable request)) (answer Len h)
uncut_command line uncut r answer (OnTable Walk) h = ap (option_map (λ request. OnTable request)) (answer Walk h)
uncut_command line uncut r answer (OnTable Hex) h = ap (option_map (λ request. OnTable request)) (answer Hex h)
uncut_command line uncut r answer (OnTable Dump) h = ap (option_map (λ request. OnTable request)) (answer Dump h)

-- what is not cut after another name is not that command
other_name : (name : List ℕ) (a b c d e f : ℕ) → name ≡ a ∷ b ∷ c ∷ [] → name ≡ d ∷ e ∷ f ∷ [] → a ≢ d → ⊥
other_name name a b c d e f h k ne = ne (ap (λ bs. get_or bs 0 0) (sym h ∙ k))

-- a name that is no verb is that of no command
pub no_verb : (name numbers : List ℕ) → ((verb : Verb) → IsVerbText name verb → ⊥) → (command : Command) → IsCut name numbers command → ⊥
no_verb name numbers none (New items percent) cut = none Make cut.0
no_verb name numbers none (OnTable (Put key value)) cut = none Insert cut.0
no_verb name numbers none (OnTable (Get key)) cut = none Find cut.0
no_verb name numbers none (OnTable Len) cut = cut
no_verb name numbers none (OnTable Walk) cut = cut
no_verb name numbers none (OnTable Hex) cut = cut
no_verb name numbers none (OnTable Dump) cut = cut

module _ (name numbers : List ℕ) (r : Option Command) where
  -- a result at the name `new`
  pub at_new : name ≡ codes "new" → ((m n : ℕ) → IsPairText numbers m n → r ≡ Some (New m n)) → (command : Command) → IsCut name numbers command → r ≡ Some command
  at_new e answer (New items percent) cut = answer items percent cut.1
  at_new e answer (OnTable (Put key value)) cut = absurd (other_name name _ _ _ _ _ _ e cut.0 (omega arith))
  at_new e answer (OnTable (Get key)) cut = absurd (other_name name _ _ _ _ _ _ e cut.0 (omega arith))
  at_new e answer (OnTable Len) cut = absurd cut
  at_new e answer (OnTable Walk) cut = absurd cut
  at_new e answer (OnTable Hex) cut = absurd cut
  at_new e answer (OnTable Dump) cut = absurd cut

  -- and one at the name `put`
  pub at_put : name ≡ codes "put" → ((m n : ℕ) → IsPairText numbers m n → n < 2 ^ 32 → r ≡ Some (OnTable (Put m n))) → (command : Command) → IsCut name numbers command → r ≡ Some command
  at_put e answer (New items percent) cut = absurd (other_name name _ _ _ _ _ _ e cut.0 (omega arith))
  at_put e answer (OnTable (Put key value)) cut = answer key value cut.1 cut.2
  at_put e answer (OnTable (Get key)) cut = absurd (other_name name _ _ _ _ _ _ e cut.0 (omega arith))
  at_put e answer (OnTable Len) cut = absurd cut
  at_put e answer (OnTable Walk) cut = absurd cut
  at_put e answer (OnTable Hex) cut = absurd cut
  at_put e answer (OnTable Dump) cut = absurd cut

-- a value below 2 ^ 32 is kept by the conversion
pub narrow_kept : {E : Type 0} (value : ℕ) (r : Result ℕ E) → OkIff r (value < 2 ^ 32) value → value < 2 ^ 32 → Some value ≡ result_ok r
narrow_kept value (Ok x) is l = ap Some (sym is.1)
narrow_kept value (Err x) is l = absurd (is l)
