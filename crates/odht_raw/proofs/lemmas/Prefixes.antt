-- A table at the front of longer bytes: its length, and which error the bytes give.
use Rattle.std.proofs.Common.{◌≡◌, ◌<◌, ◌≤◌, ◌∙◌, ℕ, not, nat_lt, sym, ap, subst, List, [], ◌∷◌, Ok, Err, Some, None, Result, take, ◌++◌, length, arith, length-append, get_or-take, lit<, ltb-false, le-ltb, lt-ltb}
use Rattle.std.specs.Prelude.{slice_index, IfOk, IsOk}
use Rattle.std.specs.Result.{result_err}
use Rattle.odht_raw.proofs.lemmas.Below.{bytes_at-take_front, false-differs, front_header_refusal-fields, gives-None, gives-Some, header_refusal-fields, IsOpening-opening_refusal, length-take-le, None-gives, None-option_or, option_or-first, option_or-None, option_or-second, take-append_seam}
use Rattle.odht_raw.specs.Words.{bytes_at, controls_of, differs, entries_of, Error, field_refusal, first_of, Format, front_header_refusal, hashes_refusal, header_slots, image_len, is_power_of_two, IsFormat, IsValidBytes, lists_differ, num, prefix_refusal, SlotCountNotPowerOfTwo, SlotCountTooSmall, TooShort, view_refusal, WrongSizeOf, WrongTag, WrongVersion, ◌gives◌}
use Rattle.odht_header.specs.declared.error.Part.TheVariants.{EntryMetadata, EncodedKey, EncodedValue, Header}
use Rattle.odht_raw.specs.Frame.{IsAccepted}
use Rattle.odht_raw.specs.Prefixes.{IsFront, front_refusal}
use Rattle.odht_raw.proofs.lemmas.Accepted.{IsAccepted-IsValidBytes}
use Rattle.odht_raw.proofs.lemmas.Openings.{opening_refusal-header, view_refusal-slots}
use Rattle.odht_raw.proofs.lemmas.ImagesOpen.{IsOk-none, view_refusal-image}

module _ (F : Format) (B : List ℕ) (n : ℕ) (h : 32 ≤ n) where
  -- the front has the header's slot count
  pub header_slots-take : header_slots (take n B) ≡ header_slots B
  header_slots-take = ap num (bytes_at-take_front B 16 8 n (omega (arith, h)))

  -- and the header's fields
  pub field_refusal-take : field_refusal F (take n B) ≡ field_refusal F B
  unfolding field_refusal
  field_refusal-take =
      λ i. first_of
      ((lists_differ (tag i) (79 ∷ 68 ∷ 72 ∷ 84 ∷ []) gives WrongTag (tag i))
      ∷ (lists_differ (version i) (0 ∷ 0 ∷ 0 ∷ 2 ∷ []) gives WrongVersion (version i))
      ∷ (differs (byte 4 (lit< tt) i) 1 gives WrongSizeOf EntryMetadata 1 (byte 4 (lit< tt) i))
      ∷ (differs (byte 5 (lit< tt) i) F.key_len gives WrongSizeOf EncodedKey F.key_len (byte 5 (lit< tt) i))
      ∷ (differs (byte 6 (lit< tt) i) F.value_len gives WrongSizeOf EncodedValue F.value_len (byte 6 (lit< tt) i))
      ∷ (differs (byte 7 (lit< tt) i) 32 gives WrongSizeOf Header 32 (byte 7 (lit< tt) i))
      ∷ (not (is_power_of_two (header_slots-take i)) gives SlotCountNotPowerOfTwo (header_slots-take i))
      ∷ (nat_lt (header_slots-take i) 16 gives SlotCountTooSmall (header_slots-take i))
      ∷ [])
    where
      tag : bytes_at (take n B) 0 4 ≡ bytes_at B 0 4
      tag = bytes_at-take_front B 0 4 n (omega (arith, h))

      version : bytes_at (take n B) 24 4 ≡ bytes_at B 24 4
      version = bytes_at-take_front B 24 4 n (omega (arith, h))

      byte : (at : ℕ) → at < 32 → slice_index (take n B) at ≡ slice_index B at
      byte at low = get_or-take n B at 0 (omega (arith, low, h))

-- a header has at least 32 bytes
header_first : (F : Format) (s : ℕ) → 32 ≤ image_len F s
header_first F s = omega arith

module _ (F : Format) (B : List ℕ) where
  -- the length of a table at the front is that of the header's slot count, and no error is given
  pub IsFront-len : (n : ℕ) → IsFront F B n → n ≡ image_len F (header_slots B)
  IsFront-len n is =
      let opening = IsOpening-opening_refusal F (take n B) is.accepted in
      let long : length (take n B) ≡ n = length-take-le n B is.within in
      let header : 32 ≤ n = omega (arith, opening.long, long) in
      sym long ∙ opening.header.length_is ∙ ap (image_len F) (header_slots-take F B n header)

  pub IsFront-long : (n : ℕ) → IsFront F B n → 32 ≤ length B
  IsFront-long n is = omega (arith, header_first F (header_slots B), IsFront-len n is, is.within)

  pub IsFront-passes : (n : ℕ) → IsFront F B n → front_header_refusal F (length B) B ≡ None
  IsFront-passes n is =
      let front = take n B in
      let len = IsFront-len n is in
      let header : 32 ≤ n = omega (arith, header_first F (header_slots B), len) in
      let long : length front ≡ n = length-take-le n B is.within in
      let accepted = sym (opening_refusal-header F front (omega (arith, header, long))) ∙ is.accepted in
      let fields = (option_or-None _ _ (sym (header_refusal-fields F (length front) front) ∙ accepted)).0 in
      front_header_refusal-fields F (length B) B
      ∙ None-option_or _ _ (sym (field_refusal-take F B n header) ∙ fields) (None-gives _ _ (le-ltb (length B) (image_len F (header_slots B)) (omega (arith, len, is.within))))

  -- bytes with a header and without an error have a table at the front
  pub front_is : front_header_refusal F (length B) B ≡ None → IsFront F B (image_len F (header_slots B))
  front_is e =
      let n = image_len F (header_slots B) in
      let both = option_or-None _ _ (sym (front_header_refusal-fields F (length B) B) ∙ e) in
      let within : n ≤ length B = ltb-false (length B) n (gives-None _ _ both.1) in
      let header = header_first F (header_slots B) in
      let long : length (take n B) ≡ n = length-take-le n B within in
      let slots = header_slots-take F B n header in
      let fields : field_refusal F (take n B) ≡ None = field_refusal-take F B n header ∙ both.0 in
      let same : length (take n B) ≡ image_len F (header_slots (take n B)) = long ∙ ap (image_len F) (sym slots) in
      record {
        within = within;
        accepted = opening_refusal-header F (take n B) (omega (arith, long, header)) ∙ header_refusal-fields F (length (take n B)) (take n B)
            ∙ None-option_or _ _ fields (None-gives _ _ (false-differs (length (take n B)) (image_len F (header_slots (take n B))) same));
      }

  -- ---- the answer of the header, r
  module _ (r : Result ℕ Error) (len : IfOk r (λ n. n ≡ image_len F (header_slots B))) (err : result_err r ≡ front_header_refusal F (length B) B) where
    pub answered_front : IfOk r (IsFront F B)
    answered_front = go r len err
      where
        go : (a : Result ℕ Error) → IfOk a (λ n. n ≡ image_len F (header_slots B)) → result_err a ≡ front_header_refusal F (length B) B → IfOk a (IsFront F B)
        go (Ok n) l e = subst (IsFront F B) (sym l) (front_is (sym e))
        go (Err x) l e = tt

    pub answered_only : (n : ℕ) → IsFront F B n → r ≡ Ok n
    answered_only n is = go r len (err ∙ IsFront-passes n is)
      where
        go : (a : Result ℕ Error) → IfOk a (λ m. m ≡ image_len F (header_slots B)) → result_err a ≡ None → a ≡ Ok n
        go (Ok m) l e = ap Ok (l ∙ sym (IsFront-len n is))
        go (Err x) l e = cc

  -- ---- the error of the front
  pub prefix_refusal-short : length B < 32 → prefix_refusal F B ≡ Some (TooShort (length B))
  unfolding prefix_refusal
  prefix_refusal-short h = option_or-first _ _ _ (gives-Some _ _ (lt-ltb (length B) 32 h))

  pub prefix_refusal-header : 32 ≤ length B → prefix_refusal F B ≡ front_header_refusal F (length B) B
  unfolding prefix_refusal
  prefix_refusal-header h = option_or-second _ _ (None-gives _ _ (le-ltb (length B) 32 h))

  -- a table at the front gives no error of the front, and opens as those bytes do
  pub IsFront-prefix_refusal : (n : ℕ) → IsFront F B n → prefix_refusal F B ≡ None
  IsFront-prefix_refusal n is = prefix_refusal-header (IsFront-long n is) ∙ IsFront-passes n is

  pub front_refusal-prefix : (x : Error) → prefix_refusal F B ≡ Some x → front_refusal F B ≡ Some x
  unfolding front_refusal
  front_refusal-prefix x e = option_or-first _ _ x e

  pub front_refusal-view : (n : ℕ) → IsFront F B n → front_refusal F B ≡ view_refusal F (take n B)
  unfolding front_refusal
  front_refusal-view n is =
      option_or-second _ _ (IsFront-prefix_refusal n is)
      ∙ ap (λ m. hashes_refusal F (entries_of F (take m B)) (controls_of F (take m B)) 10) (sym (IsFront-len n is))
      ∙ sym (view_refusal-slots F (take n B) is.accepted)

  -- so a result with this error is Ok where they do
  pub opened_front : {T : Type 0} (n : ℕ) → IsFront F B n → view_refusal F (take n B) ≡ None → (r : Result T Error) → result_err r ≡ front_refusal F B → IsOk r
  opened_front n is opens r e = IsOk-none r (e ∙ front_refusal-view n is ∙ opens)

-- accepted bytes and what follows them
pub IsFront-append : (F : Format) (V R : List ℕ) → IsAccepted F V → IsFront F (V ++ R) (length V)
IsFront-append F V R a = record { within = omega (arith, length-append V R); accepted = subst (IsAccepted F) (sym (take-append_seam V R)) a }

-- valid bytes with anything behind them are opened
pub valid_front : {T : Type 0} (F : Format) (f : IsFormat F) (V R : List ℕ) → IsValidBytes F V → (r : Result T Error) → result_err r ≡ front_refusal F (V ++ R) → IsOk r
valid_front F f V R (P, is) r e =
    let opens : view_refusal F V ≡ None = ap (view_refusal F) is.bytes ∙ view_refusal-image F f P is.valid.placed in
    let front = IsFront-append F V R (IsAccepted-IsValidBytes F V (P, is)) in
    opened_front F (V ++ R) (length V) front (ap (view_refusal F) (take-append_seam V R) ∙ opens) r e
