-- Which headers fit, and which bytes are opened by header and length.
--     IsHeader F n B       the header fits n bytes
--     IsOpening F B        so it does, and there are enough bytes for it
use Rattle.std.proofs.Common.{◌≡◌, ◌↔◌, ◌≤◌, ◌<◌, ◌∙◌, ◌*◌, ℕ, not, sym, ap, refl, List, [], ◌∷◌, ◌++◌, Option, None, IsTrue, All, false, length, arith, ltb-false, le-ltb, get_or-take, lit<, lit≤, inl, inr}
use Rattle.std.proofs.lemmas.Bool.{false≢true, cases_lt}
use Rattle.std.proofs.Math.Nat.{mul-le-mul_right}
use Rattle.std.proofs.Math.Seq.{take-suc}
use Rattle.std.specs.Prelude.{slice_index}
use Rattle.odht_base.specs.Bytes.{bytes_at}
use Rattle.odht_base.specs.Format.{Format, entry_len}
use Rattle.odht_base.specs.Load.{IsSlotCount}
use Rattle.odht_base.specs.Image.{image_len}
use Rattle.odht_base.specs.Decoded.{header_slots}
use Rattle.odht_base.proofs.lemmas.ByteRanges.{bytes_at-take_front, length-bytes_at, All-bytes_at}
use Rattle.odht_base.specs.Numbers.{num, le_bytes}
use Rattle.odht_base.proofs.lemmas.Numbers.{le_bytes-num_at}
use Rattle.odht_header.specs.declared.error.Error.{Error}
use Rattle.odht_header.specs.Refusals.{opening_refusal, header_refusal}
use Rattle.odht_header.proofs.lemmas.FirstErrors.{option_or-None, None-option_or, gives-None, None-gives, not-false, differs-false, false-differs, lists_differ-false, false-lists_differ}

pub record IsHeader (F : Format) (n : ℕ) (B : List ℕ) : Type 0 where
  pub tag_is : bytes_at B 0 4 ≡ 79 ∷ 68 ∷ 72 ∷ 84 ∷ []
  pub version_is : bytes_at B 24 4 ≡ 0 ∷ 0 ∷ 0 ∷ 2 ∷ []
  pub metadata_is : slice_index B 4 ≡ 1
  pub key_len_is : slice_index B 5 ≡ F.key_len
  pub value_len_is : slice_index B 6 ≡ F.value_len
  pub header_len_is : slice_index B 7 ≡ 32
  pub slots : IsSlotCount (header_slots B)
  pub length_is : n ≡ image_len F (header_slots B)

-- the header has no error exactly where it fits
pub IsHeader-header_refusal : (F : Format) (n : ℕ) (B : List ℕ) → header_refusal F n B ≡ None → IsHeader F n B
unfolding header_refusal
IsHeader-header_refusal F n B e =
    let a = option_or-None _ _ e in
    let b = option_or-None _ _ a.1 in
    let c = option_or-None _ _ b.1 in
    let d = option_or-None _ _ c.1 in
    let f = option_or-None _ _ d.1 in
    let g = option_or-None _ _ f.1 in
    let h = option_or-None _ _ g.1 in
    let i = option_or-None _ _ h.1 in
    let j = option_or-None _ _ i.1 in
    record {
      tag_is = lists_differ-false _ _ (gives-None _ _ a.0);
      version_is = lists_differ-false _ _ (gives-None _ _ b.0);
      metadata_is = differs-false _ _ (gives-None _ _ c.0);
      key_len_is = differs-false _ _ (gives-None _ _ d.0);
      value_len_is = differs-false _ _ (gives-None _ _ f.0);
      header_len_is = differs-false _ _ (gives-None _ _ g.0);
      slots = record { power = not-false _ (gives-None _ _ h.0); least = ltb-false (header_slots B) 16 (gives-None _ _ i.0) };
      length_is = differs-false _ _ (gives-None _ _ j.0);
    }

-- and the converse
pub header_refusal-IsHeader : (F : Format) (n : ℕ) (B : List ℕ) → IsHeader F n B → header_refusal F n B ≡ None
unfolding header_refusal
header_refusal-IsHeader F n B h =
    None-option_or _ _ (None-gives _ _ (false-lists_differ _ _ h.tag_is))
    (None-option_or _ _ (None-gives _ _ (false-lists_differ _ _ h.version_is))
    (None-option_or _ _ (None-gives _ _ (false-differs _ _ h.metadata_is))
    (None-option_or _ _ (None-gives _ _ (false-differs _ _ h.key_len_is))
    (None-option_or _ _ (None-gives _ _ (false-differs _ _ h.value_len_is))
    (None-option_or _ _ (None-gives _ _ (false-differs _ _ h.header_len_is))
    (None-option_or _ _ (None-gives _ _ (ap not h.slots.power))
    (None-option_or _ _ (None-gives _ _ (le-ltb (header_slots B) 16 h.slots.least))
    (None-option_or _ _ (None-gives _ _ (false-differs _ _ h.length_is)) refl))))))))

-- what the opening says
pub record IsOpening (F : Format) (B : List ℕ) : Type 0 where
  pub long : 32 ≤ length B
  pub header : IsHeader F (length B) B

-- the opening has no error exactly where this holds
pub IsOpening-opening_refusal : (F : Format) (B : List ℕ) → opening_refusal F B ≡ None → IsOpening F B
unfolding opening_refusal
IsOpening-opening_refusal F B e =
    let a = option_or-None _ _ e in
    record { long = ltb-false (length B) 32 (gives-None _ _ a.0); header = IsHeader-header_refusal F (length B) B a.1 }

-- and the converse
pub opening_refusal-IsOpening : (F : Format) (B : List ℕ) → IsOpening F B → opening_refusal F B ≡ None
unfolding opening_refusal
opening_refusal-IsOpening F B h = None-option_or _ _ (None-gives _ _ (le-ltb (length B) 32 h.long)) (header_refusal-IsHeader F (length B) B h.header)

-- ---- the first eight bytes, which are compared as one word

-- where the header fits, they are those of the configuration
pub front-IsHeader : (F : Format) (n : ℕ) (B : List ℕ) → 8 ≤ length B → IsHeader F n B
    → bytes_at B 0 8 ≡ 79 ∷ 68 ∷ 72 ∷ 84 ∷ 1 ∷ F.key_len ∷ F.value_len ∷ 32 ∷ []
front-IsHeader F n B long h =
    take-suc B 7 0 (omega (arith, long))
    ∙ ap (λ t. t ++ (slice_index B 7 ∷ [])) (take-suc B 6 0 (omega (arith, long))
    ∙ ap (λ t. t ++ (slice_index B 6 ∷ [])) (take-suc B 5 0 (omega (arith, long))
    ∙ ap (λ t. t ++ (slice_index B 5 ∷ [])) (take-suc B 4 0 (omega (arith, long)))))
    ∙ (λ i. (((h.tag_is i ++ (h.metadata_is i ∷ [])) ++ (h.key_len_is i ∷ [])) ++ (h.value_len_is i ∷ [])) ++ (h.header_len_is i ∷ []))

-- and a header that begins so fits where the rest of it does
pub IsHeader-front : (F : Format) (n : ℕ) (B : List ℕ) → bytes_at B 0 8 ≡ 79 ∷ 68 ∷ 72 ∷ 84 ∷ 1 ∷ F.key_len ∷ F.value_len ∷ 32 ∷ []
    → bytes_at B 24 4 ≡ 0 ∷ 0 ∷ 0 ∷ 2 ∷ [] → IsSlotCount (header_slots B) → n ≡ image_len F (header_slots B) → IsHeader F n B
IsHeader-front F n B front version slots length_is = record {
  tag_is = sym (bytes_at-take_front B 0 4 8 (lit≤ tt)) ∙ ap (λ t. bytes_at t 0 4) front;
  version_is = version;
  metadata_is = byte 4 (lit< tt);
  key_len_is = byte 5 (lit< tt);
  value_len_is = byte 6 (lit< tt);
  header_len_is = byte 7 (lit< tt);
  slots = slots;
  length_is = length_is;
}
  where
    byte : (at : ℕ) → at < 8 → slice_index B at ≡ slice_index (79 ∷ 68 ∷ 72 ∷ 84 ∷ 1 ∷ F.key_len ∷ F.value_len ∷ 32 ∷ []) at
    byte at h = sym (get_or-take 8 B at 0 h) ∙ ap (λ t. slice_index t at) front

-- the version is told by its number
pub version_of : (B : List ℕ) → 28 ≤ length B → All (λ x. x < 256) B → num (bytes_at B 24 4) ≡ 33554432 → bytes_at B 24 4 ≡ 0 ∷ 0 ∷ 0 ∷ 2 ∷ []
version_of B long each is =
    sym (le_bytes-num_at 4 (bytes_at B 24 4) (length-bytes_at B 24 4 long) (All-bytes_at B 24 4 each)) ∙ ap (le_bytes 4) is

-- false is the answer for a header that does not fit
pub unfit : (r : Option Error) → (r ≡ None → ⊥) → IsTrue false ↔ (r ≡ None)
unfit r other = (λ t. absurd (false≢true t), λ none. absurd (other none))

-- ---- the length of a table of sixteen slots, the least count

-- no table is shorter
pub fewest_bytes : (F : Format) (s : ℕ) → 16 ≤ s → image_len F 16 ≤ image_len F s
fewest_bytes F s enough =
    let most : 16 * entry_len F ≤ s * entry_len F = mul-le-mul_right (entry_len F) enough in
    omega (arith, most, enough)

-- and what is not shorter has no fewer slots
pub fewest_slots : (F : Format) (s : ℕ) → image_len F 16 ≤ image_len F s → 16 ≤ s
fewest_slots F s long = elim (cases_lt s 16) [
  | inl few ↦
      let below : s ≤ 15 = omega (arith, few) in
      let most : s * entry_len F ≤ 15 * entry_len F = mul-le-mul_right (entry_len F) below in
      absurd (omega (arith, most, few, long))
  | inr enough ↦ enough
]
