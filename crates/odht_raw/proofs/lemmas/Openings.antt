-- Which error bytes give, stage by stage: when they are opened, and then by the whole check.
use Rattle.std.proofs.Common.{Option, ◌≡◌, ◌<◌, ◌≤◌, ◌∙◌, List, ℕ, Some, None, length, lt-ltb, le-ltb}
use Rattle.odht_raw.specs.Words.{check_refusal_by, controls_of, entries_of, Error, Format, hashes_refusal, header_refusal, late_refusal_by, opening_refusal, TooShort, view_refusal}
use Rattle.odht_raw.specs.Frame.{IsAccepted}
use Rattle.odht_header.proofs.lemmas.FirstErrors.{option_or-None, option_or-first, option_or-second, gives-Some, None-gives}

module _ (F : Format) (B : List ℕ) where
  -- too few bytes for a header
  pub opening_refusal-short : length B < 32 → opening_refusal F B ≡ Some (TooShort (length B))
  unfolding opening_refusal
  opening_refusal-short h = option_or-first _ _ _ (gives-Some _ _ (lt-ltb (length B) 32 h))

  -- then the header
  pub opening_refusal-header : 32 ≤ length B → opening_refusal F B ≡ header_refusal F (length B) B
  unfolding opening_refusal
  opening_refusal-header h = option_or-second _ _ (None-gives _ _ (le-ltb (length B) 32 h))

  -- which, where it passes, makes the bytes accepted
  pub accepted : 32 ≤ length B → header_refusal F (length B) B ≡ None → IsAccepted F B
  accepted h e = opening_refusal-header h ∙ e

  -- an error of the opening is one of a view
  pub view_refusal-opening : (x : Error) → opening_refusal F B ≡ Some x → view_refusal F B ≡ Some x
  unfolding view_refusal
  view_refusal-opening x e = option_or-first _ _ _ e

  -- and then come the first slots
  pub view_refusal-slots : IsAccepted F B → view_refusal F B ≡ hashes_refusal F (entries_of F B) (controls_of F B) 10
  unfolding view_refusal
  view_refusal-slots a = option_or-second _ _ a

  -- where a view has no error they are accepted
  pub view_refusal-accepted : view_refusal F B ≡ None → IsAccepted F B
  unfolding view_refusal
  view_refusal-accepted e = (option_or-None _ _ e).0

  -- an error of a view is one of the whole check
  pub check_refusal-view : (o : Option ℕ) (x : Error) → view_refusal F B ≡ Some x → check_refusal_by F o B ≡ Some x
  unfolding check_refusal_by
  check_refusal-view o x e = option_or-first _ _ _ e

  -- and then comes what it looks at beyond a view
  pub check_refusal-late : (o : Option ℕ) → view_refusal F B ≡ None → check_refusal_by F o B ≡ late_refusal_by F o B
  unfolding check_refusal_by
  check_refusal-late o e = option_or-second _ _ e
