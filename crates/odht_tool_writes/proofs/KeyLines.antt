-- The lines of an input that a loop has read as keys.
use Rattle.std.proofs.Common.{◌≡◌, ◌∙◌, inl, inr, ℕ, ◌+◌, List, [], ◌∷◌, ◌++◌, Option, Some, None, IfSome, Result, Ok, Err, length, sym, ap, refl, subst, length-append}
use Rattle.std.specs.Prelude.{IfErr, IfOk, MatchResult, string_bytes}
use Rattle.std.specs.List.{AllZip}
use Rattle.std.specs.Str.Lines.{lines}
use Rattle.std.proofs.lemmas.List.{append_assoc, append-nil}
use Rattle.odht_tool_writes.specs.DeleteLines.{AreLinesKeys, IsFirstNoKey, IsLinesEnd, IsNextFailure, IsOneLineMore, TellsLine, TellsNumbered, are_lines_keys}
use Rattle.odht_tool_writes.specs.Deletes.{are_keys}
use Rattle.odht_tool_tables.specs.KeyTexts.{AreLinesOf}
use Rattle.odht_tool_core.specs.InputLines.{AreLeft}
use Rattle.odht_tool_core.specs.Keys.{IsNoKeyLine}
use Rattle.odht_tool_core.specs.Misreads.{misread_text}
use Rattle.odht_tool_core.specs.declared.any.AnyShape.{AnyShape}
use Rattle.odht_tool_core.specs.declared.failure.Failure.{Failure}
use Rattle.odht_tool_core.specs.declared.failure.Failure.TheVariants.{Memory, Input, Misread}
use Rattle.odht_tool_core.specs.declared.failure.LineFault.TheVariants.{Key}
use Rattle.odht_tool_core.specs.declared.forms.Form.{Form}
use Rattle.odht_tool_core.specs.declared.misread.Wanted.{Wanted}
use Rattle.odht_tool_core.proofs.KeyWords.{AllZip-one_more}
use Rattle.odht_tool_tables.proofs.Lines.{if_some, next_of, only_of, end_of}

-- of what is returned, in either case
pub either : {A : Type 0} (r : Result A Failure) (P : A → Type 0) (Q : Failure → Type 0) → IfOk r P → IfErr r Q → MatchResult r P Q
either (Ok x) P Q ok err = ok
either (Err f) P Q ok err = err

-- the keys are those of these lines as of words
pub lines_are_keys : (f : Form) (input : Option (List ℕ)) (ws : List (List ℕ)) (s : AnyShape) (ks : List (List ℕ)) → are_lines_keys f input ws s ks → are_keys f ws s ks
lines_are_keys f input ws s ks h = h.0

-- the next line is no key
pub no_key : {K : Type 0} (R : List ℕ → K → Type 0) (p : Wanted) (n : ℕ) (old new : Option (List ℕ)) (line : List ℕ) (f : Failure) → IsNoKeyLine R old new line → TellsNumbered p n line f → IsNextFailure R p n old f
no_key R p n old new line (Misread message) k misread = record { then = k.0; line = line; next = k.1; fault = k.2; more = k.3.0; misread = misread }
no_key R p n old new line (Input error) k misread = tt
no_key R p n old new line Memory k misread = (k.0, line, k.1)
no_key R p n old new line _ k misread = absurd misread

-- the lines before the one of this number are `ws`, texts of the keys `ks`, and the input has the bytes of the others left
pub record AreLinesRead {K : Type 0} (R : List ℕ → K → Type 0) (input now : Option (List ℕ)) (number : ℕ) (ws : List (List ℕ)) (ks : List K) : Type 0 where
  pub texts : AllZip R ws ks
  pub counted : number ≡ length ws + 1
  pub read : IfSome input (λ bytes. (rest : List ℕ) × (now ≡ Some rest) × (lines bytes ≡ ws ++ lines rest))

module _ {K : Type 0} (R : List ℕ → K → Type 0) (input : Option (List ℕ)) where
  -- at first there is none
  pub none_read : AreLinesRead R input input 1 [] []
  none_read = record { texts = tt; counted = refl; read = at input input refl }
    where
      at : (now o : Option (List ℕ)) → now ≡ o → IfSome o (λ bytes. (rest : List ℕ) × (now ≡ Some rest) × (lines bytes ≡ [] ++ lines rest))
      at now None h = tt
      at now (Some bytes) h = (bytes, h, refl)

  module _ (now : Option (List ℕ)) (number : ℕ) (ws : List (List ℕ)) (ks : List K) (h : AreLinesRead R input now number ws ks) where
    -- one more
    pub one_read : (then : Option (List ℕ)) (ws' : List (List ℕ)) (ks' : List K) → IsOneLineMore R now then ws ws' ks ks' → AreLinesRead R input then (number + 1) ws' ks'
    one_read then ws' ks' m = record {
      texts = subst (AllZip R ws') (sym m.keys_are) (subst (λ w. AllZip R w (ks ++ (m.key ∷ []))) (sym m.lines_are) (AllZip-one_more R ws ks m.line m.key h.texts m.text));
      counted = ap (λ k. k + 1) (h.counted ∙ sym (length-append ws (m.line ∷ []))) ∙ ap (λ w. length w + 1) (sym m.lines_are);
      read = if_some input _ _ more h.read;
    }
      where
        more : (bytes : List ℕ) → ((rest : List ℕ) × (now ≡ Some rest) × (lines bytes ≡ ws ++ lines rest)) → (rest : List ℕ) × (then ≡ Some rest) × (lines bytes ≡ ws' ++ lines rest)
        more bytes r =
            let n = next_of now then r.0 m.line r.1 m.next in
            (n.0, n.1, r.2 ∙ ap (λ ls. ws ++ ls) n.2 ∙ sym (append_assoc ws (m.line ∷ []) (lines n.0)) ∙ ap (λ w. w ++ lines n.0) (sym m.lines_are))

    -- at the end they are all
    pub all_read : (ws' : List (List ℕ)) (ks' : List K) → IsLinesEnd R now ws ws' ks ks' → AreLinesKeys R input ws' ks'
    all_read ws' ks' e = (
      subst (AllZip R ws') (sym e.keys_are) (subst (λ w. AllZip R w ks) (sym e.lines_are) h.texts),
      if_some input _ _ whole h.read,
    )
      where
        whole : (bytes : List ℕ) → ((rest : List ℕ) × (now ≡ Some rest) × (lines bytes ≡ ws ++ lines rest)) → AreLinesOf R bytes ws'
        whole bytes r = subst (AreLinesOf R bytes) (sym e.lines_are) (elim e.end [
          | inl none ↦ inl (r.2 ∙ ap (λ rest. ws ++ lines rest) (end_of now r.0 r.1 none) ∙ append-nil ws)
          | inr out ↦ inr (r.2 ∙ ap (λ ls. ws ++ ls) (only_of R now r.0 r.1 out), out.1)
        ])

    -- a failure of the next one
    pub next_failed : (p : Wanted) (failure : Failure) → IsNextFailure R p number now failure → TellsLine R p input failure
    next_failed p (Misread message) k = if_some input _ _ first h.read
      where
        first : (bytes : List ℕ) → ((rest : List ℕ) × (now ≡ Some rest) × (lines bytes ≡ ws ++ lines rest)) → IsFirstNoKey R p bytes (string_bytes message)
        first bytes r =
            let n = next_of now k.then r.0 k.line r.1 k.next in
            record {
              before = ws;
              line = k.line;
              after = lines n.0;
              place = r.2 ∙ ap (λ ls. ws ++ ls) n.2;
              keys = ks;
              earlier = h.texts;
              fault = k.fault;
              more = λ e. subst AreLeft n.1 (k.more e);
              misread = k.misread ∙ ap (λ j. misread_text (Some j) Key p k.line) h.counted;
            }
    next_failed p (Input error) k = tt
    next_failed p Memory k = tt
    next_failed p _ k = absurd k
