-- What an insert of a pair p into the parts of a table answers, r, and which entries es' and control bytes ctrl' it
-- leaves. f decodes the bytes of a value.
--     ArePartsPlaced F P p es' ctrl'   these are the parts of the placed table P with p placed
--     AnswersFormer F f P p r ..       an Ok answers the former value of P, and leaves such parts
--     IsPartsInsert F f P p r ..       for the parts of P: an Ok does so (`ok`), and the answer is Full exactly where p has no
--                                      place in P (`full`), which is where each slot is occupied by another key (`no_room`)
--     IsInsertChange F f es ctrl p r ..  for any parts es and ctrl: the frame; Full is the only error and changes nothing
--     IsInsertAt F f A t p r t'        both, the first only for placed tables P for which A P; t and t' are entries and
--                                      control bytes
use Rattle.std.specs.Prelude.{◌≡◌, ℕ, ◌↔◌, List, Option, Some, None, option_map, Result, Err, IfOk}
use Rattle.odht_raw.specs.Words.{Error, Format, Full, IsFullWithout, IsPartsOf, map_of, Pair, place, Table}
use Rattle.odht_raw.specs.Frame.{IsPartsFramed, IsOnlyFull}

abbrev pub ArePartsPlaced : Format → Table → Pair → List ℕ → List ℕ → Type 0
ArePartsPlaced F P p es' ctrl' = (Q : Table) × (place F P p ≡ Some Q) × IsPartsOf F Q es' ctrl'

abbrev pub AnswersFormer :
    {V : Type 0} → Format → (List ℕ → V) → Table → Pair → Result (Option V) Error → List ℕ → List ℕ → Type 0
AnswersFormer F f P p r es' ctrl' =
    IfOk r (λ old. (old ≡ option_map f (map_of P p.key)) × ArePartsPlaced F P p es' ctrl')

module _ {V : Type 0} (F : Format) (f : List ℕ → V) where
  pub record IsPartsInsert (P : Table) (p : Pair) (r : Result (Option V) Error) (es' ctrl' : List ℕ) : Type 0 where
    pub ok : AnswersFormer F f P p r es' ctrl'
    pub full : (r ≡ Err Full) ↔ (place F P p ≡ None)
    pub no_room : (r ≡ Err Full) ↔ IsFullWithout P p.key

  pub record IsInsertChange (es ctrl : List ℕ) (p : Pair) (r : Result (Option V) Error) (es' ctrl' : List ℕ) : Type 0 where
    pub frame : IsPartsFramed F f es ctrl p r es' ctrl'
    pub errors : IsOnlyFull es ctrl r es' ctrl'

  pub record IsInsertAt (A : Table → Type 0) (t : List ℕ × List ℕ) (p : Pair) (r : Result (Option V) Error) (t' : List ℕ × List ℕ) : Type 0 where
    pub placed : (P : Table) → IsPartsOf F P t.0 t.1 → A P → IsPartsInsert P p r t'.0 t'.1
    pub any : IsInsertChange t.0 t.1 p r t'.0 t'.1
