-- What an insert of a pair p with room for m new entries does to the parts of a table.
--     IsStepEnd F m es ctrl k r  r is where a search for k ends; without room it also says what comes before
--     IsTaggedEnd F m es ctrl k r  r is such an end, with the tag of k
--     StepFrame F m es ctrl p a es' ctrl'  without room the answer may be Full, with nothing changed, where a search
--                          slot by slot can end without the key; or an insert does what PartsFrame says, and adds an
--                          entry only where there is room
--     IsStepFramed F f m es ctrl p r es' ctrl'  the same with the answer decoded by f
--     IsStepChange F f m es ctrl p r es' ctrl'  this frame; Full is the only error and changes nothing
--     IsStep F f m t p r t'  what an insert does to the entries and the control bytes t, and leaves, t': in those of a
--                          placed table an Ok places p, and in any it does what IsStepChange says
--     IsStepWhere A F f m t p r t'  the same, with the first only for placed tables P for which A P
--     adds a               whether the answer a of an insert adds an entry; None where it is an error
--     IsCountedStep A F m t p r t'  such an insert with some answer, of which r tells whether it adds an entry
use Rattle.std.specs.Prelude.{◌≡◌, ℕ, ◌<◌, Bool, List, Option, option_map, is_none, Some, None, Result, Ok, Err}
use Rattle.std.specs.Result.{result_map_both}
use Rattle.odht_raw.specs.Words.{Error, Format, Full, IsPartsOf, Pair, Table, tag as key_tag}
use Rattle.odht_raw.specs.ControlBytes.{IsMissing}
use Rattle.odht_raw.specs.Frame.{PartsFrame, IsOnlyFull}
use Rattle.odht_raw.specs.Parts.{stored_in}
use Rattle.odht_raw.specs.PartsInserts.{AnswersFormer}
use Rattle.odht_raw.specs.SearchEnds.{IsEnd, IsAfter}
use Rattle.odht_raw.specs.declared.raw_table.search_result.Search.{Search}

pub record IsStepEnd (F : Format) (m : ℕ) (es ctrl k : List ℕ) (r : Search) : Type 0 where
  pub slot : IsEnd F (stored_in es ctrl) ctrl k r
  pub earlier : m ≡ 0 → IsAfter F (stored_in es ctrl) ctrl k r

pub record IsTaggedEnd (F : Format) (m : ℕ) (es ctrl k : List ℕ) (r : Search × ℕ) : Type 0 where
  pub end : IsStepEnd F m es ctrl k r.0
  pub tag : r.1 ≡ key_tag F k

pub data StepFrame (F : Format) (m : ℕ) (es ctrl : List ℕ) (p : Pair) : Result (Option (List ℕ)) Error → List ℕ → List ℕ → Type 0 where
  no_room : m ≡ 0 → IsMissing F (stored_in es ctrl) ctrl p.key → StepFrame F m es ctrl p (Err Full) es ctrl
  framed : (a : Result (Option (List ℕ)) Error) (es' ctrl' : List ℕ) → (a ≡ Ok None → 0 < m) → PartsFrame F es ctrl p a es' ctrl'
      → StepFrame F m es ctrl p a es' ctrl'

abbrev pub IsStepFramed : {V : Type 0} → Format → (List ℕ → V) → ℕ → List ℕ → List ℕ → Pair → Result (Option V) Error → List ℕ → List ℕ → Type 0
IsStepFramed F f m es ctrl p r es' ctrl' =
    (a : Result (Option (List ℕ)) Error) × (r ≡ result_map_both (option_map f) (λ e. e) a) × StepFrame F m es ctrl p a es' ctrl'

pub record IsStepChange {V : Type 0} (F : Format) (f : List ℕ → V) (m : ℕ) (es ctrl : List ℕ) (p : Pair) (r : Result (Option V) Error) (es' ctrl' : List ℕ) : Type 0 where
  pub frame : IsStepFramed F f m es ctrl p r es' ctrl'
  pub errors : IsOnlyFull es ctrl r es' ctrl'

pub record IsStepWhere {V : Type 0} (A : Table → Type 0) (F : Format) (f : List ℕ → V) (m : ℕ) (t : List ℕ × List ℕ) (p : Pair) (r : Result (Option V) Error) (t' : List ℕ × List ℕ) : Type 0 where
  pub placed : (P : Table) → IsPartsOf F P t.0 t.1 → A P → AnswersFormer F f P p r t'.0 t'.1
  pub any : IsStepChange F f m t.0 t.1 p r t'.0 t'.1

pub record IsStep {V : Type 0} (F : Format) (f : List ℕ → V) (m : ℕ) (t : List ℕ × List ℕ) (p : Pair) (r : Result (Option V) Error) (t' : List ℕ × List ℕ) : Type 0 where
  pub placed : (P : Table) → IsPartsOf F P t.0 t.1 → AnswersFormer F f P p r t'.0 t'.1
  pub any : IsStepChange F f m t.0 t.1 p r t'.0 t'.1

abbrev pub adds : Result (Option (List ℕ)) Error → Option Bool
adds (Ok o) = Some (is_none o)
adds (Err e) = None

pub record IsCountedStep (A : Table → Type 0) (F : Format) (m : ℕ) (t : List ℕ × List ℕ) (p : Pair) (r : Option Bool) (t' : List ℕ × List ℕ) : Type 0 where
  pub answer : Result (Option (List ℕ)) Error
  pub told : r ≡ adds answer
  pub step : IsStepWhere A F (λ b. b) m t p answer t'
