-- Keys and values that lie one after the other in bytes, and the calls for dynamic tables that take or write them.
--     pieces len n B       the first n pieces of B in turn, of len bytes each
--     ArePieces kl vl n ks vs  ks are n keys of kl bytes, and vs are n values of vl bytes
--     HavePieces kl vl n ks vs  ks and vs have at least as many bytes
--     PieceItems           items that are bytes, and the lengths of their keys and values
--     piece_items kl vl n ks vs  those of the first n pieces
--     Each of the calls answers what that of a shape does, of the keys and values that the bytes have, in the format F;
--     where there are more or fewer bytes it answers bad_lengths, and nothing is written:
--     DynWalkAnswers F B at n ks vs m s at' ks' vs' m'   a walk into bytes for n keys and n values
--     DynGetAllAnswers F B n ks vs fs s vs' fs'          lookups of n keys
--     DynViewGetAllAnswers F B n ks vs fs s vs' fs'      the same in an opened table
--     DynInsertAllAnswers F B n ks vs m s B' m'          inserts of n pairs in turn
--     DynBuildAnswers F n ks vs p out len s out' len'    a table of n pairs at p percent
--     DynBuildGrowingAnswers F n ks vs out len s out' len'   a table of n pairs that grows
--     Before that, where the layout l is none, it answers bad_layout, and nothing is written (`Any..`).
use Rattle.std.specs.Prelude.{◌≡◌, ◌≤◌, ℕ, ◌*◌, zero, suc, List, [], ◌∷◌, length, take, drop}
use Rattle.std.specs.List.{zip}
use Rattle.odht_base.specs.Format.{Format}
use Rattle.odht_raw.specs.DynParts.{bytes_coding}
use Rattle.odht_calls.specs.Builds.{BuildAnswers, BuildGrowingAnswers}
use Rattle.odht_calls.specs.declared.any.AnyLayout.{AnyLayout}
use Rattle.odht_calls.specs.Layouts.{AnyAnswers, DynAnswers}
use Rattle.odht_calls.specs.Reads.{GetAllAnswers}
use Rattle.odht_calls.specs.Views.{ViewGetAllAnswers}
use Rattle.odht_calls.specs.Walks.{WalkAnswers}
use Rattle.odht_calls.specs.Writes.{InsertAllAnswers}

abbrev pub pieces : ℕ → ℕ → List ℕ → List (List ℕ)
pieces len zero B = []
pieces len (suc n) B = take len B ∷ pieces len n (drop len B)

pub record ArePieces (kl vl n : ℕ) (ks vs : List ℕ) : Type 0 where
  pub keys : length ks ≡ n * kl
  pub values : length vs ≡ n * vl

pub record HavePieces (kl vl n : ℕ) (ks vs : List ℕ) : Type 0 where
  pub keys : n * kl ≤ length ks
  pub values : n * vl ≤ length vs

pub record PieceItems : Type 0 where
  pub key_len : ℕ
  pub value_len : ℕ
  pub items : List (List ℕ × List ℕ)

abbrev pub piece_items : ℕ → ℕ → ℕ → List ℕ → List ℕ → PieceItems
piece_items kl vl n ks vs = record { key_len = kl; value_len = vl; items = zip (pieces kl n ks) (pieces vl n vs) }

-- ---- walks
abbrev pub DynWalkAnswers : Format → List ℕ → ℕ → ℕ → List ℕ → List ℕ → ℕ → ℕ → ℕ → List ℕ → List ℕ → ℕ → Type 0
DynWalkAnswers F B at n ks vs m s at' ks' vs' m' =
    DynAnswers (ArePieces F.key_len F.value_len n ks vs) s ((at' ≡ at) × (ks' ≡ ks) × (vs' ≡ vs) × (m' ≡ m))
    (WalkAnswers (bytes_coding F) B at (pieces F.key_len n ks) (pieces F.value_len n vs) m s at' (pieces F.key_len n ks') (pieces F.value_len n vs') m')

abbrev pub AnyWalkAnswers : AnyLayout → List ℕ → ℕ → ℕ → List ℕ → List ℕ → ℕ → ℕ → ℕ → List ℕ → List ℕ → ℕ → Type 0
AnyWalkAnswers l B at n ks vs m s at' ks' vs' m' =
    AnyAnswers l s ((at' ≡ at) × (ks' ≡ ks) × (vs' ≡ vs) × (m' ≡ m)) (λ c. DynWalkAnswers c.format B at n ks vs m s at' ks' vs' m')

-- ---- lookups of many keys
abbrev pub DynGetAllAnswers : Format → List ℕ → ℕ → List ℕ → List ℕ → List ℕ → ℕ → List ℕ → List ℕ → Type 0
DynGetAllAnswers F B n ks vs fs s vs' fs' =
    DynAnswers (ArePieces F.key_len F.value_len n ks vs × (length fs ≡ n)) s ((vs' ≡ vs) × (fs' ≡ fs))
    (GetAllAnswers (bytes_coding F) B (pieces F.key_len n ks) (pieces F.value_len n vs) fs s (pieces F.value_len n vs') fs')

abbrev pub AnyGetAllAnswers : AnyLayout → List ℕ → ℕ → List ℕ → List ℕ → List ℕ → ℕ → List ℕ → List ℕ → Type 0
AnyGetAllAnswers l B n ks vs fs s vs' fs' =
    AnyAnswers l s ((vs' ≡ vs) × (fs' ≡ fs)) (λ c. DynGetAllAnswers c.format B n ks vs fs s vs' fs')

-- ---- the same in an opened table
abbrev pub DynViewGetAllAnswers : Format → List ℕ → ℕ → List ℕ → List ℕ → List ℕ → ℕ → List ℕ → List ℕ → Type 0
DynViewGetAllAnswers F B n ks vs fs s vs' fs' =
    DynAnswers (ArePieces F.key_len F.value_len n ks vs × (length fs ≡ n)) s ((vs' ≡ vs) × (fs' ≡ fs))
    (ViewGetAllAnswers (bytes_coding F) B (pieces F.key_len n ks) (pieces F.value_len n vs) fs s (pieces F.value_len n vs') fs')

abbrev pub AnyViewGetAllAnswers : AnyLayout → List ℕ → ℕ → List ℕ → List ℕ → List ℕ → ℕ → List ℕ → List ℕ → Type 0
AnyViewGetAllAnswers l B n ks vs fs s vs' fs' =
    AnyAnswers l s ((vs' ≡ vs) × (fs' ≡ fs)) (λ c. DynViewGetAllAnswers c.format B n ks vs fs s vs' fs')

-- ---- inserts of many pairs
abbrev pub DynInsertAllAnswers : Format → List ℕ → ℕ → List ℕ → List ℕ → ℕ → ℕ → List ℕ → ℕ → Type 0
DynInsertAllAnswers F B n ks vs m s B' m' =
    DynAnswers (ArePieces F.key_len F.value_len n ks vs) s ((B' ≡ B) × (m' ≡ m))
    (InsertAllAnswers (bytes_coding F) B (pieces F.key_len n ks) (pieces F.value_len n vs) m s B' m')

abbrev pub AnyInsertAllAnswers : AnyLayout → List ℕ → ℕ → List ℕ → List ℕ → ℕ → ℕ → List ℕ → ℕ → Type 0
AnyInsertAllAnswers l B n ks vs m s B' m' =
    AnyAnswers l s ((B' ≡ B) × (m' ≡ m)) (λ c. DynInsertAllAnswers c.format B n ks vs m s B' m')

-- ---- builds
abbrev pub DynBuildAnswers : Format → ℕ → List ℕ → List ℕ → ℕ → List ℕ → ℕ → ℕ → List ℕ → ℕ → Type 0
DynBuildAnswers F n ks vs p out len s out' len' =
    DynAnswers (ArePieces F.key_len F.value_len n ks vs) s ((out' ≡ out) × (len' ≡ len))
    (BuildAnswers (bytes_coding F) (pieces F.key_len n ks) (pieces F.value_len n vs) p out len s out' len')

abbrev pub AnyBuildAnswers : AnyLayout → ℕ → List ℕ → List ℕ → ℕ → List ℕ → ℕ → ℕ → List ℕ → ℕ → Type 0
AnyBuildAnswers l n ks vs p out len s out' len' =
    AnyAnswers l s ((out' ≡ out) × (len' ≡ len)) (λ c. DynBuildAnswers c.format n ks vs p out len s out' len')

-- ---- builds of tables that grow
abbrev pub DynBuildGrowingAnswers : Format → ℕ → List ℕ → List ℕ → List ℕ → ℕ → ℕ → List ℕ → ℕ → Type 0
DynBuildGrowingAnswers F n ks vs out len s out' len' =
    DynAnswers (ArePieces F.key_len F.value_len n ks vs) s ((out' ≡ out) × (len' ≡ len))
    (BuildGrowingAnswers (bytes_coding F) (pieces F.key_len n ks) (pieces F.value_len n vs) out len s out' len')

abbrev pub AnyBuildGrowingAnswers : AnyLayout → ℕ → List ℕ → List ℕ → List ℕ → ℕ → ℕ → List ℕ → ℕ → Type 0
AnyBuildGrowingAnswers l n ks vs out len s out' len' =
    AnyAnswers l s ((out' ≡ out) × (len' ≡ len)) (λ c. DynBuildGrowingAnswers c.format n ks vs out len s out' len')
