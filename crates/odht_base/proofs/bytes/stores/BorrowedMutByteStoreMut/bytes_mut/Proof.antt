-- `bytes_mut` reborrows the struct's one reference for the struct's borrow, and the struct follows. Assumes `Logic`.
use mathlib.Core.Path.{refl, sym}
use Prim.Native.Nat.{ℕ, ◌+◌}
use mathlib.Core.List.{List, [], ◌∷◌}
use lib.ListN.{length}
use seplogic.Ra.Ura.{Ura}
use base.Fraction.{full_share}
use base.Fml.{fat, GName, ftrue, fobs, fbor, flft}
use mir.Syntax.{named, erased, mut, w8, Ty, ty_int, ty_ref, ty_struct, tcons, tnil}
use mir.Val.{Val}
use types.Logic.{Logic}
use types.Kit.{‵, ◌⊛◌, some, later, await, pick, ◌$◌, ◌∵◌, !, qed, move, keep, use1, use2, use3, split, split3, join, fsplit3, fjoin, rewrite, suffices, frame, done}
use types.Part.{whole, sub, look_in, agg}
use types.Run.{stop, fld, hop, addr, load, of_opd, and_then, no_more, returns, enter}
use types.ByLocal.{alloc_all, pass_all, free_all, look_at, get, through, sets}
use types.SemTy.{Body as Borrowed}
use denote.Exit.{no}
use denote.Memory.{mem, cell_at}
use denote.Laws.{shows}
use denote.Builtin.{u8}
use denote.Array.{Array}
use denote.Ref.{NamedLft, MutBor, MutRef, at_last, mut_vals, mut_Tells}
use denote.Slice.{MutSlice, slice_ty, Room, slice_val, mut_slice_vals}
use denote.Follow.{follows, follows_then}
use denote.Through.{renamed, lends_inner_slice}
use denote.Signature.{plain, named_lft, mut_ref_to}
use denote.Steps.{nothing, opens, closes, peeks}
use denote.Triple.Walked.{Stays, stay_dropped, walk_of, says, ends_at, Goes-spent_ref}
use borrow.Follows.Field.{HandsTo, hands_on}
use borrow.Struct.Lend.{kept_record, record_fill, record_apart}
use Rattle.std.proofs.raw_atomic.Walks.{proved}
use Rattle.odht_base.specs.declared.bytes.stores.BorrowedMut.{BorrowedMut}
use Rattle.odht_base.specs.contracts.bytes.stores.BorrowedMut.{the_type, the_row, struct}
use Rattle.odht_base.proofs.bytes.stores.BorrowedMut.TheLaws.{lowers, the_loose}
use Rattle.odht_base.specs.contracts.bytes.stores.BorrowedMutByteStoreMut.bytes_mut as f
use Rattle.odht_base.proofs.bytes.stores.BorrowedMutByteStoreMut.bytes_mut.Statement.{statement}
use Rattle.odht_base.proofs.bytes.stores.BorrowedMutByteStoreMut.bytes_mut.Code as code

abbrev stayed : Stays f.ended.signature.params f.ended.kept
stayed = (stay_dropped (mut_ref_to (0 ∷ []) tt (plain (λ κs. the_row (named_lft 2 1 tt κs)))) no, tt)

abbrev with_first : BorrowedMut → MutBor (List ℕ) → BorrowedMut
with_first s y = record s { 0 = y }

-- the slice behind the field, as the code reads it
abbrev as_read : Ty
as_read = ty_struct [] (tcons (slice_ty (ty_ref erased mut (ty_int w8))) tnil)

-- what the struct's one field points at is borrowed, and the struct follows it
hands : (a : NamedLft) {M : Type 1} {𝓤 : Ura M} (𝓛 : Logic 𝓤) (s : BorrowedMut) → HandsTo 𝓛 (the_row a) (MutSlice a.mir a.lft u8) (λ o. o + 0) s s.0 (with_first s)
hands a 𝓛 s =
    let S = struct a in let T = the_type a in
    hands_on 𝓛 (the_row a) (MutSlice a.mir a.lft u8) 0 (λ (x : BorrowedMut). x.0) with_first
    (kept_record T (the_loose a) 0 0 S.as_values S.Ghost S.make (λ v. tt) (λ x. refl) (λ v g. refl) (λ x. x))
    (record_fill T (the_loose a) 0 0 S.as_values S.Ghost S.make (λ v. tt) (λ x. refl) (λ v g. refl) (λ x. x) refl (λ y. refl))
    (record_apart T (the_loose a) 0 0 S.as_values S.Ghost S.make (λ v. tt) (λ x. refl) (λ v g. refl) (λ x. x) 𝓛 refl refl) s

pub bytes_mut_spec : {M : Type 1} → statement M
bytes_mut_spec 𝓤 𝓛 𝓜 𝓡 wired =
    let c = f.clauses 𝓛 𝓜.mem 𝓡.returns in let W = walk_of 𝓛 f.ended stayed c in
    proved 𝓛 f.ended stayed c 𝓜 𝓡 (Goes-spent_ref 𝓛 2 (0 ∷ []) tt (plain (λ κs. the_row (named_lft 2 1 tt κs))), tt)
    f.Key.name code.function (code.unfolded 𝓤 𝓛.H 𝓜 𝓡 wired)
    (λ κs. (mut_vals, tt)) (λ κs. (mut_Tells (named 0) κs.0 (the_row (named_lft 2 1 tt κs)), tt)) (λ κs qs bounds a _ are.
    let κ = κs.0 in let q = qs.0 in let l' = named_lft 2 1 tt κs in let R = the_row l' in
    let x = a.0 in let b = x.ref_ptr.0 in let o = x.ref_ptr.1 in let γ = x.ghost_name in let s = x.now in let vs = mut_vals x in
    let Sl = MutSlice l'.mir l'.lft u8 in
    let y : W.Ghost = ((κs, qs, bounds, a, (vs, tt)), tt) in
    qed 𝓛 (((‵ (flft κ q) ⊛ ‵ (flft κs.1.0 qs.1.0) ⊛ ‵ ftrue) ⊛ ‵ ((MutRef (named 0) κ R).own_val x vs) ⊛ ‵ ftrue) ∷ ‵ ftrue ∷ []) ∵
    split ! $ split3 ! $ move ! (3 ∷ []) $ split ! $ keep ! (0 ∷ 2 ∷ 3 ∷ []) $
    enter ! _ _ _ _ _ $ alloc_all ! (λ l. pass_all ! refl ((tt, tt), tt) $
    -- [self; the two tokens]
    fsplit3 ! $ move ! (1 ∷ 2 ∷ 3 ∷ []) $ opens ! tt R b o (λ us. move ! (1 ∷ []) $ peeks ! R _ (shows 𝓛 R) s us (λ is.
    let rm : Room u8 (length s.0.now) = is.1.1.0.0.1 in
    let word = (lowers l').val_is s us is in let v = (lowers l').lowered s in
    let Cell = λ (ws : List Val). ‵ (cell_at full_share R.mir ws b o) in
    rewrite ! 1 Cell word refl $ move ! (1 ∷ []) $ use1 𝓛 (‵ (fat full_share as_read b o v)) (𝓛.laws.raw_at full_share as_read b o v) $
    -- [self's cell; what self's value owns; the open borrow, in three entries]
    sets ! (of_opd ! (load ! (through ! refl (fld ! refl (fld ! refl (stop !)))) (look_in ! 0 (sub ! 1 refl (sub ! 0 refl (whole !)))))) refl (tt, record { fits = rm.0 }) $
    sets ! (addr ! (through ! refl (fld ! refl (fld ! refl (hop ! (look_in ! 0 (sub ! 0 refl (sub ! 0 refl (whole !)))) (stop !)))))) refl (tt, tt) $
    sets ! (agg ! (and_then ! (get ! refl) (and_then ! (get ! refl) (no_more !)))) refl (tt, (tt, (record { fits = rm.0 }, tt))) $
    use1 𝓛 (Cell (v ∷ [])) (𝓛.laws.at_raw full_share as_read b o v) $ rewrite ! 0 Cell (sym word) refl $ closes ! tt R s us b o $
    -- [two parts of self; the token; self's first part]
    use3 𝓛 (later (some (λ (γ₁ : GName). ‵ (fobs γ₁ (Sl.coded.code s.0)) ⊛ ‵ (fbor κ (Borrowed (mem Sl) b (o + 0) γ₁)) ⊛ ‵ (flft κ q) ⊛ ‵ (follows R Sl γ γ₁ (with_first s)))))
    (hands l' 𝓛 s κ q γ b o) $ await ! tt $ pick ! (λ γ₁. split ! $ move ! (1 ∷ []) $ split3 ! $ move ! (3 ∷ 0 ∷ 1 ∷ []) $
    use3 𝓛 (later (some (λ (δ : GName). ‵ ((MutSlice (named 0) κ u8).own_val (renamed s.0 δ) (mut_slice_vals s.0)) ⊛ ‵ (flft κ q) ⊛ ‵ (follows Sl (Array u8 0) γ₁ δ (at_last s.0)))))
    (lends_inner_slice 𝓛 u8 (named 0) l'.mir κ l'.lft (record { ref_ptr = (b, o + 0); ghost_name = γ₁; now = s.0 }) bounds.0 rm q) $ await ! tt $ pick ! (λ δ. split3 ! $
    -- [the slice; the token; the field follows the slice; the struct follows the field]
    move ! (3 ∷ 2 ∷ []) $ use2 𝓛 (‵ (follows R (Array u8 0) γ δ (λ ws. with_first s (at_last s.0 ws)))) (follows_then 𝓛 R Sl (Array u8 0) (with_first s) (at_last s.0) γ γ₁ δ) $
    -- [the struct follows the slice; the slice; the token; nothing; the token of 'a]
    returns ! (look_at ! 0 refl) $ free_all ! refl $ keep ! (0 ∷ 1 ∷ 2 ∷ 4 ∷ []) $
    suffices ! _ (ends_at 𝓛 f.ended stayed c y (slice_val s.0.ref_ptr (length s.0.now)) (renamed s.0 δ) (tt, tt) (tt, tt)) $
    nothing ! $ move ! (4 ∷ 0 ∷ []) $ join ! $ move ! (3 ∷ 0 ∷ []) $ join ! $ move ! (0 ∷ 2 ∷ []) $
    -- [the tokens; the slice; the struct follows the slice]
    nothing ! $ nothing ! $ fjoin ! $ move ! (0 ∷ 2 ∷ []) $ join ! $ move ! (1 ∷ 0 ∷ []) $ join ! $ frame ! $ says ! refl $ done !))))))
