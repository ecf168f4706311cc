-- `into_loose` keeps the pointer, and what the handle owns goes with it.
use mathlib.Core.Path.{◌≡◌, refl, sym, subst}
use mathlib.Core.List.{List, [], ◌∷◌, ◌++◌}
use seplogic.Ra.Ura.{Ura}
use mir.Val.{Val, vptr}
use base.Logic.{SProp, ent, sep, emp, id⊢, never, fst∗}
use base.Fml.{ftrue, fsep}
use prog.Memory.{Memory}
use prog.Routine.{Routine}
use prog.Wp.{WpFn, Tables}
use types.Logic.{Logic, sem}
use contract.Monad.{Fun, fact}
use contract.Running.{tables, tables_of}
use sound.WpLaws.{WpFn-mono}
use types.Kit.{Item, ‵, raw, ◌⊛◌, ◌$◌, ◌∵◌, !, qed, by, move, keep, drop, use1, join, split, fsplit, fjoin, feq_l, suffices, done}
use types.Part.{whole, sub, agg}
use types.Run.{stop, fld, no_more, and_then, of_opd, returns, enter}
use types.ByLocal.{alloc_all, pass_all, free_all, look_at, get, get_in, sets}
use denote.Exit.{yes, no}
use denote.RattleType.{owns}
use denote.Signature.{plain}
use denote.Steps.{nothing}
use denote.Triple.Entry.{on_entry}
use denote.Triple.Spec.{triple_of}
use denote.Triple.Table.{entered}
use denote.Triple.Walked.{says, needs, Stays, stay_dropped, walk_of, ends_at, Goes-dropped, walk_Meets}
use lib.Dec.{T}
use mir.Raw.{raw as bare}
use denote.Memory.{lone}
use denote.RawPtr.{Ptr, block_ptr, null_ptr, in_a_block}
use denote.Signature.{type_at}
use Rattle.std.specs.Prelude.{Option, Some, None, IsSome}
use Rattle.std.proofs.alloc.Calls.{handle_tells}
use Rattle.std.specs.Box.Ownership.{box_owns}
use Rattle.loose.proofs.Values.{Loose, both, loose_good, loose_in}
use Rattle.installation.specs.contracts.installation.Installation as installed
use Rattle.board.specs.contracts.handle.Handle as handle
use Rattle.board.proofs.Words.{al, word, word_good, handle_out}
use Rattle.board.specs.contracts.handle.Handle.into_loose as F
use Rattle.board.specs.contracts.handle.Handle.into_loose.Key.{name as #self}
use Rattle.board.proofs.handle.Handle.into_loose.Statement as stated
use Rattle.board.proofs.handle.Handle.into_loose.Code as code

abbrev To : denote.RattleType.RattleType
To = Loose installed.the_row al.row al.laws al.g

abbrev stayed : Stays (F.ended).signature.params (F.ended).kept
stayed = (stay_dropped (plain (λ _. handle.the_row)) (F.ended).kept.0, (stay_dropped (plain (λ _. al.row)) (F.ended).kept.1.0, tt))

module _ {M : Type 1} {𝓤 : Ura M} (𝓛 : Logic 𝓤) (at_mem : Memory → SProp 𝓤) (run : Routine → Fun 𝓤) (𝓣 : Tables 𝓤 𝓛.H) (p : Ptr) (a : al.row.Denot) (us vs : List Val) where
  open 𝓛 use {H}

  module _ (x : installed.the_row.Denot) where
    abbrev d : handle.the_row.Denot
    d = record { at = p; installation = Some x }

    abbrev bound : (walk_of 𝓛 F.ended stayed (F.clauses 𝓛 at_mem run)).Ghost
    bound = ((tt, tt, tt, (d, (a, tt)), (us, (vs, tt))), tt)

    abbrev Post : Val → SProp 𝓤
    Post = (walk_of 𝓛 F.ended stayed (F.clauses 𝓛 at_mem run)).post bound

    walk : ent 𝓤 (on_entry 𝓛 (F.ended).signature tt tt (d, (a, tt)) (us, (vs, tt))) (WpFn 𝓤 H 𝓣.C 𝓣.Λ code.function (us ++ (vs ++ [])) Post)
    walk =
        qed 𝓛 ((‵ ftrue ⊛ ‵ (fsep (handle.the_row.own_val d us) (fsep (al.row.own_val a vs) ftrue))) ∷ []) ∵ split ! $ drop ! $ fsplit ! $
        handle_out ! d us (λ eu. move ! (1 ∷ []) $ fsplit ! $ handle_tells al ! a vs (λ h ev fits. move ! (1 ∷ []) $ drop ! $ move ! (1 ∷ []) $
        in_a_block ! p (λ (r : Ptr). box_owns (al.g.dealloc_token a) installed.the_row r x) (fst∗ 𝓤 (never 𝓤) (sem 𝓛 (al.g.dealloc_token a (bare (lone installed.the_row.mir)) null_ptr))) (λ b o e.
        loose_in installed.the_row al.row al.laws al.g ! b o h a x $ keep ! (0 ∷ []) $
        let made : To.Denot = record { at = block_ptr b o; alloc = a; value = x } in let w = both (vptr b o) h in
        let good = loose_good installed.the_row al.row al.laws al.g b o h fits in
        let Γ : List (Item 𝓤) = ‵ (To.own_val made (w ∷ [])) ∷ [] in
        by ! (subst (λ (ws : List Val × List Val). ent 𝓤 (types.Kit.⋆ 𝓛 Γ) (WpFn 𝓤 H 𝓣.C 𝓣.Λ code.function (ws.0 ++ (ws.1 ++ [])) Post)) (λ i. (sym (subst (λ (r : Ptr). us ≡ word r ∷ []) e eu) i, sym ev i))
        (qed 𝓛 Γ ∵ enter ! 𝓣.C 𝓣.Λ code.function (word (block_ptr b o) ∷ h ∷ []) _ $ alloc_all ! (λ ls. pass_all ! refl (word_good (block_ptr b o), (fits, tt)) $
        sets ! (of_opd ! (get_in ! (fld ! refl (stop !)) (sub ! 0 refl (whole !)))) refl (tt, tt) $ sets ! (of_opd ! (get ! refl)) refl (tt, tt) $
        sets ! (agg ! (and_then ! (get ! refl) (and_then ! (get ! refl) (no_more !)))) refl good $ returns ! (look_at ! 0 refl) $ free_all ! refl $
        suffices ! _ (ends_at 𝓛 F.ended stayed (F.clauses 𝓛 at_mem run) bound w made (tt, (tt, tt)) (tt, (tt, tt))) $ says ! refl $
        nothing ! $ nothing ! $ fjoin ! $ nothing ! $ fjoin ! $ join ! $ nothing ! $ join ! $ done !))))))

  -- by whether the handle owns a box
  entry : (s : Option installed.the_row.Denot) → IsSome s
      → ent 𝓤 (on_entry 𝓛 (F.ended).signature tt tt (record { at = p; installation = s }, (a, tt)) (us, (vs, tt)))
      (WpFn 𝓤 H 𝓣.C 𝓣.Λ code.function (us ++ (vs ++ [])) ((walk_of 𝓛 F.ended stayed (F.clauses 𝓛 at_mem run)).post ((tt, tt, tt, (record { at = p; installation = s }, (a, tt)), (us, (vs, tt))), tt)))
  entry None some = absurd (subst T (sym some) tt)
  entry (Some x) some = walk x

pub into_loose_spec : {M : Type 1} → stated.statement M
unfolding tables_of
into_loose_spec 𝓤 𝓛 𝓜 𝓡 wired =
    let 𝓣 : Tables 𝓤 𝓛.H = tables_of 𝓤 𝓛.H 𝓜 (tables 𝓤 𝓛.H 𝓜 𝓡 𝓡.env) in
    entered 𝓤 𝓛.H (triple_of 𝓛 F.signature (F.spec 𝓛 𝓜.mem 𝓡.returns)) 𝓣.C 𝓣.Λ #self code.function (code.unfolded 𝓤 𝓛.H 𝓜 𝓡 wired)
    (walk_Meets 𝓛 F.ended stayed (Goes-dropped 𝓛 0 (plain (λ _. handle.the_row)) (F.ended).kept.0 (λ κs x f. refl), (Goes-dropped 𝓛 0 (plain (λ _. al.row)) (F.ended).kept.1.0 (λ κs x f. refl), tt)) (F.clauses 𝓛 𝓜.mem 𝓡.returns) (WpFn 𝓤 𝓛.H 𝓣.C 𝓣.Λ code.function) (WpFn-mono 𝓤 𝓛.H 𝓛.laws 𝓣 code.function)
    (λ z. needs 𝓤 (IsSome z.0.3.0.installation) _ (entry 𝓛 𝓜.mem 𝓡.returns 𝓣 z.0.3.0.at z.0.3.1.0 z.0.4.0 z.0.4.1.0 z.0.3.0.installation)))
