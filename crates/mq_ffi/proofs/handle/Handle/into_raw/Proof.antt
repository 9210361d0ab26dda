-- `into_raw` hands over what the handle owns.
use Rattle.std.proofs.Common.{◌≡◌, List, [], ◌∷◌, ◌++◌, refl, sym, ap, ◌∙◌, subst}
use Rattle.std.specs.Prelude.{Option, Some, IsSome}
use mir.Syntax.{Fn}
use mir.Raw.{raw as bare}
use mir.Val.{Val, vptr}
use base.Logic.{SProp, ent, emp, id⊢, never, fst∗}
use prog.Wp.{WpFn}
use types.Logic.{sem}
use contract.Monad.{fact, fact_i}
use contract.Running.{tables}
use types.Kit.{‵, raw, ◌⊛◌, ◌$◌, ◌∵◌, !, qed, by, move, keep, drop, use0, split, fsplit, fjoin, rewrite, suffices}
use types.Part.{agg, sub, whole}
use types.Run.{stop, fld, of_opd, no_more, and_then, returns, enter}
use types.ByLocal.{alloc_all, pass_all, free_all, look_at, get, get_in, sets}
use denote.Exit.{yes}
use denote.Memory.{lone}
use denote.RattleType.{RattleType, owns}
use denote.RawPtr.{Ptr, block_ptr, null_ptr, in_a_block}
use denote.Signature.{types_at, plain}
use denote.Steps.{nothing, heard}
use denote.Triple.Entry.{alive}
use denote.Triple.Walked.{Stays, stay_dropped, walk_of, Goes-dropped}
use Rattle.libc.specs.Heap.{chunk}
use Rattle.std.specs.Box.Ownership.{box_owns}
use Rattle.std.specs.contracts.alloc.Global as heap
use Rattle.std.proofs.alloc.Global.TheLaws as heap_laws
use Rattle.std.specs.contracts.impls.GlobalAllocator.TheImpl.{ghosts}
use Rattle.std.proofs.alloc.Calls.{Goes-blank, handle_tells}
use Rattle.std.proofs.raw_atomic.Walks.{proved_at, leaves}
use Rattle.mq_embedded.specs.contracts.client.Client as client
use Rattle.mq_ffi.specs.Boxed.{boxed}
use Rattle.mq_ffi.proofs.Words.{word, told, word_typed, some_of}
use Rattle.mq_ffi.proofs.RawBoxes.{both, al, Raw, raw_good, raw_in}
use Rattle.mq_ffi.specs.contracts.handle.Handle as handle
use Rattle.mq_ffi.specs.contracts.handle.Handle.into_raw.{ended, clauses}
use Rattle.mq_ffi.specs.contracts.handle.Handle.into_raw.Key.{name as #self}
use Rattle.mq_ffi.proofs.handle.Handle.into_raw.Statement.{statement}
use Rattle.mq_ffi.proofs.handle.Handle.into_raw.Code as code

pub into_raw_spec : {M : Type 1} → statement M
into_raw_spec 𝓤 𝓛 𝓜 𝓡 wired =
    let H = 𝓛.H in let c = clauses 𝓛 𝓜.mem 𝓡.returns in let fn : Fn = code.function in let 𝓣 = tables 𝓤 H 𝓜 𝓡 𝓡.env in
    let R : RattleType = client.the_row in let Z : RattleType = heap.the_row in let LZ = heap_laws.the_row_laws in
    let hs : Stays ended.signature.params ended.kept = (stay_dropped (plain (λ _. handle.the_row)) yes, (stay_dropped (plain (λ _. Z)) yes, tt)) in
    proved_at 𝓛 ended hs c 𝓜 𝓡 (Goes-blank 𝓛 0 (plain (λ _. handle.the_row)) yes (λ κs x f. tt), (Goes-dropped 𝓛 0 (plain (λ _. Z)) yes (λ κs x f. refl), tt)) #self fn (code.unfolded 𝓤 H 𝓜 𝓡 wired) (λ z are.
    let Post : Val → SProp 𝓤 = (walk_of 𝓛 ended hs c).post z in let Run : List Val → SProp 𝓤 = λ ws. WpFn 𝓤 H 𝓣.C 𝓣.Λ fn ws Post in
    let h = z.0.3.0 in let a = z.0.3.1.0 in
    qed 𝓛 ((raw (alive 𝓛 ended.signature z.0.0 z.0.1) ⊛ ‵ (owns (types_at ended.signature.params z.0.0) z.0.3 z.0.4)) ∷ raw (fact 𝓤 (IsSome h.value)) ∷ []) ∵
    move ! (1 ∷ []) $ heard ! (IsSome h.value) (λ there. split ! $ move ! (1 ∷ []) $ fsplit ! $ fsplit ! $ drop ! $
    -- [what the handle owns; the allocator; the tokens]
    let got = some_of h.value there in let x = got.0 in
    rewrite ! 0 (λ (v : Option R.Denot). ‵ (boxed R h.at v)) got.1 refl $
    in_a_block ! h.at (λ (p : Ptr). box_owns chunk R p x) (fst∗ 𝓤 (never 𝓤) (sem 𝓛 (chunk (bare (lone R.mir)) null_ptr))) (λ b o e.
    move ! (1 ∷ []) $ fsplit ! $ handle_tells (al R Z LZ ghosts) ! a z.0.4.1.0 (λ g eg fits.
    move ! (2 ∷ 0 ∷ []) $
    let ew = told h.at z.0.4.0 are.0.0 ∙ ap (λ (p : Ptr). word p ∷ []) e in
    let w : List Val = word (block_ptr b o) ∷ g ∷ [] in
    suffices ! (Run w) (subst (λ (us : List Val). ent 𝓤 (Run w) (Run us)) (sym (λ i. ew i ++ (eg i ++ []))) (id⊢ 𝓤 (Run w))) $
    enter ! 𝓣.C 𝓣.Λ fn w Post $ alloc_all ! (λ l. pass_all ! refl (word_typed (block_ptr b o), (fits, tt)) $
    sets ! (of_opd ! (get_in ! (fld ! refl (stop !)) (sub ! 0 refl (whole !)))) refl (tt, tt) $
    sets ! (of_opd ! (get ! refl)) refl (tt, tt) $
    sets ! (agg ! (and_then ! (get ! refl) (and_then ! (get ! refl) (no_more !)))) refl (raw_good R Z LZ ghosts b o g fits) $
    returns ! (look_at ! 0 refl) $ free_all ! refl $
    raw_in R Z LZ ghosts ! b o g a x $
    use0 𝓛 (raw (fact 𝓤 (h.value ≡ Some x))) (fact_i 𝓤 (h.value ≡ Some x) (emp 𝓤) got.1) $
    nothing ! $ nothing ! $ fjoin ! $ nothing ! $ fjoin ! $ keep ! (4 ∷ 0 ∷ 2 ∷ 1 ∷ []) $
    let r : (Raw R Z LZ ghosts).Denot = record { at = block_ptr b o; alloc = a; value = x } in
    by ! (leaves 𝓛 ended hs c z (both (vptr b o) g) r (tt, (tt, tt)) (tt, (tt, tt))))))))
