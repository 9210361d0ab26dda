-- `of_raw` keeps the address, and the handle owns what the box owned.
use Rattle.std.proofs.Common.{◌≡◌, List, [], ◌∷◌, ◌++◌, refl, sym, subst}
use Rattle.std.specs.Prelude.{Some}
use mir.Syntax.{Fn}
use mir.Val.{Val, vptr}
use base.Logic.{SProp, ent, emp, id⊢}
use prog.Wp.{WpFn}
use contract.Monad.{fact, fact_i}
use contract.Running.{tables}
use types.Kit.{‵, raw, ◌⊛◌, ◌$◌, ◌∵◌, !, qed, by, move, keep, use0, split, fsplit, fjoin, suffices}
use types.Part.{agg, sub, whole}
use types.Run.{stop, fld, of_opd, no_more, and_then, returns, enter}
use types.ByLocal.{alloc_all, pass_all, free_all, look_at, get, get_in, sets}
use denote.Exit.{yes}
use denote.RattleType.{RattleType, owns}
use denote.RawPtr.{block_ptr}
use denote.Signature.{types_at, plain}
use denote.Steps.{nothing}
use denote.Triple.Entry.{alive}
use denote.Triple.Walked.{Stays, stay_dropped, walk_of}
use Rattle.std.specs.contracts.alloc.Global as heap
use Rattle.std.proofs.alloc.Global.TheLaws as heap_laws
use Rattle.std.specs.contracts.impls.GlobalAllocator.TheImpl.{ghosts}
use Rattle.std.proofs.alloc.Calls.{Goes-blank}
use Rattle.std.proofs.raw_atomic.Walks.{proved_at, leaves}
use Rattle.mq_embedded.specs.contracts.client.Client as client
use Rattle.mq_ffi.proofs.Words.{word, field_own, made, word_typed}
use Rattle.mq_ffi.proofs.RawBoxes.{both, Raw, raw_good, raw_out}
use Rattle.mq_ffi.specs.contracts.handle.Handle as handle
use Rattle.mq_ffi.specs.contracts.handle.Handle.of_raw.{ended, clauses}
use Rattle.mq_ffi.specs.contracts.handle.Handle.of_raw.Key.{name as #self}
use Rattle.mq_ffi.proofs.handle.Handle.of_raw.Statement.{statement}
use Rattle.mq_ffi.proofs.handle.Handle.of_raw.Code as code

pub of_raw_spec : {M : Type 1} → statement M
of_raw_spec 𝓤 𝓛 𝓜 𝓡 wired =
    let H = 𝓛.H in let c = clauses 𝓛 𝓜.mem 𝓡.returns in let fn : Fn = code.function in let 𝓣 = tables 𝓤 H 𝓜 𝓡 𝓡.env in
    let R : RattleType = client.the_row in let Z : RattleType = heap.the_row in let LZ = heap_laws.the_row_laws in
    let From : RattleType = Raw R Z LZ ghosts in
    let hs : Stays ended.signature.params ended.kept = (stay_dropped (plain (λ _. From)) yes, tt) in
    proved_at 𝓛 ended hs c 𝓜 𝓡 (Goes-blank 𝓛 0 (plain (λ _. From)) yes (λ κs x f. tt), tt) #self fn (code.unfolded 𝓤 H 𝓜 𝓡 wired) (λ z are.
    let Post : Val → SProp 𝓤 = (walk_of 𝓛 ended hs c).post z in let Run : List Val → SProp 𝓤 = λ ws. WpFn 𝓤 H 𝓣.C 𝓣.Λ fn ws Post in
    let v = z.0.3.0 in
    qed 𝓛 ((raw (alive 𝓛 ended.signature z.0.0 z.0.1) ⊛ ‵ (owns (types_at ended.signature.params z.0.0) z.0.3 z.0.4)) ∷ raw ((c z.0.0 z.0.3).requires z.1) ∷ []) ∵
    split ! $ move ! (1 ∷ []) $ fsplit ! $ raw_out R Z LZ ghosts ! v z.0.4.0 (λ b o h e ws fits.
    -- [what the box owns; the allocator; nothing; the tokens; the `requires`]
    let w : Val = both (vptr b o) h in
    suffices ! (Run (w ∷ [])) (subst (λ (us : List Val). ent 𝓤 (Run (w ∷ [])) (Run us)) (sym (λ i. ws i ++ [])) (id⊢ 𝓤 (Run (w ∷ [])))) $
    enter ! 𝓣.C 𝓣.Λ fn (w ∷ []) Post $ alloc_all ! (λ l. pass_all ! refl (raw_good R Z LZ ghosts b o h fits, tt) $
    sets ! (of_opd ! (get_in ! (fld ! refl (stop !)) (sub ! 0 refl (whole !)))) refl (tt, tt) $
    sets ! (of_opd ! (get ! refl)) refl (tt, tt) $
    sets ! (agg ! (and_then ! (get ! refl) (no_more !))) refl (word_typed (block_ptr b o)) $
    returns ! (look_at ! 0 refl) $ free_all ! refl $
    use0 𝓛 (‵ (field_own (block_ptr b o) (word (block_ptr b o) ∷ []))) (made 𝓛 (block_ptr b o)) $ fjoin ! $
    use0 𝓛 (raw (fact 𝓤 (Some v.value ≡ Some v.value))) (fact_i 𝓤 (Some v.value ≡ Some v.value) (emp 𝓤) refl) $
    nothing ! $ nothing ! $ fjoin ! $ keep ! (5 ∷ 0 ∷ 2 ∷ 1 ∷ []) $
    let x : (handle.the_row).Denot = record { at = block_ptr b o; value = Some v.value } in
    by ! (leaves 𝓛 ended hs c z (word (block_ptr b o)) x (tt, tt) (tt, tt)))))
