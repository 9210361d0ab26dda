-- Reading bytes that arrive in one piece.
use Rattle.std.proofs.Common.{◌≡◌, ℕ, List, [], ◌∷◌, ◌++◌, length, Option, sym, ◌∙◌, ap, subst, arith}
use Rattle.std.proofs.lemmas.List.{append-nil}
use Rattle.mq_packet.specs.declared.packet.Packet.{Packet}
use Rattle.mq_decode.specs.declared.fault.DecodeFault.{DecodeFault}
use Rattle.mq_decode.specs.Limits.{Bounds}
use Rattle.mq_decode.specs.Grammar.{Reading}

pub same_reading : (limit : Bounds) (a b : List ℕ) (ps qs : List Packet) (rest : List ℕ) (end : Option DecodeFault) → a ≡ b → ps ≡ qs → Reading limit a ps rest end → Reading limit b qs rest end
same_reading limit a b ps qs rest end bytes packets h =
    subst (λ (t : List Packet). Reading limit b t rest end) packets (subst (λ (t : List ℕ). Reading limit t ps rest end) bytes h)

-- into a new list
pub reads_piece : (limit : Bounds) (piece bytes : List ℕ) (old new ps : List Packet) (rest : List ℕ) (end : Option DecodeFault) → piece ≡ bytes → old ≡ [] → new ≡ old ++ ps
    → Reading limit (piece ++ []) ps rest end → Reading limit bytes new rest end
reads_piece limit piece bytes old new ps rest end same empty added h =
    let packets : ps ≡ new = sym (added ∙ ap (λ (t : List Packet). t ++ ps) empty) in
    same_reading limit (piece ++ []) bytes ps new rest end (append-nil piece ∙ same) packets h

-- a rest of no bytes
pub no_rest : (limit : Bounds) (bytes : List ℕ) (ps : List Packet) (rest : List ℕ) (end : Option DecodeFault) → 0 ≡ length rest → Reading limit bytes ps rest end → Reading limit bytes ps [] end
no_rest limit bytes ps [] end none h = h
no_rest limit bytes ps (x ∷ rest) end none h = absurd (omega arith)
