use borrow.Rule.Slice.PartMut.{put_mid}
use Rattle.std.proofs.Common.{◌≡◌, ℕ, ◌+◌, ◌-◌, ◌≤◌, List, [], ◌∷◌, ◌++◌, length, take, drop, refl, sym, ◌∙◌, ap, arith, length-append}
use Rattle.std.proofs.lemmas.List.{length-drop, length-take-le, take-append-le, take-take}
use Rattle.mq_record.specs.Encoding.{conn_bytes, four_bytes}
use Rattle.mq_record.proofs.Digits.{four_be, front_kept}
use Rattle.mq_record.proofs.encode.shorten_piece.Goals as goal

pub returns : goal.returns
returns c conn piece is within =
    let all : List ℕ = c.args.out.now.items in
    let at : ℕ = c.args.at in
    let taken : ℕ = c.args.taken in
    let new : List ℕ = c.to_be_bytes-len.result in
    let digits : new ≡ four_bytes taken = c.to_be_bytes-len.ensures ∙ four_be taken (omega (arith, c.requires.short)) in
    let size : length (take taken piece) ≡ taken = length-take-le taken piece within in
    let at_is : length (take at all) ≡ at = length-take-le at all (omega (arith, c.requires.within)) in
    let kept : take (at + 11 + taken) (take (at + 7) all ++ (new ++ drop 4 (drop (at + 7) all))) ≡ take at all ++ 2 ∷ (conn_bytes conn ++ (new ++ take taken piece)) =
    front_kept all (take at all) (four_bytes (length piece)) piece new conn at taken is at_is refl (ap (λ (l : List ℕ). length l) digits) within in
    let named : take at all ++ 2 ∷ (conn_bytes conn ++ (new ++ take taken piece)) ≡ take at all ++ 2 ∷ (conn_bytes conn ++ (four_bytes (length (take taken piece)) ++ take taken piece)) =
    ap (λ (l : List ℕ). take at all ++ 2 ∷ (conn_bytes conn ++ (l ++ take taken piece))) (digits ∙ ap four_bytes (sym size)) in
    let gap : at + 11 - (at + 7) ≡ 4 = omega arith in
    let len : c.args.out.now.len ≡ length all = sym c.deref_mut.ensures.len ∙ ap (λ (l : List ℕ). length l) c.deref_mut.ensures.value in
    let n : ℕ = at + 11 + taken in
    let back : List ℕ = drop 4 (drop (at + 7) all) in
    let four : length new ≡ 4 = ap (λ (l : List ℕ). length l) digits in
    let long : n ≤ length (take (at + 7) all ++ (new ++ back)) =
    omega (arith, c.requires.within, within, four, length-append (take (at + 7) all) (new ++ back), length-append new back, length-take-le (at + 7) all (omega (arith, c.requires.within)), length-drop 4 (drop (at + 7) all), length-drop (at + 7) all) in
    let written : List ℕ = put_mid (at + 7) (at + 11 - (at + 7)) c.deref_mut.result.now c.copy_from_slice.new.self in
    let same : written ≡ take (at + 7) all ++ (new ++ back) = (λ i. put_mid (at + 7) (gap i) (c.deref_mut.ensures.value i) (c.copy_from_slice.ensures.after i)) in
    c.truncate.ensures.items
    ∙ take-take n c.args.out.now.len (written ++ drop (length written) all) (omega (arith, len, c.requires.within))
    ∙ ap (λ (l : List ℕ). take n (l ++ drop (length written) all)) same
    ∙ take-append-le n (take (at + 7) all ++ (new ++ back)) (drop (length written) all) long
    ∙ kept ∙ named
