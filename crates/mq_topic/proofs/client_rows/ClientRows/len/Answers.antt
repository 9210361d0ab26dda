use Rattle.std.proofs.Common.{◌≡◌, ℕ, suc, ◌+◌, List, [], ◌∷◌, length, length-append, refl, ap, ◌∙◌, arith}
use Rattle.mq_topic.specs.ClientRows.{own_rows, rows_of}
use Rattle.mq_topic.specs.Rows.{Row}
use Rattle.mq_topic.specs.declared.qos.Qos.{Qos}
use Rattle.mq_topic.proofs.ClientMaps.{Own}
use Rattle.mq_topic.proofs.client_rows.ClientRows.len.Goals as goal

own_length : (c : ℕ) (es : List (List ℕ × Qos)) → length (own_rows c es) ≡ length es
own_length c [] = refl
own_length c (e ∷ es) = ap (λ (n : ℕ). suc n) (own_length c es)

rows_length : (c : ℕ) (own : Own) (es : List (ℕ × Own)) → length (rows_of ((c, own) ∷ es)) ≡ length own.entries + length (rows_of es)
rows_length c own es =
    let first = own_length c own.entries in
    let both = length-append (own_rows c own.entries) (rows_of es) in
    omega arith

pub loop-own-init : goal.loop-own-init
loop-own-init c =
    let all : length (rows_of c.into_iter-own-iterator.result) ≡ length c.args.self.now
    = ap (λ (es : List (ℕ × Own)). length (rows_of es)) (c.into_iter-own-iterator.ensures.into_iter_gives ∙ c.iter-own-items.ensures.rest)
    ∙ ap (λ (rows : List Row). length rows) c.self.view_is in
    (omega arith, omega arith)

pub loop-own-preserved : goal.loop-own-preserved
loop-own-preserved c =
    let rows : length (rows_of c.loop-own.own-iterator) ≡ length c.in-Some.own.now.entries + length (rows_of c.next.new.self)
    = ap (λ (es : List (ℕ × Own)). length (rows_of es)) c.in-Some.ensures.steps
    ∙ rows_length c.in-Some.field-0-0.now c.in-Some.own.now c.next.new.self in
    let own : c.len.result ≡ length c.in-Some.own.now.entries = c.len.ensures.len in
    let sum = c.saturating_add-count.ensures in
    (omega arith, omega arith)

pub returns : goal.returns
returns c =
    let none : length (rows_of c.loop-own.own-iterator) ≡ 0 = ap (λ (es : List (ℕ × Own)). length (rows_of es)) c.in-None.ensures.steps.0 in
    omega arith
