use Rattle.std.proofs.Common.{ℕ, List, [], ◌∷◌, ◌++◌, slice_index_or, ◌∙◌, ap, arith}
use Rattle.mq_record.specs.Encoding.{conn_bytes}
use Rattle.mq_record.proofs.Digits.{four_be}
use Rattle.mq_record.proofs.numbers.with_conn_and_len.Goals as goal

pub returns : goal.returns
returns c =
    let len = c.to_be_bytes-len.result in
    ap (λ (x : List ℕ). slice_index_or x 0 0 ∷ slice_index_or x 1 0 ∷ slice_index_or x 2 0 ∷ slice_index_or x 3 0 ∷ slice_index_or x 4 0 ∷ slice_index_or x 5 0 ∷ slice_index_or x 6 0
    ∷ slice_index_or len 0 0 ∷ slice_index_or len 1 0 ∷ slice_index_or len 2 0 ∷ slice_index_or len 3 0 ∷ []) c.with_conn-front.ensures
    ∙ ap (λ (x : List ℕ). c.args.tag ∷ (conn_bytes c.args.conn ++ (slice_index_or x 0 0 ∷ slice_index_or x 1 0 ∷ slice_index_or x 2 0 ∷ slice_index_or x 3 0 ∷ [])))
    (c.to_be_bytes-len.ensures ∙ four_be c.args.len (omega arith))
