-- Heads that are too long.
use Rattle.std.proofs.Common.{◌≡◌, ℕ, ◌<◌, ◌≤◌, false, nat_le, List, length, refl, subst, arith}
use Rattle.std.proofs.lemmas.Bool.Decides.{nat_tests}
use Rattle.httparse.specs.declared.spans.HeaderSpan.{HeaderSpan}
use Rattle.httparse.specs.declared.spans.RequestSpans.{RequestSpans}
use Rattle.httparse.specs.Grammar.{RequestHead, ReadsRequest, print_request}
use Rattle.httparse.specs.Spans.{IsRequestAt, IsRequestOf, IsRequestWithin}
use Rattle.httparse.proofs.GrammarLemmas.{request_unique}
use Rattle.mq_status.specs.Http.{Answers}
use Rattle.mq_status.specs.declared.http.Answer.TheVariants.{Close}

-- each head of the bytes is as long as the one that was found
longer : (received : List ℕ) (headers : List HeaderSpan) (spans : RequestSpans) (found head : RequestHead) (rest : List ℕ)
    → IsRequestAt received headers spans found → 8192 < spans.len → ReadsRequest received head rest
    → 8192 < length (print_request head)
longer received headers spans found head rest at big reads =
    let size : spans.len ≡ length (print_request found) = at.len in
    let long : 8192 < length (print_request found) = omega arith in
    subst (λ (h : RequestHead). 8192 < length (print_request h))
    (request_unique received found head _ rest at.reads reads).0 long

pub too_long : (received : List ℕ) (headers : List HeaderSpan) (spans : RequestSpans)
    → IsRequestOf received headers spans → IsRequestWithin received headers spans → 8192 < spans.len
    → Answers received Close
too_long received headers spans of within big =
    let fits : spans.len ≤ length received = within.section.len_fits in
    record {
      complete = λ head rest reads few.
          let long : 8192 < length (print_request head) = longer received headers spans of.0 head rest of.1 big reads in
          let off : nat_le (length (print_request head)) 8192 ≡ false = grind (arith, nat_tests) in
          rw off refl;
      pending = λ is. cc;
      close = λ is. (omega arith, λ head rest reads. longer received headers spans of.0 head rest of.1 big reads);
      bad = λ is. cc;
    }
