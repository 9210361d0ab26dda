-- Requests and their responses (RFC 9110, RFC 9112).
use Rattle.std.specs.Prelude.{◌≡◌, ◌≤◌, ◌<◌, ℕ, Bool, false, ◌||◌, nat_le, List, length, codes, if◌then◌else◌}
use Rattle.std.specs.Str.{bytes_eq}
use Rattle.httparse.specs.Grammar.{RequestHead, ReadsRequest, HasNoRequest, MayBecomeRequest, print_request}
use Rattle.httparse.specs.Spans.{RequestOverflows}
use Rattle.mq_status.specs.declared.http.Answer.{Answer}
use Rattle.mq_status.specs.declared.http.Answer.TheVariants.{Pending, Close, Respond}
use Rattle.mq_status.specs.declared.http.Reply.{Reply}
use Rattle.mq_status.specs.declared.http.Resource.TheVariants.{Page, Metrics}
use Rattle.mq_status.specs.declared.http.Status.{Status}
use Rattle.mq_status.specs.declared.http.Status.TheVariants as statuses

-- the path is one of two, or is not found
abbrev pub path_status : List ℕ → Status
path_status path =
    if bytes_eq path (codes "/") then statuses.Ok Page
    else if bytes_eq path (codes "/metrics") then statuses.Ok Metrics
    else statuses.NotFound

abbrev pub is_head : List ℕ → Bool
is_head method = bytes_eq method (codes "HEAD")

-- only GET and HEAD are allowed
abbrev pub status_of : List ℕ → List ℕ → Status
status_of method path =
    if is_head method || bytes_eq method (codes "GET") then path_status path else statuses.MethodNotAllowed

-- the response to HEAD has no body
abbrev pub reply_of : List ℕ → List ℕ → Reply
reply_of method path = record { status = status_of method path; head_only = is_head method }

-- the answer to a whole head of at most 8,192 bytes is its response; to a longer one, a close
abbrev pub answer_to : RequestHead → Answer
answer_to head =
    if nat_le (length (print_request head)) 8192 then Respond (reply_of head.method head.target) else Close

-- the response to bytes that are not the head of a request
abbrev pub refused : Answer
refused = Respond (record { status = statuses.BadRequest; head_only = false })

-- The answer to the bytes that have arrived.
pub record Answers (received : List ℕ) (answer : Answer) : Type 0 where
  -- A head with at most 64 fields is answered, whatever follows it.
  pub complete : (head : RequestHead) (rest : List ℕ) → ReadsRequest received head rest
      → length head.fields ≤ 64 → answer ≡ answer_to head
  -- More is awaited only if there is no head yet, more bytes can make one, and fewer than 8,192
  -- bytes have arrived.
  pub pending : answer ≡ Pending
      → HasNoRequest received × MayBecomeRequest received × (length received < 8192)
  -- The connection is closed only after 8,192 bytes, if no head of at most 8,192 bytes is there.
  pub close : answer ≡ Close → (8192 ≤ length received)
      × ((head : RequestHead) (rest : List ℕ) → ReadsRequest received head rest → 8192 < length (print_request head))
  -- Bytes are refused only if no head with at most 64 fields can come of them.
  pub bad : answer ≡ refused → RequestOverflows 64 received
