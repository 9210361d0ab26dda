-- Responses (RFC 9110, RFC 9112).
use Rattle.std.specs.Prelude.{ℕ, List, [], ◌++◌, length, codes, decimal, if◌then◌else◌}
use Rattle.mq_status.specs.Counting.{Numbers}
use Rattle.mq_status.specs.Page.{page_text}
use Rattle.mq_status.specs.Prometheus.{prometheus_text}
use Rattle.mq_status.specs.declared.http.Reply.{Reply}
use Rattle.mq_status.specs.declared.http.Resource.TheVariants.{Page, Metrics}
use Rattle.mq_status.specs.declared.http.Status.{Status}
use Rattle.mq_status.specs.declared.http.Status.TheVariants as statuses
use Rattle.mq_status.specs.declared.page.SessionRow.{SessionRow}

-- the end of the status line, and the methods that are allowed
abbrev pub status_lines : Status → List ℕ
status_lines (statuses.Ok resource) = codes "200 OK"
status_lines statuses.BadRequest = codes "400 Bad Request"
status_lines statuses.NotFound = codes "404 Not Found"
status_lines statuses.MethodNotAllowed = codes "405 Method Not Allowed\r\nAllow: GET, HEAD"

abbrev pub content_type : Status → List ℕ
content_type (statuses.Ok Page) = codes "text/html; charset=utf-8"
content_type (statuses.Ok Metrics) = codes "text/plain; version=0.0.4; charset=utf-8"
content_type statuses.BadRequest = codes "text/plain; charset=utf-8"
content_type statuses.NotFound = codes "text/plain; charset=utf-8"
content_type statuses.MethodNotAllowed = codes "text/plain; charset=utf-8"

abbrev pub body_text : Status → Numbers → List SessionRow → List ℕ
body_text (statuses.Ok Page) numbers rows = page_text numbers rows
body_text (statuses.Ok Metrics) numbers rows = prometheus_text numbers
body_text statuses.BadRequest numbers rows = codes "bad request\n"
body_text statuses.NotFound numbers rows = codes "not found\n"
body_text statuses.MethodNotAllowed numbers rows = codes "method not allowed\n"

-- the head of a response whose body has this length
abbrev pub head_lines : Status → ℕ → List ℕ
head_lines status size =
    codes "HTTP/1.1 " ++ (status_lines status
    ++ (codes "\r\nContent-Type: " ++ (content_type status
    ++ (codes "\r\nContent-Length: " ++ (decimal size
    ++ codes "\r\nCache-Control: no-store\r\nConnection: close\r\n\r\n")))))

-- the response: its head, and its body unless the method is HEAD
abbrev pub response_text : Reply → Numbers → List SessionRow → List ℕ
response_text reply numbers rows =
    let body = body_text reply.status numbers rows in
    head_lines reply.status (length body) ++ (if reply.head_only then [] else body)
