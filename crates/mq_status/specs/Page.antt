-- The status page.
use Rattle.std.specs.Prelude.{ℕ, ◌+◌, List, [], ◌∷◌, ◌++◌, take, slice_index, codes, decimal}
use Rattle.std.specs.List.{flat_map}
use Rattle.mq_status.specs.Counting.{Numbers}
use Rattle.mq_status.specs.Html.{html_escaped}
use Rattle.mq_status.specs.Prometheus.{at}
use Rattle.mq_status.specs.declared.metrics.Gauges.{Gauges}
use Rattle.mq_status.specs.declared.page.TheConstants.{HEAD, MESSAGES, SESSIONS}
use Rattle.mq_status.specs.declared.page.RowState.{RowState}
use Rattle.mq_status.specs.declared.page.RowState.TheVariants as states
use Rattle.mq_status.specs.declared.page.SessionRow.{SessionRow}

abbrev pub state_word : RowState → List ℕ
state_word states.Connected = codes "connected"
state_word states.Away = codes "away"
state_word states.Full = codes "full"
state_word states.Slow = codes "slow"

-- a session's row; the client identifier is escaped
abbrev pub row_text : SessionRow → List ℕ
row_text row =
    codes "<tr><td>" ++ (html_escaped row.client
    ++ (codes "<td>" ++ (decimal row.stored_messages
    ++ (codes "<td>" ++ (decimal row.pending_bytes
    ++ (codes "<td>" ++ (decimal row.missed
    ++ (codes "<td>" ++ (state_word row.state ++ codes "\n")))))))))

-- ---- lists

abbrev pub title_text : List ℕ → List ℕ
title_text title = codes "<h2>" ++ (title ++ codes "</h2>\n<table>\n")

-- a heading and its number
abbrev pub item_text : List ℕ → ℕ → List ℕ
item_text heading number = codes "<tr><th>" ++ (heading ++ (codes "<td>" ++ (decimal number ++ codes "\n")))

-- a list under a title
abbrev pub list_text : List ℕ → List (List ℕ × ℕ) → List ℕ
list_text title items = title_text title ++ (flat_map (λ item. item_text item.0 item.1) items ++ codes "</table>\n")

abbrev pub gauges_text : Gauges → List ℕ
gauges_text gauges =
    list_text (codes "Now")
    ((codes "connections", gauges.connections) ∷ (codes "sessions", gauges.sessions) ∷ (codes "subscriptions", gauges.subscriptions)
    ∷ (codes "retained messages", gauges.retained) ∷ (codes "stored messages", gauges.stored_messages) ∷ (codes "pending bytes", gauges.pending_bytes) ∷ [])

abbrev pub missed_text : List ℕ → List ℕ
missed_text counts = list_text (codes "Missed") (at counts (codes "session full") 12 ∷ at counts (codes "output full") 13 ∷ [])

abbrev pub closed_text : List ℕ → List ℕ
closed_text counts =
    list_text (codes "Closed")
    (at counts (codes "malformed packet (C1)") 14 ∷ at counts (codes "unexpected packet (C2)") 15 ∷ at counts (codes "CONNECT refused (C3)") 16
    ∷ at counts (codes "session lost (C4)") 17 ∷ at counts (codes "keep-alive expired (C5)") 18 ∷ at counts (codes "out of memory (C6)") 19
    ∷ at counts (codes "client disconnected (C7)") 20 ∷ at counts (codes "session full (C8)") 21 ∷ at counts (codes "client connected again (C9)") 22
    ∷ at counts (codes "connection ended by peer (C10)") 23 ∷ at counts (codes "receive window exceeded (C11)") 24 ∷ at counts (codes "no CONNECT in time (C12)") 25
    ∷ at counts (codes "too many retained messages (C13)") 26 ∷ [])

abbrev pub refused_text : List ℕ → List ℕ
refused_text counts =
    list_text (codes "Refused")
    (at counts (codes "unacceptable protocol version (1)") 27 ∷ at counts (codes "identifier rejected (2)") 28 ∷ at counts (codes "server unavailable (3)") 29
    ∷ at counts (codes "bad user name or password (4)") 30 ∷ at counts (codes "not authorized (5)") 31 ∷ [])

abbrev pub totals_text : List ℕ → List ℕ
totals_text counts =
    list_text (codes "Total")
    (at counts (codes "connects accepted") 32 ∷ at counts (codes "sessions ended") 33 ∷ at counts (codes "subscriptions stored") 34
    ∷ at counts (codes "subscriptions removed") 35 ∷ at counts (codes "wills published") 36 ∷ at counts (codes "wills dropped") 37
    ∷ at counts (codes "bytes read") 38 ∷ at counts (codes "bytes written") 39 ∷ at counts (codes "connections turned away") 40
    ∷ at counts (codes "rounds") 41 ∷ at counts (codes "microseconds in rounds") 42 ∷ [])

-- ---- tables

-- a heading, and the counts for each quality of service, the first at a place
abbrev pub by_qos_row : List ℕ → List ℕ → ℕ → List ℕ
by_qos_row heading counts place =
    codes "<tr><th>" ++ (heading ++ (codes "<td>" ++ (decimal (slice_index counts place)
    ++ (codes "<td>" ++ (decimal (slice_index counts (place + 1))
    ++ (codes "<td>" ++ (decimal (slice_index counts (place + 2)) ++ codes "\n")))))))

abbrev pub messages_text : List ℕ → List ℕ
messages_text counts =
    (MESSAGES.now ++ codes "\n") ++ (by_qos_row (codes "messages in") counts 0
    ++ (by_qos_row (codes "bytes in") counts 3
    ++ (by_qos_row (codes "messages out") counts 6
    ++ (by_qos_row (codes "bytes out") counts 9 ++ codes "</table>\n"))))

abbrev pub sessions_text : List SessionRow → List ℕ
sessions_text rows = (SESSIONS.now ++ codes "\n") ++ (flat_map row_text rows ++ codes "</table></div>\n")

-- ---- the page

abbrev pub connections_text : List ℕ → List ℕ
connections_text counts = closed_text counts ++ (refused_text counts ++ totals_text counts)

-- the page with these numbers, and the first twenty of these rows in their order
abbrev pub page_text : Numbers → List SessionRow → List ℕ
page_text numbers rows =
    (HEAD.now ++ codes "\n") ++ (gauges_text numbers.gauges
    ++ (messages_text numbers.counts
    ++ (missed_text numbers.counts
    ++ (sessions_text (take 20 rows)
    ++ (connections_text numbers.counts ++ codes "</main>\n")))))
