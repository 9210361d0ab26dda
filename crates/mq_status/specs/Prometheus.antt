-- Metrics in the text format of Prometheus, version 0.0.4: families of samples, each with a line of
-- help and a line with its type.
use Rattle.std.specs.Prelude.{ℕ, ◌+◌, ◌-◌, ◌/◌, ◌%◌, List, [], ◌∷◌, ◌++◌, length, replicate, slice_index, codes, decimal}
use Rattle.std.specs.List.{flat_map}
use Rattle.mq_status.specs.Counting.{Numbers}
use Rattle.mq_status.specs.declared.metrics.Gauges.{Gauges}

-- the two lines at the head of a family
abbrev pub head_text : List ℕ → List ℕ → List ℕ → List ℕ
head_text name help kind =
    codes "# HELP " ++ (name ++ (codes " " ++ (help ++ (codes "\n# TYPE " ++ (name ++ (codes " " ++ (kind ++ codes "\n")))))))

-- a sample whose label `key` has the value `label`
abbrev pub sample_text : List ℕ → List ℕ → List ℕ → ℕ → List ℕ
sample_text name key label value =
    name ++ (codes "{" ++ (key ++ (codes "=\"" ++ (label ++ (codes "\"} " ++ (decimal value ++ codes "\n"))))))

-- a family of counters, with the values of its label
abbrev pub family_text : List ℕ → List ℕ → List ℕ → List (List ℕ × ℕ) → List ℕ
family_text name help key samples =
    head_text name help (codes "counter") ++ flat_map (λ sample. sample_text name key sample.0 sample.1) samples

-- a family of one sample without a label
abbrev pub single_text : List ℕ → List ℕ → List ℕ → ℕ → List ℕ
single_text name help kind value = head_text name help kind ++ (name ++ (codes " " ++ (decimal value ++ codes "\n")))

-- ---- counters

-- a label, and the count at a place
abbrev pub at : List ℕ → List ℕ → ℕ → List ℕ × ℕ
at counts label place = (label, slice_index counts place)

abbrev pub by_qos_text : List ℕ → List ℕ → List ℕ → ℕ → List ℕ
by_qos_text name help counts place =
    family_text name help (codes "qos")
    (at counts (codes "0") place ∷ at counts (codes "1") (place + 1) ∷ at counts (codes "2") (place + 2) ∷ [])

abbrev pub messages_text : List ℕ → List ℕ
messages_text counts =
    by_qos_text (codes "mqtt_messages_in_total") (codes "Messages accepted from clients.") counts 0
    ++ (by_qos_text (codes "mqtt_message_bytes_in_total") (codes "Topic and payload bytes of messages accepted from clients.") counts 3
    ++ (by_qos_text (codes "mqtt_messages_out_total") (codes "Copies of messages placed for clients.") counts 6
    ++ by_qos_text (codes "mqtt_message_bytes_out_total") (codes "Topic and payload bytes of copies placed for clients.") counts 9))

abbrev pub missed_text : List ℕ → List ℕ
missed_text counts =
    family_text (codes "mqtt_messages_missed_total") (codes "Copies that a client missed.") (codes "reason")
    (at counts (codes "session_full") 12 ∷ at counts (codes "output_full") 13 ∷ [])

abbrev pub closed_text : List ℕ → List ℕ
closed_text counts =
    family_text (codes "mqtt_connections_closed_total") (codes "Connections closed, by reason.") (codes "code")
    (at counts (codes "C1") 14 ∷ at counts (codes "C2") 15 ∷ at counts (codes "C3") 16 ∷ at counts (codes "C4") 17
    ∷ at counts (codes "C5") 18 ∷ at counts (codes "C6") 19 ∷ at counts (codes "C7") 20 ∷ at counts (codes "C8") 21
    ∷ at counts (codes "C9") 22 ∷ at counts (codes "C10") 23 ∷ at counts (codes "C11") 24 ∷ at counts (codes "C12") 25
    ∷ at counts (codes "C13") 26 ∷ [])

abbrev pub refused_text : List ℕ → List ℕ
refused_text counts =
    family_text (codes "mqtt_connects_refused_total") (codes "CONNECT packets refused, by return code.") (codes "code")
    (at counts (codes "1") 27 ∷ at counts (codes "2") 28 ∷ at counts (codes "3") 29 ∷ at counts (codes "4") 30 ∷ at counts (codes "5") 31 ∷ [])

abbrev pub sessions_text : List ℕ → List ℕ
sessions_text counts =
    single_text (codes "mqtt_connects_accepted_total") (codes "CONNECT packets accepted.") (codes "counter") (slice_index counts 32)
    ++ (single_text (codes "mqtt_sessions_ended_total") (codes "Sessions removed.") (codes "counter") (slice_index counts 33)
    ++ (single_text (codes "mqtt_subscribes_total") (codes "Subscriptions stored.") (codes "counter") (slice_index counts 34)
    ++ (single_text (codes "mqtt_unsubscribes_total") (codes "Subscriptions removed by UNSUBSCRIBE.") (codes "counter") (slice_index counts 35))))

abbrev pub wills_text : List ℕ → List ℕ
wills_text counts =
    single_text (codes "mqtt_wills_total") (codes "Wills published.") (codes "counter") (slice_index counts 36)
    ++ single_text (codes "mqtt_wills_dropped_total") (codes "Wills dropped.") (codes "counter") (slice_index counts 37)

abbrev pub traffic_text : List ℕ → List ℕ
traffic_text counts =
    single_text (codes "mqtt_bytes_read_total") (codes "Bytes read from connections.") (codes "counter") (slice_index counts 38)
    ++ (single_text (codes "mqtt_bytes_written_total") (codes "Bytes written to connections.") (codes "counter") (slice_index counts 39)
    ++ single_text (codes "mqtt_connections_turned_away_total") (codes "Connections closed at once because there were too many.") (codes "counter") (slice_index counts 40))

-- a number with zeros before it, up to six digits
abbrev pub six_digits : ℕ → List ℕ
six_digits number = replicate (6 - length (decimal number)) 48 ++ decimal number

-- the line of the rounds' time: microseconds as seconds with six decimals
abbrev pub seconds_text : ℕ → List ℕ
seconds_text microseconds =
    codes "mqtt_round_seconds_sum " ++ (decimal (microseconds / 1000000)
    ++ (codes "." ++ (six_digits (microseconds % 1000000) ++ codes "\n")))

abbrev pub rounds_text : List ℕ → List ℕ
rounds_text counts =
    head_text (codes "mqtt_round_seconds") (codes "Time of the event loop's rounds, without waiting.") (codes "summary")
    ++ (seconds_text (slice_index counts 42)
    ++ (codes "mqtt_round_seconds_count " ++ (decimal (slice_index counts 41) ++ codes "\n")))

abbrev pub counters_text : List ℕ → List ℕ
counters_text counts =
    messages_text counts ++ (missed_text counts
    ++ (closed_text counts
    ++ (refused_text counts
    ++ (sessions_text counts
    ++ (wills_text counts
    ++ (traffic_text counts ++ rounds_text counts))))))

-- ---- gauges

abbrev pub gauges_text : Gauges → List ℕ
gauges_text gauges =
    single_text (codes "mqtt_connections") (codes "Connections that are open.") (codes "gauge") gauges.connections
    ++ (single_text (codes "mqtt_sessions") (codes "Sessions that are stored.") (codes "gauge") gauges.sessions
    ++ (single_text (codes "mqtt_subscriptions") (codes "Subscriptions that are stored.") (codes "gauge") gauges.subscriptions
    ++ single_text (codes "mqtt_retained_messages") (codes "Retained messages.") (codes "gauge") gauges.retained))

abbrev pub memory_text : Gauges → List ℕ
memory_text gauges =
    single_text (codes "mqtt_stored_messages") (codes "Messages stored in sessions.") (codes "gauge") gauges.stored_messages
    ++ single_text (codes "mqtt_pending_bytes") (codes "Bytes pending on connections.") (codes "gauge") gauges.pending_bytes

-- ---- all metrics

abbrev pub prometheus_text : Numbers → List ℕ
prometheus_text numbers = gauges_text numbers.gauges ++ (memory_text numbers.gauges ++ counters_text numbers.counts)
