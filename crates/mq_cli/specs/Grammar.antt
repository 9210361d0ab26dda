-- The command line: its commands, and the words of each.
use Rattle.std.specs.Prelude.{pos, true, Some, codes}
use Rattle.clap.specs.Simple.{on_top}
use Rattle.clap.specs.Words.{App, Rule, Text, new_app, new_rule, with_rule, with_subcommand}
use Rattle.clap.specs.declared.builder.action.ArgAction.TheVariants.{Append, SetTrue}
use Rattle.clap.specs.declared.builder.value_parser.ValueParser.{ValueParser}
use Rattle.clap.specs.declared.builder.value_parser.ValueParser.TheVariants.{Signed, Unsigned}

-- a command with one argument, which is required
abbrev pub word_words : Text → Text → App
word_words name word = with_rule (new_app name) (record (new_rule word) { required = true })

-- `match FILTER NAME`
abbrev pub match_words : App
match_words = with_rule (word_words (codes "match") (codes "FILTER")) (record (new_rule (codes "NAME")) { required = true })

-- a flag
abbrev pub flag_rule : Text → Text → Rule
flag_rule word name = record (new_rule word) { long = Some name; action = Some SetTrue }

-- the flag `--lenient`
abbrev pub lenient_rule : Rule
lenient_rule = flag_rule (codes "LENIENT") (codes "lenient")

-- `check [--lenient] FILE`
abbrev pub check_words : App
check_words = with_rule (word_words (codes "check") (codes "FILE")) lenient_rule

-- an option with the name of a file
abbrev pub file_rule : Text → Text → Rule
file_rule word name = record (new_rule word) { long = Some name }

-- `show [--lenient] HEX`, or `--file FILE` in place of the digits
abbrev pub show_words : App
show_words = with_rule (with_rule (with_rule (new_app (codes "show")) (new_rule (codes "HEX"))) (file_rule (codes "FILE") (codes "file"))) lenient_rule

-- `replay FILE [--svg SVG]`
abbrev pub replay_words : App
replay_words = with_rule (word_words (codes "replay") (codes "FILE")) (file_rule (codes "SVG") (codes "svg"))

-- an option with a number of this kind, which is required
abbrev pub number_rule : Text → Text → ValueParser → Rule
number_rule word name kind = record (new_rule word) { long = Some name; parser = Some kind; required = true }

-- `random --start START --steps STEPS`: a number of 64 bits, and one of 32
abbrev pub random_words : App
random_words = with_rule (with_rule (new_app (codes "random")) (number_rule (codes "START") (codes "start") (Unsigned 0 18446744073709551615))) (number_rule (codes "STEPS") (codes "steps") (Signed (pos 0) (pos 4294967295)))

-- an option with a text, which is required
abbrev pub text_rule : Text → Text → Rule
text_rule word name = record (new_rule word) { long = Some name; required = true }

-- `--port PORT`: a number of 16 bits
abbrev pub port_rule : Rule
port_rule = number_rule (codes "PORT") (codes "port") (Signed (pos 0) (pos 65535))

-- `--qos QOS`: at most 2
abbrev pub qos_rule : Rule
qos_rule = number_rule (codes "QOS") (codes "qos") (Signed (pos 0) (pos 2))

-- `serve --port PORT --connections CONNECTIONS --workers WORKERS`: a number of 32 bits, and one
-- from 1 to 64
abbrev pub serve_words : App
serve_words = with_rule (with_rule (with_rule (new_app (codes "serve")) port_rule) (number_rule (codes "CONNECTIONS") (codes "connections") (Signed (pos 0) (pos 4294967295)))) (number_rule (codes "WORKERS") (codes "workers") (Signed (pos 1) (pos 64)))

-- the options of a client: `--port PORT --id ID`, one for its topic name or filter, and `--qos QOS`
abbrev pub client_words : Text → Rule → App
client_words name topics = with_rule (with_rule (with_rule (with_rule (new_app name) port_rule) (text_rule (codes "ID") (codes "id"))) topics) qos_rule

-- any number of words TEXT
abbrev pub texts_rule : Rule
texts_rule = record (new_rule (codes "TEXT")) { action = Some Append }

-- `publish`, of a client with `--topic TOPIC`, and `[--retain] [--session FILE] [--forget] TEXT..`
abbrev pub publish_words : App
publish_words =
    with_rule (with_rule (with_rule (with_rule (client_words (codes "publish") (text_rule (codes "TOPIC") (codes "topic"))) (flag_rule (codes "RETAIN") (codes "retain"))) (file_rule (codes "SESSION") (codes "session"))) (flag_rule (codes "FORGET") (codes "forget"))) texts_rule

-- `collect`, of a client with `--filter FILTER`, and `--count COUNT [--clean]`
abbrev pub collect_words : App
collect_words =
    with_rule (with_rule (client_words (codes "collect") (text_rule (codes "FILTER") (codes "filter"))) (number_rule (codes "COUNT") (codes "count") (Signed (pos 0) (pos 4294967295)))) (flag_rule (codes "CLEAN") (codes "clean"))

-- the program, whose first word is a command
abbrev pub bare_words : App
bare_words = on_top (λ s. record s { has_version = true; subcommand_required = true; arg_required_else_help = true }) (new_app (codes "mqtt"))

-- the program's name, and one of its commands: `show`, `check`
abbrev pub stream_words : App
stream_words = with_subcommand (with_subcommand bare_words show_words.top) check_words.top

-- `match`, `replay`, `random`
abbrev pub job_words : App
job_words = with_subcommand (with_subcommand (with_subcommand stream_words match_words.top) replay_words.top) random_words.top

-- `serve`, `publish`, `collect`
abbrev pub socket_words : App
socket_words = with_subcommand (with_subcommand (with_subcommand job_words serve_words.top) publish_words.top) collect_words.top

-- an option with a number of this kind
abbrev pub limit_rule : Text → Text → ValueParser → Rule
limit_rule word name kind = record (new_rule word) { long = Some name; parser = Some kind }

-- the numbers of connections, sessions, and comparisons of filters with retained messages: numbers
-- of 32 bits
abbrev pub with_tables : App → App
with_tables app =
    with_rule (with_rule (with_rule app (limit_rule (codes "MAX_CONNECTIONS") (codes "max-connections") (Signed (pos 0) (pos 4294967295)))) (limit_rule (codes "MAX_SESSIONS") (codes "max-sessions") (Signed (pos 0) (pos 4294967295)))) (limit_rule (codes "MAX_MATCHES") (codes "max-matches") (Signed (pos 0) (pos 4294967295)))

-- the limits of packets, sessions and pending output
abbrev pub with_limits : App → App
with_limits app =
    with_rule (with_rule (with_rule app (limit_rule (codes "MAX_PACKET") (codes "max-packet") (Signed (pos 64) (pos 268435455)))) (limit_rule (codes "CAPACITY") (codes "capacity") (Signed (pos 1) (pos 65535)))) (limit_rule (codes "MAX_WAITING") (codes "max-waiting") (Signed (pos 0) (pos 4294967295)))

-- the bytes that a session stores, and the time after which it is removed
abbrev pub with_sessions : App → App
with_sessions app =
    with_rule (with_rule app (limit_rule (codes "MAX_STORED") (codes "max-stored") (Signed (pos 0) (pos 4294967295)))) (file_rule (codes "SESSION_EXPIRY") (codes "session-expiry"))

-- the time within which a connection must send CONNECT, and the treatment of full sessions
abbrev pub with_patience : App → App
with_patience app = with_rule (with_rule app (file_rule (codes "CONNECT_WITHIN") (codes "connect-within"))) (file_rule (codes "WHEN_FULL") (codes "when-full"))

-- the file of the passwords, and the address of the metrics
abbrev pub with_extras : App → App
with_extras app = with_rule (with_rule app (file_rule (codes "PASSWORDS") (codes "passwords"))) (file_rule (codes "METRICS") (codes "metrics"))

-- the file of the log, and its lines
abbrev pub with_logs : App → App
with_logs app =
    with_rule (with_rule (with_rule app (file_rule (codes "LOG") (codes "log"))) (flag_rule (codes "QUIET") (codes "quiet"))) (flag_rule (codes "VERBOSE") (codes "verbose"))

-- the folder of the journal, and the failure that it survives
abbrev pub with_data : App → App
with_data app = with_rule (with_rule app (file_rule (codes "DATA") (codes "data"))) (file_rule (codes "KEEP") (codes "keep"))

-- the size of the journal
abbrev pub with_journal : App → App
with_journal app = with_rule app (limit_rule (codes "JOURNAL_SIZE") (codes "journal-size") (Signed (pos 0) (pos 4294967295)))

-- `broker`, whose options can all be left out
abbrev pub broker_words : App
broker_words = with_logs (with_journal (with_data (with_extras (with_patience (with_sessions (with_limits (with_tables (with_rule (new_app (codes "broker")) (file_rule (codes "LISTEN") (codes "listen"))))))))))

-- `broker`, `journal FILE`, `password NAME`, `loopback FILE`
abbrev pub served_words : App
served_words = with_subcommand (with_subcommand (with_subcommand (with_subcommand socket_words broker_words.top) (word_words (codes "journal") (codes "FILE")).top) (word_words (codes "password") (codes "NAME")).top) (word_words (codes "loopback") (codes "FILE")).top

-- `completion SHELL`, `manual`
abbrev pub program_words : App
program_words = with_subcommand (with_subcommand served_words (word_words (codes "completion") (codes "SHELL")).top) (new_app (codes "manual")).top
