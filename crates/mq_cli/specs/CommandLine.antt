-- The meaning of a command line.
use Rattle.std.specs.Prelude.{◌≡◌, ◌≢◌, ◌⊎◌, ◌≤◌, ℕ, Bool, true, false, List, [], length, map, Option, Some, None, option_map, unwrap_or, codes}
use Rattle.std.specs.Str.Parse.{IsNumeral, digits_value, without_leading_plus}
use Rattle.clap.specs.Words.{Row, Text, all_of, first_of, one_of}
use Rattle.mq_topic.specs.Qos.{qos_number}
use Rattle.mq_topic.specs.declared.qos.Qos.{Qos}
use Rattle.mq_cli.specs.declared.jobs.Job.{Job}
use Rattle.mq_cli.specs.declared.jobs.Job.TheVariants.{Show, ShowFrom, Check, Match, Replay, Random}
use Rattle.mq_cli.specs.declared.jobs.Source.{Source}
use Rattle.mq_cli.specs.declared.jobs.Source.TheVariants.{File, Standard}
use Rattle.mq_cli.specs.declared.jobs.Command.{Command}
use Rattle.mq_cli.specs.declared.jobs.Command.TheVariants as commands
use Rattle.mq_cli.specs.declared.broker.Broker.{Broker}
use Rattle.mq_cli.specs.declared.broker.DataFolder.{DataFolder}
use Rattle.mq_cli.specs.declared.broker.Durability.{Durability}
use Rattle.mq_cli.specs.declared.broker.Durability.TheVariants as failures
use Rattle.mq_cli.specs.declared.broker.OnFull.{OnFull}
use Rattle.mq_cli.specs.declared.broker.OnFull.TheVariants as choices
use Rattle.mq_cli.specs.declared.jobs.Serve.{Serve}
use Rattle.mq_cli.specs.declared.jobs.Publish.{Publish}
use Rattle.mq_cli.specs.declared.jobs.Collect.{Collect}
use Rattle.mq_cli.specs.declared.jobs.Draw.{Draw}

-- The command of this name was given, with this value for an argument, or none.
abbrev pub HasWord : Option (Text × List Row) → Text → Text → Option Text → Type 0
HasWord command name word value = (rows : List Row) × (command ≡ Some (name, rows)) × (first_of word rows ≡ value)

abbrev pub GivesWord : Option (Text × List Row) → Text → Text → Text → Type 0
GivesWord command name word value = HasWord command name word (Some value)

-- a word for a file is its name, but `-` is the standard input
abbrev pub IsSource : Text → Source → Type 0
IsSource word (File name) = (name.now ≡ word) × (word ≢ codes "-")
IsSource word Standard = word ≡ codes "-"

abbrev pub GivesSource : Option (Text × List Row) → Text → Text → Source → Type 0
GivesSource command name word source = (value : Text) × GivesWord command name word value × IsSource value source

-- The same for a number in decimal digits, with an optional `+` in front.
abbrev pub GivesNumber : Option (Text × List Row) → Text → Text → ℕ → Type 0
GivesNumber command name word number =
    (rows : List Row) × (digits : Text) × (command ≡ Some (name, rows)) × (one_of word rows ≡ Some digits)
    × IsNumeral 10 (without_leading_plus digits) × (digits_value 10 (without_leading_plus digits) ≡ number)

-- The value of a flag: whether it was given.
pub record IsFlag (value : Option Text) (flag : Bool) : Type 0 where
  pub given : value ≡ Some (codes "true") → flag ≡ true
  pub default : value ≡ Some (codes "false") → flag ≡ false
  pub none : value ≡ None → flag ≡ false

-- the command of this name was met, and whether the flag was given
abbrev pub GivesFlag : Option (Text × List Row) → Text → Text → Bool → Type 0
GivesFlag command name word flag = (rows : List Row) × (command ≡ Some (name, rows)) × IsFlag (one_of word rows) flag

-- Digits, if the argument is not `-`.
abbrev pub IsDigits : Option (Text × List Row) → Text → Type 0
IsDigits command hex = GivesWord command (codes "show") (codes "HEX") hex × (hex ≢ codes "-") × HasWord command (codes "show") (codes "FILE") None

-- in place of digits there is `-`, for the standard input, or `--file` and a file
abbrev pub IsShownFrom : Option (Text × List Row) → Source → Type 0
IsShownFrom command source =
    (GivesWord command (codes "show") (codes "HEX") (codes "-") × HasWord command (codes "show") (codes "FILE") None × (source ≡ Standard)) ⊎ (HasWord command (codes "show") (codes "HEX") None × GivesSource command (codes "show") (codes "FILE") source)

-- the job is that of the command that was met and of its values
abbrev pub IsJobOf : Option (Text × List Row) → Job → Type 0
IsJobOf command (Show hex lenient) = IsDigits command hex.now × GivesFlag command (codes "show") (codes "LENIENT") lenient
IsJobOf command (ShowFrom source lenient) = IsShownFrom command source × GivesFlag command (codes "show") (codes "LENIENT") lenient
IsJobOf command (Check source lenient) = GivesSource command (codes "check") (codes "FILE") source × GivesFlag command (codes "check") (codes "LENIENT") lenient
IsJobOf command (Match filter name) = GivesWord command (codes "match") (codes "FILTER") filter.now × GivesWord command (codes "match") (codes "NAME") name.now
IsJobOf command (Replay source) = GivesSource command (codes "replay") (codes "FILE") source × HasWord command (codes "replay") (codes "SVG") None
IsJobOf command (Random start steps) = GivesNumber command (codes "random") (codes "START") start × GivesNumber command (codes "random") (codes "STEPS") steps

-- the option `--qos` of this command has the number of this quality of service
abbrev pub GivesQos : Option (Text × List Row) → Text → Qos → Type 0
GivesQos command name qos = GivesNumber command name (codes "QOS") (qos_number qos)

-- the option `--id` of this command has this value, of 65,535 bytes at most (1.5.3)
abbrev pub GivesId : Option (Text × List Row) → Text → Text → Type 0
GivesId command name id = GivesWord command name (codes "ID") id × (length id ≤ 65535)

-- the command of this name was met, and these are all values of a word
abbrev pub GivesTexts : Option (Text × List Row) → Text → Text → List Text → Type 0
GivesTexts command name word texts = (rows : List Row) × (command ≡ Some (name, rows)) × (unwrap_or (all_of word rows) [] ≡ texts)

-- the words of `serve`, with 1 to 64 workers
pub record IsServe (command : Option (Text × List Row)) (serve : Serve) : Type 0 where
  pub port : GivesNumber command (codes "serve") (codes "PORT") serve.port
  pub connections : GivesNumber command (codes "serve") (codes "CONNECTIONS") serve.connections
  pub workers : GivesNumber command (codes "serve") (codes "WORKERS") serve.workers
  pub some : 1 ≤ serve.workers
  pub few : serve.workers ≤ 64

-- The words of `publish`. Without texts they name a session, and only a named session is forgotten.
pub record IsPublish (command : Option (Text × List Row)) (publish : Publish) : Type 0 where
  pub port : GivesNumber command (codes "publish") (codes "PORT") publish.port
  pub id : GivesId command (codes "publish") publish.id.now
  pub topic : GivesWord command (codes "publish") (codes "TOPIC") publish.topic.now
  pub qos : GivesQos command (codes "publish") publish.qos
  pub retain : GivesFlag command (codes "publish") (codes "RETAIN") publish.retain
  pub session : HasWord command (codes "publish") (codes "SESSION") (option_map (λ file. file.now) publish.session)
  pub texts : GivesTexts command (codes "publish") (codes "TEXT") (map (λ text. text.now) publish.texts.items)
  pub forget : GivesFlag command (codes "publish") (codes "FORGET") publish.forget
  pub some : publish.session ≡ None → publish.texts.items ≢ []
  pub named : publish.session ≡ None → publish.forget ≡ false

-- the words of `collect`
pub record IsCollect (command : Option (Text × List Row)) (collect : Collect) : Type 0 where
  pub port : GivesNumber command (codes "collect") (codes "PORT") collect.port
  pub id : GivesId command (codes "collect") collect.id.now
  pub filter : GivesWord command (codes "collect") (codes "FILTER") collect.filter.now
  pub qos : GivesQos command (codes "collect") collect.qos
  pub count : GivesNumber command (codes "collect") (codes "COUNT") collect.count
  pub clean : GivesFlag command (codes "collect") (codes "CLEAN") collect.clean

-- the number of this argument of `broker`, or its default if it was not given
abbrev pub IsLimit : Option (Text × List Row) → Text → ℕ → ℕ → Type 0
IsLimit command word default limit =
    GivesNumber command (codes "broker") word limit ⊎ (HasWord command (codes "broker") word None × (limit ≡ default))

-- a word is `never`, or a number of seconds that is not 0
abbrev pub IsTime : Text → Option ℕ → Type 0
IsTime word None = word ≡ codes "never"
IsTime word (Some seconds) =
    IsNumeral 10 (without_leading_plus word) × (digits_value 10 (without_leading_plus word) ≡ seconds) × (1 ≤ seconds)

-- the time within which a connection must send CONNECT, or 10 seconds if it was not given
abbrev pub IsPatience : Option (Text × List Row) → Option ℕ → Type 0
IsPatience command time =
    ((word : Text) × GivesWord command (codes "broker") (codes "CONNECT_WITHIN") word × IsTime word time)
    ⊎ (HasWord command (codes "broker") (codes "CONNECT_WITHIN") None × (time ≡ Some 10))

-- the time after which the session of an absent client is removed, or never if it was not given
abbrev pub IsExpiry : Option (Text × List Row) → Option ℕ → Type 0
IsExpiry command time =
    ((word : Text) × GivesWord command (codes "broker") (codes "SESSION_EXPIRY") word × IsTime word time)
    ⊎ (HasWord command (codes "broker") (codes "SESSION_EXPIRY") None × (time ≡ None))

-- the word of a choice
abbrev pub full_word : OnFull → Text
full_word choices.Drop = codes "drop"
full_word choices.Close = codes "close"

-- the treatment of a message for a full session, or `drop` if it was not given
abbrev pub IsOnFull : Option (Text × List Row) → OnFull → Type 0
IsOnFull command choice =
    GivesWord command (codes "broker") (codes "WHEN_FULL") (full_word choice)
    ⊎ (HasWord command (codes "broker") (codes "WHEN_FULL") None × (choice ≡ choices.Drop))

-- the word of a failure that a journal survives
abbrev pub keep_word : Durability → Text
keep_word failures.System = codes "system"
keep_word failures.Disk = codes "disk"

-- the failure that the journal survives, or `disk` if it was not given
abbrev pub IsKeep : Option (Text × List Row) → Durability → Type 0
IsKeep command choice =
    GivesWord command (codes "broker") (codes "KEEP") (keep_word choice)
    ⊎ (HasWord command (codes "broker") (codes "KEEP") None × (choice ≡ failures.Disk))

-- The folder of the journal. Without a folder the failure that it survives and the size of the
-- journal must not be given.
abbrev pub IsData : Option (Text × List Row) → Option DataFolder → Type 0
IsData command None =
    HasWord command (codes "broker") (codes "DATA") None × HasWord command (codes "broker") (codes "KEEP") None
    × HasWord command (codes "broker") (codes "JOURNAL_SIZE") None
IsData command (Some folder) =
    GivesWord command (codes "broker") (codes "DATA") folder.path.now × IsKeep command folder.keep
    × IsLimit command (codes "JOURNAL_SIZE") 67108864 folder.journal_size

-- the words of `broker`
pub record IsBroker (command : Option (Text × List Row)) (broker : Broker) : Type 0 where
  pub listen : HasWord command (codes "broker") (codes "LISTEN") (option_map (λ text. text.now) broker.listen)
  pub max_connections : IsLimit command (codes "MAX_CONNECTIONS") 10000 broker.max_connections
  pub max_sessions : IsLimit command (codes "MAX_SESSIONS") 100000 broker.max_sessions
  pub max_packet : IsLimit command (codes "MAX_PACKET") 1048576 broker.max_packet
  pub capacity : IsLimit command (codes "CAPACITY") 1000 broker.capacity
  pub max_stored : IsLimit command (codes "MAX_STORED") 16777216 broker.max_stored
  pub max_waiting : IsLimit command (codes "MAX_WAITING") 1048576 broker.max_waiting
  pub max_matches : IsLimit command (codes "MAX_MATCHES") 1000000 broker.max_matches
  pub session_expiry : IsExpiry command broker.session_expiry
  pub connect_within : IsPatience command broker.connect_within
  pub when_full : IsOnFull command broker.when_full
  pub passwords : HasWord command (codes "broker") (codes "PASSWORDS") (option_map (λ file. file.now) broker.passwords)
  pub metrics : HasWord command (codes "broker") (codes "METRICS") (option_map (λ text. text.now) broker.metrics)
  pub journal : IsData command broker.journal
  pub log : HasWord command (codes "broker") (codes "LOG") (option_map (λ file. file.now) broker.log)
  pub quiet : GivesFlag command (codes "broker") (codes "QUIET") broker.quiet
  pub verbose : GivesFlag command (codes "broker") (codes "VERBOSE") broker.verbose

-- the words of `replay` with `--svg`
pub record IsDraw (command : Option (Text × List Row)) (draw : Draw) : Type 0 where
  pub source : GivesSource command (codes "replay") (codes "FILE") draw.source
  pub image : GivesWord command (codes "replay") (codes "SVG") draw.image.now

-- the command of this name was met
abbrev pub IsMet : Option (Text × List Row) → Text → Type 0
IsMet command name = (rows : List Row) × (command ≡ Some (name, rows))

-- the command that was met, and its values, are this one
abbrev pub IsCommandOf : Option (Text × List Row) → Command → Type 0
IsCommandOf command (commands.Job job) = IsJobOf command job
IsCommandOf command (commands.Serve serve) = IsServe command serve
IsCommandOf command (commands.Broker broker) = IsBroker command broker
IsCommandOf command (commands.Journal name) = GivesWord command (codes "journal") (codes "FILE") name.now
IsCommandOf command (commands.Password name) = GivesWord command (codes "password") (codes "NAME") name.now
IsCommandOf command (commands.Publish publish) = IsPublish command publish
IsCommandOf command (commands.Collect collect) = IsCollect command collect
IsCommandOf command (commands.Loopback source) = GivesSource command (codes "loopback") (codes "FILE") source
IsCommandOf command (commands.Draw draw) = IsDraw command draw
IsCommandOf command commands.Completion = GivesWord command (codes "completion") (codes "SHELL") (codes "bash")
IsCommandOf command commands.Manual = IsMet command (codes "manual")

-- The source of the bytes that a job reads.
abbrev pub job_source : Job → Option Source
job_source (Show hex lenient) = None
job_source (ShowFrom source lenient) = Some source
job_source (Check source lenient) = Some source
job_source (Match filter name) = None
job_source (Replay source) = Some source
job_source (Random start steps) = None
