-- The meaning of options, for the matches of the parser.
use Rattle.std.specs.Prelude.{◌≡◌, ◌≢◌, ◌⊎◌, ◌≤◌, ◌<◌, ◌^◌, ℕ, Bool, true, false, List, [], ◌∷◌, ◌++◌, length, map, Option, Some, None, not, option_map, unwrap_or, is_some, codes, string_bytes}
use Rattle.std.specs.Str.Parse.{IsNumeral, digits_value, without_leading_plus}
use Rattle.clap.specs.Words.{Text, first_value, matched_of, one_text, raw_values}
use Rattle.clap.specs.declared.parser.matches.Found.{Found}
use Rattle.mq_topic.specs.Qos.{qos_from}
use Rattle.mq_topic.specs.declared.qos.Qos.{Qos}
use Rattle.mq_topic.specs.declared.qos.Qos.TheVariants.{Q0}
use Rattle.mq_format.specs.declared.format.Format.{Format}
use Rattle.mq_format.specs.declared.style.Style.{Style}
use Rattle.mq_format.specs.declared.style.Style.TheVariants as styles
use Rattle.mq_format.specs.Reading.{Reads}
use Rattle.mq_pubsub_options.specs.Seconds.{IsDuration}
use Rattle.mq_pubsub_options.specs.declared.common.Common.{Common}
use Rattle.mq_pubsub_options.specs.declared.common.WillOptions.{WillOptions}
use Rattle.mq_pubsub_options.specs.declared.publishing.Payloads.{Payloads}
use Rattle.mq_pubsub_options.specs.declared.publishing.Payloads.TheVariants as payloads
use Rattle.mq_pubsub_options.specs.declared.publishing.PublishWords.{PublishWords}
use Rattle.mq_pubsub_options.specs.declared.subscribing.SubscribeWords.{SubscribeWords}

-- the texts of an option that may be repeated, in order
abbrev pub texts_of : Found → Text → List Text
texts_of given id = unwrap_or (option_map raw_values (matched_of given id)) []

-- a flag: whether it was given
pub record IsFlag (value : Option Text) (flag : Bool) : Type 0 where
  pub given : value ≡ Some (codes "true") → flag ≡ true
  pub default : value ≡ Some (codes "false") → flag ≡ false
  pub none : value ≡ None → flag ≡ false

-- the number that these digits write in base 10, if they do and it has at most this many bits
abbrev pub IsWritten : ℕ → List ℕ → Option ℕ → Type 0
IsWritten bits digits None = ¬ (IsNumeral 10 digits × (digits_value 10 digits < 2 ^ bits))
IsWritten bits digits (Some number) = IsNumeral 10 digits × (number ≡ digits_value 10 digits)

-- the number of an option, if it was given
abbrev pub IsNumber : ℕ → Option Text → Option ℕ → Type 0
IsNumber bits None number = number ≡ None
IsNumber bits (Some text) number = IsWritten bits (without_leading_plus text) number

-- the number of an option, or this one without it
abbrev pub IsNumberOr : ℕ → ℕ → Option Text → ℕ → Type 0
IsNumberOr default bits text number = (found : Option ℕ) × IsNumber bits text found × (number ≡ unwrap_or found default)

-- the quality of service with this number, 0 without one (4.3)
abbrev pub quality : Option ℕ → Qos
quality None = Q0
quality (Some number) = unwrap_or (qos_from number) Q0

abbrev pub IsQuality : Option Text → Qos → Type 0
IsQuality text qos = (found : Option ℕ) × IsNumber 8 text found × (qos ≡ quality found)

-- the milliseconds of an option with seconds, if it was given
abbrev pub IsTime : Option Text → Option ℕ → Type 0
IsTime None milliseconds = milliseconds ≡ None
IsTime (Some text) milliseconds = (count : ℕ) × (milliseconds ≡ Some count) × IsDuration text count

-- the longest wait between connections: 30 seconds without an option, and none with `never`
abbrev pub IsLongestWait : Option Text → Option ℕ → Type 0
IsLongestWait None milliseconds = milliseconds ≡ Some 30000
IsLongestWait (Some text) milliseconds = ((text ≡ codes "never") × (milliseconds ≡ None)) ⊎ IsTime (Some text) milliseconds

-- a text of `-t`, or of `-L` without one
abbrev pub IsTopicOf : Option Text → Option Text → Text → Type 0
IsTopicOf (Some text) url topic = topic ≡ text
IsTopicOf None url topic = url ≡ Some topic

-- the will of the options, whose payload fits its field (3.1.3.3)
pub record IsWill (given : Found) (will : WillOptions) : Type 0 where
  pub topic : first_value given (codes "WILL_TOPIC") ≡ Some will.topic
  pub payload : string_bytes will.payload ≡ unwrap_or (first_value given (codes "WILL_PAYLOAD")) []
  pub bound : length (string_bytes will.payload) ≤ 65535
  pub qos : IsQuality (one_text given (codes "WILL_QOS")) will.qos
  pub retain : IsFlag (one_text given (codes "WILL_RETAIN")) will.retain

abbrev pub IsWillOf : Found → Option WillOptions → Type 0
IsWillOf given None = first_value given (codes "WILL_TOPIC") ≡ None
IsWillOf given (Some will) = IsWill given will

-- the payloads are those of the one kind that was given
abbrev pub IsKind : List Text → Option Text → Bool → Bool → Bool → Payloads → Type 0
IsKind texts file whole lines empty (payloads.Texts own) =
    (map (λ text. text.now) own.items ≡ texts) × (texts ≢ []) × (file ≡ None) × (whole ≡ false) × (lines ≡ false) × (empty ≡ false)
IsKind texts file whole lines empty (payloads.File name) =
    (texts ≡ []) × (file ≡ Some name.now) × (whole ≡ false) × (lines ≡ false) × (empty ≡ false)
IsKind texts file whole lines empty payloads.Whole =
    (texts ≡ []) × (file ≡ None) × (whole ≡ true) × (lines ≡ false) × (empty ≡ false)
IsKind texts file whole lines empty payloads.Lines =
    (texts ≡ []) × (file ≡ None) × (whole ≡ false) × (lines ≡ true) × (empty ≡ false)
IsKind texts file whole lines empty payloads.Empty =
    (texts ≡ []) × (file ≡ None) × (whole ≡ false) × (lines ≡ false) × (empty ≡ true)

-- the payloads to publish
pub record ArePayloads (given : Found) (payloads : Payloads) : Type 0 where
  pub whole : Bool
  pub lines : Bool
  pub empty : Bool
  pub whole_is : IsFlag (one_text given (codes "WHOLE")) whole
  pub lines_is : IsFlag (one_text given (codes "LINES")) lines
  pub empty_is : IsFlag (one_text given (codes "EMPTY")) empty
  pub kind : IsKind (texts_of given (codes "TEXT")) (first_value given (codes "FILE")) whole lines empty payloads

-- whether a flag was given, or what implies it
pub record IsImplied (implies : Bool) (value : Option Text) (flag : Bool) : Type 0 where
  pub implied : implies ≡ true → flag ≡ true
  pub alone : implies ≡ false → IsFlag value flag

-- the wait of an option with seconds, 0 without it
abbrev pub IsDelay : Option Text → ℕ → Type 0
IsDelay text milliseconds = (found : Option ℕ) × IsTime text found × (milliseconds ≡ unwrap_or found 0)

-- the options of both commands
pub record IsCommon (given : Found) (common : Common) : Type 0 where
  pub password_file : option_map string_bytes common.password_file ≡ first_value given (codes "PASSWORD_FILE")
  pub id : option_map string_bytes common.id ≡ first_value given (codes "ID")
  pub session : option_map string_bytes common.session ≡ first_value given (codes "SESSION")
  pub keeps : IsImplied (is_some (first_value given (codes "SESSION"))) (one_text given (codes "KEEP")) common.keeps
  pub keep_alive : IsNumberOr 60 16 (one_text given (codes "KEEP_ALIVE")) common.keep_alive
  pub will : IsWillOf given common.will
  pub qos : IsQuality (one_text given (codes "QOS")) common.qos
  pub timeout : IsTime (first_value given (codes "TIMEOUT")) common.timeout
  pub longest_wait : IsLongestWait (first_value given (codes "RETRY")) common.longest_wait
  pub debug : IsFlag (one_text given (codes "DEBUG")) common.debug
  pub quiet : IsFlag (one_text given (codes "QUIET")) common.quiet

-- the arguments of `mqtt pub`
pub record IsPublish (given : Found) (words : PublishWords) : Type 0 where
  pub common : IsCommon given words.common
  pub topic : IsTopicOf (first_value given (codes "TOPIC")) (option_map string_bytes words.common.address.topic) words.topic
  pub payloads : ArePayloads given words.payloads
  pub retain : IsFlag (one_text given (codes "RETAIN")) words.retain
  pub repeat : IsNumberOr 1 32 (one_text given (codes "REPEAT")) words.repeat
  pub delay : IsDelay (first_value given (codes "DELAY")) words.delay

-- the filters of `-t`, and then the one of `-L`
abbrev pub filters_of : List Text → Option Text → List Text
filters_of texts None = texts
filters_of texts (Some text) = texts ++ text ∷ []

-- the filters to subscribe to and to unsubscribe from, of which there is at least one
pub record AreFilters (given : Found) (url : Option Text) (filters given_up : List Text) : Type 0 where
  pub filters_are : filters ≡ filters_of (texts_of given (codes "TOPIC")) url
  pub given_up_are : given_up ≡ texts_of given (codes "GIVEN_UP")
  pub some : filters ≡ [] → given_up ≢ []

-- `-R` and `--retained-only`, of which at most one was given
pub record IsRetained (given : Found) (skips only : Bool) : Type 0 where
  pub skips_is : IsFlag (one_text given (codes "FRESH")) skips
  pub only_is : IsFlag (one_text given (codes "RETAINED")) only
  pub one : skips ≡ true → only ≡ false

-- how messages are printed: by `-F`, with their topic (`-v`), or the payload alone
abbrev pub IsStyle : Option Text → Bool → Style → Type 0
IsStyle (Some text) verbose style = (format : Format) × (style ≡ styles.Format format) × Reads format.pieces.items text []
IsStyle None true style = style ≡ styles.Verbose
IsStyle None false style = style ≡ styles.Payload

-- the lines that are printed
pub record IsPrinted (given : Found) (style : Style) (has_line_end : Bool) : Type 0 where
  pub verbose : Bool
  pub verbose_is : IsFlag (one_text given (codes "VERBOSE")) verbose
  pub style_is : IsStyle (first_value given (codes "FORMAT")) verbose style
  pub bare : Bool
  pub bare_is : IsFlag (one_text given (codes "BARE")) bare
  pub line_end : has_line_end ≡ not bare

-- the arguments of `mqtt sub`
pub record IsSubscribe (given : Found) (words : SubscribeWords) : Type 0 where
  pub common : IsCommon given words.common
  pub filters : AreFilters given (option_map string_bytes words.common.address.topic) words.filters.items words.given_up.items
  pub excluded : words.excluded.items ≡ texts_of given (codes "EXCLUDED")
  pub count : IsNumber 64 (one_text given (codes "COUNT")) words.count
  pub retained : IsRetained given words.skips_retained words.only_retained
  pub ends_when_granted : IsFlag (one_text given (codes "GRANTED")) words.ends_when_granted
  pub printed : IsPrinted given words.style words.has_line_end
