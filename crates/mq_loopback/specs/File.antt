-- Loopback files as they are written: a line for each client.
use Rattle.std.specs.Prelude.{◌≡◌, ◌≢◌, ⊤, ℕ, ◌+◌, ◌^◌, ◌≤◌, ◌<◌, List, [], ◌∷◌, ◌++◌, length, map, codes}
use Rattle.std.specs.List.{AllByRecursion, AllZip}
use Rattle.hex.specs.Hex.{IsBytes}
use Rattle.mq_wire.specs.Text.{IsText}
use Rattle.mq_topic.specs.Qos.{qos_number}
use Rattle.mq_topic.specs.Topic.{IsTopicFilter, IsTopicName}
use Rattle.mq_packet.specs.Lines.{escaped}
use Rattle.mq_schedule.specs.Schedule.{IsNumber, bytes_word, words_of}
use Rattle.mq_loopback.specs.declared.client.Client.{Client}
use Rattle.mq_loopback.specs.declared.client.Collector.{Collector}
use Rattle.mq_loopback.specs.declared.client.Publisher.{Publisher}
use Rattle.mq_loopback.specs.declared.client.Role.{Role}
use Rattle.mq_loopback.specs.declared.client.Role.TheVariants as roles

-- ---- lines

-- how many messages, a number of 32 bits
pub record IsCount (count : ℕ) (word : List ℕ) : Type 0 where
  pub number : IsNumber count word
  pub bound : count < 2 ^ 32

-- `collect`, a client identifier (3.1.3.1) and a topic filter as they are printed, a quality of
-- service, and how many messages
pub record IsCollectorLine (name : List ℕ) (collector : Collector) (words : List (List ℕ)) : Type 0 where
  pub qos : List ℕ
  pub count : List ℕ
  pub named : IsText name
  pub filter : IsTopicFilter collector.filter
  pub quality : IsNumber (qos_number collector.qos) qos
  pub least : IsCount collector.count count
  pub words_are : words ≡ codes "collect" ∷ escaped name ∷ escaped collector.filter ∷ qos ∷ count ∷ []

-- bytes that may be a payload (3.3.3)
pub record IsPayload (bytes : List ℕ) : Type 0 where
  pub are : IsBytes bytes
  pub few : length bytes < 2 ^ 28

-- words, one or more, for a payload each
pub record ArePayloads (payloads : List (List ℕ)) (words : List (List ℕ)) : Type 0 where
  pub some : payloads ≢ []
  pub are : AllByRecursion IsPayload payloads
  pub words_are : words ≡ map bytes_word payloads

-- `publish`, a client identifier and a topic name as they are printed, a quality of service, and
-- one payload or more
pub record IsPublisherLine (name : List ℕ) (publisher : Publisher) (words : List (List ℕ)) : Type 0 where
  pub qos : List ℕ
  pub named : IsText name
  pub topic : IsTopicName publisher.topic
  pub quality : IsNumber (qos_number publisher.qos) qos
  pub last : List (List ℕ)
  pub payloads : ArePayloads publisher.payloads last
  pub words_are : words ≡ codes "publish" ∷ escaped name ∷ escaped publisher.topic ∷ qos ∷ last

-- the words say that a client of this name has this role
abbrev pub SaysOf : List ℕ → Role → List (List ℕ) → Type 0
SaysOf name (roles.Collector collector) words = IsCollectorLine name collector words
SaysOf name (roles.Publisher publisher) words = IsPublisherLine name publisher words

abbrev pub Says : Client → List (List ℕ) → Type 0
Says client words = SaysOf client.name client.role words

-- ---- files

-- none of the clients has this name
abbrev pub IsFresh : List ℕ → List Client → Type 0
IsFresh name clients = AllByRecursion (λ c. c.name ≢ name) clients

-- no two of the clients have the same name
abbrev pub AreApart : List Client → Type 0
AreApart [] = ⊤
AreApart (client ∷ clients) = IsFresh client.name clients × AreApart clients

-- each line says a client; no two have the same name, and there are at most 64
pub record AreClients (clients : List Client) (lines : List (List ℕ)) : Type 0 where
  pub said : AllZip (λ c line. Says c (words_of line)) clients lines
  pub apart : AreApart clients
  pub few : length clients ≤ 64

-- the lines before this one, counted from 1, are clients, and with this line they are not
pub record IsBadLine (lines : List (List ℕ)) (number : ℕ) : Type 0 where
  pub clients : List Client
  pub front : List (List ℕ)
  pub line : List ℕ
  pub others : List (List ℕ)
  pub lines_are : lines ≡ front ++ line ∷ others
  pub place : number ≡ length front + 1
  pub before : AreClients clients front
  pub bad : (more : List Client) → ¬ AreClients more (front ++ line ∷ [])
