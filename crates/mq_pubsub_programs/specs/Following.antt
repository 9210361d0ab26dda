-- The effect of a run of `mqtt sub` whose exit status is 0.
use Rattle.std.specs.Prelude.{◌≡◌, ℕ, true, not, List, [], map, Option, option_map, unwrap_or}
use Rattle.mq_topic.specs.declared.qos.Qos.{Qos}
use Rattle.mq_packet.specs.declared.message.Message.{Message}
use Rattle.mq_packet.specs.declared.packet.Request.{Request}
use Rattle.mq_client.specs.Course.{Moment}
use Rattle.mq_pubsub.specs.declared.inbox.Inbox.{Inbox}
use Rattle.mq_pubsub.specs.declared.options.SubscribeOptions.{SubscribeOptions}
use Rattle.mq_pubsub_options.specs.declared.subscribing.SubscribeWords.{SubscribeWords}
use Rattle.mq_pubsub_runs.specs.Watching.{Watched, first_inbox}

-- The run ended: the messages of `-C` are printed, a message arrived that is not retained
-- (`--retained-only`), or the subscriptions are granted (`-E`). Everything that it received before
-- it sent bytes was printed and flushed.
abbrev pub ComesToEnd : SubscribeOptions → Option (List Message) → Option (List Message) → Type 0
ComesToEnd options shown printed =
    (start : Moment) × (end : Moment) × (last : Inbox) × Watched options start (first_inbox options) shown end last printed × (last.is_ended ≡ true)

-- the request of a filter (3.8)
abbrev pub request_of : Qos → List ℕ → Request
request_of qos filter = record { filter = filter; qos = qos }

-- the options of a run are those of the arguments
pub record IsRun (words : SubscribeWords) (options : SubscribeOptions) : Type 0 where
  pub requests : unwrap_or (option_map (λ requests. requests.now) options.requests) []
      ≡ map (request_of words.common.qos) words.filters.items
  pub given_up : unwrap_or (option_map (λ filters. filters.now) options.given_up) [] ≡ words.given_up.items
  pub excluded : options.choice.excluded.now ≡ words.excluded.items
  pub skips_retained : options.choice.skips_retained ≡ words.skips_retained
  pub only_retained : options.choice.only_retained ≡ words.only_retained
  pub count : options.count ≡ words.count
  pub ends_when_granted : options.ends_when_granted ≡ words.ends_when_granted
  pub clean : options.clean ≡ not words.common.keeps
  pub longest_wait : options.retry.longest_wait ≡ words.common.longest_wait
  pub deadline : options.retry.deadline ≡ words.common.timeout

-- A run with these arguments ended.
pub record Follows (words : SubscribeWords) : Type 0 where
  pub options : SubscribeOptions
  pub options_are : IsRun words options
  pub shown : Option (List Message)
  pub printed : Option (List Message)
  pub ends : ComesToEnd options shown printed
