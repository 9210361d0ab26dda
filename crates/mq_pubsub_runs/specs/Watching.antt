-- The run of a subscriber, over one connection after another.
use Rattle.std.specs.Prelude.{◌≡◌, ◌⊎◌, true, false, not, List, [], ◌∷◌, ◌++◌, Option, None, is_some, option_map, option_to_list}
use Rattle.std.specs.Io.KnownBytes.{Keeps}
use Rattle.mq_packet.specs.declared.message.Message.{Message}
use Rattle.mq_end.specs.declared.happening.Happening.{Happening}
use Rattle.mq_end.specs.declared.reason.CloseReason.{CloseReason}
use Rattle.mq_end.specs.End.{blank_end}
use Rattle.mq_end.specs.Publishing.{ClientState}
use Rattle.mq_client.specs.Course.{Ask, Moment, Opening, Subscription, Unsubscription, Went, WentFirst}
use Rattle.mq_pubsub.specs.declared.inbox.Inbox.{Inbox}
use Rattle.mq_pubsub.specs.declared.options.SubscribeOptions.{SubscribeOptions}
use Rattle.mq_pubsub.specs.Printing.{Shows}
use Rattle.mq_pubsub.specs.Subscribing.{Prints}

-- the subscriptions are not granted any more
abbrev pub forgets : Inbox → Inbox
forgets inbox = record inbox { is_granted = false }

-- the subscriptions that are requested (3.8)
abbrev pub subscriptions_of : SubscribeOptions → List Ask
subscriptions_of options = option_to_list (option_map (λ requests. Subscription requests.now) options.requests)

-- the subscriptions whose end is requested (3.10)
abbrev pub unsubscriptions_of : SubscribeOptions → List Ask
unsubscriptions_of options = option_to_list (option_map (λ filters. Unsubscription filters.now) options.given_up)

abbrev pub requests_of : SubscribeOptions → List Ask
requests_of options = subscriptions_of options ++ unsubscriptions_of options

-- From one moment to another a subscriber ran, over one connection after another. Bytes are sent
-- only after everything that was received is printed and flushed.
pub data Watched (options : SubscribeOptions) (start : Moment) (first : Inbox) (output : Option (List Message)) : Moment → Inbox → Option (List Message) → Type 0 where
  Begins : Watched options start first output start first output
  -- a connection begins
  Opens : (earlier later : Moment) (old : Inbox) (before : Option (List Message)) → Watched options start first output earlier old before
      → WentFirst earlier later (Opening options.clean ∷ []) [] []
      → Watched options start first output later old before
  -- Bytes are received, and their messages are printed and flushed. Nothing is sent.
  Reads : (earlier later : Moment) (old new : Inbox) (before after : Option (List Message)) (told : List Happening) (reasons : List CloseReason) (messages : List Message)
      → Watched options start first output earlier old before → Went earlier later [] told reasons → Keeps earlier.written later.written
      → Prints options.choice options.ends_when_granted old told new messages → Shows before after messages → Watched options start first output later new after
  -- The requests are made, since they are due, and output is sent. Nothing is received.
  Requests : (earlier later : Moment) (old : Inbox) (before : Option (List Message)) → Watched options start first output earlier old before
      → old.is_due ≡ true
      → WentFirst earlier later (requests_of options) [] [] → Watched options start first output later old before
  -- Output is sent. Nothing is received.
  Sends : (earlier later : Moment) (old : Inbox) (before : Option (List Message)) → Watched options start first output earlier old before
      → Went earlier later [] [] [] → Watched options start first output later old before
  -- a new connection continues with the session
  Continues : (earlier later : Moment) (old : Inbox) (before : Option (List Message)) → Watched options start first output earlier old before
      → later.client ≡ earlier.client → later.kept ≡ earlier.kept
      → Watched options start first output later old before
  -- the server lost the session, and a new client begins another one
  Renews : (earlier later : Moment) (old : Inbox) (before : Option (List Message)) → Watched options start first output earlier old before
      → later.client.link.end ≡ blank_end None → later.kept ≡ earlier.kept
      → Watched options start first output later (forgets old) before

-- The messages of the last read may not be printed. Nothing was sent since, so they are not
-- acknowledged.
pub record Unprinted (options : SubscribeOptions) (start : Moment) (first : Inbox) (output : Option (List Message)) (end : Moment) : Type 0 where
  pub last : Moment
  pub inbox : Inbox
  pub shown : Option (List Message)
  pub before : Watched options start first output last inbox shown
  pub told : List Happening
  pub reasons : List CloseReason
  pub after : Went last end [] told reasons
  pub silent : Keeps last.written end.written

-- the run so far: everything that was received is printed, but for the last read, if the printer
-- failed
abbrev pub WatchedPart : SubscribeOptions → Moment → Inbox → Option (List Message) → Option (List Message) → Type 0
WatchedPart options start first output printed =
    ((end : Moment) × (last : Inbox) × Watched options start first output end last printed)
    ⊎ ((end : Moment) × Unprinted options start first output end)

-- The client stays, or a new one takes its place.
abbrev pub Stays : ClientState → ClientState → Inbox → Inbox → Type 0
Stays old new inbox later = ((new ≡ old) × (later ≡ inbox)) ⊎ ((new.link.end ≡ blank_end None) × (later ≡ forgets inbox))

-- a subscriber that begins
abbrev pub first_inbox : SubscribeOptions → Inbox
first_inbox options =
    record { left = options.count; only_gives_up = not (is_some options.requests); is_granted = false; is_due = true; is_ended = false }
