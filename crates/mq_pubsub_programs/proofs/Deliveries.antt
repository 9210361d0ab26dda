-- What a run of `mqtt pub` did, and its exit status.
use Rattle.std.proofs.Common.{◌≡◌, ◌≢◌, ◌≤◌, ℕ, Bool, true, List, [], ◌++◌, map, Option, Result, Ok, Err, OnOk, inl, inr, refl, sym, ap, subst, ◌∙◌, append-nil, arith}
use Rattle.std.specs.Bool.{⊤}
use Rattle.std.proofs.lemmas.Bool.{false≢true}
use Rattle.mq_topic.specs.declared.qos.Qos.{Qos}
use Rattle.mq_packet.specs.declared.message.Message.{Message}
use Rattle.mq_packet.specs.declared.connack.RefusalCode.{RefusalCode}
use Rattle.mq_packet.specs.declared.connack.RefusalCode.TheVariants as refusals
use Rattle.mq_end.specs.declared.reason.CloseReason.{CloseReason}
use Rattle.mq_end.specs.declared.reason.CloseReason.TheVariants as reasons
use Rattle.mq_end.specs.Publishing.{ClientState}
use Rattle.mq_client.specs.Course.{Moment}
use Rattle.mq_pubsub.specs.declared.error.RunError.{RunError}
use Rattle.mq_pubsub.specs.declared.error.RunError.TheVariants as errors
use Rattle.mq_pubsub.specs.declared.inbox.Inbox.{Inbox}
use Rattle.mq_pubsub.specs.declared.options.SubscribeOptions.{SubscribeOptions}
use Rattle.mq_pubsub.specs.Giving.{Gives}
use Rattle.mq_pubsub_options.specs.declared.publishing.Payloads.{Payloads}
use Rattle.mq_pubsub_options.specs.declared.publishing.Payloads.TheVariants as payloads
use Rattle.mq_pubsub_options.specs.declared.publishing.PublishWords.{PublishWords}
use Rattle.mq_pubsub_programs.specs.declared.fault.Fault.{Fault}
use Rattle.mq_pubsub_programs.specs.declared.fault.Fault.TheVariants as faults
use Rattle.mq_pubsub_programs.specs.declared.feed.Supply.{Supply}
use Rattle.mq_pubsub_programs.specs.declared.feed.Supply.TheVariants as supplies
use Rattle.mq_pubsub_programs.specs.Delivering.{AreMessages, AreWanted, Completes, Delivers, is_lines}
use Rattle.mq_pubsub_programs.specs.Inside.Delivering.{IsSupply}
use Rattle.mq_pubsub_options.specs.declared.subscribing.SubscribeWords.{SubscribeWords}
use Rattle.mq_pubsub_runs.specs.Posting.{AllPosted, StartsWith}
use Rattle.mq_pubsub_runs.specs.Watching.{Watched, first_inbox}
use Rattle.mq_pubsub_programs.specs.Following.{ComesToEnd, Follows, IsRun}
use Rattle.mq_pubsub_programs.specs.Feeding.{IsUsedUp, coming_of, coming_payloads, message_of}
use Rattle.mq_pubsub_programs.specs.Status.{IsStatus, closed_status, error_status, refusal_status, status_of}
use Rattle.mq_pubsub_programs.specs.Inside.Status.{fault_status}

-- the lines of standard input
lines_wanted : (kind : Payloads) → is_lines kind ≡ true → AreWanted kind []
lines_wanted (payloads.Texts texts) is = absurd (false≢true is)
lines_wanted (payloads.File name) is = absurd (false≢true is)
lines_wanted payloads.Whole is = absurd (false≢true is)
lines_wanted payloads.Lines is = tt
lines_wanted payloads.Empty is = absurd (false≢true is)

of_lines : (words : PublishWords) (messages : List Message) → is_lines words.payloads ≡ true → AreMessages words messages
of_lines words messages is =
    record { wanted = []; payloads = lines_wanted words.payloads is; messages_are = λ other. absurd (false≢true (sym other ∙ is)) }

-- the messages that a source gave until its end are those of its supply
messages_given : (words : PublishWords) (supply end : Supply) (topic : List ℕ) (qos : Qos) (retain : Bool) (messages : List Message)
    → IsSupply words supply → IsUsedUp end → Gives (coming_of words.topic words.common.qos words.retain supply) (coming_of topic qos retain end) messages
    → AreMessages words messages
messages_given words (supplies.Known known) (supplies.Known last) topic qos retain messages is used gives =
    let none : map (message_of topic qos retain) (coming_payloads last) ≡ [] = ap (map (message_of topic qos retain)) used in
    let all : messages ≡ map (message_of words.topic words.common.qos words.retain) (coming_payloads known) =
    sym (gives ∙ ap (λ (rest : List Message). messages ++ rest) none ∙ append-nil messages) in
    record { wanted = is.0; payloads = is.1; messages_are = λ kind. all ∙ ap (map (message_of words.topic words.common.qos words.retain)) is.2 }
messages_given words (supplies.Known known) (supplies.Lines last) topic qos retain messages is used gives = absurd gives
messages_given words (supplies.Lines input) end topic qos retain messages is used gives = of_lines words messages is

-- all messages of the arguments were published
pub delivers : (words : PublishWords) (supply end : Supply) (topic : List ℕ) (qos : Qos) (retain : Bool) → IsSupply words supply → IsUsedUp end
    → Completes (coming_of words.topic words.common.qos words.retain supply) (coming_of topic qos retain end) → Delivers words
delivers words supply end topic qos retain is used c = record {
  first = c.0;
  last = c.2.last;
  end = c.1;
  messages = c.2.messages;
  wanted = messages_given words supply end topic qos retain c.2.messages is used c.2.given;
  posted = c.2.posted;
  idle = c.2.idle;
  leaves = c.2.leaves;
}

pub on_delivers : {E : Type 0} (r : Result ⊤ E) (words : PublishWords) (supply begun end : Supply) (first topic : List ℕ) (quality qos : Qos) (retained retain : Bool)
    → IsSupply words supply → first ≡ words.topic → quality ≡ words.common.qos → retained ≡ words.retain → begun ≡ supply
    → OnOk r (Completes (coming_of first quality retained begun) (coming_of topic qos retain end)) → OnOk r (IsUsedUp end) → OnOk r (Delivers words)
on_delivers (Err error) words supply begun end first topic quality qos retained retain is a b c d completes used = tt
on_delivers (Ok done) words supply begun end first topic quality qos retained retain is a b c d completes used =
    let left = coming_of topic qos retain end in
    let one : Completes (coming_of words.topic quality retained begun) left = subst (λ (t : List ℕ). Completes (coming_of t quality retained begun) left) a completes in
    let two : Completes (coming_of words.topic words.common.qos retained begun) left = subst (λ (q : Qos). Completes (coming_of words.topic q retained begun) left) b one in
    let three : Completes (coming_of words.topic words.common.qos words.retain begun) left = subst (λ (x : Bool). Completes (coming_of words.topic words.common.qos x begun) left) c two in
    delivers words supply end topic qos retain is used (subst (λ (s : Supply). Completes (coming_of words.topic words.common.qos words.retain s) left) d three)

-- a run of a publisher succeeded
pub on_completes : {E : Type 0} (r : Result ⊤ E) (client other : ClientState) (kept saved : Option (List ℕ)) (coming left : Option (List Message))
    → OnOk r ((a : Moment) × (b : Moment) × StartsWith a client kept × StartsWith b other saved × AllPosted a b coming left) → OnOk r (Completes coming left)
on_completes (Ok done) client other kept saved coming left p = (p.0, p.1, p.4)
on_completes (Err error) client other kept saved coming left p = tt

-- a run of a subscriber succeeded
pub on_ended : {E : Type 0} (r : Result ⊤ E) (options : SubscribeOptions) (client : ClientState) (kept : Option (List ℕ)) (j : Inbox) (shown printed : Option (List Message))
    → OnOk r ((a : Moment) × StartsWith a client kept × (b : Moment) × Watched options a (first_inbox options) shown b j printed) → OnOk r (j.is_ended ≡ true)
    → OnOk r (ComesToEnd options shown printed)
on_ended (Ok done) options client kept j shown printed p ended = (p.0, p.2, j, p.3, ended)
on_ended (Err error) options client kept j shown printed p ended = tt

pub on_follows : {E : Type 0} (r : Result ⊤ E) (words : SubscribeWords) (options : SubscribeOptions) (shown printed : Option (List Message)) → IsRun words options
    → OnOk r (ComesToEnd options shown printed) → OnOk r (Follows words)
on_follows (Ok done) words options shown printed is ends = record { options = options; options_are = is; shown = shown; printed = printed; ends = ends }
on_follows (Err error) words options shown printed is ends = tt

-- ---- exit statuses

-- an error has a status from 1 to 5, or 27
abbrev IsError : ℕ → Type 0
IsError status = (1 ≤ status) × IsStatus status

one : IsError 1
one = (omega arith, inl (omega arith))

refusal : (code : RefusalCode) → IsError (refusal_status code)
refusal refusals.UnacceptableProtocolVersion = one
refusal refusals.IdentifierRejected = (omega arith, inl (omega arith))
refusal refusals.ServerUnavailable = (omega arith, inl (omega arith))
refusal refusals.BadUserNameOrPassword = (omega arith, inl (omega arith))
refusal refusals.NotAuthorized = (omega arith, inl (omega arith))

closed : (reason : CloseReason) → IsError (closed_status reason)
closed (reasons.Fault why) = one
closed reasons.Unexpected = one
closed (reasons.Refused code) = refusal code
closed reasons.SessionLost = one
closed reasons.KeepAlive = one
closed reasons.Memory = one
closed reasons.Left = one
closed reasons.Window = one

error : (e : RunError) → IsError (error_status e)
error (errors.Closed reason) = closed reason
error errors.Lost = one
error (errors.Refused why) = one
error errors.NotSubscribed = one
error (errors.Unsaved kind) = one
error errors.Unreachable = one
error errors.TimedOut = (omega arith, inr refl)
error (errors.Input kind) = one
error errors.TooLarge = one
error errors.Unwritten = one
error errors.Output = (omega arith, inl (omega arith))
error errors.Memory = (omega arith, inl (omega arith))

pub status_known : (end : Result ⊤ RunError) → IsStatus (status_of end)
status_known (Ok done) = inl (omega arith)
status_known (Err e) = (error e).1

-- the status is 0 only if there is no error
pub status_ok : (end : Result ⊤ RunError) (P : Type 0) → OnOk end P → status_of end ≡ 0 → P
status_ok (Ok done) P p zero = p
status_ok (Err e) P p zero = let least : 1 ≤ error_status e = (error e).0 in absurd (omega (arith, least, zero))

pub fault_known : (fault : Fault) → IsStatus (fault_status fault)
fault_known (faults.Said sentence) = inl (omega arith)
fault_known faults.Memory = inl (omega arith)

pub fault_fails : (fault : Fault) → fault_status fault ≢ 0
fault_fails (faults.Said sentence) zero = absurd (omega (arith, zero))
fault_fails faults.Memory zero = absurd (omega (arith, zero))
