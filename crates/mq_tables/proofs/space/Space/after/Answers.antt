use Rattle.std.proofs.Common.{◌∙◌, ◌-◌, sym, ap}
use Rattle.std.proofs.lemmas.Bool.{cond-true, cond-false}
use Rattle.mq_flow.specs.Stored.{message_bytes}
use Rattle.mq_end.specs.Both.{has_identifier}
use Rattle.mq_tables.specs.Rules.{left_of}
use Rattle.mq_tables.proofs.space.Space.after.Goals as goal

pub returns-then-not-has_identifier : goal.returns-then-not-has_identifier
returns-then-not-has_identifier c =
    let s = c.args.self in
    let m = c.args.message.now in
    let plain = sym c.has_identifier.ensures ∙ c.if-not-has_identifier.true in
    let free = sym (cond-false (has_identifier m.qos) (s.free - 1) s.free plain) in
    let stored = sym (cond-false (has_identifier m.qos) (left_of s.stored (message_bytes m)) s.stored plain) in
    let waiting = c.left_of-waiting.ensures ∙ ap (left_of s.waiting) c.publish_len.ensures in
    λ i. record { free = free i; stored = stored i; waiting = waiting i }

pub returns : goal.returns
returns c =
    let s = c.args.self in
    let m = c.args.message.now in
    let has = sym c.has_identifier.ensures ∙ c.if-not-has_identifier.false in
    let free = c.saturating_sub.ensures ∙ sym (cond-true (has_identifier m.qos) (s.free - 1) s.free has) in
    let stored = c.left_of.ensures ∙ ap (left_of s.stored) c.message_bytes.ensures.value ∙ sym (cond-true (has_identifier m.qos) (left_of s.stored (message_bytes m)) s.stored has) in
    let waiting = c.left_of-waiting.ensures ∙ ap (left_of s.waiting) c.publish_len.ensures in
    λ i. record { free = free i; stored = stored i; waiting = waiting i }
