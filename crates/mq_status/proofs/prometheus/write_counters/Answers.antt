use Rattle.std.proofs.Common.{◌++◌, ℕ, List}
use Rattle.mq_status.specs.Prometheus.{closed_text, messages_text, missed_text, refused_text, rounds_text, sessions_text, traffic_text, wills_text}
use Rattle.mq_status.proofs.Texts.{and_then}
use Rattle.mq_status.proofs.prometheus.write_counters.Goals as goal

pub returns : goal.returns
returns g c =
    let counts = c.args.counts.now in
    let sixth : List ℕ = traffic_text counts ++ rounds_text counts in
    let fifth : List ℕ = wills_text counts ++ sixth in
    let fourth : List ℕ = sessions_text counts ++ fifth in
    let third : List ℕ = refused_text counts ++ fourth in
    let second : List ℕ = closed_text counts ++ third in
    let first : List ℕ = missed_text counts ++ second in
    and_then _ _ _ _ (messages_text counts) first c.in_ok-write_messages.ensures
    (and_then _ _ _ _ (missed_text counts) second c.in_ok-write_missed.ensures
    (and_then _ _ _ _ (closed_text counts) third c.in_ok-write_closed.ensures
    (and_then _ _ _ _ (refused_text counts) fourth c.in_ok-write_refused.ensures
    (and_then _ _ _ _ (sessions_text counts) fifth c.in_ok-write_sessions.ensures
    (and_then _ _ _ _ (wills_text counts) sixth c.in_ok-write_wills.ensures
    (and_then _ _ _ _ (traffic_text counts) (rounds_text counts) c.in_ok-write_traffic.ensures c.write_rounds.ensures))))))
