use Rattle.std.proofs.Common.{◌++◌, ℕ, List, codes, subst, take}
use Rattle.std.specs.Io.KnownBytes.{Appends}
use Rattle.mq_status.specs.Page.{connections_text, gauges_text, messages_text, missed_text, sessions_text}
use Rattle.mq_status.specs.declared.page.TheConstants.{HEAD}
use Rattle.mq_status.proofs.Texts.{and_then, shown}
use Rattle.mq_status.proofs.page.write_page.Goals as goal

pub returns : goal.returns
returns g c =
    let w = g.W.Write.contents in
    let numbers = c.args.metrics.now in
    let rows = c.args.rows.now in
    let gauges = subst (λ x. Appends (w c.writeln.new.self) (w c.write_gauges.new.output) (gauges_text x)) c.gauges.ensures c.in_ok-write_gauges.ensures in
    let messages = subst (λ x. Appends (w c.write_gauges.new.output) (w c.write_messages.new.output) (messages_text x)) c.counts.ensures c.in_ok-write_messages.ensures in
    let missed = subst (λ x. Appends (w c.write_messages.new.output) (w c.write_missed.new.output) (missed_text x)) c.counts-2.ensures c.in_ok-write_missed.ensures in
    let sessions = subst (λ x. Appends (w c.write_missed.new.output) (w c.write_sessions.new.output) (sessions_text x)) (shown c.min.result rows c.min.ensures) c.in_ok-write_sessions.ensures in
    let connections = subst (λ x. Appends (w c.write_sessions.new.output) (w c.write_connections.new.output) (connections_text x)) c.counts-3.ensures c.in_ok-write_connections.ensures in
    let end : List ℕ = codes "</main>\n" in
    let fifth : List ℕ = connections_text numbers.counts ++ end in
    let fourth : List ℕ = sessions_text (take 20 rows) ++ fifth in
    let third : List ℕ = missed_text numbers.counts ++ fourth in
    let second : List ℕ = messages_text numbers.counts ++ third in
    let first : List ℕ = gauges_text numbers.gauges ++ second in
    and_then _ _ _ _ (HEAD.now ++ codes "\n") first c.in_ok-writeln.ensures.bytes
    (and_then _ _ _ _ (gauges_text numbers.gauges) second gauges
    (and_then _ _ _ _ (messages_text numbers.counts) third messages
    (and_then _ _ _ _ (missed_text numbers.counts) fourth missed
    (and_then _ _ _ _ (sessions_text (take 20 rows)) fifth sessions
    (and_then _ _ _ _ (connections_text numbers.counts) end connections c.writeln-2.ensures.bytes)))))
