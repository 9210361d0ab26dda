use Rattle.std.proofs.Common.{◌≡◌, ◌≤◌, ◌∙◌, true, true≢false, false, length, sym, ap, subst}
use Rattle.mq_packet.specs.declared.packet.Packet.{Packet}
use Rattle.mq_packet.specs.Encoding.{fields}
use Rattle.mq_route.specs.Arrives.{on_first_packet}
use Rattle.mq_route.specs.Hub.{is_open}
use Rattle.mq_tables.proofs.FirstPackets.{ok_by}
use Rattle.mq_hub.specs.Inside.Refinement.{Refines}
use Rattle.mq_hub.specs.Inside.ConnectChecks.{is_connect}
use Rattle.mq_hub.proofs.AcceptConnect.{goes_connect, not_connect, will_within, wrong_is_shut}
use Rattle.mq_hub.proofs.hub.HubOver.on_first_packet.Goals as goal

pub on_connect-requires-clause-will : goal.on_connect-requires-clause-will
on_connect-requires-clause-will g c =
    will_within c.args.self.now.config.limits.most c.in-Connect.connect
    (subst (λ (p : Packet). length (fields p) ≤ c.args.self.now.config.limits.most) c.in-Connect.is c.requires.within)

pub returns-in-Connect-clause-goes : goal.returns-in-Connect-clause-goes
returns-in-Connect-clause-goes g c =
    let k = c.args.conn in
    let h = c.args.self.now in
    let new = c.on_connect.new.self in
    let did = c.args.log.now.acts in
    let says = c.on_connect.new.log.acts in
    ok_by c.on_connect.result
    (λ q. (q.0, subst (λ (p : Packet). Refines (on_first_packet k p q.0) h did new says) (sym c.in-Connect.is) (goes_connect k c.in-Connect.connect q.0 h new did says q.1)))
    c.on_connect.ensures.goes

pub returns-in_default : goal.returns-in_default
returns-in_default g c =
    let other : is_connect c.args.packet ≡ false = not_connect c.args.packet c.in_default.not-Connect in
    record {
      goes = (true, c.on_wrong_first_packet.ensures.goes true);
      room = λ stays. absurd (true≢false (sym stays ∙ ap is_open (wrong_is_shut c.args.conn true c.args.self.now c.on_wrong_first_packet.new.self
          c.args.log.now.acts c.on_wrong_first_packet.new.log.acts c.args.packet other (c.on_wrong_first_packet.ensures.goes true))));
      err = tt;
      err_acts = tt;
      err_room = tt;
    }
