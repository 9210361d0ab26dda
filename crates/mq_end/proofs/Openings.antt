-- The first packet of a connection, by the fields that an end reads.
use Rattle.std.proofs.Common.{◌≡◌, Bool, true, false, cond, Option, Some, None, refl, ap}
use Rattle.mq_packet.specs.declared.connack.ConnAck.{ConnAck}
use Rattle.mq_packet.specs.declared.packet.Packet.{Packet}
use Rattle.mq_packet.specs.declared.packet.Packet.TheVariants as packets
use Rattle.mq_decode.specs.declared.fault.DecodeFault.{DecodeFault}
use Rattle.mq_end.specs.declared.first_packet.Terms.{Terms}
use Rattle.mq_end.specs.declared.reason.CloseReason.TheVariants as reasons
use Rattle.mq_end.specs.declared.role.Role.{Role}
use Rattle.mq_end.specs.declared.role.Role.TheVariants.{Client, Server}
use Rattle.mq_end.specs.End.{End, closes}
use Rattle.mq_end.specs.Client.{client_open_gets, connack_gets}
use Rattle.mq_end.specs.Server.{server_open_gets, level_refused}
use Rattle.mq_end.specs.Inside.Opening.{connack_in, terms_get, terms_in}
use Rattle.mq_end.specs.Receiving.{faulted_as}
use Rattle.mq_end.specs.Inside.Receiving.{is_answered}

pub client_with : (p : Packet) (e : End) (answer : ConnAck) → connack_in p ≡ Some answer → client_open_gets p e ≡ connack_gets answer e
client_with (packets.ConnAck a) e answer h = ap (λ (o : Option ConnAck). elim o [ Some x ↦ connack_gets x e | None ↦ connack_gets answer e ]) h
client_with p e answer h = absurd cc

pub client_without : (p : Packet) (e : End) → connack_in p ≡ None → client_open_gets p e ≡ closes reasons.Unexpected e
client_without (packets.ConnAck a) e h = absurd cc
client_without p e h = refl

pub server_with : (p : Packet) (e : End) (t : Terms) → terms_in p ≡ Some t → server_open_gets p e ≡ terms_get t e
server_with (packets.Connect c) e t h = ap (λ (o : Option Terms). elim o [ Some x ↦ terms_get x e | None ↦ terms_get t e ]) h
server_with p e t h = absurd cc

pub server_without : (p : Packet) (e : End) → terms_in p ≡ None → server_open_gets p e ≡ closes reasons.Unexpected e
server_without (packets.Connect c) e h = absurd cc
server_without p e h = refl

pub answered : (role : Role) (fault : DecodeFault) (e : End) → is_answered role fault e ≡ true → faulted_as role fault e ≡ level_refused e
answered Client fault e h = absurd cc
answered Server fault e h = ap (λ (b : Bool). cond b (level_refused e) (closes (reasons.Fault fault) e)) h

pub not_answered : (role : Role) (fault : DecodeFault) (e : End) → is_answered role fault e ≡ false → faulted_as role fault e ≡ closes (reasons.Fault fault) e
not_answered Client fault e h = refl
not_answered Server fault e h = ap (λ (b : Bool). cond b (level_refused e) (closes (reasons.Fault fault) e)) h
