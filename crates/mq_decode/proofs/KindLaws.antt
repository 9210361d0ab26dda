-- The laws of the first byte: its kind, and the byte of a kind.
use Rattle.std.proofs.Common.{◌≡◌, ℕ, zero, suc, ◌+◌, ◌*◌, ◌/◌, ◌%◌, ◌<◌, ◌≤◌, Bool, true, false, cond, eqb, length, Option, Some, None, Result, Ok, Err, refl, subst, arith, inl, inr}
use Rattle.std.proofs.lemmas.Bool.{eqb-true, le-ltb}
use Rattle.mq_topic.specs.declared.qos.Qos.{Qos}
use Rattle.mq_topic.specs.declared.qos.Qos.TheVariants.{Q0, Q1, Q2}
use Rattle.mq_topic.specs.Qos.{qos_number, qos_from}
use Rattle.mq_packet.specs.declared.packet.Packet.{Packet}
use Rattle.mq_packet.specs.declared.packet.Packet.TheVariants as packets
use Rattle.mq_packet.specs.declared.connack.ConnAck.TheVariants.{Accepted, Refused}
use Rattle.mq_packet.specs.declared.publish.Delivery.{Delivery}
use Rattle.mq_packet.specs.Publication.{fits_delivery}
use Rattle.mq_packet.specs.Encoding.{bit, dup_bit, first_byte, fields}
use Rattle.mq_packet.specs.Values.{IsPacket}
use Rattle.mq_decode.specs.declared.fault.FaultKind.{FaultKind}
use Rattle.mq_decode.specs.declared.fault.FaultKind.TheVariants.{ForbiddenType, WrongFlags, DupWithoutDelivery}
use Rattle.mq_decode.specs.declared.kind.Kind.{Kind}
use Rattle.mq_decode.specs.declared.kind.Kind.TheVariants as kinds
use Rattle.mq_decode.specs.Kind.{dup_fits, publish_of, publish_kind, with_flags, kind_at, size_fault}
use Rattle.mq_decode.proofs.ListLaws.{chosen, qos_exact}

-- the byte of a kind
abbrev pub kind_byte : Kind → ℕ
kind_byte kinds.Connect = 16
kind_byte kinds.ConnAck = 32
kind_byte (kinds.Publish flags) = 0x30 + 8 * bit flags.dup + 2 * qos_number flags.qos + bit flags.retain
kind_byte kinds.PubAck = 64
kind_byte kinds.PubRec = 80
kind_byte kinds.PubRel = 98
kind_byte kinds.PubComp = 112
kind_byte kinds.Subscribe = 130
kind_byte kinds.SubAck = 144
kind_byte kinds.Unsubscribe = 162
kind_byte kinds.UnsubAck = 176
kind_byte kinds.PingReq = 192
kind_byte kinds.PingResp = 208
kind_byte kinds.Disconnect = 224

-- the flags of a PUBLISH go together
abbrev pub IsKind : Kind → Type 0
IsKind kinds.Connect = Unit {0}
IsKind kinds.ConnAck = Unit {0}
IsKind (kinds.Publish flags) = dup_fits flags.dup flags.qos ≡ true
IsKind kinds.PubAck = Unit {0}
IsKind kinds.PubRec = Unit {0}
IsKind kinds.PubRel = Unit {0}
IsKind kinds.PubComp = Unit {0}
IsKind kinds.Subscribe = Unit {0}
IsKind kinds.SubAck = Unit {0}
IsKind kinds.Unsubscribe = Unit {0}
IsKind kinds.UnsubAck = Unit {0}
IsKind kinds.PingReq = Unit {0}
IsKind kinds.PingResp = Unit {0}
IsKind kinds.Disconnect = Unit {0}

-- the kind of a packet
abbrev pub dup_of : Option Delivery → Bool
dup_of None = false
dup_of (Some d) = d.dup

abbrev pub kind_of : Packet → Kind
kind_of (packets.Connect c) = kinds.Connect
kind_of (packets.ConnAck c) = kinds.ConnAck
kind_of (packets.Publish p) = kinds.Publish (record { dup = dup_of p.delivery; qos = p.message.qos; retain = p.message.retain })
kind_of (packets.PubAck id) = kinds.PubAck
kind_of (packets.PubRec id) = kinds.PubRec
kind_of (packets.PubRel id) = kinds.PubRel
kind_of (packets.PubComp id) = kinds.PubComp
kind_of (packets.Subscribe id items) = kinds.Subscribe
kind_of (packets.SubAck id items) = kinds.SubAck
kind_of (packets.Unsubscribe id items) = kinds.Unsubscribe
kind_of (packets.UnsubAck id) = kinds.UnsubAck
kind_of packets.PingReq = kinds.PingReq
kind_of packets.PingResp = kinds.PingResp
kind_of packets.Disconnect = kinds.Disconnect

-- ---- the byte of a packet is that of its kind

publish_byte : (dup : Bool) (qos : Qos) (retain : Bool) → dup_fits dup qos ≡ true → kind_at (0x30 + 8 * bit dup + 2 * qos_number qos + bit retain) ≡ Ok (kinds.Publish (record { dup = dup; qos = qos; retain = retain }))
publish_byte false Q0 false fits = refl
publish_byte false Q0 true fits = refl
publish_byte false Q1 false fits = refl
publish_byte false Q1 true fits = refl
publish_byte false Q2 false fits = refl
publish_byte false Q2 true fits = refl
publish_byte true Q0 false fits = absurd cc
publish_byte true Q0 true fits = absurd cc
publish_byte true Q1 false fits = refl
publish_byte true Q1 true fits = refl
publish_byte true Q2 false fits = refl
publish_byte true Q2 true fits = refl

delivery_fits : (qos : Qos) (delivery : Option Delivery) → fits_delivery qos delivery ≡ true → (dup_fits (dup_of delivery) qos ≡ true) × (dup_bit delivery ≡ bit (dup_of delivery))
delivery_fits Q0 None fits = (refl, refl)
delivery_fits Q0 (Some d) fits = absurd cc
delivery_fits Q1 None fits = absurd cc
delivery_fits Q1 (Some d) fits = (any_dup d.dup, refl)
  where
    any_dup : (dup : Bool) → dup_fits dup Q1 ≡ true
    any_dup false = refl
    any_dup true = refl
delivery_fits Q2 None fits = absurd cc
delivery_fits Q2 (Some d) fits = (any_dup d.dup, refl)
  where
    any_dup : (dup : Bool) → dup_fits dup Q2 ≡ true
    any_dup false = refl
    any_dup true = refl

pub kind_again : (p : Packet) → IsPacket p → kind_at (first_byte p) ≡ Ok (kind_of p)
kind_again (packets.Connect c) is = refl
kind_again (packets.ConnAck c) is = refl
kind_again (packets.Publish p) is =
    let d = delivery_fits p.message.qos p.delivery is.fits in
    rw d.1 (publish_byte (dup_of p.delivery) p.message.qos p.message.retain d.0)
kind_again (packets.PubAck id) is = refl
kind_again (packets.PubRec id) is = refl
kind_again (packets.PubRel id) is = refl
kind_again (packets.PubComp id) is = refl
kind_again (packets.Subscribe id items) is = refl
kind_again (packets.SubAck id items) is = refl
kind_again (packets.Unsubscribe id items) is = refl
kind_again (packets.UnsubAck id) is = refl
kind_again packets.PingReq is = refl
kind_again packets.PingResp is = refl
kind_again packets.Disconnect is = refl

pub byte_again : (p : Packet) → IsPacket p → kind_byte (kind_of p) ≡ first_byte p
byte_again (packets.Connect c) is = refl
byte_again (packets.ConnAck c) is = refl
byte_again (packets.Publish p) is = rw (delivery_fits p.message.qos p.delivery is.fits).1 refl
byte_again (packets.PubAck id) is = refl
byte_again (packets.PubRec id) is = refl
byte_again (packets.PubRel id) is = refl
byte_again (packets.PubComp id) is = refl
byte_again (packets.Subscribe id items) is = refl
byte_again (packets.SubAck id items) is = refl
byte_again (packets.Unsubscribe id items) is = refl
byte_again (packets.UnsubAck id) is = refl
byte_again packets.PingReq is = refl
byte_again packets.PingResp is = refl
byte_again packets.Disconnect is = refl

-- ---- the kind of a byte

err_not_ok : {A : Type 0} {f : FaultKind} {a : A} → Err f ≡ Ok a → ⊥
err_not_ok e = cc

abbrev right : Kind → Result Kind FaultKind
right k = Ok k

ok_kind : (a b : Kind) → right a ≡ right b → a ≡ b
ok_kind a b e = cc

abbrev KindFound : ℕ → Kind → Type 0
KindFound x k = (x ≡ kind_byte k) × IsKind k

flags_ok : (flags low : ℕ) (kind k : Kind) → with_flags flags low kind ≡ Ok k → (low ≡ flags) × (kind ≡ k)
flags_ok flags low kind k e =
    elim (chosen (eqb low flags) (Ok kind) (Err WrongFlags) (Ok k) e) [
      | inl h ↦ (eqb-true low flags h.0, ok_kind _ _ h.1)
      | inr h ↦ absurd (err_not_ok h.1)
    ]

fixed_is : (upper low type flags : ℕ) (kind k : Kind) → kind_byte kind ≡ 16 * type + flags → IsKind kind → upper ≡ type → with_flags flags low kind ≡ Ok k → KindFound (16 * upper + low) k
fixed_is upper low type flags kind k byte_is good up e =
    let f = flags_ok flags low kind k e in
    subst (λ (q : Kind). KindFound (16 * upper + low) q) f.1 (rw (up, f.0, byte_is) refl, good)

publish_parts : (dup : Bool) (q : Option Qos) (retain : Bool) (k : Kind) → publish_of dup q retain ≡ Ok k → (qos : Qos) × (q ≡ Some qos) × (dup_fits dup qos ≡ true) × (kinds.Publish (record { dup = dup; qos = qos; retain = retain }) ≡ k)
publish_parts dup None retain k e = absurd (err_not_ok e)
publish_parts dup (Some qos) retain k e =
    elim (chosen (dup_fits dup qos) (Ok (kinds.Publish (record { dup = dup; qos = qos; retain = retain }))) (Err DupWithoutDelivery) (Ok k) e) [
      | inl h ↦ (qos, refl, h.0, ok_kind _ _ h.1)
      | inr h ↦ absurd (err_not_ok h.1)
    ]

bit_is : (n : ℕ) → n < 2 → bit (eqb n 1) ≡ n
bit_is zero lt = refl
bit_is (suc zero) lt = refl
bit_is (suc (suc n)) lt = absurd (omega arith)

publish_is : (upper low : ℕ) (k : Kind) → low < 16 → upper ≡ 3 → publish_kind low ≡ Ok k → KindFound (16 * upper + low) k
publish_is upper low k lt up e =
    let p = publish_parts (eqb (low / 8) 1) (qos_from (low / 2 % 4)) (eqb (low % 2) 1) k e in
    let qos_is : low / 2 % 4 ≡ qos_number p.0 = qos_exact (low / 2 % 4) p.0 p.1 in
    let dup_is : bit (eqb (low / 8) 1) ≡ low / 8 = bit_is (low / 8) (omega arith) in
    let retain_is : bit (eqb (low % 2) 1) ≡ low % 2 = bit_is (low % 2) (omega arith) in
    let byte_is : 16 * upper + low ≡ 0x30 + 8 * bit (eqb (low / 8) 1) + 2 * qos_number p.0 + bit (eqb (low % 2) 1) = rw (dup_is, retain_is, ← qos_is, up) (omega arith) in
    subst (λ (q : Kind). KindFound (16 * upper + low) q) p.3 (byte_is, p.2)

types_found : (upper low : ℕ) (k : Kind) → low < 16 → cond (eqb upper 1) (with_flags 0 low kinds.Connect) (cond (eqb upper 2) (with_flags 0 low kinds.ConnAck) (cond (eqb upper 3) (publish_kind low) (cond (eqb upper 4) (with_flags 0 low kinds.PubAck) (cond (eqb upper 5) (with_flags 0 low kinds.PubRec) (cond (eqb upper 6) (with_flags 2 low kinds.PubRel) (cond (eqb upper 7) (with_flags 0 low kinds.PubComp) (cond (eqb upper 8) (with_flags 2 low kinds.Subscribe) (cond (eqb upper 9) (with_flags 0 low kinds.SubAck) (cond (eqb upper 10) (with_flags 2 low kinds.Unsubscribe) (cond (eqb upper 11) (with_flags 0 low kinds.UnsubAck) (cond (eqb upper 12) (with_flags 0 low kinds.PingReq) (cond (eqb upper 13) (with_flags 0 low kinds.PingResp) (cond (eqb upper 14) (with_flags 0 low kinds.Disconnect) (Err ForbiddenType)))))))))))))) ≡ Ok k → KindFound (16 * upper + low) k
types_found upper low k lt e =
    elim (chosen (eqb upper 1) (with_flags 0 low kinds.Connect) (cond (eqb upper 2) (with_flags 0 low kinds.ConnAck) (cond (eqb upper 3) (publish_kind low) (cond (eqb upper 4) (with_flags 0 low kinds.PubAck) (cond (eqb upper 5) (with_flags 0 low kinds.PubRec) (cond (eqb upper 6) (with_flags 2 low kinds.PubRel) (cond (eqb upper 7) (with_flags 0 low kinds.PubComp) (cond (eqb upper 8) (with_flags 2 low kinds.Subscribe) (cond (eqb upper 9) (with_flags 0 low kinds.SubAck) (cond (eqb upper 10) (with_flags 2 low kinds.Unsubscribe) (cond (eqb upper 11) (with_flags 0 low kinds.UnsubAck) (cond (eqb upper 12) (with_flags 0 low kinds.PingReq) (cond (eqb upper 13) (with_flags 0 low kinds.PingResp) (cond (eqb upper 14) (with_flags 0 low kinds.Disconnect) (Err ForbiddenType)))))))))))))) (Ok k) e) [
      | inl h1 ↦ fixed_is upper low 1 0 kinds.Connect k refl tt (eqb-true upper 1 h1.0) h1.1
      | inr h1 ↦
          elim (chosen (eqb upper 2) (with_flags 0 low kinds.ConnAck) (cond (eqb upper 3) (publish_kind low) (cond (eqb upper 4) (with_flags 0 low kinds.PubAck) (cond (eqb upper 5) (with_flags 0 low kinds.PubRec) (cond (eqb upper 6) (with_flags 2 low kinds.PubRel) (cond (eqb upper 7) (with_flags 0 low kinds.PubComp) (cond (eqb upper 8) (with_flags 2 low kinds.Subscribe) (cond (eqb upper 9) (with_flags 0 low kinds.SubAck) (cond (eqb upper 10) (with_flags 2 low kinds.Unsubscribe) (cond (eqb upper 11) (with_flags 0 low kinds.UnsubAck) (cond (eqb upper 12) (with_flags 0 low kinds.PingReq) (cond (eqb upper 13) (with_flags 0 low kinds.PingResp) (cond (eqb upper 14) (with_flags 0 low kinds.Disconnect) (Err ForbiddenType))))))))))))) (Ok k) h1.1) [
            | inl h2 ↦ fixed_is upper low 2 0 kinds.ConnAck k refl tt (eqb-true upper 2 h2.0) h2.1
            | inr h2 ↦
                elim (chosen (eqb upper 3) (publish_kind low) (cond (eqb upper 4) (with_flags 0 low kinds.PubAck) (cond (eqb upper 5) (with_flags 0 low kinds.PubRec) (cond (eqb upper 6) (with_flags 2 low kinds.PubRel) (cond (eqb upper 7) (with_flags 0 low kinds.PubComp) (cond (eqb upper 8) (with_flags 2 low kinds.Subscribe) (cond (eqb upper 9) (with_flags 0 low kinds.SubAck) (cond (eqb upper 10) (with_flags 2 low kinds.Unsubscribe) (cond (eqb upper 11) (with_flags 0 low kinds.UnsubAck) (cond (eqb upper 12) (with_flags 0 low kinds.PingReq) (cond (eqb upper 13) (with_flags 0 low kinds.PingResp) (cond (eqb upper 14) (with_flags 0 low kinds.Disconnect) (Err ForbiddenType)))))))))))) (Ok k) h2.1) [
                  | inl h3 ↦ publish_is upper low k lt (eqb-true upper 3 h3.0) h3.1
                  | inr h3 ↦
                      elim (chosen (eqb upper 4) (with_flags 0 low kinds.PubAck) (cond (eqb upper 5) (with_flags 0 low kinds.PubRec) (cond (eqb upper 6) (with_flags 2 low kinds.PubRel) (cond (eqb upper 7) (with_flags 0 low kinds.PubComp) (cond (eqb upper 8) (with_flags 2 low kinds.Subscribe) (cond (eqb upper 9) (with_flags 0 low kinds.SubAck) (cond (eqb upper 10) (with_flags 2 low kinds.Unsubscribe) (cond (eqb upper 11) (with_flags 0 low kinds.UnsubAck) (cond (eqb upper 12) (with_flags 0 low kinds.PingReq) (cond (eqb upper 13) (with_flags 0 low kinds.PingResp) (cond (eqb upper 14) (with_flags 0 low kinds.Disconnect) (Err ForbiddenType))))))))))) (Ok k) h3.1) [
                        | inl h4 ↦ fixed_is upper low 4 0 kinds.PubAck k refl tt (eqb-true upper 4 h4.0) h4.1
                        | inr h4 ↦
                            elim (chosen (eqb upper 5) (with_flags 0 low kinds.PubRec) (cond (eqb upper 6) (with_flags 2 low kinds.PubRel) (cond (eqb upper 7) (with_flags 0 low kinds.PubComp) (cond (eqb upper 8) (with_flags 2 low kinds.Subscribe) (cond (eqb upper 9) (with_flags 0 low kinds.SubAck) (cond (eqb upper 10) (with_flags 2 low kinds.Unsubscribe) (cond (eqb upper 11) (with_flags 0 low kinds.UnsubAck) (cond (eqb upper 12) (with_flags 0 low kinds.PingReq) (cond (eqb upper 13) (with_flags 0 low kinds.PingResp) (cond (eqb upper 14) (with_flags 0 low kinds.Disconnect) (Err ForbiddenType)))))))))) (Ok k) h4.1) [
                              | inl h5 ↦ fixed_is upper low 5 0 kinds.PubRec k refl tt (eqb-true upper 5 h5.0) h5.1
                              | inr h5 ↦
                                  elim (chosen (eqb upper 6) (with_flags 2 low kinds.PubRel) (cond (eqb upper 7) (with_flags 0 low kinds.PubComp) (cond (eqb upper 8) (with_flags 2 low kinds.Subscribe) (cond (eqb upper 9) (with_flags 0 low kinds.SubAck) (cond (eqb upper 10) (with_flags 2 low kinds.Unsubscribe) (cond (eqb upper 11) (with_flags 0 low kinds.UnsubAck) (cond (eqb upper 12) (with_flags 0 low kinds.PingReq) (cond (eqb upper 13) (with_flags 0 low kinds.PingResp) (cond (eqb upper 14) (with_flags 0 low kinds.Disconnect) (Err ForbiddenType))))))))) (Ok k) h5.1) [
                                    | inl h6 ↦ fixed_is upper low 6 2 kinds.PubRel k refl tt (eqb-true upper 6 h6.0) h6.1
                                    | inr h6 ↦
                                        elim (chosen (eqb upper 7) (with_flags 0 low kinds.PubComp) (cond (eqb upper 8) (with_flags 2 low kinds.Subscribe) (cond (eqb upper 9) (with_flags 0 low kinds.SubAck) (cond (eqb upper 10) (with_flags 2 low kinds.Unsubscribe) (cond (eqb upper 11) (with_flags 0 low kinds.UnsubAck) (cond (eqb upper 12) (with_flags 0 low kinds.PingReq) (cond (eqb upper 13) (with_flags 0 low kinds.PingResp) (cond (eqb upper 14) (with_flags 0 low kinds.Disconnect) (Err ForbiddenType)))))))) (Ok k) h6.1) [
                                          | inl h7 ↦ fixed_is upper low 7 0 kinds.PubComp k refl tt (eqb-true upper 7 h7.0) h7.1
                                          | inr h7 ↦
                                              elim (chosen (eqb upper 8) (with_flags 2 low kinds.Subscribe) (cond (eqb upper 9) (with_flags 0 low kinds.SubAck) (cond (eqb upper 10) (with_flags 2 low kinds.Unsubscribe) (cond (eqb upper 11) (with_flags 0 low kinds.UnsubAck) (cond (eqb upper 12) (with_flags 0 low kinds.PingReq) (cond (eqb upper 13) (with_flags 0 low kinds.PingResp) (cond (eqb upper 14) (with_flags 0 low kinds.Disconnect) (Err ForbiddenType))))))) (Ok k) h7.1) [
                                                | inl h8 ↦ fixed_is upper low 8 2 kinds.Subscribe k refl tt (eqb-true upper 8 h8.0) h8.1
                                                | inr h8 ↦
                                                    elim (chosen (eqb upper 9) (with_flags 0 low kinds.SubAck) (cond (eqb upper 10) (with_flags 2 low kinds.Unsubscribe) (cond (eqb upper 11) (with_flags 0 low kinds.UnsubAck) (cond (eqb upper 12) (with_flags 0 low kinds.PingReq) (cond (eqb upper 13) (with_flags 0 low kinds.PingResp) (cond (eqb upper 14) (with_flags 0 low kinds.Disconnect) (Err ForbiddenType)))))) (Ok k) h8.1) [
                                                      | inl h9 ↦ fixed_is upper low 9 0 kinds.SubAck k refl tt (eqb-true upper 9 h9.0) h9.1
                                                      | inr h9 ↦
                                                          elim (chosen (eqb upper 10) (with_flags 2 low kinds.Unsubscribe) (cond (eqb upper 11) (with_flags 0 low kinds.UnsubAck) (cond (eqb upper 12) (with_flags 0 low kinds.PingReq) (cond (eqb upper 13) (with_flags 0 low kinds.PingResp) (cond (eqb upper 14) (with_flags 0 low kinds.Disconnect) (Err ForbiddenType))))) (Ok k) h9.1) [
                                                            | inl h10 ↦ fixed_is upper low 10 2 kinds.Unsubscribe k refl tt (eqb-true upper 10 h10.0) h10.1
                                                            | inr h10 ↦
                                                                elim (chosen (eqb upper 11) (with_flags 0 low kinds.UnsubAck) (cond (eqb upper 12) (with_flags 0 low kinds.PingReq) (cond (eqb upper 13) (with_flags 0 low kinds.PingResp) (cond (eqb upper 14) (with_flags 0 low kinds.Disconnect) (Err ForbiddenType)))) (Ok k) h10.1) [
                                                                  | inl h11 ↦ fixed_is upper low 11 0 kinds.UnsubAck k refl tt (eqb-true upper 11 h11.0) h11.1
                                                                  | inr h11 ↦
                                                                      elim (chosen (eqb upper 12) (with_flags 0 low kinds.PingReq) (cond (eqb upper 13) (with_flags 0 low kinds.PingResp) (cond (eqb upper 14) (with_flags 0 low kinds.Disconnect) (Err ForbiddenType))) (Ok k) h11.1) [
                                                                        | inl h12 ↦ fixed_is upper low 12 0 kinds.PingReq k refl tt (eqb-true upper 12 h12.0) h12.1
                                                                        | inr h12 ↦
                                                                            elim (chosen (eqb upper 13) (with_flags 0 low kinds.PingResp) (cond (eqb upper 14) (with_flags 0 low kinds.Disconnect) (Err ForbiddenType)) (Ok k) h12.1) [
                                                                              | inl h13 ↦ fixed_is upper low 13 0 kinds.PingResp k refl tt (eqb-true upper 13 h13.0) h13.1
                                                                              | inr h13 ↦
                                                                                  elim (chosen (eqb upper 14) (with_flags 0 low kinds.Disconnect) (Err ForbiddenType) (Ok k) h13.1) [
                                                                                    | inl h14 ↦ fixed_is upper low 14 0 kinds.Disconnect k refl tt (eqb-true upper 14 h14.0) h14.1
                                                                                    | inr h14 ↦
                                                                                        absurd (err_not_ok h14.1)
                                                                                  ]
                                                                            ]
                                                                      ]
                                                                ]
                                                          ]
                                                    ]
                                              ]
                                        ]
                                  ]
                            ]
                      ]
                ]
          ]
    ]

pub kind_found : (x : ℕ) (k : Kind) → kind_at x ≡ Ok k → (x ≡ kind_byte k) × IsKind k
kind_found x k e =
    let split : 16 * (x / 16) + x % 16 ≡ x = omega arith in
    rw split at (types_found (x / 16) (x % 16) k (omega arith) e)

-- ---- the remaining length of a packet is right

pub size_again : (limit : ℕ) (p : Packet) → length (fields p) ≤ limit → size_fault limit (kind_of p) (length (fields p)) ≡ None
size_again limit (packets.Connect c) le = rw (le-ltb limit (length (fields (packets.Connect c))) le) refl
size_again limit (packets.ConnAck (Accepted present)) le = rw (le-ltb limit 2 le) refl
size_again limit (packets.ConnAck (Refused code)) le = rw (le-ltb limit 2 le) refl
size_again limit (packets.Publish p) le = rw (le-ltb limit (length (fields (packets.Publish p))) le) refl
size_again limit (packets.PubAck id) le = rw (le-ltb limit (length (fields (packets.PubAck id))) le) refl
size_again limit (packets.PubRec id) le = rw (le-ltb limit (length (fields (packets.PubRec id))) le) refl
size_again limit (packets.PubRel id) le = rw (le-ltb limit (length (fields (packets.PubRel id))) le) refl
size_again limit (packets.PubComp id) le = rw (le-ltb limit (length (fields (packets.PubComp id))) le) refl
size_again limit (packets.Subscribe id items) le = rw (le-ltb limit (length (fields (packets.Subscribe id items))) le) refl
size_again limit (packets.SubAck id items) le = rw (le-ltb limit (length (fields (packets.SubAck id items))) le) refl
size_again limit (packets.Unsubscribe id items) le = rw (le-ltb limit (length (fields (packets.Unsubscribe id items))) le) refl
size_again limit (packets.UnsubAck id) le = rw (le-ltb limit (length (fields (packets.UnsubAck id))) le) refl
size_again limit packets.PingReq le = rw (le-ltb limit (length (fields packets.PingReq)) le) refl
size_again limit packets.PingResp le = rw (le-ltb limit (length (fields packets.PingResp)) le) refl
size_again limit packets.Disconnect le = rw (le-ltb limit (length (fields packets.Disconnect)) le) refl
