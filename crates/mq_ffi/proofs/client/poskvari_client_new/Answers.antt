use Rattle.std.proofs.Common.{◌≡◌, true, Err, inl, refl, rules}
use Rattle.mq_embedded.specs.Arguments.{AreLoginParts, AreWillParts, IsArgumentFault}
use Rattle.mq_ffi.specs.Clients.{AreOptions}
use Rattle.mq_ffi.proofs.Arguments.{of_part}
use Rattle.mq_ffi.proofs.client.poskvari_client_new.Goals as goal

pub returns-in-Err : goal.returns-in-Err
returns-in-Err c =
    let a = c.args in
    let Login : Type 0 = AreLoginParts a.has_user_name a.user_name.now a.has_password a.password.now in
    let All : Type 0 = AreOptions a.id.now a.max_packet a.capacity × Login × (a.has_will ≡ true → AreWillParts a.will_topic.now a.will_payload.now a.will_qos) in
    let fault : IsArgumentFault All c.in-Err.fault = of_part Login All c.in-Err.fault (λ all. all.1) c.in-Err.ensures.refused in
    (Err c.in-Err.fault, (refl, inl fault), search rules)

pub returns-in-Err-will : goal.returns-in-Err-will
returns-in-Err-will c =
    let a = c.args in
    let Will : Type 0 = a.has_will ≡ true → AreWillParts a.will_topic.now a.will_payload.now a.will_qos in
    let All : Type 0 = AreOptions a.id.now a.max_packet a.capacity × AreLoginParts a.has_user_name a.user_name.now a.has_password a.password.now × Will in
    let fault : IsArgumentFault All c.in-Err-will.fault = of_part Will All c.in-Err-will.fault (λ all. all.2) c.in-Err-will.ensures.refused in
    (Err c.in-Err-will.fault, (refl, inl fault), search rules)

pub returns-in-Err-config : goal.returns-in-Err-config
returns-in-Err-config c =
    let a = c.args in
    let Options : Type 0 = AreOptions a.id.now a.max_packet a.capacity in
    let All : Type 0 = Options × AreLoginParts a.has_user_name a.user_name.now a.has_password a.password.now × (a.has_will ≡ true → AreWillParts a.will_topic.now a.will_payload.now a.will_qos) in
    let fault : IsArgumentFault All c.in-Err-config.fault = of_part Options All c.in-Err-config.fault (λ all. all.0) c.in-Err-config.ensures.refused in
    (Err c.in-Err-config.fault, (refl, inl fault), search rules)
