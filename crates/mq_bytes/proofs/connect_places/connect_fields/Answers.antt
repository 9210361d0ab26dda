use Rattle.std.proofs.Common.{ℕ, ◌+◌, List, length, sym, ap, subst, ◌∙◌}
use Rattle.mq_packet.specs.declared.connect.Connect.{Connect}
use Rattle.mq_packet.specs.Encoding.{connect_fields, login_fields, will_fields}
use Rattle.mq_decode.specs.Views.{connect_of}
use Rattle.mq_bytes.specs.Places.{Lies}
use Rattle.mq_bytes.proofs.Lying.{lies_will, lies_login}
use Rattle.mq_bytes.proofs.connect_places.connect_fields.Goals as goal

pub will_places-behind-requires : goal.will_places-behind-requires
will_places-behind-requires c =
    let b = c.args.bytes.now in
    let will = will_fields c.fields-connect.result.will in
    let lies = subst (λ (k : Connect). Lies b c.args.start (connect_fields k)) (sym c.fields-connect.ensures) c.requires in
    subst (λ (t : List ℕ). Lies b ((c.args.start + 12) + length t) will) (sym c.as_str.ensures.value) (lies_will b c.args.start (connect_of c.fields-connect.result) lies)

pub login_places-login-requires : goal.login_places-login-requires
login_places-login-requires c =
    let b = c.args.bytes.now in
    let size = length (will_fields c.fields-connect.result.will) in
    let lies = subst (λ (k : Connect). Lies b c.args.start (connect_fields k)) (sym c.fields-connect.ensures) c.requires in
    let end = c.will_places-behind.ensures.end ∙ ap (λ (t : List ℕ). ((c.args.start + 12) + length t) + size) c.as_str.ensures.value in
    subst (λ (n : ℕ). Lies b n (login_fields c.fields-connect.result.login)) (sym end) (lies_login b c.args.start (connect_of c.fields-connect.result) lies)
