use Rattle.std.proofs.Common.{◌∙◌, ◌++◌, ℕ, List, sym, ap, append-nil}
use Rattle.mq_packet.specs.Encoding.{encoding}
use Rattle.mq_hub.proofs.connect.refuse.bytes_of.Goals as goal

pub returns : goal.returns
returns c =
    let put = c.in_ok-append_packet.ensures.ok in
    put.2 ∙ ap (λ (b : List ℕ). b ++ put.0) c.new-bytes.ensures ∙ c.encoding_laws.ensures.one c.args.packet.now put.0 put.1 ∙ sym (append-nil (encoding c.args.packet.now))
