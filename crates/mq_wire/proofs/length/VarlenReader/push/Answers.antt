use Rattle.std.proofs.Common.{◌≡◌, ◌<◌, false, length, ap, ◌∙◌, arith}
use Rattle.std.proofs.lemmas.List.{length-take}
use Rattle.mq_wire.proofs.Lengths.{value_is}
use Rattle.mq_wire.specs.Steps.{Coming}
use Rattle.mq_wire.specs.Inside.Value.{value_of}
use Rattle.mq_wire.proofs.length.VarlenReader.push.Goals as goal
use Rattle.mq_wire.proofs.length.VarlenReader.push.Goals.{else-byte-eq0-via-then-byte-eq0+then-self-gt1+else-not-self, else-byte-eq0-via-then-byte-eq0+else-self-gt1, else-byte-eq0-via-else-byte-eq0}

pub returns-clause-step : goal.returns-clause-step
returns-clause-step c =
    let before = c.args.self.now.bytes in
    let byte = c.args.byte in
    let value : c.number_of-number.result ≡ value_of before byte = rw (← c.self.view_is) c.number_of-number.ensures in
    let size : length before ≡ c.self.inside.count = rw (← c.self.view_is) (omega (arith, length-take c.self.inside.count c.self.inside.bytes)) in
    let same = ap (λ (r : Coming). r.lenient) c.self.view_is in
    let some : c.args.self.now.lenient ≡ false → 0 < length before → 0 < byte =
    λ strict more. elim c.else-byte-eq0.branch [
      | else-byte-eq0-via-then-byte-eq0+then-self-gt1+else-not-self w ↦
          let is = same ∙ strict in
          let bad = rw is at w.if-not-self.false in
          absurd cc
      | else-byte-eq0-via-then-byte-eq0+else-self-gt1 w ↦ omega arith
      | else-byte-eq0-via-else-byte-eq0 w ↦ omega arith
    ] in
    rw value (value_is c.args.self.now.lenient before byte c.requires.open c.requires.short c.if-byte-ge128.false some)
