use Rattle.std.proofs.Common.{◌++◌, ap, codes, inl, refl, rules, subst}
use Rattle.std.specs.Io.KnownBytes.{Appends}
use Rattle.std.specs.String.{string_bytes}
use Rattle.mq_programs.proofs.password.print_line.Goals as goal

pub returns-in_ok-flush-in-Ok : goal.returns-in_ok-flush-in-Ok
returns-in_ok-flush-in-Ok g c =
    let printed : Appends (g.W.Write.contents c.args.output.now) (g.W.Write.contents c.flush.new.self) (string_bytes c.in-Ok.line ++ codes "\n") = search rules in
    (_, subst (Appends _ _) (ap (λ line. line ++ codes "\n") c.in-Ok.ensures.line) printed, inl (refl, refl))
