use Rattle.std.proofs.Common.{◌≡◌, ◌++◌, ◌∙◌, ap, codes, refl, string_bytes, rules}
use Rattle.clap.specs.Words.{App, Text, shape_of}
use Rattle.mq_manual.specs.Completion.{case_text, own_name}
use Rattle.mq_manual.proofs.completion.push_command.Goals as goal

pub returns-clause-names : goal.returns-clause-names
returns-clause-names c =
    let old = string_bytes c.args.names.now in
    let wrote : string_bytes c.write.new.self ≡ old ++ (codes " " ++ own_name (shape_of c.build.new.self).name) = search rules in
    wrote ∙ ap (λ (name : Text). old ++ (codes " " ++ own_name name)) c.in_ok-build.ensures.names.0

pub returns-clause-cases : goal.returns-clause-cases
returns-clause-cases c =
    let complete = shape_of c.build.new.self in
    let case = c.in_ok-push_case.ensures in (
      case_text complete case.0,
      record { complete = complete; name = c.in_ok-build.ensures.names.0; completes = λ plain. ap (λ (a : App). a.top) (c.in_ok-build.ensures.shape plain); values = case.0; text_is = refl },
      case.1,
    )
