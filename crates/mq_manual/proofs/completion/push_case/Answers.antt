use Rattle.std.proofs.Common.{◌≡◌, ◌++◌, codes, string_bytes, rules}
use Rattle.std.specs.List.{list_any}
use Rattle.std.specs.Str.{trim_start}
use Rattle.clap.specs.Simple.{is_positional}
use Rattle.clap.specs.Words.{shape_of}
use Rattle.mq_manual.specs.Completion.{offer, options, own_name}
use Rattle.mq_manual.proofs.Cases.{one_case}
use Rattle.mq_manual.proofs.completion.push_case.Goals as goal

pub returns : goal.returns
returns c =
    let command = shape_of c.args.command.now in
    let old = string_bytes c.args.script.now in
    let first = string_bytes c.writeln.new.self in
    let second = string_bytes c.push_values.new.script in
    let third = string_bytes c.push_offer.new.script in
    let new = string_bytes c.push_str.new.self in
    let values = c.in_ok-push_values.ensures in
    let begins : first ≡ old ++ (codes "    *:" ++ (own_name command.name ++ codes ")\n")) = search rules in
    let offered : third ≡ second ++ offer (list_any is_positional command.rules) (trim_start (options command)) = search rules in
    (values.0, one_case command old first second third new values.0 begins values.1 offered c.in_ok-push_str.ensures.bytes)
