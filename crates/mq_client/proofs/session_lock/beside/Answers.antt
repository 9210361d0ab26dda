use Rattle.std.proofs.Common.{Some, None, sym, ◌∙◌, arith}
use Rattle.std.proofs.lemmas.Str.Pattern.{rfind_char}
use Rattle.mq_client.specs.Links.{Absolute, Bare, InFolder}
use Rattle.mq_client.proofs.LinkNames.{named_as, range_front}
use Rattle.mq_client.proofs.session_lock.beside.Goals as goal

pub returns-then-is_absolute : goal.returns-then-is_absolute
returns-then-is_absolute c = named_as _ _ _ _ c.from_str.ensures.ok (Absolute (sym c.if-is_absolute.ensures))

pub returns-in-Some : goal.returns-in-Some
returns-in-Some c =
    let found = rfind_char 47 c.args.link.now (Some c.in-Some.at) c.in-Some.ensures.cases (omega arith) in
    let named = InFolder c.in-Some.at (sym c.if-is_absolute.ensures) (record { within = found.0; here = found.1; last = found.2 }) in
    named_as _ _ _ _ c.format.ensures.ok (rw (c.range-folder.ensures.value ∙ range_front c.in-Some.at c.args.link.now) named)

pub returns-in-None : goal.returns-in-None
returns-in-None c =
    let none = rfind_char 47 c.args.link.now None c.in-None.ensures.cases (omega arith) in
    named_as _ _ _ _ c.from_str-in-None.ensures.ok (Bare (sym c.if-is_absolute.ensures) none)
