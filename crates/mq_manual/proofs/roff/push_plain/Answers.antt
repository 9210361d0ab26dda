use Rattle.std.proofs.Common.{◌++◌, ◌∙◌, List, ℕ, ap, sym, string_bytes}
use Rattle.std.proofs.lemmas.Iterator.{YieldsList-from_chars}
use Rattle.std.proofs.lemmas.Iterator.Consumers.{YieldsList-end}
use Rattle.std.proofs.lemmas.List.{map-id}
use Rattle.std.specs.List.{flat_map}
use Rattle.mq_manual.specs.Roff.{plain_char}
use Rattle.mq_manual.proofs.roff.push_plain.Goals as goal

pub returns : goal.returns
returns c =
    let all = YieldsList-end (YieldsList-from_chars c.args.text.now c.utf8.text cc) c.loop-character.yielded _ c.loop-character.yielded_by _ _ c.in-None.is c.next.ensures.steps in
    c.loop-character.invariant ∙ ap (λ (cs : List ℕ). string_bytes c.args.page.now ++ flat_map plain_char cs) (sym (map-id c.loop-character.yielded) ∙ all.0)
