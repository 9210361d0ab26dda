use Rattle.std.proofs.Common.{Some, ap, sym, ◌∙◌}
use Rattle.std.specs.Arc.{arc_str_bytes}
use Rattle.std.specs.Option.{option_or}
use Rattle.std.specs.String.{string_bytes}
use Rattle.mq_topic.specs.NodeView.{child_collided, child_numbered, own_child}
use Rattle.mq_topic.specs.Inside.NodeView.{is_own}
use Rattle.mq_topic.specs.LevelNumber.{level_number}
use Rattle.mq_topic.specs.declared.level_map.Child.{Child}
use Rattle.mq_topic.proofs.Mapping.{other_child, other_numbered, other_text, put_numbered}
use Rattle.mq_topic.proofs.level_map.LevelMap.put.Goals as goal

pub invariant_of-self : goal.invariant_of-self
invariant_of-self c =
    let child : Child = record { level = c.args.level; id = c.args.child } in
    let number = c.level_number-number.ensures ∙ ap level_number c.as_str.ensures.value in
    let old = c.args.self.now in
    let entries = c.insert.new.self.entries in
    let updates = c.insert.ensures.updates in
    let err = c.insert.ensures.err in
    let kept = put_numbered c.insert.result c.level_number-number.result child old.numbered.entries entries old.numbers (sym number) updates (λ u. u.0) err in
    record { numbers = kept }

pub returns-then-is_own-clause-others : goal.returns-then-is_own-clause-others
returns-then-is_own-clause-others c =
    let child : Child = record { level = c.args.level; id = c.args.child } in
    let old = c.args.self.now in
    let number = c.level_number-number.result in
    let new = c.insert.new.self.entries in
    let updates = c.in_ok-insert.ensures.updates in
    let own = ap (λ l. is_own l (child_numbered number old)) (sym c.as_str-2.ensures.value) ∙ sym c.is_own.ensures ∙ c.if-is_own.true in
    λ l ne. ap (λ o. option_or o (child_collided l old))
    (other_numbered number (arc_str_bytes c.args.level) l (Some child) old.numbered.entries new updates.0 own (other_child child l ne) ne)

pub returns-clause-others : goal.returns-clause-others
returns-clause-others c =
    let key = c.in_ok-key.ensures.ok ∙ c.as_str-3.ensures.value in
    let old = c.args.self.now in
    let new = c.insert-2.new.self.entries in
    let keeps = c.in_ok-insert-2.ensures.updates.3 in
    λ l ne. ap (option_or (own_child l (child_numbered (level_number l) old)))
    (other_text (string_bytes c.in_ok-key.key) l old.collided.entries new keeps (λ e. ne (e ∙ key)))
