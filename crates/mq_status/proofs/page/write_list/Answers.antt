use Rattle.std.proofs.Common.{◌++◌, ℕ, List, codes, flat_map}
use Rattle.mq_status.specs.Page.{item_text, title_text}
use Rattle.mq_status.specs.declared.page.Item.{Item}
use Rattle.mq_status.proofs.Texts.{and_then}
use Rattle.mq_status.proofs.page.write_list.Goals as goal

pub returns : goal.returns
returns g c =
    let items : List ℕ = flat_map (λ (i : Item). item_text i.0.now i.1) c.args.items.now in
    and_then _ _ _ _ (title_text c.args.title.now) (items ++ codes "</table>\n") c.in_ok-writeln.ensures.bytes
    (and_then _ _ _ _ items (codes "</table>\n") c.in_ok-write_items.ensures c.writeln-2.ensures.bytes)
