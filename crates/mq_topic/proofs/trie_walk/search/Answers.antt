use Rattle.std.proofs.Common.{sym, ap, subst, ◌∙◌}
use Rattle.mq_topic.specs.Inside.Found.{Entries, Gathers}
use Rattle.mq_topic.specs.Inside.Matching.{levels_left}
use Rattle.mq_topic.specs.TrieView.{tree}
use Rattle.mq_topic.proofs.Searching.{Matches, search_absent, search_first, search_shown}
use Rattle.mq_topic.proofs.trie_walk.search.Goals.{then-begins_with_dollar+then-is_some+in_ok-walk, then-begins_with_dollar+else-is_some, else-begins_with_dollar+in_ok-walk-2}
use Rattle.mq_topic.proofs.trie_walk.search.Goals as goal

pub returns : goal.returns
returns c = λ row h.
    let t = tree c.args.trie.now in
    let name = c.args.name.now in
    let begun = c.new-found.result.entries in
    let last = c.if-begins_with_dollar.found.entries in
    let none = c.new-found.ensures.empty in
    let whole : Gathers (Matches row name) begun last =
    elim c.if-begins_with_dollar.branch [
      | then-begins_with_dollar+then-is_some+in_ok-walk w ↦
          let first = w.first_level.result in
          let dollar = sym c.begins_with_dollar.ensures ∙ w.if-begins_with_dollar.true in
          let g = search_first row t h name dollar first.0.now (levels_left first.1) w.first_level.ensures.levels begun w.walk.new.found.entries w.child-first.result (sym w.child-first.ensures) (sym w.is_some.ensures ∙ w.if-is_some.true) w.in_ok-walk.ensures in
          subst (λ (x : Entries). Gathers (Matches row name) begun x) (sym (ap (λ m. m.entries) w.found-is)) g
      | then-begins_with_dollar+else-is_some w ↦
          let first = w.first_level.result in
          let dollar = sym c.begins_with_dollar.ensures ∙ w.if-begins_with_dollar.true in
          let g = search_absent row t h name dollar first.0.now (levels_left first.1) w.first_level.ensures.levels begun w.child-first.result (sym w.child-first.ensures) (sym w.is_some.ensures ∙ w.if-is_some.false) in
          subst (λ (x : Entries). Gathers (Matches row name) begun x) (sym (ap (λ m. m.entries) w.found-is)) g
      | else-begins_with_dollar+in_ok-walk-2 w ↦
          let plain = sym c.begins_with_dollar.ensures ∙ w.if-begins_with_dollar.false in
          let g = search_shown row t h name plain begun w.walk-else-begins_with_dollar.new.found.entries w.in_ok-walk-2.ensures in
          subst (λ (x : Entries). Gathers (Matches row name) begun x) (sym (ap (λ m. m.entries) w.found-is)) g
    ] in
    subst (λ (x : Entries). Gathers (Matches row name) x last) none whole
