use Rattle.std.proofs.Common.{Some, None, sym, subst}
use Rattle.mq_topic.specs.Topic.{levels}
use Rattle.mq_topic.specs.Tree.{Leads}
use Rattle.mq_topic.specs.Inside.Tree.{IsTrieUpTo}
use Rattle.mq_topic.specs.TrieView.{tree}
use Rattle.mq_topic.proofs.Changes.{client_row, leads_after_client, no_row, off_root, set_is_trie, up_to_same}
use Rattle.mq_topic.proofs.Placing.{on_err}
use Rattle.mq_topic.proofs.trie_store.link.Goals as goal

pub returns-in_err-at-clause-refused : goal.returns-in_err-at-clause-refused
returns-in_err-at-clause-refused c =
    let old = tree c.args.trie.now in
    on_err _ c.from_residual.result
    (λ row h. no_row old row h c.args.client c.args.filter.now (λ k g. c.in_err-at.ensures.refused (Some k) (subst (λ f. Leads old None (levels f) (Some k)) (sym c.as_str.ensures.value) g)))

pub returns-in-Err-clause-unchanged : goal.returns-in-Err-clause-unchanged
returns-in-Err-clause-unchanged c = λ row h.
    let mid = tree c.open.new.trie in
    let id = c.in-Some.id in
    let up = subst (λ a. IsTrieUpTo a row mid) c.in-Some.is (c.in_ok-at.ensures.opened row h) in
    c.prune.ensures row (up_to_same (Some id) row mid (tree c.set_client.new.self) c.in-Err.ensures.unchanged up)

pub returns-in-Err-clause-refused : goal.returns-in-Err-clause-refused
returns-in-Err-clause-refused c = λ row h.
    let mid = tree c.open.new.trie in
    let id = c.in-Some.id in
    let up = subst (λ a. IsTrieUpTo a row mid) c.in-Some.is (c.in_ok-at.ensures.opened row h) in
    let leads = subst (λ a. Leads mid None (levels c.as_str.result.now) a) c.in-Some.is c.in_ok-at.ensures.leads.0 in
    client_row mid row (Some id) up id c.args.client c.args.filter.now (subst (λ f. Leads mid None (levels f) (Some id)) c.as_str.ensures.value leads) c.in-Err.ensures.refused

pub returns-in_default-set_client-clause-linked : goal.returns-in_default-set_client-clause-linked
returns-in_default-set_client-clause-linked c = λ row h.
    let mid = tree c.open.new.trie in
    let id = c.in-Some.id in
    let up = subst (λ a. IsTrieUpTo a row mid) c.in-Some.is (c.in_ok-at.ensures.opened row h) in
    let leads = subst (λ a. Leads mid None (levels c.as_str.result.now) a) c.in-Some.is c.in_ok-at.ensures.leads.0 in
    set_is_trie id c.args.client c.args.filter.now c.args.qos row mid (tree c.set_client.new.self) up (subst (λ f. Leads mid None (levels f) (Some id)) c.as_str.ensures.value leads) c.in_default-set_client.ensures.set

pub returns-in_default-set_client-clause-leads : goal.returns-in_default-set_client-clause-leads
returns-in_default-set_client-clause-leads c =
    let mid = tree c.open.new.trie in
    let id = c.in-Some.id in
    let leads = subst (λ a. Leads mid None (levels c.as_str.result.now) a) c.in-Some.is c.in_ok-at.ensures.leads.0 in
    leads_after_client mid (tree c.set_client.new.self) id c.args.client (Some c.args.qos) c.in_default-set_client.ensures.set (Some id) (levels c.args.filter.now)
    (subst (λ f. Leads mid None (levels f) (Some id)) c.as_str.ensures.value leads)

pub returns-in_default-clause-linked : goal.returns-in_default-clause-linked
returns-in_default-clause-linked c = λ row h.
    let mid = tree c.open.new.trie in
    absurd (off_root mid c.as_str.result.now (subst (λ a. Leads mid None (levels c.as_str.result.now) a) c.in_default.is c.in_ok-at.ensures.leads.0))
