use Rattle.std.proofs.Common.{◌≡◌, ◌∙◌, ◌<◌, ℕ, List, Some, length, get_or, sym, ap, arith}
use Rattle.std.specs.List.{remove}
use Rattle.std.specs.Option.{is_some}
use Rattle.mq_tables.specs.declared.sessions.session.BrokerSession.{BrokerSession}
use Rattle.mq_tables.specs.Sessions.{session_at}
use Rattle.mq_tables.proofs.SessionLemmas.{place, absent, taken, in_place, found_within, copied_there, copied_none}
use Rattle.mq_tables.proofs.sessions.table.take_at.Goals as goal

pub returns-then-is_none-clause-list : goal.returns-then-is_none-clause-list
returns-then-is_none-clause-list c =
    let key = c.args.key in
    let ts = c.args.list.now.items in
    sym (absent key ts (ap (λ (rs : List BrokerSession). session_at key rs) (sym c.as_slice.ensures.value) ∙ sym c.session_in.ensures ∙ copied_none c.session_in.result c.if-is_none.ensures))

pub returns-then-is_none-clause-taken : goal.returns-then-is_none-clause-taken
returns-then-is_none-clause-taken c =
    let key = c.args.key in
    sym (ap (λ (rs : List BrokerSession). session_at key rs) (sym c.as_slice.ensures.value) ∙ sym c.session_in.ensures ∙ copied_none c.session_in.result c.if-is_none.ensures)

pub remove-requires : goal.remove-requires
remove-requires c =
    let key = c.args.key in
    let ts = c.args.list.now.items in
    let at : c.place-at.result ≡ place key ts = c.place-at.ensures.value ∙ ap (place key) c.as_slice-2.ensures.value in
    let there = ap (λ (rs : List BrokerSession). is_some (session_at key rs)) (sym c.as_slice.ensures.value) ∙ ap is_some (sym c.session_in.ensures) ∙ copied_there c.session_in.result c.if-is_none.ensures in
    let within : place key ts < length ts = found_within key ts c.requires there in
    omega (arith, c.args.list.now.ok.0)

pub returns-clause-list : goal.returns-clause-list
returns-clause-list c =
    let key = c.args.key in
    let ts = c.args.list.now.items in
    let at : c.place-at.result ≡ place key ts = c.place-at.ensures.value ∙ ap (place key) c.as_slice-2.ensures.value in
    let there = ap (λ (rs : List BrokerSession). is_some (session_at key rs)) (sym c.as_slice.ensures.value) ∙ ap is_some (sym c.session_in.ensures) ∙ copied_there c.session_in.result c.if-is_none.ensures in
    let here = in_place key ts c.remove.result c.requires there in
    c.remove.ensures.items ∙ ap (λ (n : ℕ). remove ts n) at ∙ taken key (get_or ts (place key ts) c.remove.result) ts c.requires here.here

pub returns-clause-taken : goal.returns-clause-taken
returns-clause-taken c =
    let key = c.args.key in
    let ts = c.args.list.now.items in
    let at : c.place-at.result ≡ place key ts = c.place-at.ensures.value ∙ ap (place key) c.as_slice-2.ensures.value in
    let there = ap (λ (rs : List BrokerSession). is_some (session_at key rs)) (sym c.as_slice.ensures.value) ∙ ap is_some (sym c.session_in.ensures) ∙ copied_there c.session_in.result c.if-is_none.ensures in
    let here = in_place key ts c.remove.result c.requires there in
    ap (λ (x : BrokerSession). Some x) (c.into_session.ensures ∙ c.remove.ensures.value ∙ ap (λ (n : ℕ). get_or ts n c.remove.result) at) ∙ sym here.here
