use Rattle.std.proofs.Common.{◌≡◌, ℕ, ◌++◌, List, IfOk, rules, subst}
use Rattle.mq_flow.specs.declared.saved.Saved.{Saved}
use Rattle.mq_flow.specs.Saved.{AreWithin, IsSession}
use Rattle.mq_flow.specs.SavedTwo.{saved_form_two}
use Rattle.mq_end.specs.End.{resumed}
use Rattle.mq_end.specs.Publishing.{ClientState}
use Rattle.mq_end.specs.Resuming.{kept_session}
use Rattle.mq_world.proofs.Worlds.{on_ok}
use Rattle.mq_world.proofs.Anew.{saved_of, saved_as, made_of}
use Rattle.mq_world.proofs.restart.made_anew.Goals as goal

pub returns-in_err-saved-clause-memory : goal.returns-in_err-saved-clause-memory
returns-in_err-saved-clause-memory c =
    let client : ClientState = c.args.client.now in
    let form : List ℕ = saved_form_two client.config.id client.link.end.known (kept_session client.link) in
    let put = on_ok c.save.result (c.save.new.out.items ≡ c.new-bytes.result.items ++ form) c.if-is_err.ensures.value c.save.ensures.ok in
    let sound = on_ok c.save.result (AreWithin 268435455 client.link.end.book.entries → IsSession (kept_session client.link)) c.if-is_err.ensures.value
    c.save.ensures.session c.requires.saves in
    let memory = c.in_err-saved.ensures.saved (saved_of client) sound (saved_as client c.args.config.id c.new-bytes.result.items c.save.new.out.items
    c.as_slice.result.now c.as_str-id.ensures.text c.requires.id c.new-bytes.ensures.items put c.as_slice.ensures.value) in
    search (rules, memory)

-- The loaded session is the saved one.
same : (c : goal.After-drop-bytes-2) → c.in_ok-saved.saved ≡ saved_of c.args.client.now
same c =
    let client : ClientState = c.args.client.now in
    let form : List ℕ = saved_form_two client.config.id client.link.end.known (kept_session client.link) in
    let put = on_ok c.save.result (c.save.new.out.items ≡ c.new-bytes.result.items ++ form) c.if-is_err.ensures.value c.save.ensures.ok in
    let sound = on_ok c.save.result (AreWithin 268435455 client.link.end.book.entries → IsSession (kept_session client.link)) c.if-is_err.ensures.value
    c.save.ensures.session c.requires.saves in
    c.in_ok-saved.ensures.saved (saved_of client) sound (saved_as client c.args.config.id c.new-bytes.result.items c.save.new.out.items
    c.as_slice.result.now c.as_str-id.ensures.text c.requires.id c.new-bytes.ensures.items put c.as_slice.ensures.value)

pub returns-clause-memory : goal.returns-clause-memory
returns-clause-memory c =
    made_of c.args.client.now c.in_ok-saved.saved c.args.config.id c.args.config.limits.most c.with_saved.result (same c) c.requires.id c.requires.loads
    c.with_saved.ensures.only c.with_saved.ensures.another c.with_saved.ensures.too_large

pub returns-clause-end : goal.returns-clause-end
returns-clause-end c =
    let P : Saved → Type 0 = λ v. IfOk c.with_saved.result (λ (made : ClientState). made.link.end
    ≡ resumed c.args.config.window v.established v.session.sender.book v.session.receiver v.session.sender.last) in
    subst P (same c) c.with_saved.ensures.end

pub returns-clause-capacity : goal.returns-clause-capacity
returns-clause-capacity c =
    let P : Saved → Type 0 = λ v. IfOk c.with_saved.result (λ (made : ClientState). made.link.capacity ≡ v.session.sender.capacity) in
    subst P (same c) c.with_saved.ensures.capacity
