use Rattle.std.proofs.Common.{◌≡◌, ◌∙◌, ℕ, List, [], ◌∷◌, ◌++◌, refl, sym, ap, subst}
use Rattle.mq_packet.specs.declared.message.Message.{Message}
use Rattle.mq_route.specs.declared.act.Act.{Act}
use Rattle.mq_route.specs.declared.config.HubConfig.{HubConfig}
use Rattle.mq_route.specs.Copies.{kept}
use Rattle.mq_route.specs.Hub.{copies_of}
use Rattle.mq_route.specs.Work.{deliver}
use Rattle.mq_tables.specs.declared.sessions.session.BrokerSession.{BrokerSession}
use Rattle.mq_hub.specs.Inside.Placement.{CanPlace, Settles, placed_all, with_list, with_retained}
use Rattle.mq_hub.specs.Inside.Refinement.{Refines}
use Rattle.mq_tables.specs.Tables.{HubTables}
use Rattle.mq_hub.specs.Inside.View.{hub_of}
use Rattle.mq_hub.proofs.DeliveryInvariant.{kept_shared}
use Rattle.mq_hub.proofs.PlacedCopies.{ArePlaceable, all_placeable, can_place, shares}
use Rattle.mq_hub.proofs.publish.reserve.deliver.Goals as goal

-- the message is retained and reported, and its copies are placed
delivered : (config : HubConfig) (clock next_key : ℕ) (v t : HubTables) (did says : List Act) (act : Act) (m : Message) (placed : List (ℕ × Message)) (report : List Act)
    → (new : List BrokerSession) (ms : List Message) → v ≡ t → ms ≡ kept m v.retained.messages → CanPlace t
    → Settles config (λ k. 0) t.sessions.list (copies_of m (hub_of config clock next_key t)) placed report → ArePlaceable t.sessions.list placed
    → new ≡ placed_all placed v.sessions.list → says ≡ (did ++ act ∷ []) ++ report
    → Refines (deliver act m) (hub_of config clock next_key t) did (hub_of config clock next_key (with_list new (with_retained ms v))) says
delivered config clock next_key v t did says act m placed report new ms same keeps can settles all is says_is =
    subst (λ (u : HubTables). Refines (deliver act m) (hub_of config clock next_key t) did (hub_of config clock next_key (with_list new (with_retained ms u))) says) (sym same)
    (shares config clock next_key t did says act m (copies_of m (hub_of config clock next_key t)) placed report t.sessions.list new ms refl
    (keeps ∙ ap (λ (u : HubTables). kept m u.retained.messages) same) can refl settles all
    (is ∙ ap (λ (u : HubTables). placed_all placed u.sessions.list) same) says_is)

pub returns-clause-goes : goal.returns-clause-goes
returns-clause-goes g c = λ m config clock next_key is keeps settles.
    let s = c.args.plan in
    let t = c.args.tables.now in
    delivered config clock next_key _ t c.args.log.now.acts c.push_all.new.log.acts c.args.act m s.copies.items s.acts.items
    c.enqueue_all.new.sessions.list c.retain_planned.new.self.messages c.tables.view_is (c.retain_planned.ensures.messages m is) (can_place config next_key t keeps)
    settles (all_placeable 0 t.sessions.list s.copies.items c.requires.ready.ready) c.enqueue_all.ensures.list
    (c.push_all.ensures.acts ∙ ap (λ (said : List Act). said ++ s.acts.items) c.push.ensures.acts)

pub returns-clause-keeps : goal.returns-clause-keeps
returns-clause-keeps g c = λ m config next_key is keeps within.
    let s = c.args.plan in
    kept_shared config next_key m s.copies.items c.args.tables.now _ keeps within c.requires.ready.apart c.requires.ready.ready
    (ap (λ (v : HubTables). v.rows) c.tables.view_is) (ap (λ (v : HubTables). v.connections) c.tables.view_is)
    (c.retain_planned.ensures.messages m is ∙ ap (λ (v : HubTables). kept m v.retained.messages) c.tables.view_is)
    (c.enqueue_all.ensures.list ∙ ap (λ (v : HubTables). placed_all s.copies.items v.sessions.list) c.tables.view_is)
