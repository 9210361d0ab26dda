-- A packet of a connected client.
use Rattle.std.proofs.Common.{◌≡◌, ℕ, Bool, true, false, cond, List, [], ◌∷◌, Option, Some, None, sym, ap, ◌∙◌, append-nil}
use Rattle.std.proofs.lemmas.Bool.{cond-true, cond-false}
use Rattle.mq_packet.specs.declared.message.Message.{Message}
use Rattle.mq_packet.specs.declared.packet.Packet.{Packet}
use Rattle.mq_end.specs.declared.happening.Happening.{Happening}
use Rattle.mq_end.specs.declared.reason.CloseReason.{CloseReason}
use Rattle.mq_end.specs.End.{End}
use Rattle.mq_end.specs.Server.{server_gets}
use Rattle.mq_route.specs.declared.act.Act.{Act}
use Rattle.mq_route.specs.declared.close.HubClose.TheVariants.{TargetFull}
use Rattle.mq_route.specs.declared.config.HubConfig.{HubConfig}
use Rattle.mq_route.specs.declared.conn.Conn.{Conn}
use Rattle.mq_route.specs.Arrives.{answers, answers_all, due, due_by, replies, on_passed_packet}
use Rattle.mq_route.specs.Hub.{HubState, end_of, up_on}
use Rattle.mq_route.specs.Work.{Work, close, does, have_room}
use Rattle.mq_tables.specs.declared.sessions.call.Call.TheVariants.{Takes}
use Rattle.mq_tables.specs.Tables.{HubTables}
use Rattle.mq_tables.specs.Sessions.{sessions_of}
use Rattle.mq_tables.proofs.SessionRoom.{same_sessions}
use Rattle.mq_hub.specs.Inside.Requests.{Answers}
use Rattle.mq_hub.specs.Inside.Refinement.{Refines}
use Rattle.mq_hub.specs.Inside.Invariant.{HubInvariant}
use Rattle.mq_hub.specs.Inside.View.{hub_of}
use Rattle.mq_hub.proofs.GrantedRows.{answered_goes, kept_answered}
use Rattle.mq_hub.proofs.SessionRoom.{room_none}
use Rattle.mq_hub.proofs.EndReplies.{end_there, packet_stays}

-- ---- what the definition says of a packet at which the end doesn't close

module _ (conn : Conn) (key : ℕ) (p : Packet) (fits : Bool) where
  -- it reports nothing
  silent : (w : Work) → (server_gets p (end_of key w.hub.sessions)).close ≡ None → (server_gets p (end_of key w.hub.sessions)).happenings ≡ []
      → on_passed_packet conn key p fits w ≡ does key (server_gets p) w
  unfolding replies
  silent w stays tells =
      ap (λ (o : Option CloseReason). replies conn key (server_gets p) o fits w) stays
      ∙ ap (λ (hs : List Happening). cond (have_room (due key w.hub hs) w.hub) (answers_all conn key hs (does key (server_gets p) w)) (close conn TargetFull fits w)) tells
      ∙ cond-true (have_room [] w.hub) (does key (server_gets p) w) (close conn TargetFull fits w) (room_none w.hub)

  -- it reports something for which there is room
  telling : (h : Happening) (w : Work) → (server_gets p (end_of key w.hub.sessions)).close ≡ None → (server_gets p (end_of key w.hub.sessions)).happenings ≡ h ∷ []
      → have_room (due_by key w.hub h) w.hub ≡ true → on_passed_packet conn key p fits w ≡ answers conn key h (does key (server_gets p) w)
  unfolding replies
  telling h w stays tells room =
      ap (λ (o : Option CloseReason). replies conn key (server_gets p) o fits w) stays
      ∙ ap (λ (hs : List Happening). cond (have_room (due key w.hub hs) w.hub) (answers_all conn key hs (does key (server_gets p) w)) (close conn TargetFull fits w)) tells
      ∙ cond-true (have_room (due key w.hub (h ∷ [])) w.hub) (answers conn key h (does key (server_gets p) w)) (close conn TargetFull fits w)
      (ap (λ (cs : List (ℕ × Message)). have_room cs w.hub) (append-nil (due_by key w.hub h)) ∙ room)

  -- a session is too full for the copies
  full : (h : Happening) (w : Work) → (server_gets p (end_of key w.hub.sessions)).close ≡ None → (server_gets p (end_of key w.hub.sessions)).happenings ≡ h ∷ []
      → have_room (due_by key w.hub h) w.hub ≡ false → on_passed_packet conn key p fits w ≡ close conn TargetFull fits w
  unfolding replies
  full h w stays tells room =
      ap (λ (o : Option CloseReason). replies conn key (server_gets p) o fits w) stays
      ∙ ap (λ (hs : List Happening). cond (have_room (due key w.hub hs) w.hub) (answers_all conn key hs (does key (server_gets p) w)) (close conn TargetFull fits w)) tells
      ∙ cond-false (have_room (due key w.hub (h ∷ [])) w.hub) (answers conn key h (does key (server_gets p) w)) (close conn TargetFull fits w)
      (ap (λ (cs : List (ℕ × Message)). have_room cs w.hub) (append-nil (due_by key w.hub h)) ∙ room)

  module _ (old new : HubState) (did says : List Act) (stays : (server_gets p (end_of key old.sessions)).close ≡ None) where
    stays_at : (w : Work) → w.hub ≡ old → (server_gets p (end_of key w.hub.sessions)).close ≡ None
    stays_at w at = ap (λ (h : HubState). (server_gets p (end_of key h.sessions)).close) at ∙ stays

    pub silent_goes : (server_gets p (end_of key old.sessions)).happenings ≡ [] → Refines (does key (server_gets p)) old did new says → Refines (on_passed_packet conn key p fits) old did new says
    silent_goes tells goes =
        let is : (w : Work) → w.hub ≡ old → on_passed_packet conn key p fits w ≡ does key (server_gets p) w =
        λ w at. silent w (stays_at w at) (ap (λ (h : HubState). (server_gets p (end_of key h.sessions)).happenings) at ∙ tells) in record {
          hub = λ w at said. ap (λ (v : Work). v.hub) (is w at) ∙ goes.hub w at said;
          did = λ w at said. ap (λ (v : Work). v.did) (is w at) ∙ goes.did w at said;
        }

    pub telling_goes : (h : Happening) → (server_gets p (end_of key old.sessions)).happenings ≡ h ∷ [] → have_room (due_by key old h) old ≡ true
        → Refines (λ w. answers conn key h (does key (server_gets p) w)) old did new says → Refines (on_passed_packet conn key p fits) old did new says
    telling_goes h tells room goes =
        let is : (w : Work) → w.hub ≡ old → on_passed_packet conn key p fits w ≡ answers conn key h (does key (server_gets p) w) =
        λ w at. telling h w (stays_at w at) (ap (λ (a : HubState). (server_gets p (end_of key a.sessions)).happenings) at ∙ tells)
        (ap (λ (a : HubState). have_room (due_by key a h) a) at ∙ room) in record {
          hub = λ w at said. ap (λ (v : Work). v.hub) (is w at) ∙ goes.hub w at said;
          did = λ w at said. ap (λ (v : Work). v.did) (is w at) ∙ goes.did w at said;
        }

    pub full_goes : (h : Happening) → (server_gets p (end_of key old.sessions)).happenings ≡ h ∷ [] → have_room (due_by key old h) old ≡ false
        → Refines (close conn TargetFull fits) old did new says → Refines (on_passed_packet conn key p fits) old did new says
    full_goes h tells room goes =
        let is : (w : Work) → w.hub ≡ old → on_passed_packet conn key p fits w ≡ close conn TargetFull fits w =
        λ w at. full h w (stays_at w at) (ap (λ (a : HubState). (server_gets p (end_of key a.sessions)).happenings) at ∙ tells)
        (ap (λ (a : HubState). have_room (due_by key a h) a) at ∙ room) in record {
          hub = λ w at said. ap (λ (v : Work). v.hub) (is w at) ∙ goes.hub w at said;
          did = λ w at said. ap (λ (v : Work). v.did) (is w at) ∙ goes.did w at said;
        }

-- ---- the end processes it

module _ (config : HubConfig) (next key : ℕ) (t u : HubTables) (kept : HubInvariant config next t) (k : Conn) (on : up_on key t.connections.connections ≡ Some k) (now : ℕ) (p : Packet)
    (a : Answers key (Takes now p) t.rows t u) where
  pub kept_taken : (server_gets p (end_of key (sessions_of t.sessions.list))).close ≡ None → HubInvariant config next u
  kept_taken stays =
      let end : end_of key (sessions_of t.sessions.list) ≡ a.serves.session.end.end =
      ap (end_of key) (sym (same_sessions t.sessions.list a.ready a.same)) ∙ end_there key a.serves.session a.ready a.serves.there in
      kept_answered config next key t u kept k on (Takes now p) t.rows kept.owned a
      (λ up. packet_stays p a.serves.session.end.end up (ap (λ (e : End). (server_gets p e).close) (sym end) ∙ stays))

  pub taken_goes : (clock : ℕ) (did : List Act) → Refines (does key (server_gets p)) (hub_of config clock next t) did (hub_of config clock next u) did
  taken_goes clock did = answered_goes config next key t u kept k on (Takes now p) t.rows kept.owned a clock did
