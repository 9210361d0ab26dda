-- The worked runs, computed.
use Rattle.std.proofs.Common.{◌≡◌, true, false, [], ◌∷◌, refl}
use Rattle.mq_wire.specs.Length.{length_bytes}
use Rattle.mq_topic.specs.declared.qos.Qos.TheVariants.{Q0, Q1, Q2}
use Rattle.mq_packet.specs.declared.connack.RefusalCode.TheVariants.{BadUserNameOrPassword, NotAuthorized}
use Rattle.mq_packet.specs.Encoding.{encoding}
use Rattle.mq_flow.specs.Next.{next_identifier}
use Rattle.mq_end.specs.declared.reason.CloseReason.TheVariants.{Left, Refused}
use Rattle.mq_route.specs.declared.act.Act.TheVariants as acts
use Rattle.mq_route.specs.declared.close.HubClose.TheVariants.{Own, TakenOver, TargetFull, PeerEnded}
use Rattle.mq_route.specs.Copies.{kept, retained_for}
use Rattle.mq_route.specs.Routed.{seen_after, copies_for, routes, routed}
use Rattle.mq_route.specs.Hub.{waiting_on, copies_of}
use Rattle.mq_route.specs.Welcome.{refusal}
use Rattle.mq_route.specs.Work.{put_on, does, enqueue, all_fit, have_room, deliver, remove, last_will, leaves_behind, shut_down, close}
use Rattle.mq_route.specs.Arrives.{answers, replies, resume_session, new_session, goes_on, on_connect, on_first_packet, dispatch_packet, arrives, on_packet}
use Rattle.mq_route.specs.Examples.{conn, msg, mixed, retained, over_taken, replaced, strangers, full, full_dropping, retained_dropping, Examples}

mixed_acts : mixed.did
    ≡ acts.Up (conn 1) 0 false ∷ acts.Subscribed 0 (97 ∷ 47 ∷ 43 ∷ []) Q1 ∷ acts.Subscribed 0 (97 ∷ 47 ∷ 35 ∷ []) Q2 ∷ acts.Up (conn 2) 1 false
    ∷ acts.Took 1 (msg (97 ∷ 47 ∷ 98 ∷ []) (104 ∷ 105 ∷ []) Q1 false) ∷ acts.Placed 0 (msg (97 ∷ 47 ∷ 98 ∷ []) (104 ∷ 105 ∷ []) Q1 false)
    ∷ acts.Closed (conn 2) (Own Left) ∷ acts.Removed 1 ∷ []
unfolding length_bytes encoding next_identifier kept retained_for copies_of refusal put_on does enqueue all_fit have_room deliver remove last_will leaves_behind shut_down close answers replies resume_session new_session goes_on on_connect on_first_packet dispatch_packet arrives on_packet
mixed_acts = refl

mixed_first : waiting_on (conn 1) mixed.hub.connections
    ≡ 32 ∷ 2 ∷ 0 ∷ 0 ∷ 144 ∷ 4 ∷ 0 ∷ 1 ∷ 1 ∷ 2 ∷ 50 ∷ 9 ∷ 0 ∷ 3 ∷ 97 ∷ 47 ∷ 98 ∷ 0 ∷ 1 ∷ 104 ∷ 105 ∷ []
unfolding length_bytes encoding next_identifier kept retained_for copies_of refusal put_on does enqueue all_fit have_room deliver remove last_will leaves_behind shut_down close answers replies resume_session new_session goes_on on_connect on_first_packet dispatch_packet arrives on_packet
mixed_first = refl

mixed_second : waiting_on (conn 2) mixed.hub.connections ≡ 32 ∷ 2 ∷ 0 ∷ 0 ∷ 64 ∷ 2 ∷ 0 ∷ 1 ∷ []
unfolding length_bytes encoding next_identifier kept retained_for copies_of refusal put_on does enqueue all_fit have_room deliver remove last_will leaves_behind shut_down close answers replies resume_session new_session goes_on on_connect on_first_packet dispatch_packet arrives on_packet
mixed_second = refl

mixed_routed : routed 0 (acts.Up (conn 1) 0 false ∷ acts.Subscribed 0 (97 ∷ 47 ∷ 43 ∷ []) Q1 ∷ acts.Subscribed 0 (97 ∷ 47 ∷ 35 ∷ []) Q2 ∷ acts.Up (conn 2) 1 false
    ∷ acts.Took 1 (msg (97 ∷ 47 ∷ 98 ∷ []) (104 ∷ []) Q1 false) ∷ [])
    ≡ msg (97 ∷ 47 ∷ 98 ∷ []) (104 ∷ []) Q1 false ∷ []
unfolding kept retained_for seen_after copies_for routes
mixed_routed = refl

retained_bytes : waiting_on (conn 2) retained.hub.connections
    ≡ 32 ∷ 2 ∷ 0 ∷ 0 ∷ 144 ∷ 3 ∷ 0 ∷ 1 ∷ 1 ∷ 49 ∷ 4 ∷ 0 ∷ 1 ∷ 97 ∷ 49 ∷ 144 ∷ 3 ∷ 0 ∷ 2 ∷ 1 ∷ 49 ∷ 4 ∷ 0 ∷ 1 ∷ 97 ∷ 49 ∷ 48 ∷ 3 ∷ 0 ∷ 1 ∷ 97 ∷ 144 ∷ 3 ∷ 0 ∷ 3 ∷ 1 ∷ 176 ∷ 2 ∷ 0 ∷ 4 ∷ []
unfolding length_bytes encoding next_identifier kept retained_for copies_of refusal put_on does enqueue all_fit have_room deliver remove last_will leaves_behind shut_down close answers replies resume_session new_session goes_on on_connect on_first_packet dispatch_packet arrives on_packet
retained_bytes = refl

retained_routed : routed 1 (acts.Took 0 (msg (97 ∷ []) (49 ∷ []) Q0 true) ∷ acts.Up (conn 2) 1 false ∷ acts.Subscribed 1 (35 ∷ []) Q1
    ∷ acts.Took 0 (msg (97 ∷ []) [] Q0 true) ∷ acts.Subscribed 1 (35 ∷ []) Q1 ∷ [])
    ≡ msg (97 ∷ []) (49 ∷ []) Q0 true ∷ msg (97 ∷ []) [] Q0 false ∷ []
unfolding kept retained_for seen_after copies_for routes
retained_routed = refl

over_taken_acts : over_taken.did
    ≡ acts.Up (conn 1) 0 false ∷ acts.Up (conn 2) 1 false ∷ acts.Subscribed 1 (35 ∷ []) Q1 ∷ acts.Closed (conn 1) TakenOver
    ∷ acts.Will 0 (msg (119 ∷ []) (120 ∷ []) Q0 false) ∷ acts.Placed 1 (msg (119 ∷ []) (120 ∷ []) Q0 false) ∷ acts.Up (conn 3) 0 true ∷ []
unfolding length_bytes encoding next_identifier kept retained_for copies_of refusal put_on does enqueue all_fit have_room deliver remove last_will leaves_behind shut_down close answers replies resume_session new_session goes_on on_connect on_first_packet dispatch_packet arrives on_packet
over_taken_acts = refl

over_taken_bytes : waiting_on (conn 3) over_taken.hub.connections ≡ 32 ∷ 2 ∷ 1 ∷ 0 ∷ []
unfolding length_bytes encoding next_identifier kept retained_for copies_of refusal put_on does enqueue all_fit have_room deliver remove last_will leaves_behind shut_down close answers replies resume_session new_session goes_on on_connect on_first_packet dispatch_packet arrives on_packet
over_taken_bytes = refl

replaced_acts : replaced.did
    ≡ acts.Up (conn 1) 0 false ∷ acts.Subscribed 0 (35 ∷ []) Q1 ∷ acts.Closed (conn 1) PeerEnded ∷ acts.Removed 0 ∷ acts.Up (conn 2) 1 false
    ∷ acts.Up (conn 3) 2 false ∷ acts.Took 2 (msg (97 ∷ []) (120 ∷ []) Q1 false) ∷ []
unfolding length_bytes encoding next_identifier kept retained_for copies_of refusal put_on does enqueue all_fit have_room deliver remove last_will leaves_behind shut_down close answers replies resume_session new_session goes_on on_connect on_first_packet dispatch_packet arrives on_packet
replaced_acts = refl

strangers_acts : strangers.did ≡ acts.Closed (conn 1) (Own (Refused NotAuthorized)) ∷ acts.Closed (conn 2) (Own (Refused BadUserNameOrPassword)) ∷ []
unfolding length_bytes encoding next_identifier kept retained_for copies_of refusal put_on does enqueue all_fit have_room deliver remove last_will leaves_behind shut_down close answers replies resume_session new_session goes_on on_connect on_first_packet dispatch_packet arrives on_packet
strangers_acts = refl

strangers_bytes : waiting_on (conn 1) strangers.hub.connections ≡ 32 ∷ 2 ∷ 0 ∷ 5 ∷ []
unfolding length_bytes encoding next_identifier kept retained_for copies_of refusal put_on does enqueue all_fit have_room deliver remove last_will leaves_behind shut_down close answers replies resume_session new_session goes_on on_connect on_first_packet dispatch_packet arrives on_packet
strangers_bytes = refl

full_acts : full.did
    ≡ acts.Up (conn 1) 0 false ∷ acts.Subscribed 0 (35 ∷ []) Q2 ∷ acts.Up (conn 2) 1 false ∷ acts.Took 1 (msg (97 ∷ []) [] Q1 false) ∷ acts.Placed 0 (msg (97 ∷ []) [] Q1 false)
    ∷ acts.Closed (conn 2) TargetFull ∷ acts.Removed 1 ∷ acts.WillDropped 1 ∷ []
unfolding length_bytes encoding next_identifier kept retained_for copies_of refusal put_on does enqueue all_fit have_room deliver remove last_will leaves_behind shut_down close answers replies resume_session new_session goes_on on_connect on_first_packet dispatch_packet arrives on_packet
full_acts = refl

full_dropping_acts : full_dropping.did
    ≡ acts.Up (conn 1) 0 false ∷ acts.Subscribed 0 (35 ∷ []) Q2 ∷ acts.Up (conn 2) 1 false ∷ acts.Took 1 (msg (97 ∷ []) [] Q1 false)
    ∷ acts.Placed 0 (msg (97 ∷ []) [] Q1 false) ∷ acts.Took 1 (msg (97 ∷ []) [] Q1 false) ∷ acts.Missed 0 (msg (97 ∷ []) [] Q1 false) ∷ []
unfolding length_bytes encoding next_identifier kept retained_for copies_of refusal put_on does enqueue all_fit have_room deliver remove last_will leaves_behind shut_down close answers replies resume_session new_session goes_on on_connect on_first_packet dispatch_packet arrives on_packet
full_dropping_acts = refl

full_dropping_bytes : waiting_on (conn 2) full_dropping.hub.connections ≡ 32 ∷ 2 ∷ 0 ∷ 0 ∷ 64 ∷ 2 ∷ 0 ∷ 1 ∷ 64 ∷ 2 ∷ 0 ∷ 2 ∷ []
unfolding length_bytes encoding next_identifier kept retained_for copies_of refusal put_on does enqueue all_fit have_room deliver remove last_will leaves_behind shut_down close answers replies resume_session new_session goes_on on_connect on_first_packet dispatch_packet arrives on_packet
full_dropping_bytes = refl

retained_dropping_acts : retained_dropping.did
    ≡ acts.Up (conn 1) 0 false ∷ acts.Took 0 (msg (97 ∷ []) (49 ∷ []) Q1 true) ∷ acts.Took 0 (msg (98 ∷ []) (50 ∷ []) Q1 true)
    ∷ acts.Took 0 (msg (100 ∷ []) (51 ∷ []) Q0 true) ∷ acts.Subscribed 0 (35 ∷ []) Q2 ∷ acts.Placed 0 (msg (97 ∷ []) (49 ∷ []) Q1 true)
    ∷ acts.Missed 0 (msg (98 ∷ []) (50 ∷ []) Q1 true) ∷ acts.Placed 0 (msg (100 ∷ []) (51 ∷ []) Q0 true) ∷ []
unfolding length_bytes encoding next_identifier kept retained_for copies_of refusal put_on does enqueue all_fit have_room deliver remove last_will leaves_behind shut_down close answers replies resume_session new_session goes_on on_connect on_first_packet dispatch_packet arrives on_packet
retained_dropping_acts = refl

pub examples : Examples
examples = record {
  mixed_acts = mixed_acts;
  mixed_first = mixed_first;
  mixed_second = mixed_second;
  mixed_routed = mixed_routed;
  retained_bytes = retained_bytes;
  retained_routed = retained_routed;
  over_taken_acts = over_taken_acts;
  over_taken_bytes = over_taken_bytes;
  replaced_acts = replaced_acts;
  strangers_acts = strangers_acts;
  strangers_bytes = strangers_bytes;
  full_acts = full_acts;
  full_dropping_acts = full_dropping_acts;
  full_dropping_bytes = full_dropping_bytes;
  retained_dropping_acts = retained_dropping_acts;
}
