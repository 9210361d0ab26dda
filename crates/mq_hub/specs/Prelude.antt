-- The names that the source files of this crate cite. It declares none of its own.
pub use Rattle.std.specs.Cmp.Lexicographic.{slice_cmp}
pub use Rattle.std.specs.List.{flat_map, list_any}
pub use Rattle.std.specs.List.Sorted.{IsNonDecreasing, IsPermutation, IsSorted}
pub use Rattle.std.specs.Option.{option_copied, option_to_list}
pub use Rattle.std.specs.Ordering.{nat_cmp}
pub use Rattle.mq_decode.specs.Grammar.{IsFront}
pub use Rattle.mq_decode.specs.Limits.{Bounds}
pub use Rattle.mq_end.specs.Both.{has_identifier}
pub use Rattle.mq_end.specs.End.{is_up, End, closes, resumed}
pub use Rattle.mq_end.specs.KeepAlive.{is_late}
pub use Rattle.mq_end.specs.Server.{server_gets, server_up_gets}
pub use Rattle.mq_end.specs.Sizes.{subscribe_size, publish_size, identifier_size, unsuback_size}
pub use Rattle.mq_end.specs.State.{is_level}
pub use Rattle.mq_flow.specs.Receiver.{none_received}
pub use Rattle.mq_flow.specs.Sender.{is_full}
pub use Rattle.mq_flow.specs.Window.{fits_window}
pub use Rattle.mq_packet.specs.Encoding.{fields, encodings}
pub use Rattle.mq_packet.specs.Publication.{fits_delivery}
pub use Rattle.mq_packet.specs.declared.connect.Connect.{Connect}
pub use Rattle.mq_packet.specs.declared.message.Message.{Message}
pub use Rattle.mq_route.specs.Arrives.{on_malformed, accept_connect, on_first_packet, on_connect, start_session, terms_of, resume_session, dispatch_packet, Growth, on_packet, on_passed_packet, on_connected_packet, answers, granted}
pub use Rattle.mq_route.specs.Begun.{MayBegin}
pub use Rattle.mq_route.specs.Copies.{copy, copy_by, will_message}
pub use Rattle.mq_route.specs.Hub.{key_on, stage_of, is_clean, key_of, up_on, is_open, HubState, knows, without_connection, new_end, waiting_on, new_hub, end_of, held_on, copies_of, for_key, with_connection}
pub use Rattle.mq_route.specs.Routed.{same_conn, placed, routed, settled, taken}
pub use Rattle.mq_route.specs.Runs.{AreAccounts, IsRun, came_in}
pub use Rattle.mq_route.specs.Snapshot.{quiet, snapshot, IsKeptWhole, IsStorable, restored}
pub use Rattle.mq_route.specs.Step.{HubStep, close_if_open, on_collect, event_refusal, expired_keys, remove_all, with_clock}
pub use Rattle.mq_route.specs.StepSome.{HubStepSome}
pub use Rattle.mq_route.specs.Taken.{handed_from, of_client}
pub use Rattle.mq_route.specs.Welcome.{needs_new, refusal, client_of, has_digest, has_password, is_hashed_login, is_hashed_one, is_one_of, is_unavailable, login_refusal, made_up, made_up_from, refusal_by_tables, ends_with}
pub use Rattle.mq_route.specs.Work.{close, remove, remove_if, leaves, have_room, all_fit, lacks_room, enqueue_all, retained_copies, deliver, drops_copies, last_will}
pub use Rattle.mq_route.specs.declared.act.Act.{Act}
pub use Rattle.mq_route.specs.declared.act.Act.TheVariants.{Missed, Placed, Took}
pub use Rattle.mq_route.specs.declared.close.HubClose.TheVariants.{TakenOver}
pub use Rattle.mq_route.specs.declared.config.HubConfig.{HubConfig}
pub use Rattle.mq_route.specs.declared.conn.Conn.{Conn}
pub use Rattle.mq_tables.specs.Calls.{CanServe, publish_call, reply_of}
pub use Rattle.mq_tables.specs.Connecting.{HasConnectRoomAt}
pub use Rattle.mq_tables.specs.Connections.{IsDecoding, connection_of, connected_for}
pub use Rattle.mq_tables.specs.Late.{AreInTime, HasLate}
pub use Rattle.mq_tables.specs.Numbers.{stored_at}
pub use Rattle.mq_tables.specs.Publishing.{AreSameButRoom, AreStillReady, IsReadyAt}
pub use Rattle.mq_tables.specs.Retained.{IsKeptOf}
pub use Rattle.mq_tables.specs.Rules.{rules_of, space_of}
pub use Rattle.mq_tables.specs.Sessions.{sessions_of, session_at}
pub use Rattle.mq_tables.specs.Tables.{HubTables}
pub use Rattle.mq_tables.specs.declared.rules.CopyRules.{CopyRules}
pub use Rattle.sha2.specs.Sha256.{sha256}
pub use Rattle.mq_hub.specs.Deadline.{IsIdleBefore}
pub use Rattle.mq_hub.specs.Gauges.{counts_of, stored_in}
pub use Rattle.mq_hub.specs.Inside.Close.{close_at, parts, will_left}
pub use Rattle.mq_hub.specs.Inside.ConnectChecks.{IsCounted, IsStatusOf, is_connect, refused}
pub use Rattle.mq_hub.specs.Inside.ConnectRoom.{IsNewSession, has_session, will_messages, KeepsConnectRoom}
pub use Rattle.mq_hub.specs.Inside.DeliveryPlan.{AreShared, AreTablesAlike, IsPlanned, IsReserved}
pub use Rattle.mq_hub.specs.Inside.Expiry.{AreAway}
pub use Rattle.mq_hub.specs.Inside.Input.{RefinesBytes, with_touched, with_held, IsNext, goes_on}
pub use Rattle.mq_hub.specs.Inside.Invariant.{IsWillWithin, HubInvariant, IsWithin}
pub use Rattle.mq_hub.specs.Inside.Loading.{opened_at, with_opened, HaveNoOutput}
pub use Rattle.mq_hub.specs.Inside.Logs.{all_noted, IsBlank}
pub use Rattle.mq_hub.specs.Inside.Placement.{AreReady, HaveQueued, HaveSameBooks, AreApart, AreFor, HasSessions, Settles, copies_found, is_among, placed_all, AreUpAlike, placed_acts, with_list, AreHeard, CanPlace, IsFor, is_cut, first_fitting, fitting_acts}
pub use Rattle.mq_hub.specs.Inside.QueuedAnswer.{publish_answer, answer_for}
pub use Rattle.mq_hub.specs.Inside.Reception.{IsReceived, CanReceive, by_identifier}
pub use Rattle.mq_hub.specs.Inside.Refinement.{Refines}
pub use Rattle.mq_hub.specs.Inside.Requests.{AreAlike, Answers, RequestsNothing, Subscribes}
pub use Rattle.mq_hub.specs.Inside.Settlement.{IsSettled, IsSettledAs, IsSettledFor}
pub use Rattle.mq_hub.specs.Inside.Subscriptions.{subscribed_acts, unsubscribed_acts, without_rows}
pub use Rattle.mq_hub.specs.Inside.TableSteps.{AreHubTables, Proceeds, Spares}
pub use Rattle.mq_hub.specs.Inside.Tick.{TicksTo, late_of}
pub use Rattle.mq_hub.specs.Inside.View.{hub_of}
pub use Rattle.mq_hub.specs.Run.{AreCollected, IsFollowed, IsRefused, acts_in}
pub use Rattle.mq_hub.specs.Inside.Run.{IsTraced}
