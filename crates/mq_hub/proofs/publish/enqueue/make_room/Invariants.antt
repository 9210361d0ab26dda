use Rattle.std.proofs.Common.{◌≡◌, take, drop}
use Rattle.mq_route.specs.Hub.{HubState}
use Rattle.mq_route.specs.Work.{all_fit}
use Rattle.mq_tables.specs.Publishing.{AreSameButRoom, AreStillReady}
use Rattle.mq_hub.specs.Inside.Placement.{AreFor, AreReady, HasSessions}
use Rattle.mq_hub.proofs.publish.enqueue.make_room.Given as goal

abbrev pub invariant-loop-due : goal.invariant-loop-due
invariant-loop-due l = record {
  due : AreFor l.sessions.list l.copies;
  enough : (h : HubState) → HasSessions l.initial.sessions.list h → h.config.most_stored ≡ l.most_stored → all_fit l.copies h ≡ all_fit (drop l.due-index l.copies) h;
  ready : AreReady l.more l.sessions.list (take l.due-index l.copies);
  same : AreSameButRoom l.initial.sessions.list l.sessions.list;
  still : AreStillReady l.initial.sessions.list l.sessions.list;
  room : l.sessions.room ≡ l.initial.sessions.room;
}
