use Rattle.std.proofs.Common.{◌≡◌, ◌+◌, ◌++◌, false, length, map}
use Rattle.mq_route.specs.Hub.{HubState}
use Rattle.mq_route.specs.Work.{all_fit, drops_copies}
use Rattle.mq_tables.specs.Publishing.{AreSameButRoom, AreStillReady}
use Rattle.mq_tables.specs.Rules.{rules_of}
use Rattle.mq_hub.specs.Inside.Placement.{AreApart, AreFor, AreReady, HasSessions}
use Rattle.mq_hub.specs.Inside.QueuedAnswer.{answer_for}
use Rattle.mq_hub.proofs.MissedCopies.{fitting, settled_act}
use Rattle.mq_hub.proofs.publish.settle.settle.Given as goal

abbrev pub invariant-loop-key : goal.invariant-loop-key
invariant-loop-key l = record {
  due : AreFor l.sessions.list l.key-iterator.rest.items;
  apart : AreApart (l.settled.kept.items ++ l.key-iterator.rest.items);
  enough : (h : HubState) → HasSessions l.initial.sessions.list h → rules_of h.config ≡ l.rules → drops_copies l.rules.when_full ≡ false
      → all_fit l.fn.copies.items h ≡ all_fit l.key-iterator.rest.items h;
  kept : (h : HubState) → HasSessions l.initial.sessions.list h → rules_of h.config ≡ l.rules
      → l.settled.kept.items ++ fitting h.config (answer_for l.answer) l.initial.sessions.list l.key-iterator.rest.items
      ≡ fitting h.config (answer_for l.answer) l.initial.sessions.list l.fn.copies.items;
  acts : (h : HubState) → HasSessions l.initial.sessions.list h → rules_of h.config ≡ l.rules
      → l.settled.acts.items ++ map (settled_act h.config (answer_for l.answer) l.initial.sessions.list) l.key-iterator.rest.items
      ≡ map (settled_act h.config (answer_for l.answer) l.initial.sessions.list) l.fn.copies.items;
  count : length l.settled.acts.items + length l.key-iterator.rest.items ≡ length l.fn.copies.items;
  ready : AreReady l.more l.sessions.list l.settled.kept.items;
  same : AreSameButRoom l.initial.sessions.list l.sessions.list;
  still : AreStillReady l.initial.sessions.list l.sessions.list;
  room : l.sessions.room ≡ l.initial.sessions.room;
}
