use Rattle.std.proofs.Common.{◌<◌, ℕ, List, length, take, sym, subst, arith, Vec}
use Rattle.std.specs.declared.alloc.Global.{Global}
use Rattle.mq_record.specs.Reading.{IsEntry}
use Rattle.mq_route.specs.declared.event.HubEvent.{HubEvent}
use Rattle.mq_durable.specs.Recorded.{events_in}
use Rattle.mq_durable.specs.Inside.Recorded.{events_in_all}
use Rattle.mq_durable.specs.Recovering.{Continues}
use Rattle.mq_durable.proofs.Recoveries.{continues_all, continues_none, in_all_push, in_none, readable_more}
use Rattle.mq_durable.proofs.progress.Progress.after.Goals as goal

pub loop-entry-init : goal.loop-entry-init
loop-entry-init c = record {
  continues = subst (λ (l : List HubEvent). Continues c.args.self l c.args.self) (sym in_none) (continues_none c.args.self);
  readable = tt;
}

pub loop-entry-preserved : goal.loop-entry-preserved
loop-entry-preserved c =
    let all : List (Vec ℕ Global) = c.args.entries.now in
    let i : ℕ = c.loop-entry.entry-index in
    let entry : Vec ℕ Global = c.entry-item.result in
    let within : i < length all = omega (arith, c.loop-entry-test.true) in
    let one : Continues c.loop-entry.progress (events_in entry.items) c.replay_entry.new.self =
    subst (λ (l : List ℕ). Continues c.loop-entry.progress (events_in l) c.replay_entry.new.self) c.as_slice.ensures.value c.in_ok-replay_entry.ensures.continues in
    let whole : IsEntry (events_in entry.items) entry.items =
    subst (λ (l : List ℕ). IsEntry (events_in l) l) c.as_slice.ensures.value c.in_ok-replay_entry.ensures.readable in
    record {
      continues = subst (λ (l : List HubEvent). Continues c.args.self l c.replay_entry.new.self) (sym (in_all_push all i entry within c.entry-item.is))
          (continues_all c.args.self c.loop-entry.progress c.replay_entry.new.self (events_in_all (take i all)) (events_in entry.items) c.loop-entry.invariant.continues one);
      readable = readable_more all i entry within c.entry-item.is c.loop-entry.invariant.readable whole;
    }
