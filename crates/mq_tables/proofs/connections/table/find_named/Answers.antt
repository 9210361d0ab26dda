use Rattle.std.proofs.Common.{◌≡◌, ◌++◌, ◌∷◌, [], List, ℕ, arith, rules, sym, subst}
use Rattle.std.proofs.lemmas.List.Elements.{Contains-append_left, Contains-push}
use Rattle.std.specs.List.{Contains}
use Rattle.mq_route.specs.declared.conn.Conn.{Conn}
use Rattle.mq_tables.specs.Inside.Alarms.{AreAwaitedBut}
use Rattle.mq_tables.specs.Connections.{connections_of}
use Rattle.mq_tables.specs.Inside.Late.{HasLateBut}
use Rattle.mq_tables.proofs.RingTimes.{awaited_again, late_all, late_named, late_none, late_one, none_early, none_less, not_found, one_less}
use Rattle.mq_tables.proofs.connections.table.find_named.Goals as goal

pub loop-conn-init : goal.loop-conn-init
loop-conn-init c = record {
  awaited = c.requires.awaited;
  late = late_named c.args.within c.args.now (connections_of c.args.by_conn.now.entries) c.args.names.now.items _ c.requires.late;
}

pub loop-conn-preserved-in_default-get_full : goal.loop-conn-preserved-in_default-get_full
loop-conn-preserved-in_default-get_full c =
    let es = c.args.by_conn.now.entries in
    let k = c.in-Some.conn in
    let names = c.pop.new.self.items in
    let a = c.loop-conn.alarms in
    let places = c.loop-conn.places.items in
    let apart = not_found k es c.in_default-get_full.ensures.value in
    record {
      awaited = none_less c.args.within a a k names (λ n now quiet. quiet) es c.requires.named apart
          (subst (λ (ns : List Conn). AreAwaitedBut c.args.within ns a es) c.in-Some.ensures.items c.loop-conn.invariant.awaited);
      late = late_none c.args.within c.args.now es k names places places (λ i there. there) c.requires.named apart
          (subst (λ (ns : List Conn). HasLateBut c.args.within c.args.now (connections_of es) ns places) c.in-Some.ensures.items c.loop-conn.invariant.late);
    }

pub loop-conn-preserved-then-now-until : goal.loop-conn-preserved-then-now-until
loop-conn-preserved-then-now-until c =
    let es = c.args.by_conn.now.entries in
    let k = c.in-Some.conn in
    let names = c.pop.new.self.items in
    let a = c.loop-conn.alarms in
    let b = c.set.new.self in
    let places = c.loop-conn.places.items in
    let own = c.in-Some-get_full.boxed.now in
    let until = c.last_in_time-until.result in
    let there = sym c.in-Some-get_full.ensures.value in
    record {
      awaited = one_less c.args.within a b k names c.set.ensures.keeps own until c.last_in_time-until.ensures c.set.ensures.rings es c.requires.named c.requires.distinct there
          (subst (λ (ns : List Conn). AreAwaitedBut c.args.within ns a es) c.in-Some.ensures.items c.loop-conn.invariant.awaited);
      late = late_one c.args.within c.args.now es k names places places (λ i h. h) own c.in-Some-get_full.field-0-1.now c.in-Some-get_full.place until c.last_in_time-until.ensures
          (λ less. absurd (omega (arith, less, c.if-now-until.true)))
          c.requires.named c.requires.distinct there c.in-Some-get_full.ensures.entry
          (subst (λ (ns : List Conn). HasLateBut c.args.within c.args.now (connections_of es) ns places) c.in-Some.ensures.items c.loop-conn.invariant.late);
    }

pub loop-conn-preserved : goal.loop-conn-preserved
loop-conn-preserved c =
    let es = c.args.by_conn.now.entries in
    let k = c.in-Some.conn in
    let names = c.pop.new.self.items in
    let a = c.loop-conn.alarms in
    let b = c.set.new.self in
    let places = c.loop-conn.places.items in
    let place = c.in-Some-get_full.place in
    let after = c.push.new.self.items in
    let own = c.in-Some-get_full.boxed.now in
    let until = c.last_in_time-until.result in
    let there = sym c.in-Some-get_full.ensures.value in
    let pushed : after ≡ places ++ place ∷ [] = c.in-Ok.ensures.items in
    record {
      awaited = one_less c.args.within a b k names c.set.ensures.keeps own until c.last_in_time-until.ensures c.set.ensures.rings es c.requires.named c.requires.distinct there
          (subst (λ (ns : List Conn). AreAwaitedBut c.args.within ns a es) c.in-Some.ensures.items c.loop-conn.invariant.awaited);
      late = late_one c.args.within c.args.now es k names places after
          (λ i h. subst (λ (ps : List ℕ). Contains ps i) (sym pushed) (Contains-append_left places (place ∷ []) i h))
          own c.in-Some-get_full.field-0-1.now place until c.last_in_time-until.ensures
          (λ less. subst (λ (ps : List ℕ). Contains ps place) (sym pushed) (Contains-push places place))
          c.requires.named c.requires.distinct there c.in-Some-get_full.ensures.entry
          (subst (λ (ns : List Conn). HasLateBut c.args.within c.args.now (connections_of es) ns places) c.in-Some.ensures.items c.loop-conn.invariant.late);
    }

pub returns-in-Err-clause-awaited : goal.returns-in-Err-clause-awaited
returns-in-Err-clause-awaited c = none_early c.args.within c.forget.new.self c.args.by_conn.now.entries c.forget.ensures.until

none : (c : goal.In_default) → c.loop-conn.names.items ≡ []
none c = search rules

pub returns-clause-awaited : goal.returns-clause-awaited
returns-clause-awaited c =
    let es = c.args.by_conn.now.entries in
    awaited_again c.args.within c.loop-conn.alarms es (subst (λ (ns : List Conn). AreAwaitedBut c.args.within ns c.loop-conn.alarms es) (none c) c.loop-conn.invariant.awaited)

pub returns-clause-late : goal.returns-clause-late
returns-clause-late c =
    let xs = connections_of c.args.by_conn.now.entries in
    let places = c.loop-conn.places.items in
    late_all c.args.within c.args.now xs places (subst (λ (ns : List Conn). HasLateBut c.args.within c.args.now xs ns places) (none c) c.loop-conn.invariant.late)
