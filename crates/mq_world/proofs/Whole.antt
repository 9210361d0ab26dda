-- The run, from the start, and the headline.
use Rattle.std.proofs.Common.{◌≡◌, ℕ, ◌+◌, Bool, true, false, Option, List, [], ◌∷◌, ◌++◌, length, refl, sym, ap, subst, ◌∙◌, arith, append_assoc}
use Rattle.std.proofs.lemmas.List.{map-append, length-append, length-map}
use Rattle.std.specs.FinSet as FinSet
use Rattle.std.specs.Ordering.{nat_cmp}
use Rattle.mq_topic.specs.declared.qos.Qos.TheVariants.{Q1, Q2}
use Rattle.mq_packet.specs.declared.message.Message.{Message}
use Rattle.mq_flow.specs.Sender.{held, IsFree}
use Rattle.mq_flow.specs.Laws.{IsSound, IsGiven}
use Rattle.mq_flow.proofs.Books.{laws as books}
use Rattle.mq_end.specs.Both.{has_identifier}
use Rattle.mq_end.specs.Laws.{MayHave}
use Rattle.mq_end.proofs.Soundness.{laws as sound}
use Rattle.mq_world.specs.declared.side.Side.{Side}
use Rattle.mq_world.specs.declared.side.Side.TheVariants.{Client, Server}
use Rattle.mq_world.specs.Half.{Half, Publishes, Drops}
use Rattle.mq_world.specs.Machine.{Machine, Move, By, Opens, Restarts, Run, IsAllowed, after, blank_machine, without_keep_alive}
use Rattle.mq_world.specs.Orders.{messages, others_from}
use Rattle.mq_world.specs.Headline.{AtMostOnce, AtLeastOnce, ExactlyOnce, HeadlineLaw}
use Rattle.mq_world.specs.Identifiers.{half_of, IdentifiersLaw}
use Rattle.mq_world.proofs.Places.{all_covered, others_gone, others_none, part_front}
use Rattle.mq_world.proofs.Second as second
use Rattle.mq_world.proofs.First as first
use Rattle.mq_world.proofs.Both.{Both, WayOf, turned}
use Rattle.mq_world.proofs.Steps.{moved_keeps, opened_keeps, not_refused}

pub blank_holds : (capacity : ℕ) (window : Option ℕ) → Both capacity (blank_machine window).client (blank_machine window).server
blank_holds capacity window = record {
  to_y = (second.at_first FinSet.empty (FinSet.contains-empty nat_cmp), first.at_first, tt);
  to_x = (second.at_first FinSet.empty (FinSet.contains-empty nat_cmp), first.at_first, tt);
  own_x = (books.at_first capacity, tt, tt);
  own_y = (books.at_first capacity, tt, tt);
  kept_x = refl;
  kept_y = refl;
  queue_x = tt;
  queue_y = tt;
}

-- nothing that holds between two sides speaks of a keep-alive
forgets_keep_alive : (capacity : ℕ) (x y : Half) → Both capacity x y → Both capacity (without_keep_alive x) y
forgets_keep_alive capacity x y b =
    record { to_y = b.to_y; to_x = b.to_x; own_x = b.own_x; own_y = b.own_y; kept_x = b.kept_x; kept_y = b.kept_y; queue_x = b.queue_x; queue_y = b.queue_y }

pub after_keeps : (limit capacity : ℕ) (w : Machine) (move : Move) → IsAllowed limit capacity w move → Both capacity w.client w.server
    → Both capacity (after w move).client (after w move).server
after_keeps limit capacity w (By Client action) may b = moved_keeps limit capacity Client action w.client w.server may b
after_keeps limit capacity w (By Server action) may b =
    turned capacity _ _ (moved_keeps limit capacity Server action w.server w.client may (turned capacity w.client w.server b))
after_keeps limit capacity w Opens may b = opened_keeps capacity w.client w.server b
after_keeps limit capacity w Restarts may b =
    moved_keeps limit capacity Client Drops (without_keep_alive w.client) w.server tt (forgets_keep_alive capacity w.client w.server b)

pub run_keeps : (limit capacity : ℕ) (w : Machine) (moves : List Move) (v : Machine) → Run limit capacity w moves v → Both capacity w.client w.server
    → Both capacity v.client v.server
run_keeps limit capacity w [] v run b = subst (λ (u : Machine). Both capacity u.client u.server) (sym run) b
run_keeps limit capacity w (move ∷ moves) v run b = run_keeps limit capacity (after w move) moves v run.1 (after_keeps limit capacity w move run.0 b)

pub holds : (limit capacity : ℕ) (window : Option ℕ) (moves : List Move) (w : Machine) → Run limit capacity (blank_machine window) moves w
    → Both capacity w.client w.server
holds limit capacity window moves w run = run_keeps limit capacity (blank_machine window) moves w run (blank_holds capacity window)

-- ---- the headline

at_most_once : (x y : Half) → WayOf x y → AtMostOnce x y
at_most_once x y way = part_front y.handed.at_most_once _ x.accepted.at_most_once way.2

at_least_once : (x y : Half) → WayOf x y → AtLeastOnce x y
at_least_once x y way =
    let f = way.1 in
    let r = f.reached in
    record {
      places = f.places;
      walk = f.walk;
      are = f.are;
      freed = all_covered f.places x.freed (length f.gone) f.walk (omega arith) f.freed;
      rest =
          ap (others_from 0 x.freed) f.accepted_is
          ∙ (others_gone 0 x.freed f.gone (held Q1 x.end.book.entries) (λ j le lt. f.all_freed j (omega arith))
          ∙ (ap (λ (k : ℕ). others_from k x.freed (held Q1 x.end.book.entries)) zero_more
          ∙ others_none (length f.gone) x.freed (held Q1 x.end.book.entries) f.freed));
    }
  where
    zero_more : 0 + length way.1.gone ≡ length way.1.gone
    zero_more = omega arith

exactly_once : (x y : Half) → WayOf x y → ExactlyOnce x y
exactly_once x y way =
    let s = way.0 in
    let E : List (ℕ × Message) = held Q2 x.end.book.entries in
    let all : x.accepted.exactly_once ≡ s.gone ++ (messages s.taken ++ messages s.waiting) =
    s.accepted_is ∙ ap (λ (q : List Message). s.gone ++ q) (ap messages s.parts ∙ map-append (λ (p : ℕ × Message). p.1) s.taken s.waiting) in
    let a : length x.accepted.exactly_once ≡ length s.gone + length (messages E) = ap length s.accepted_is ∙ length-append s.gone (messages E) in
    let c : length y.handed.exactly_once ≡ length s.gone + length (messages s.taken) = ap length s.handed_is ∙ length-append s.gone (messages s.taken) in
    let d = length-map E (λ (p : ℕ × Message). p.1) in
    record {
      beginning = (
        messages s.waiting,
        all ∙ (sym (append_assoc s.gone (messages s.taken) (messages s.waiting)) ∙ ap (λ (q : List Message). q ++ messages s.waiting) (sym s.handed_is)),
      );
      before = s.gone;
      last = s.accepted_is;
      lack = omega arith;
    }

pub headline : HeadlineLaw
headline limit capacity window moves w run =
    let b = holds limit capacity window moves w run in
    record {
      to_server_0 = at_most_once w.client w.server b.to_y;
      to_client_0 = at_most_once w.server w.client b.to_x;
      to_server_1 = at_least_once w.client w.server b.to_y;
      to_client_1 = at_least_once w.server w.client b.to_x;
      to_server_2 = exactly_once w.client w.server b.to_y;
      to_client_2 = exactly_once w.server w.client b.to_x;
    }

-- ---- identifiers

sound_at : (capacity : ℕ) (w : Machine) → Both capacity w.client w.server → (side : Side) → IsSound capacity (half_of side w).end.book
sound_at capacity w b Client = b.own_x.0
sound_at capacity w b Server = b.own_y.0

given_at : (limit capacity i : ℕ) (m : Message) (side : Side) (w : Machine) → IsAllowed limit capacity w (By side (Publishes i m))
    → has_identifier m.qos ≡ true → IsGiven capacity (half_of side w).end.book (half_of side (after w (By side (Publishes i m)))).end.book i
given_at limit capacity i m Client w may has =
    sound.published limit capacity i m w.client.end (not_refused limit capacity Client m w.client.end may.0) has (free_of (has_identifier m.qos) has may.1)
  where
    free_of : (t : Bool) → t ≡ true → MayHave t w.client.end i → IsFree w.client.end.book i
    free_of true e f = f
    free_of false e f = cc
given_at limit capacity i m Server w may has =
    sound.published limit capacity i m w.server.end (not_refused limit capacity Server m w.server.end may.0) has (free_of (has_identifier m.qos) has may.1)
  where
    free_of : (t : Bool) → t ≡ true → MayHave t w.server.end i → IsFree w.server.end.book i
    free_of true e f = f
    free_of false e f = cc

pub identifiers : IdentifiersLaw
identifiers = record {
  sound = λ limit capacity window moves w run side. sound_at capacity w (holds limit capacity window moves w run) side;
  given = given_at;
}
