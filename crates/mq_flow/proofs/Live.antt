-- A session that calls made is one that its saved form gives back.
use Rattle.std.proofs.Common.{◌≡◌, ℕ, ◌≤◌, Bool, true, false, ◌||◌, List, [], ◌∷◌, refl, sym, ap, ◌∙◌}
use Rattle.std.specs.List.{list_any, AllByRecursion}
use Rattle.std.specs.FinSet.{contains, from_list, contains-from_list}
use Rattle.std.specs.Cmp.{nat_cmp_total}
use Rattle.mq_topic.specs.declared.qos.Qos.TheVariants.{Q0}
use Rattle.mq_packet.specs.Identifier.{IsIdentifier}
use Rattle.mq_flow.specs.declared.entry.SenderEntry.{SenderEntry}
use Rattle.mq_flow.specs.Sender.{same_qos}
use Rattle.mq_flow.specs.Receiver.{ReceiverBook, AreIdentifiers}
use Rattle.mq_flow.specs.Sending.{Sending, Keeps}
use Rattle.mq_flow.specs.Saved.{AreWithin, IsKept}
use Rattle.mq_flow.specs.Inside.Saved.{HaveTopics, IsSenderWithin}

-- the messages of a sender meet `IsKept`
pub all_kept : (limit : ℕ) (es : List SenderEntry) → list_any (λ e. same_qos Q0 e.message.qos) es ≡ false → HaveTopics es → AreWithin limit es → AllByRecursion (IsKept limit) es
all_kept limit [] h topics within = tt
all_kept limit (e ∷ es) h topics within =
    let parts = neither (same_qos Q0 e.message.qos) (list_any (λ e. same_qos Q0 e.message.qos) es) h in
    (record { acknowledged = other e parts.0; topic = topics.0; within = within.0 }, all_kept limit es parts.1 topics.1 within.1)
  where
    neither : (a b : Bool) → (a || b) ≡ false → (a ≡ false) × (b ≡ false)
    neither true b h = absurd cc
    neither false b h = (refl, h)

    other : (e : SenderEntry) → same_qos Q0 e.message.qos ≡ false → e.message.qos ≡ Q0 → ⊥
    other e differs same = absurd (contra (sym (ap (same_qos Q0) same) ∙ differs))
      where
        contra : true ≡ false → ⊥
        contra h = absurd cc

-- The sender's invariant, for its saved form.
pub sender_within : (limit : ℕ) (s : Sending) → Keeps s → s.last ≤ 65535 → HaveTopics s.book.entries → AreWithin limit s.book.entries → IsSenderWithin limit s
sender_within limit s k last topics within = record {
  sound = k.sound;
  able = k.able;
  most = k.most;
  last = last;
  entries = all_kept limit s.book.entries k.acknowledged topics within;
}

-- A receiver stores valid identifiers.
pub all_identifiers : (r : ReceiverBook) (keys : List ℕ) → r ≡ from_list keys → AreIdentifiers keys → (i : ℕ) → contains r i ≡ true → IsIdentifier i
all_identifiers r keys is each i there = each i (sym (ap (λ (s : ReceiverBook). contains s i) is ∙ contains-from_list nat_cmp_total keys i) ∙ there)
