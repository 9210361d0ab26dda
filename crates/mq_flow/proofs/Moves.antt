-- A change of the sender's table is a move of its book and keeps the sender's invariant.
use Rattle.std.proofs.Common.{◌≡◌, ℕ, ◌∙◌, Bool, true, false, eqb, List, [], ◌∷◌, ◌++◌, refl, sym, ap, subst}
use Rattle.std.specs.List.{list_any}
use Rattle.std.specs.Map.{remove_entry}
use Rattle.mq_topic.specs.declared.qos.Qos.TheVariants.{Q0, Q1, Q2}
use Rattle.mq_packet.specs.declared.message.Message.{Message}
use Rattle.mq_flow.specs.declared.claim.Claimed.{Claimed}
use Rattle.mq_flow.specs.declared.table.Held.{Held}
use Rattle.mq_flow.specs.declared.table.Held.TheVariants.{Waiting, Released}
use Rattle.mq_flow.specs.Sender.{SenderBook, IsFree, is_full, is_awaited, accept, on_puback, on_pubrec, on_pubcomp}
use Rattle.mq_flow.specs.Held.{book_of, AreUnder}
use Rattle.mq_flow.specs.Loading.{with_released}
use Rattle.mq_flow.specs.Sending.{Sending, Keeps}
use Rattle.mq_flow.proofs.Holding.{under_removed, under_append}
use Rattle.mq_flow.proofs.Kept.{table_accept, table_released, table_puback, table_pubrec, table_pubcomp, keeps_accept, keeps_puback, keeps_pubrec, keeps_pubcomp}
use Rattle.mq_flow.proofs.Restoring.{keeps_released}

-- a sender with this table and these claims
abbrev pub sending_of : List (ℕ × Held) → List Claimed → ℕ → ℕ → ℕ → Sending
sending_of ps cs capacity last room = record { book = book_of ps cs; capacity = capacity; last = last; room = room }

-- The book after the move, and the invariant.
pub record Moved (ts : List (ℕ × Held)) (cs : List Claimed) (capacity last : ℕ) (b : SenderBook) : Type 0 where
  pub after : book_of ts cs ≡ b
  pub keeps : (room : ℕ) → Keeps (sending_of ts cs capacity last room)
  pub under : AreUnder ts

-- how much room is reserved doesn't matter
any_room : (s : Sending) (room : ℕ) → Keeps s → Keeps (record s { room = room })
any_room s room k = record { sound = k.sound; able = k.able; most = k.most; acknowledged = k.acknowledged }

moved : (ts : List (ℕ × Held)) (cs : List Claimed) (capacity last : ℕ) (b d : SenderBook) → book_of ts cs ≡ b → b ≡ d → ((room : ℕ) → Keeps (record { book = b; capacity = capacity; last = last; room = room })) → AreUnder ts → Moved ts cs capacity last d
moved ts cs capacity last b d after same keeps under = record {
  after = after ∙ same;
  keeps = λ room. subst (λ (x : SenderBook). Keeps (record { book = x; capacity = capacity; last = last; room = room })) (sym after) (keeps room);
  under = under;
}

module _ (ps ts : List (ℕ × Held)) (cs : List Claimed) (capacity last reserved i : ℕ) (v : Sending) (k : Keeps (sending_of ps cs capacity last reserved)) (u : AreUnder ps) (view : sending_of ps cs capacity last reserved ≡ v) where
  pub puback_moves : (r : Bool) → r ≡ is_awaited Q1 i v.book.entries → r ≡ true → ts ≡ remove_entry (eqb i) ps → Moved ts cs capacity last (on_puback i v.book)
  puback_moves r is there took =
      let s = sending_of ps cs capacity last reserved in
      let awaited = ap (λ (w : Sending). is_awaited Q1 i w.book.entries) view ∙ sym is ∙ there in
      let after = ap (λ (t : List (ℕ × Held)). book_of t cs) took ∙ table_puback capacity i ps cs u k.sound awaited in
      moved ts cs capacity last (on_puback i s.book) (on_puback i v.book) after (ap (λ (w : Sending). on_puback i w.book) view) (λ r. any_room (record s { book = on_puback i s.book }) r (keeps_puback s i k)) (subst AreUnder (sym took) (under_removed i ps u))

  pub pubrec_moves : (r : Bool) → r ≡ is_awaited Q2 i v.book.entries → r ≡ true → ts ≡ remove_entry (eqb i) ps ++ (i, Released i) ∷ [] → Moved ts cs capacity last (on_pubrec i v.book)
  pubrec_moves r is there took =
      let s = sending_of ps cs capacity last reserved in
      let awaited = ap (λ (w : Sending). is_awaited Q2 i w.book.entries) view ∙ sym is ∙ there in
      let after = ap (λ (t : List (ℕ × Held)). book_of t cs) took ∙ table_pubrec capacity i ps cs u k.sound awaited in
      let under = under_append (remove_entry (eqb i) ps) i (Released i) refl (under_removed i ps u) in
      moved ts cs capacity last (on_pubrec i s.book) (on_pubrec i v.book) after (ap (λ (w : Sending). on_pubrec i w.book) view) (λ r. any_room (record s { book = on_pubrec i s.book }) r (keeps_pubrec s i k)) (subst AreUnder (sym took) under)

  pub pubcomp_moves : (r : Bool) → r ≡ list_any (λ j. eqb j i) v.book.released → r ≡ true → ts ≡ remove_entry (eqb i) ps → Moved ts cs capacity last (on_pubcomp i v.book)
  pubcomp_moves r is there took =
      let s = sending_of ps cs capacity last reserved in
      let released = ap (λ (w : Sending). list_any (λ j. eqb j i) w.book.released) view ∙ sym is ∙ there in
      let after = ap (λ (t : List (ℕ × Held)). book_of t cs) took ∙ table_pubcomp capacity i ps cs u k.sound released in
      moved ts cs capacity last (on_pubcomp i s.book) (on_pubcomp i v.book) after (ap (λ (w : Sending). on_pubcomp i w.book) view) (λ r. any_room (record s { book = on_pubcomp i s.book }) r (keeps_pubcomp s i k)) (subst AreUnder (sym took) (under_removed i ps u))

  pub released_moves : IsFree v.book i → is_full v.capacity v.book ≡ false → ts ≡ ps ++ (i, Released i) ∷ [] → Moved ts cs capacity last (with_released i v.book)
  released_moves free room more =
      let s = sending_of ps cs capacity last reserved in
      let keeps = keeps_released s i k (subst (λ (w : Sending). is_full w.capacity w.book ≡ false) (sym view) room) (subst (λ (w : Sending). IsFree w.book i) (sym view) free) in
      let after = ap (λ (t : List (ℕ × Held)). book_of t cs) more ∙ table_released i ps cs in
      moved ts cs capacity last (with_released i s.book) (with_released i v.book) after (ap (λ (w : Sending). with_released i w.book) view) (λ r. any_room (record s { book = with_released i s.book }) r keeps) (subst AreUnder (sym more) (under_append ps i (Released i) refl u))

  pub accept_moves : (m : Message) (sent : Bool) → IsFree v.book i → is_full v.capacity v.book ≡ false → (m.qos ≡ Q0 → ⊥) → ts ≡ ps ++ (i, Waiting (record { id = i; message = m; sent = sent })) ∷ [] → Moved ts cs capacity i (accept i m sent v.book)
  accept_moves m sent free room kept more =
      let s = sending_of ps cs capacity last reserved in
      let keeps = keeps_accept s i m sent k (subst (λ (w : Sending). is_full w.capacity w.book ≡ false) (sym view) room) (subst (λ (w : Sending). IsFree w.book i) (sym view) free) kept in
      let after = ap (λ (t : List (ℕ × Held)). book_of t cs) more ∙ table_accept i m sent ps cs in
      moved ts cs capacity i (accept i m sent s.book) (accept i m sent v.book) after (ap (λ (w : Sending). accept i m sent w.book) view) (λ r. any_room (record s { book = accept i m sent s.book; last = i }) r keeps) (subst AreUnder (sym more) (under_append ps i (Waiting (record { id = i; message = m; sent = sent })) refl u))
