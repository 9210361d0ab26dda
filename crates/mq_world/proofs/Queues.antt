-- The packets of message flows in a queue.
use Rattle.std.proofs.Common.{◌≡◌, ℕ, false, cond, Option, Some, None, List, [], ◌∷◌, ◌++◌, map, filter, refl, ap, ◌∙◌, append-nil}
use Rattle.std.specs.List.{filter_map, cons_option}
use Rattle.std.proofs.lemmas.List.Elements.{filter_map-append}
use Rattle.mq_topic.specs.declared.qos.Qos.{Qos}
use Rattle.mq_topic.specs.declared.qos.Qos.TheVariants.{Q0, Q1, Q2}
use Rattle.mq_packet.specs.declared.message.Message.{Message}
use Rattle.mq_packet.specs.declared.publish.Delivery.{Delivery}
use Rattle.mq_packet.specs.declared.packet.Packet.{Packet}
use Rattle.mq_packet.specs.declared.packet.Packet.TheVariants as packets
use Rattle.mq_flow.specs.declared.entry.SenderEntry.{SenderEntry}
use Rattle.mq_flow.specs.Sender.{SenderBook, held, same_qos, resent, publish_packet}
use Rattle.mq_end.specs.declared.state.State.{State}
use Rattle.mq_end.specs.declared.state.State.TheVariants.{Disconnected, Connecting, Connected}
use Rattle.mq_world.specs.Half.{joined}

abbrev pub as_pubrec : Packet → Option ℕ
as_pubrec (packets.PubRec i) = Some i
as_pubrec p = None

abbrev pub as_pubcomp : Packet → Option ℕ
as_pubcomp (packets.PubComp i) = Some i
as_pubcomp p = None

abbrev pub as_puback : Packet → Option ℕ
as_puback (packets.PubAck i) = Some i
as_puback p = None

abbrev pub as_pubrel : Packet → Option ℕ
as_pubrel (packets.PubRel i) = Some i
as_pubrel p = None

abbrev pub zeroth_of : Qos → Option Delivery → Message → Option Message
zeroth_of Q0 None m = Some m
zeroth_of q d m = None

abbrev pub first_of : Qos → Option Delivery → Message → Option (ℕ × Message)
first_of Q1 (Some d) m = Some (d.id, m)
first_of q d m = None

abbrev pub second_of : Qos → Option Delivery → Message → Option (ℕ × Message)
second_of Q2 (Some d) m = Some (d.id, m)
second_of q d m = None

abbrev pub as_zeroth : Packet → Option Message
as_zeroth (packets.Publish p) = zeroth_of p.message.qos p.delivery p.message
as_zeroth p = None

abbrev pub as_first : Packet → Option (ℕ × Message)
as_first (packets.Publish p) = first_of p.message.qos p.delivery p.message
as_first p = None

abbrev pub as_second : Packet → Option (ℕ × Message)
as_second (packets.Publish p) = second_of p.message.qos p.delivery p.message
as_second p = None

-- Responses in a queue: PUBREC, PUBCOMP, PUBACK.
pub record Answers : Type 0 where
  pub pubrecs : List ℕ
  pub pubcomps : List ℕ
  pub pubacks : List ℕ

-- Packets that ask for one: PUBLISH with QoS 2 and 1, PUBREL; and messages with QoS 0.
pub record Flight : Type 0 where
  pub publishes_2 : List (ℕ × Message)
  pub publishes_1 : List (ℕ × Message)
  pub pubrels : List ℕ
  pub messages_0 : List Message

abbrev pub answers : List Packet → Answers
answers q = record { pubrecs = filter_map as_pubrec q; pubcomps = filter_map as_pubcomp q; pubacks = filter_map as_puback q }

abbrev pub flight : List Packet → Flight
flight q = record {
  publishes_2 = filter_map as_second q;
  publishes_1 = filter_map as_first q;
  pubrels = filter_map as_pubrel q;
  messages_0 = filter_map as_zeroth q;
}

abbrev pub no_answers : Answers
no_answers = record { pubrecs = []; pubcomps = []; pubacks = [] }

abbrev pub no_flight : Flight
no_flight = record { publishes_2 = []; publishes_1 = []; pubrels = []; messages_0 = [] }

pub keep : {A : Type 0} (f : Packet → Option A) (st : State) (q ps : List Packet) → filter_map f ps ≡ [] → filter_map f (joined st q ps) ≡ filter_map f q
keep f Disconnected q ps e = refl
keep {A} f Connecting q ps e = filter_map-append f q ps ∙ (ap (λ (r : List A). filter_map f q ++ r) e ∙ append-nil (filter_map f q))
keep {A} f Connected q ps e = filter_map-append f q ps ∙ (ap (λ (r : List A). filter_map f q ++ r) e ∙ append-nil (filter_map f q))

pub grow : {A : Type 0} (f : Packet → Option A) (st : State) (q ps : List Packet) → filter_map f (joined st q ps) ≡ joined st (filter_map f q) (filter_map f ps)
grow f Disconnected q ps = refl
grow f Connecting q ps = filter_map-append f q ps
grow f Connected q ps = filter_map-append f q ps

pub grown : {A : Type 0} (f : Packet → Option A) (st : State) (q ps : List Packet) (xs : List A) → filter_map f ps ≡ xs
    → filter_map f (joined st q ps) ≡ joined st (filter_map f q) xs
grown {A} f st q ps xs e = grow f st q ps ∙ ap (λ (r : List A). joined st (filter_map f q) r) e

-- Packets without responses.
pub same_answers : (st : State) (q ps : List Packet) → answers ps ≡ no_answers → answers (joined st q ps) ≡ answers q
same_answers st q ps e =
    let a = keep as_pubrec st q ps (ap (λ (n : Answers). n.pubrecs) e) in
    let b = keep as_pubcomp st q ps (ap (λ (n : Answers). n.pubcomps) e) in
    let c = keep as_puback st q ps (ap (λ (n : Answers). n.pubacks) e) in
    λ i. record { pubrecs = a i; pubcomps = b i; pubacks = c i }

-- Packets that ask for no response.
pub same_flight : (st : State) (q ps : List Packet) → flight ps ≡ no_flight → flight (joined st q ps) ≡ flight q
same_flight st q ps e =
    let a = keep as_second st q ps (ap (λ (n : Flight). n.publishes_2) e) in
    let b = keep as_first st q ps (ap (λ (n : Flight). n.publishes_1) e) in
    let c = keep as_pubrel st q ps (ap (λ (n : Flight). n.pubrels) e) in
    let d = keep as_zeroth st q ps (ap (λ (n : Flight). n.messages_0) e) in
    λ i. record { publishes_2 = a i; publishes_1 = b i; pubrels = c i; messages_0 = d i }

pub more_answers : (st : State) (q ps : List Packet) (given_back : Answers) → answers ps ≡ given_back
    → answers (joined st q ps) ≡ record {
      pubrecs = joined st (answers q).pubrecs given_back.pubrecs;
      pubcomps = joined st (answers q).pubcomps given_back.pubcomps;
      pubacks = joined st (answers q).pubacks given_back.pubacks;
    }
more_answers st q ps given_back e =
    let a = grown as_pubrec st q ps given_back.pubrecs (ap (λ (n : Answers). n.pubrecs) e) in
    let b = grown as_pubcomp st q ps given_back.pubcomps (ap (λ (n : Answers). n.pubcomps) e) in
    let c = grown as_puback st q ps given_back.pubacks (ap (λ (n : Answers). n.pubacks) e) in
    λ i. record { pubrecs = a i; pubcomps = b i; pubacks = c i }

pub puback_joins : (st : State) (q : List Packet) (i : ℕ)
    → answers (joined st q (packets.PubAck i ∷ [])) ≡ record {
      pubrecs = (answers q).pubrecs;
      pubcomps = (answers q).pubcomps;
      pubacks = joined st (answers q).pubacks (i ∷ []);
    }
puback_joins st q i =
    let a = keep as_pubrec st q (packets.PubAck i ∷ []) refl in
    let b = keep as_pubcomp st q (packets.PubAck i ∷ []) refl in
    let c = grow as_puback st q (packets.PubAck i ∷ []) in
    λ k. record { pubrecs = a k; pubcomps = b k; pubacks = c k }

pub pubrec_joins : (st : State) (q : List Packet) (i : ℕ)
    → answers (joined st q (packets.PubRec i ∷ [])) ≡ record {
      pubrecs = joined st (answers q).pubrecs (i ∷ []);
      pubcomps = (answers q).pubcomps;
      pubacks = (answers q).pubacks;
    }
pubrec_joins st q i =
    let a = grow as_pubrec st q (packets.PubRec i ∷ []) in
    let b = keep as_pubcomp st q (packets.PubRec i ∷ []) refl in
    let c = keep as_puback st q (packets.PubRec i ∷ []) refl in
    λ k. record { pubrecs = a k; pubcomps = b k; pubacks = c k }

pub pubcomp_joins : (st : State) (q : List Packet) (i : ℕ)
    → answers (joined st q (packets.PubComp i ∷ [])) ≡ record {
      pubrecs = (answers q).pubrecs;
      pubcomps = joined st (answers q).pubcomps (i ∷ []);
      pubacks = (answers q).pubacks;
    }
pubcomp_joins st q i =
    let a = keep as_pubrec st q (packets.PubComp i ∷ []) refl in
    let b = grow as_pubcomp st q (packets.PubComp i ∷ []) in
    let c = keep as_puback st q (packets.PubComp i ∷ []) refl in
    λ k. record { pubrecs = a k; pubcomps = b k; pubacks = c k }

pub pubrel_joins : (st : State) (q : List Packet) (i : ℕ)
    → flight (joined st q (packets.PubRel i ∷ [])) ≡ record {
      publishes_2 = (flight q).publishes_2;
      publishes_1 = (flight q).publishes_1;
      pubrels = joined st (flight q).pubrels (i ∷ []);
      messages_0 = (flight q).messages_0;
    }
pubrel_joins st q i =
    let a = keep as_second st q (packets.PubRel i ∷ []) refl in
    let b = keep as_first st q (packets.PubRel i ∷ []) refl in
    let c = grow as_pubrel st q (packets.PubRel i ∷ []) in
    let d = keep as_zeroth st q (packets.PubRel i ∷ []) refl in
    λ k. record { publishes_2 = a k; publishes_1 = b k; pubrels = c k; messages_0 = d k }

-- the packets of a message, by its quality of service
abbrev pub packet_0 : Message → Packet
packet_0 m = packets.Publish (record { message = record m { qos = Q0 }; delivery = None })

abbrev pub packet_1 : ℕ → Message → Packet
packet_1 i m = publish_packet i false (record m { qos = Q1 })

abbrev pub packet_2 : ℕ → Message → Packet
packet_2 i m = publish_packet i false (record m { qos = Q2 })

pub zeroth_joins : (st : State) (q : List Packet) (m : Message)
    → flight (joined st q (packet_0 m ∷ [])) ≡ record {
      publishes_2 = (flight q).publishes_2;
      publishes_1 = (flight q).publishes_1;
      pubrels = (flight q).pubrels;
      messages_0 = joined st (flight q).messages_0 (record m { qos = Q0 } ∷ []);
    }
zeroth_joins st q m =
    let a = keep as_second st q (packet_0 m ∷ []) refl in
    let b = keep as_first st q (packet_0 m ∷ []) refl in
    let c = keep as_pubrel st q (packet_0 m ∷ []) refl in
    let d = grow as_zeroth st q (packet_0 m ∷ []) in
    λ k. record { publishes_2 = a k; publishes_1 = b k; pubrels = c k; messages_0 = d k }

pub first_joins : (st : State) (q : List Packet) (i : ℕ) (m : Message)
    → flight (joined st q (packet_1 i m ∷ [])) ≡ record {
      publishes_2 = (flight q).publishes_2;
      publishes_1 = joined st (flight q).publishes_1 ((i, record m { qos = Q1 }) ∷ []);
      pubrels = (flight q).pubrels;
      messages_0 = (flight q).messages_0;
    }
first_joins st q i m =
    let a = keep as_second st q (packet_1 i m ∷ []) refl in
    let b = grow as_first st q (packet_1 i m ∷ []) in
    let c = keep as_pubrel st q (packet_1 i m ∷ []) refl in
    let d = keep as_zeroth st q (packet_1 i m ∷ []) refl in
    λ k. record { publishes_2 = a k; publishes_1 = b k; pubrels = c k; messages_0 = d k }

pub second_joins : (st : State) (q : List Packet) (i : ℕ) (m : Message)
    → flight (joined st q (packet_2 i m ∷ [])) ≡ record {
      publishes_2 = joined st (flight q).publishes_2 ((i, record m { qos = Q2 }) ∷ []);
      publishes_1 = (flight q).publishes_1;
      pubrels = (flight q).pubrels;
      messages_0 = (flight q).messages_0;
    }
second_joins st q i m =
    let a = grow as_second st q (packet_2 i m ∷ []) in
    let b = keep as_first st q (packet_2 i m ∷ []) refl in
    let c = keep as_pubrel st q (packet_2 i m ∷ []) refl in
    let d = keep as_zeroth st q (packet_2 i m ∷ []) refl in
    λ k. record { publishes_2 = a k; publishes_1 = b k; pubrels = c k; messages_0 = d k }

-- ---- the re-sending

none_of_released : {A : Type 0} (f : Packet → Option A) → ((i : ℕ) → f (packets.PubRel i) ≡ None) → (is : List ℕ) → filter_map f (map packets.PubRel is) ≡ []
none_of_released f h [] = refl
none_of_released f h (i ∷ is) = ap (λ (o : Option _). cons_option o (filter_map f (map packets.PubRel is))) (h i) ∙ none_of_released f h is

released_of : (is : List ℕ) → filter_map as_pubrel (map packets.PubRel is) ≡ is
released_of [] = refl
released_of (i ∷ is) = ap (λ (q : List ℕ). i ∷ q) (released_of is)

none_of_entries : {A : Type 0} (f : Packet → Option A) → ((e : SenderEntry) → f (publish_packet e.id e.sent e.message) ≡ None) → (es : List SenderEntry)
    → filter_map f (map (λ (e : SenderEntry). publish_packet e.id e.sent e.message) es) ≡ []
none_of_entries f h [] = refl
none_of_entries {A} f h (e ∷ es) =
    ap (λ (o : Option A). cons_option o (filter_map f (map (λ (e : SenderEntry). publish_packet e.id e.sent e.message) es))) (h e) ∙ none_of_entries f h es

second_of_entries : (es : List SenderEntry) → filter_map as_second (map (λ (e : SenderEntry). publish_packet e.id e.sent e.message) es) ≡ held Q2 es
second_of_entries [] = refl
second_of_entries (e ∷ es) =
    let rest : List (ℕ × Message) = filter_map as_second (map (λ (e : SenderEntry). publish_packet e.id e.sent e.message) es) in
    let F : List SenderEntry = filter (λ e. same_qos Q2 e.message.qos) es in
    let h = second_of_entries es in
    elim e.message.qos as (λ q. cons_option (second_of q (Some (record { id = e.id; dup = e.sent })) e.message) rest ≡ map (λ e. (e.id, e.message))
    (cond (same_qos Q2 q) (e ∷ F) F)) [
      | Q0 ↦ h
      | Q1 ↦ h
      | Q2 ↦ ap (λ (q : List (ℕ × Message)). (e.id, e.message) ∷ q) h
    ]

first_of_entries : (es : List SenderEntry) → filter_map as_first (map (λ (e : SenderEntry). publish_packet e.id e.sent e.message) es) ≡ held Q1 es
first_of_entries [] = refl
first_of_entries (e ∷ es) =
    let rest : List (ℕ × Message) = filter_map as_first (map (λ (e : SenderEntry). publish_packet e.id e.sent e.message) es) in
    let F : List SenderEntry = filter (λ e. same_qos Q1 e.message.qos) es in
    let h = first_of_entries es in
    elim e.message.qos as (λ q. cons_option (first_of q (Some (record { id = e.id; dup = e.sent })) e.message) rest ≡ map (λ e. (e.id, e.message))
    (cond (same_qos Q1 q) (e ∷ F) F)) [
      | Q0 ↦ h
      | Q1 ↦ ap (λ (q : List (ℕ × Message)). (e.id, e.message) ∷ q) h
      | Q2 ↦ h
    ]

no_zeroth : (e : SenderEntry) → as_zeroth (publish_packet e.id e.sent e.message) ≡ None
no_zeroth e = elim e.message.qos as (λ q. zeroth_of q (Some (record { id = e.id; dup = e.sent })) e.message ≡ None) [
  | Q0 ↦ refl
  | Q1 ↦ refl
  | Q2 ↦ refl
]

resent_of : {A : Type 0} (f : Packet → Option A) (before : List Packet) (b : SenderBook) (xs ys : List A) → filter_map f before ≡ []
    → filter_map f (map packets.PubRel b.released) ≡ xs
    → filter_map f (map (λ (e : SenderEntry). publish_packet e.id e.sent e.message) b.entries) ≡ ys → filter_map f (before ++ resent b) ≡ xs ++ ys
resent_of {A} f before b xs ys none e g =
    filter_map-append f before (resent b)
    ∙ (ap (λ (q : List A). q ++ filter_map f (resent b)) none
    ∙ (filter_map-append f (map packets.PubRel b.released) (map (λ (e : SenderEntry). publish_packet e.id e.sent e.message) b.entries)
    ∙ (ap (λ (q : List A). q ++ filter_map f (map (λ (e : SenderEntry). publish_packet e.id e.sent e.message) b.entries)) e
    ∙ ap (λ (q : List A). xs ++ q) g)))

pub resent_answers : (before : List Packet) (b : SenderBook) → answers before ≡ no_answers → answers (before ++ resent b) ≡ no_answers
resent_answers before b none =
    let x = resent_of as_pubrec before b [] [] (ap (λ (n : Answers). n.pubrecs) none) (none_of_released as_pubrec (λ i. refl) b.released)
    (none_of_entries as_pubrec (λ e. refl) b.entries) in
    let y = resent_of as_pubcomp before b [] [] (ap (λ (n : Answers). n.pubcomps) none) (none_of_released as_pubcomp (λ i. refl) b.released)
    (none_of_entries as_pubcomp (λ e. refl) b.entries) in
    let z = resent_of as_puback before b [] [] (ap (λ (n : Answers). n.pubacks) none) (none_of_released as_puback (λ i. refl) b.released)
    (none_of_entries as_puback (λ e. refl) b.entries) in
    λ k. record { pubrecs = x k; pubcomps = y k; pubacks = z k }

pub resent_joins : (st : State) (q before : List Packet) (b : SenderBook) → flight before ≡ no_flight
    → flight (joined st q (before ++ resent b)) ≡ record {
      publishes_2 = joined st (flight q).publishes_2 (held Q2 b.entries);
      publishes_1 = joined st (flight q).publishes_1 (held Q1 b.entries);
      pubrels = joined st (flight q).pubrels b.released;
      messages_0 = (flight q).messages_0;
    }
resent_joins st q before b none =
    let x = grown as_second st q (before ++ resent b) (held Q2 b.entries)
    (resent_of as_second before b [] (held Q2 b.entries) (ap (λ (n : Flight). n.publishes_2) none)
    (none_of_released as_second (λ i. refl) b.released) (second_of_entries b.entries)) in
    let y = grown as_first st q (before ++ resent b) (held Q1 b.entries)
    (resent_of as_first before b [] (held Q1 b.entries) (ap (λ (n : Flight). n.publishes_1) none)
    (none_of_released as_first (λ i. refl) b.released) (first_of_entries b.entries)) in
    let z = grown as_pubrel st q (before ++ resent b) b.released
    (resent_of as_pubrel before b b.released [] (ap (λ (n : Flight). n.pubrels) none) (released_of b.released)
    (none_of_entries as_pubrel (λ e. refl) b.entries) ∙ append-nil b.released) in
    let w = keep as_zeroth st q (before ++ resent b)
    (resent_of as_zeroth before b [] [] (ap (λ (n : Flight). n.messages_0) none) (none_of_released as_zeroth (λ i. refl) b.released)
    (none_of_entries as_zeroth no_zeroth b.entries)) in
    λ k. record { publishes_2 = x k; publishes_1 = y k; pubrels = z k; messages_0 = w k }
