-- Arrows to both sides.
use Rattle.std.proofs.Common.{◌≡◌, ℕ, ◌+◌, ◌≤◌, Bool, List, [], ◌∷◌, ◌++◌, OnOk, Result, Ok, Err, map, refl, sym, ap, subst, ◌∙◌, arith}
use Rattle.std.specs.List.{flat_map}
use Rattle.std.proofs.lemmas.List.{append-nil, flat_map_more}
use Rattle.std.proofs.lemmas.List.Sums.{sum_by_push}
use Rattle.mq_world.specs.declared.side.Side.{Side}
use Rattle.mq_world.specs.declared.side.Side.TheVariants.{Client, Server}
use Rattle.mq_picture.specs.declared.entry.RecordEntry.{RecordEntry}
use Rattle.mq_picture.specs.declared.entry.RecordEntry.TheVariants.{Arrived}
use Rattle.mq_picture.specs.declared.rows.Chart.{Chart}
use Rattle.mq_picture.specs.declared.rows.Flying.{Flying}
use Rattle.mq_picture.specs.declared.rows.Lane.{Lane}
use Rattle.mq_picture.specs.declared.summary.Summary.{Summary}
use Rattle.mq_picture.specs.Inside.Lanes.{Ends, IsChart, other, waiting}
use Rattle.mq_picture.specs.Rows.{Draws, brought_by, brought_to, drawn_to, noted_by, sent_by, sent_to, shown_to}

-- ---- one lane changes

-- What a record has, except that more bytes arrived at a side.
pub record SameBut (client server : ℕ) (history new : List RecordEntry) : Type 0 where
  pub to_client : sent_to Client new ≡ sent_to Client history
  pub to_server : sent_to Server new ≡ sent_to Server history
  pub notes : flat_map noted_by new ≡ flat_map noted_by history
  pub at_client : brought_to Client new ≡ brought_to Client history + client
  pub at_server : brought_to Server new ≡ brought_to Server history + server

client_moved : (history new : List RecordEntry) (count : ℕ) (before after : Chart) → SameBut count 0 history new → after.to_server ≡ before.to_server
    → Ends count before.to_client after.to_client before.rows.items after.rows.items → IsChart history before → IsChart new after
client_moved history new count before after same kept e h =
    let old = before.rows.items in
    let rows = after.rows.items in
    let drawn : drawn_to Server rows ≡ drawn_to Server old = subst (λ (s : Side). drawn_to (other s) rows ≡ drawn_to (other s) old) h.client e.others in
    let bytes : shown_to Client rows + after.to_client.arrived ≤ shown_to Client old + before.to_client.arrived + count = subst (λ (s : Side). shown_to s rows + after.to_client.arrived ≤ shown_to s old + before.to_client.arrived + count) h.client e.bytes in
    let others : shown_to Server rows ≡ shown_to Server old = subst (λ (s : Side). shown_to (other s) rows ≡ shown_to (other s) old) h.client e.other_bytes in
    let arrived : after.to_server.arrived ≡ before.to_server.arrived = ap (λ (l : Lane). l.arrived) kept in
    record {
      client = e.to ∙ h.client;
      server = ap (λ (l : Lane). l.to) kept ∙ h.server;
      to_client = subst (λ (s : Side). drawn_to s rows ++ waiting after.to_client ≡ drawn_to s old ++ waiting before.to_client) h.client e.packets ∙ h.to_client ∙ sym same.to_client;
      to_server = ap (λ (l : Lane). drawn_to Server rows ++ waiting l) kept ∙ ap (λ (ps : List Summary). ps ++ waiting before.to_server) drawn ∙ h.to_server ∙ sym same.to_server;
      notes = e.notes ∙ h.notes ∙ sym same.notes;
      fair = e.fair h.fair;
      at_client = omega (arith, bytes, h.at_client, same.at_client);
      at_server = omega (arith, others, arrived, h.at_server, same.at_server);
    }

server_moved : (history new : List RecordEntry) (count : ℕ) (before after : Chart) → SameBut 0 count history new → after.to_client ≡ before.to_client
    → Ends count before.to_server after.to_server before.rows.items after.rows.items → IsChart history before → IsChart new after
server_moved history new count before after same kept e h =
    let old = before.rows.items in
    let rows = after.rows.items in
    let drawn : drawn_to Client rows ≡ drawn_to Client old = subst (λ (s : Side). drawn_to (other s) rows ≡ drawn_to (other s) old) h.server e.others in
    let bytes : shown_to Server rows + after.to_server.arrived ≤ shown_to Server old + before.to_server.arrived + count = subst (λ (s : Side). shown_to s rows + after.to_server.arrived ≤ shown_to s old + before.to_server.arrived + count) h.server e.bytes in
    let others : shown_to Client rows ≡ shown_to Client old = subst (λ (s : Side). shown_to (other s) rows ≡ shown_to (other s) old) h.server e.other_bytes in
    let arrived : after.to_client.arrived ≡ before.to_client.arrived = ap (λ (l : Lane). l.arrived) kept in
    record {
      client = ap (λ (l : Lane). l.to) kept ∙ h.client;
      server = e.to ∙ h.server;
      to_client = ap (λ (l : Lane). drawn_to Client rows ++ waiting l) kept ∙ ap (λ (ps : List Summary). ps ++ waiting before.to_client) drawn ∙ h.to_client ∙ sym same.to_client;
      to_server = subst (λ (s : Side). drawn_to s rows ++ waiting after.to_server ≡ drawn_to s old ++ waiting before.to_server) h.server e.packets ∙ h.to_server ∙ sym same.to_server;
      notes = e.notes ∙ h.notes ∙ sym same.notes;
      fair = e.fair h.fair;
      at_client = omega (arith, others, arrived, h.at_client, same.at_client);
      at_server = omega (arith, bytes, h.at_server, same.at_server);
    }

-- ---- one entry more

-- an entry more that has none of something
none_more : {A : Type 0} (f : RecordEntry → List A) (history : List RecordEntry) (entry : RecordEntry) → f entry ≡ [] → flat_map f (history ++ entry ∷ []) ≡ flat_map f history
none_more f history entry none = sym (flat_map_more f [] history entry) ∙ ap (λ t. flat_map f history ++ t) none ∙ append-nil (flat_map f history)

arrived_client : (history : List RecordEntry) (count : ℕ) (lost : Bool) → SameBut count 0 history (history ++ Arrived Client count lost ∷ [])
arrived_client history count lost =
    let entry = Arrived Client count lost in
    record {
      to_client = none_more (sent_by Client) history entry refl;
      to_server = none_more (sent_by Server) history entry refl;
      notes = none_more noted_by history entry refl;
      at_client = sum_by_push (brought_by Client) history entry;
      at_server = sum_by_push (brought_by Server) history entry;
    }

arrived_server : (history : List RecordEntry) (count : ℕ) (lost : Bool) → SameBut 0 count history (history ++ Arrived Server count lost ∷ [])
arrived_server history count lost =
    let entry = Arrived Server count lost in
    record {
      to_client = none_more (sent_by Client) history entry refl;
      to_server = none_more (sent_by Server) history entry refl;
      notes = none_more noted_by history entry refl;
      at_client = sum_by_push (brought_by Client) history entry;
      at_server = sum_by_push (brought_by Server) history entry;
    }

same_record : (history : List RecordEntry) → SameBut 0 0 history history
same_record history = record { to_client = refl; to_server = refl; notes = refl; at_client = omega arith; at_server = omega arith }

-- ---- bytes arrive

pub client_arrives : {A E : Type 0} (r : Result A E) (count : ℕ) (lost : Bool) (before after : Chart) → after.to_server ≡ before.to_server → OnOk r (Ends count before.to_client after.to_client before.rows.items after.rows.items)
    → (history : List RecordEntry) → IsChart history before → OnOk r (IsChart (history ++ Arrived Client count lost ∷ []) after)
client_arrives (Ok x) count lost before after kept e history h = client_moved history (history ++ Arrived Client count lost ∷ []) count before after (arrived_client history count lost) kept e h
client_arrives (Err x) count lost before after kept e history h = tt

pub server_arrives : {A E : Type 0} (r : Result A E) (count : ℕ) (lost : Bool) (before after : Chart) → after.to_client ≡ before.to_client → OnOk r (Ends count before.to_server after.to_server before.rows.items after.rows.items)
    → (history : List RecordEntry) → IsChart history before → OnOk r (IsChart (history ++ Arrived Server count lost ∷ []) after)
server_arrives (Ok x) count lost before after kept e history h = server_moved history (history ++ Arrived Server count lost ∷ []) count before after (arrived_server history count lost) kept e h
server_arrives (Err x) count lost before after kept e history h = tt

-- ---- all packets to a side become arrows

pub client_ends : {A E : Type 0} (r : Result A E) (before after : Chart) → after.to_server ≡ before.to_server → OnOk r (Ends 0 before.to_client after.to_client before.rows.items after.rows.items)
    → (history : List RecordEntry) → IsChart history before → OnOk r (IsChart history after)
client_ends (Ok x) before after kept e history h = client_moved history history 0 before after (same_record history) kept e h
client_ends (Err x) before after kept e history h = tt

pub server_ends : {A E : Type 0} (r : Result A E) (before after : Chart) → after.to_client ≡ before.to_client → OnOk r (Ends 0 before.to_server after.to_server before.rows.items after.rows.items)
    → (history : List RecordEntry) → IsChart history before → OnOk r (IsChart history after)
server_ends (Ok x) before after kept e history h = server_moved history history 0 before after (same_record history) kept e h
server_ends (Err x) before after kept e history h = tt

-- no packet waits
pub none_wait : {A E : Type 0} (r : Result A E) (lane : Lane) → OnOk r (lane.packets.items ≡ []) → OnOk r (waiting lane ≡ [])
none_wait (Ok x) lane h = ap (map (λ (f : Flying). f.packet)) h
none_wait (Err x) lane h = tt

-- the same packets wait
pub same_wait : {A E : Type 0} (r : Result A E) (lane : Lane) → OnOk r (waiting lane ≡ waiting lane)
same_wait (Ok x) lane = refl
same_wait (Err x) lane = tt

-- ---- the diagram

-- no packet is left
pub chart_draws : (history : List RecordEntry) (chart : Chart) → IsChart history chart → waiting chart.to_client ≡ [] → waiting chart.to_server ≡ [] → Draws history chart.rows.items
chart_draws history chart h client server =
    let rows = chart.rows.items in
    record {
      to_client = sym (append-nil (drawn_to Client rows)) ∙ sym (ap (λ (ps : List Summary). drawn_to Client rows ++ ps) client) ∙ h.to_client;
      to_server = sym (append-nil (drawn_to Server rows)) ∙ sym (ap (λ (ps : List Summary). drawn_to Server rows ++ ps) server) ∙ h.to_server;
      notes = h.notes;
      fair = h.fair;
      at_client = omega (arith, h.at_client);
      at_server = omega (arith, h.at_server);
    }
