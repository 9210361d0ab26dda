-- Parts of a buffer, and their parts.
use Rattle.std.proofs.Common.{◌≡◌, ℕ, ◌+◌, ◌≤◌, List, ◌∷◌, ◌++◌, length, take, drop, refl, sym, ap, subst, ◌∙◌, append_assoc, take-append-drop, arith}
use Rattle.std.proofs.lemmas.List.{length-append, length-take-le}
use Rattle.mq_wire.specs.Number.{number}
use Rattle.mq_wire.specs.Text.{counted}
use Rattle.mq_packet.specs.declared.connect.Connect.{Connect}
use Rattle.mq_packet.specs.Publication.{Publication}
use Rattle.mq_packet.specs.Encoding.{connect_fields, connect_head, connect_protocol, delivery_fields, login_fields, publish_fields, will_fields}
use Rattle.mq_bytes.specs.Places.{Lies}

-- the first part of what lies there
pub lies_front : (b : List ℕ) (at : ℕ) (x y : List ℕ) → Lies b at (x ++ y) → Lies b at x
lies_front b at x y h = record {
  before = h.before;
  after = y ++ h.after;
  parts = h.parts ∙ ap (λ (z : List ℕ). h.before ++ z) (append_assoc x y h.after);
  here = h.here;
}

-- the part behind it
pub lies_behind : (b : List ℕ) (at : ℕ) (x y : List ℕ) → Lies b at (x ++ y) → Lies b (at + length x) y
lies_behind b at x y h = record {
  before = h.before ++ x;
  after = h.after;
  parts = h.parts ∙ (ap (λ (z : List ℕ). h.before ++ z) (append_assoc x y h.after) ∙ sym (append_assoc h.before x (y ++ h.after)));
  here = ap (λ (n : ℕ). n + length x) h.here ∙ sym (length-append h.before x);
}

pub lies_within : (b : List ℕ) (at : ℕ) (x : List ℕ) → Lies b at x → at + length x ≤ length b
lies_within b at x h =
    let all = ap length h.parts in
    let front = length-append h.before (x ++ h.after) in
    let rest = length-append x h.after in
    let here = h.here in
    omega arith

-- the fields behind a fixed header
pub lies_behind_header : (b : List ℕ) (n first : ℕ) (len body : List ℕ) → take n b ≡ first ∷ (len ++ body) → Lies b (1 + length len) body
lies_behind_header b n first len body e = record {
  before = first ∷ len;
  after = drop n b;
  parts = sym (take-append-drop n b) ∙ (ap (λ (z : List ℕ). z ++ drop n b) e ∙ append_assoc (first ∷ len) body (drop n b));
  here = omega arith;
}

-- the number of bytes of a packet
pub header_size : (b : List ℕ) (n first : ℕ) (len body : List ℕ) → n ≤ length b → take n b ≡ first ∷ (len ++ body) → n ≡ (1 + length len) + length body
header_size b n first len body within e =
    let front = length-take-le n b within in
    let all = ap length e in
    let parts = length-append len body in
    omega arith

-- bytes behind a number of two bytes
pub lies_counted : (b : List ℕ) (at : ℕ) (x : List ℕ) → Lies b at (counted x) → Lies b (at + 2) x
lies_counted b at x h = lies_behind b at (number (length x)) x h

-- two such fields, one behind the other
pub lies_second : (b : List ℕ) (at : ℕ) (x y : List ℕ) → Lies b at (counted x ++ counted y) → Lies b (((at + 2) + length x) + 2) y
lies_second b at x y h =
    let there = lies_counted b (at + length (counted x)) y (lies_behind b at (counted x) (counted y) h) in
    let size = length-append (number (length x)) x in
    let same : (at + length (counted x)) + 2 ≡ ((at + 2) + length x) + 2 = omega arith in
    subst (λ (n : ℕ). Lies b n y) same there

pub lies_first : (b : List ℕ) (at : ℕ) (x y : List ℕ) → Lies b at (counted x ++ y) → Lies b (at + 2) x
lies_first b at x y h = lies_counted b at x (lies_front b at (counted x) y h)

-- the bytes behind the first of them
pub lies_after : (b : List ℕ) (at : ℕ) (x y : List ℕ) → Lies b at (counted x ++ y) → Lies b ((at + 2) + length x) y
lies_after b at x y h =
    let size = length-append (number (length x)) x in
    let same : at + length (counted x) ≡ (at + 2) + length x = omega arith in
    subst (λ (n : ℕ). Lies b n y) same (lies_behind b at (counted x) y h)

-- ---- CONNECT (3.1)

-- Protocol, flags and keep-alive are ten bytes. The client identifier is behind them.
pub lies_client : (b : List ℕ) (at : ℕ) (c : Connect) → Lies b at (connect_fields c) → Lies b (at + 12) c.client_id
lies_client b at c h =
    let head = lies_front b at (connect_head c) (will_fields c.will ++ login_fields c.login) h in
    let id = lies_counted b (at + 10) c.client_id (lies_behind b at (connect_protocol c) (counted c.client_id) head) in
    let same : (at + 10) + 2 ≡ at + 12 = omega arith in
    subst (λ (n : ℕ). Lies b n c.client_id) same id

lies_rest : (b : List ℕ) (at : ℕ) (c : Connect) → Lies b at (connect_fields c) → Lies b ((at + 12) + length c.client_id) (will_fields c.will ++ login_fields c.login)
lies_rest b at c h =
    let rest = lies_behind b at (connect_head c) (will_fields c.will ++ login_fields c.login) h in
    let ten : length (connect_protocol c) ≡ 10 = refl in
    let head = length-append (connect_protocol c) (counted c.client_id) in
    let id = length-append (number (length c.client_id)) c.client_id in
    let size : at + length (connect_head c) ≡ (at + 12) + length c.client_id = omega arith in
    subst (λ (n : ℕ). Lies b n (will_fields c.will ++ login_fields c.login)) size rest

pub lies_will : (b : List ℕ) (at : ℕ) (c : Connect) → Lies b at (connect_fields c) → Lies b ((at + 12) + length c.client_id) (will_fields c.will)
lies_will b at c h = lies_front b ((at + 12) + length c.client_id) (will_fields c.will) (login_fields c.login) (lies_rest b at c h)

pub lies_login : (b : List ℕ) (at : ℕ) (c : Connect) → Lies b at (connect_fields c) → Lies b (((at + 12) + length c.client_id) + length (will_fields c.will)) (login_fields c.login)
lies_login b at c h = lies_behind b ((at + 12) + length c.client_id) (will_fields c.will) (login_fields c.login) (lies_rest b at c h)

-- ---- lists (3.8, 3.9, 3.10)

pub lies_list : (b : List ℕ) (at id : ℕ) (items : List ℕ) → Lies b at (number id ++ items) → Lies b (at + 2) items
lies_list b at id items h = lies_behind b at (number id) items h

pub list_size : (at id n : ℕ) (items : List ℕ) → n ≡ at + length (number id ++ items) → n ≡ (at + 2) + length items
list_size at id n items e = let parts = length-append (number id) items in omega arith

-- ---- PUBLISH (3.3)

pub lies_topic : (b : List ℕ) (at : ℕ) (p : Publication) → Lies b at (publish_fields p) → Lies b (at + 2) p.message.topic
lies_topic b at p h = lies_first b at p.message.topic (delivery_fields p.delivery ++ p.message.payload) h

pub lies_payload : (b : List ℕ) (at : ℕ) (p : Publication) → Lies b at (publish_fields p) → Lies b (((at + 2) + length p.message.topic) + length (delivery_fields p.delivery)) p.message.payload
lies_payload b at p h = lies_behind b ((at + 2) + length p.message.topic) (delivery_fields p.delivery) p.message.payload (lies_after b at p.message.topic (delivery_fields p.delivery ++ p.message.payload) h)
