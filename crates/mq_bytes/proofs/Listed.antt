-- The packets with lists (3.8 to 3.10).
use Rattle.std.proofs.Common.{◌≡◌, ℕ, ◌+◌, ◌≤◌, ◌<◌, ◌^◌, List, [], ◌∷◌, ◌++◌, length, Result, refl, sym, ap, subst, ◌∙◌, append-nil, arith}
use Rattle.std.specs.List.{AllByRecursion, flat_map}
use Rattle.std.proofs.lemmas.List.{length-append}
use Rattle.mq_wire.specs.Number.{number}
use Rattle.mq_wire.specs.Reading.{LengthLaws}
use Rattle.mq_wire.specs.Text.{counted}
use Rattle.mq_topic.specs.Topic.{IsTopicFilter}
use Rattle.mq_packet.specs.declared.packet.Packet.{Packet}
use Rattle.mq_packet.specs.declared.packet.Packet.TheVariants as packets
use Rattle.mq_packet.specs.declared.packet.Request.{Request}
use Rattle.mq_packet.specs.declared.packet.SubAckCode.{SubAckCode}
use Rattle.mq_packet.specs.Encoding.{code_fields, fields, first_byte, request_fields}
use Rattle.mq_packet.specs.Identifier.{IsIdentifier}
use Rattle.mq_packet.specs.Values.{Always, IsPacket, IsRequest}
use Rattle.mq_bytes.specs.declared.fault.EncodeFault.{EncodeFault}
use Rattle.mq_bytes.specs.declared.fault.EncodeFault.TheVariants.{Argument, TooLarge}
use Rattle.mq_bytes.specs.declared.items.ItemKind.{ItemKind}
use Rattle.mq_bytes.specs.declared.items.ItemKind.TheVariants as kinds
use Rattle.mq_bytes.specs.Arguments.{IsListOf}
use Rattle.mq_bytes.specs.Buffers.{Gives}
use Rattle.mq_bytes.specs.Inside.Buffers.{EncodesParts}
use Rattle.mq_bytes.specs.Inside.Items.{AreItems, IsItem, first_of, kind_number}
use Rattle.mq_bytes.proofs.Encoded.{parts_give}

abbrev all_of : List (List ℕ) → List ℕ
all_of xs = flat_map (λ x. x) xs

-- ---- values from encoded items

-- The values that are encoded so, and are valid.
record Values {A : Type 0} (write : A → List ℕ) (Is : A → Type 0) (b : List ℕ) : Type 0 where
  pub values : List A
  pub each : AllByRecursion Is values
  pub bytes : flat_map write values ≡ b

values_of : {A : Type 0} (write : A → List ℕ) (Is : A → Type 0) (Item : List ℕ → Type 0) → ((x : List ℕ) → Item x → (a : A) × Is a × (x ≡ write a)) → (xs : List (List ℕ)) → AllByRecursion Item xs → Values write Is (all_of xs)
values_of write Is Item read [] all = record { values = []; each = tt; bytes = refl }
values_of write Is Item read (x ∷ xs) all =
    let v = read x all.0 in
    let more = values_of write Is Item read xs all.1 in
    record {
      values = v.0 ∷ more.values;
      each = (v.1, more.each);
      bytes = ap (λ (z : List ℕ). z ++ flat_map write more.values) (sym v.2) ∙ ap (λ (z : List ℕ). x ++ z) more.bytes;
    }

items_of : {A : Type 0} (write : A → List ℕ) (Is : A → Type 0) (Item : List ℕ → Type 0) → ((a : A) → Is a → Item (write a)) → (vs : List A) → AllByRecursion Is vs → (xs : List (List ℕ)) × AllByRecursion Item xs × (all_of xs ≡ flat_map write vs)
items_of write Is Item made [] all = ([], tt, refl)
items_of write Is Item made (v ∷ vs) all =
    let more = items_of write Is Item made vs all.1 in
    (write v ∷ more.0, (made v all.0, more.1), ap (λ (z : List ℕ). write v ++ z) more.2)

item_request : (x : List ℕ) → IsItem kinds.Request x → (r : Request) × IsRequest r × (x ≡ request_fields r)
item_request x h = h

item_code : (x : List ℕ) → IsItem kinds.Code x → (c : SubAckCode) × Always c × (x ≡ code_fields c)
item_code x h = (h.0, tt, h.1)

item_filter : (x : List ℕ) → IsItem kinds.Filter x → (f : List ℕ) × IsTopicFilter f × (x ≡ counted f)
item_filter x h = h

request_item : (r : Request) → IsRequest r → IsItem kinds.Request (request_fields r)
request_item r is = (r, is, refl)

code_item : (c : SubAckCode) → Always c → IsItem kinds.Code (code_fields c)
code_item c is = (c, refl)

filter_item : (f : List ℕ) → IsTopicFilter f → IsItem kinds.Filter (counted f)
filter_item f is = (f, is, refl)

some_values : {A : Type 0} (write : A → List ℕ) (vs : List A) → 0 < length (flat_map write vs) → 0 < length vs
some_values write [] h = absurd (omega arith)
some_values write (v ∷ vs) h = omega arith

-- ---- the packet with such a list

pub record Listing (kind : ItemKind) (id : ℕ) (items : List ℕ) : Type 0 where
  pub packet : Packet
  pub is : IsListOf (kind_number kind) id items packet
  pub valid : IsPacket packet
  pub first : first_of kind ≡ first_byte packet
  pub body : number id ++ items ≡ fields packet

made : (kind : ItemKind) (id : ℕ) (items : List ℕ) (xs : List (List ℕ)) → IsIdentifier id → 0 < length items → AllByRecursion (IsItem kind) xs → all_of xs ≡ items → Listing kind id items
made kinds.Request id items xs is some all e =
    let v = values_of request_fields IsRequest (IsItem kinds.Request) item_request xs all in
    let same = v.bytes ∙ e in
    record {
      packet = packets.Subscribe id v.values;
      is = (refl, refl, same);
      valid = record { identifier = is; item = some_values request_fields v.values (subst (λ (z : List ℕ). 0 < length z) (sym same) some); each = v.each };
      first = refl;
      body = ap (λ (z : List ℕ). number id ++ z) (sym same);
    }
made kinds.Code id items xs is some all e =
    let v = values_of code_fields Always (IsItem kinds.Code) item_code xs all in
    let same = v.bytes ∙ e in
    record {
      packet = packets.SubAck id v.values;
      is = (refl, refl, same);
      valid = record { identifier = is; item = some_values code_fields v.values (subst (λ (z : List ℕ). 0 < length z) (sym same) some); each = v.each };
      first = refl;
      body = ap (λ (z : List ℕ). number id ++ z) (sym same);
    }
made kinds.Filter id items xs is some all e =
    let v = values_of counted IsTopicFilter (IsItem kinds.Filter) item_filter xs all in
    let same = v.bytes ∙ e in
    record {
      packet = packets.Unsubscribe id v.values;
      is = (refl, refl, same);
      valid = record { identifier = is; item = some_values counted v.values (subst (λ (z : List ℕ). 0 < length z) (sym same) some); each = v.each };
      first = refl;
      body = ap (λ (z : List ℕ). number id ++ z) (sym same);
    }

listing : (kind : ItemKind) (id : ℕ) (items : List ℕ) → IsIdentifier id → 0 < length items → AreItems kind items → Listing kind id items
listing kind id items is some h = made kind id items h.0 is some h.1 h.2

pub list_gives : LengthLaws → (kind : ItemKind) (id first : ℕ) (items old new : List ℕ) (r : Result ℕ EncodeFault) → first ≡ first_of kind → IsIdentifier id → 0 < length items → AreItems kind items → EncodesParts first (number id ++ (items ++ ([] ++ []))) old new r → Gives (IsListOf (kind_number kind) id items) old new r
list_gives laws kind id first items old new r is_first is some h parts =
    let l = listing kind id items is some h in
    parts_give laws (IsListOf (kind_number kind) id items) l.packet first (number id ++ (items ++ ([] ++ []))) old new r l.is l.valid (is_first ∙ l.first) (ap (λ (z : List ℕ). number id ++ z) (append-nil items) ∙ l.body) parts

pub list_too_large : (kind : ItemKind) (id : ℕ) (items old : List ℕ) → IsIdentifier id → AreItems kind items → 2 ^ 28 ≤ length items → Gives (IsListOf (kind_number kind) id items) old old (Result.Err TooLarge)
list_too_large kind id items old is h large =
    let l = listing kind id items is (omega arith) h in
    let size : 2 ^ 28 ≤ length (fields l.packet) = omega (arith, ap length l.body, length-append (number id) items) in
    (l.packet, l.is, size, refl)

-- ---- no packet has such a list

-- What a valid packet says of its list.
pub record Listed (kind : ItemKind) (id : ℕ) (items : List ℕ) : Type 0 where
  pub identifier : IsIdentifier id
  pub some : 0 < length items
  pub are : AreItems kind items

request_kind : (kind : ItemKind) → kind_number kind ≡ 8 → kind ≡ kinds.Request
request_kind kinds.Request e = refl
request_kind kinds.Code e = absurd (omega (arith, e))
request_kind kinds.Filter e = absurd (omega (arith, e))

code_kind : (kind : ItemKind) → kind_number kind ≡ 9 → kind ≡ kinds.Code
code_kind kinds.Request e = absurd (omega (arith, e))
code_kind kinds.Code e = refl
code_kind kinds.Filter e = absurd (omega (arith, e))

filter_kind : (kind : ItemKind) → kind_number kind ≡ 10 → kind ≡ kinds.Filter
filter_kind kinds.Request e = absurd (omega (arith, e))
filter_kind kinds.Code e = absurd (omega (arith, e))
filter_kind kinds.Filter e = refl

some_bytes : {A : Type 0} (write : A → List ℕ) → ((a : A) → 0 < length (write a)) → (vs : List A) → 0 < length vs → 0 < length (flat_map write vs)
some_bytes write each [] h = absurd (omega (arith, h))
some_bytes write each (v ∷ vs) h = omega (arith, each v, length-append (write v) (flat_map write vs))

request_some : (r : Request) → 0 < length (request_fields r)
request_some r = omega arith

code_some : (c : SubAckCode) → 0 < length (code_fields c)
code_some c = omega arith

filter_some : (f : List ℕ) → 0 < length (counted f)
filter_some f = omega arith

are_listed : {A : Type 0} (kind : ItemKind) (write : A → List ℕ) (Is : A → Type 0) → ((a : A) → 0 < length (write a)) → ((a : A) → Is a → IsItem kind (write a)) → (id i : ℕ) (items : List ℕ) (vs : List A) → IsIdentifier i → 0 < length vs → AllByRecursion Is vs → i ≡ id → flat_map write vs ≡ items → Listed kind id items
are_listed kind write Is some_each made_each id i items vs is some all same e =
    let xs = items_of write Is (IsItem kind) made_each vs all in
    record {
      identifier = subst IsIdentifier same is;
      some = subst (λ (z : List ℕ). 0 < length z) e (some_bytes write some_each vs some);
      are = (xs.0, xs.1, xs.2 ∙ e);
    }

listed : (kind : ItemKind) (id : ℕ) (items : List ℕ) (p : Packet) → IsPacket p → IsListOf (kind_number kind) id items p → Listed kind id items
listed kind id items (packets.Connect x) q h = absurd h
listed kind id items (packets.ConnAck x) q h = absurd h
listed kind id items (packets.Publish x) q h = absurd h
listed kind id items (packets.PubAck x) q h = absurd h
listed kind id items (packets.PubRec x) q h = absurd h
listed kind id items (packets.PubRel x) q h = absurd h
listed kind id items (packets.PubComp x) q h = absurd h
listed kind id items (packets.Subscribe i vs) q h =
    subst (λ (k : ItemKind). Listed k id items) (sym (request_kind kind h.0)) (are_listed kinds.Request request_fields IsRequest request_some request_item id i items vs q.identifier q.item q.each h.1 h.2)
listed kind id items (packets.SubAck i vs) q h =
    subst (λ (k : ItemKind). Listed k id items) (sym (code_kind kind h.0)) (are_listed kinds.Code code_fields Always code_some code_item id i items vs q.identifier q.item q.each h.1 h.2)
listed kind id items (packets.Unsubscribe i vs) q h =
    subst (λ (k : ItemKind). Listed k id items) (sym (filter_kind kind h.0)) (are_listed kinds.Filter counted IsTopicFilter filter_some filter_item id i items vs q.identifier q.item q.each h.1 h.2)
listed kind id items (packets.UnsubAck x) q h = absurd h
listed kind id items packets.PingReq q h = absurd h
listed kind id items packets.PingResp q h = absurd h
listed kind id items packets.Disconnect q h = absurd h

pub list_identifier : (kind : ItemKind) (id : ℕ) (items : List ℕ) → id ≡ 0 → (p : Packet) → IsPacket p → IsListOf (kind_number kind) id items p → ⊥
list_identifier kind id items e p q h = let is = (listed kind id items p q h).identifier in absurd (omega (arith, is.0, e))

pub list_some : (kind : ItemKind) (id : ℕ) (items : List ℕ) → length items ≡ 0 → (p : Packet) → IsPacket p → IsListOf (kind_number kind) id items p → ⊥
list_some kind id items e p q h = let some = (listed kind id items p q h).some in absurd (omega (arith, some, e))

pub list_items : (kind : ItemKind) (id : ℕ) (items : List ℕ) → (AreItems kind items → ⊥) → (p : Packet) → IsPacket p → IsListOf (kind_number kind) id items p → ⊥
list_items kind id items fails p q h = fails (listed kind id items p q h).are

-- No packet with a list has another type.
pub no_list : (kind id : ℕ) (items : List ℕ) → (kind ≡ 8 → ⊥) → (kind ≡ 9 → ⊥) → (kind ≡ 10 → ⊥) → (p : Packet) → IsPacket p → IsListOf kind id items p → ⊥
no_list kind id items a b c (packets.Connect x) q h = h
no_list kind id items a b c (packets.ConnAck x) q h = h
no_list kind id items a b c (packets.Publish x) q h = h
no_list kind id items a b c (packets.PubAck x) q h = h
no_list kind id items a b c (packets.PubRec x) q h = h
no_list kind id items a b c (packets.PubRel x) q h = h
no_list kind id items a b c (packets.PubComp x) q h = h
no_list kind id items a b c (packets.Subscribe i vs) q h = a h.0
no_list kind id items a b c (packets.SubAck i vs) q h = b h.0
no_list kind id items a b c (packets.Unsubscribe i vs) q h = c h.0
no_list kind id items a b c (packets.UnsubAck x) q h = h
no_list kind id items a b c packets.PingReq q h = h
no_list kind id items a b c packets.PingResp q h = h
no_list kind id items a b c packets.Disconnect q h = h
