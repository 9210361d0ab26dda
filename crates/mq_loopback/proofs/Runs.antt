-- What the clients do over their connections.
use Rattle.std.proofs.Common.{◌≡◌, ◌<◌, ◌≤◌, ◌+◌, ℕ, List, [], ◌∷◌, ◌++◌, length, get_or, map, take, drop, flat_map, count_by, sym, ap, subst, ◌∙◌, append-nil, append_assoc, add-zero, false, true, Vec, vec_len, Option, Some, None, Result, Ok, Err, IfOk, OnOk, arith}
use Rattle.std.specs.Bool.{⊤}
use Rattle.std.specs.Prelude.{IfSome, IsOkAnd}
use Rattle.std.specs.List.{AllZip}
use Rattle.std.specs.declared.alloc.AllocError.{AllocError}
use Rattle.std.specs.declared.alloc.Global.{Global}
use Rattle.std.proofs.lemmas.Grind.{flat_map-append}
use Rattle.std.proofs.lemmas.List.{get_or-drop, length-drop, map-append, take_all, take-map, take_more}
use Rattle.std.proofs.lemmas.List.Sums.{count_by_more_no, count_by_more_yes}
use Rattle.mq_packet.specs.declared.message.Message.{Message}
use Rattle.mq_end.specs.declared.happening.Happening.{Happening}
use Rattle.mq_end.specs.declared.reason.CloseReason.{CloseReason}
use Rattle.mq_end.specs.End.{is_up}
use Rattle.mq_end.specs.Publishing.{ClientState}
use Rattle.mq_client.specs.Collecting.{IsAnswered, Keeps, handed}
use Rattle.mq_client.specs.Course.{Ask, IsIdle, Leaves, Moment, Opening, Publication, Subscription, Went}
use Rattle.mq_client.specs.Publishing.{AskedAll}
use Rattle.mq_client.specs.Inside.Publishing.{AskedFirst, AskedMore}
use Rattle.mq_client.proofs.Collected.{keeps_told}
use Rattle.mq_client.proofs.Published.{more_one}
use Rattle.mq_client.proofs.Courses.{went_none, went_on, went_still, went_then}
use Rattle.mq_client.specs.declared.error.ClientError.{ClientError}
use Rattle.mq_loopback.specs.declared.client.Client.{Client}
use Rattle.mq_loopback.specs.declared.client.Collector.{Collector}
use Rattle.mq_loopback.specs.declared.client.Publisher.{Publisher}
use Rattle.mq_loopback.specs.declared.client.Role.TheVariants as roles
use Rattle.mq_loopback.specs.declared.client_threads.ClientStart.{ClientStart}
use Rattle.mq_loopback.specs.declared.rig.RunError.{RunError}
use Rattle.mq_loopback.specs.declared.rig.RunResult.{RunResult}
use Rattle.mq_loopback.specs.Program.{IsPlayed}
use Rattle.mq_loopback.specs.Clients.{Collected, IsClientRun, IsNewClient, IsRoleDone, Published, Receives, Subscribed, asks_of, message_of, request_of}
use Rattle.mq_loopback.specs.Inside.Clients.{is_collector}

-- ---- collectors

pub subscribed : (a b : Moment) (c : Collector) (asks : List Ask) (x told : List Happening) (old new : List Message) → x ≡ []
    → asks ≡ Opening true ∷ Subscription (request_of c ∷ []) ∷ [] → Keeps a b asks x told (Ok tt) → IsAnswered true told
    → new ≡ old ++ flat_map handed told → Subscribed a b c old new
subscribed a b c asks x told old new none are k answered kept =
    let all : told ≡ k.told = k.kept ∙ ap (λ z. z ++ k.told) none in
    record {
      told = told;
      went = subst (λ z. Went a b z told []) are (subst (λ z. Went a b asks z []) (sym all) (keeps_told a b asks x told k));
      answered = answered;
      kept = kept;
    }

pub receives_none : (a : Moment) (ms : List Message) → Receives a a ms ms
receives_none a ms = record { told = []; went = went_none a; kept = sym (append-nil ms) }

-- more bytes were received, and the answer was sent
pub receives_more : (a b c d : Moment) (x y z : List Message) (hs : List Happening) (rs : List CloseReason) → Receives a b x y → Went b c [] hs rs → rs ≡ []
    → Went c d [] [] [] → z ≡ y ++ flat_map handed hs → Receives a d x z
receives_more a b c d x y z hs rs r went none after is =
    let read : Went b d [] hs [] = subst (λ u. Went b d [] hs u) none (went_still b c d [] hs rs went after) in
    record {
      told = r.told ++ hs;
      went = went_on a b d [] r.told hs [] r.went read;
      kept = is ∙ ap (λ u. u ++ flat_map handed hs) r.kept ∙ append_assoc x (flat_map handed r.told) (flat_map handed hs)
          ∙ ap (λ u. x ++ u) (sym (flat_map-append handed r.told hs));
    }

-- the client leaves, if it can
pub collected_by : (r : Result ⊤ ClientError) (a b c : Moment) (old new : List Message) → Receives a b old new → OnOk r (Leaves b c) → OnOk r (Collected a c old new)
collected_by (Ok x) a b c old new receives leaves = record { last = b; receives = receives; leaves = leaves }
collected_by (Err e) a b c old new receives leaves = tt

-- ---- publishers

pub more_payload : (p : Publisher) (payloads : List (List ℕ)) (d : List ℕ) (m : Message) (a b c : Moment) (from to : ℕ) → payloads ≡ p.payloads → AskedMore a b (asks_of p) from to
    → to < length payloads → m ≡ message_of p (get_or payloads to d) → Went b c (Publication m ∷ []) [] [] → AskedMore a c (asks_of p) from (to + 1)
more_payload p payloads d m a b c from to same before within is w =
    let here : to < length p.payloads = subst (λ (ps : List (List ℕ)). to < length ps) same within in
    let message : m ≡ message_of p (get_or p.payloads to d) = subst (λ (ps : List (List ℕ)). m ≡ message_of p (get_or ps to d)) same is in
    more_one (λ payload. Publication (message_of p payload)) p.payloads d (Publication m) a b c from to before here (ap Publication message) w

pub all_asked : (a b : Moment) (p : Publisher) (n : ℕ) → n ≡ length p.payloads → AskedFirst a b (asks_of p) n [] → is_up b.client.link.end.state ≡ true → IsIdle b.client.link.end
    → AskedAll a b (asks_of p)
all_asked a b p n full f up idle =
    let ask : List ℕ → Ask = λ payload. Publication (message_of p payload) in
    let whole : take n (asks_of p) ≡ asks_of p = ap (λ z. take z (asks_of p)) full ∙ take-map ask (length p.payloads) p.payloads ∙ ap (map ask) (take_all (length p.payloads) p.payloads (omega arith)) in
    record { told = f.told; went = subst (λ z. Went a b z f.told []) whole f.went; up = up; idle = idle }

pub published : (r : Result ⊤ ClientError) (a b c d : Moment) (p : Publisher) → Went a b (Opening true ∷ []) [] [] → AskedAll b c (asks_of p) → OnOk r (Leaves c d)
    → OnOk r (Published a d p)
published (Ok x) a b c d p opened f leaves = record {
  last = c;
  asked = record { told = f.told; went = went_then a b c (Opening true ∷ []) (asks_of p) [] f.told [] [] opened f.went; up = f.up; idle = f.idle };
  leaves = leaves;
}
published (Err e) a b c d p opened f leaves = tt

-- the clients of a file did what their roles say
zip_runs : (starts : List ClientStart) (lists : List (Vec Message Global)) → AllZip (λ s outcome. IfSome outcome (λ messages. IsClientRun s.client.now messages.items)) starts (map Some lists)
    → AllZip IsClientRun (map (λ s. s.client.now) starts) (map (λ v. v.items) lists)
zip_runs [] [] all = tt
zip_runs [] (l ∷ ls) all = absurd all
zip_runs (s ∷ ss) [] all = absurd all
zip_runs (s ∷ ss) (l ∷ ls) all = (all.0, zip_runs ss ls all.1)

played : (clients : List Client) (starts : List ClientStart) (outcomes : Result (Vec (Option (Vec Message Global)) Global) AllocError) (lists : List (Vec Message Global)) (n : ℕ)
    → map (λ s. s.client.now) starts ≡ take n clients → n ≡ length clients → IsOkAnd outcomes (λ all. all.items ≡ map Some lists)
    → IfOk outcomes (λ all. AllZip (λ s outcome. IfSome outcome (λ messages. IsClientRun s.client.now messages.items)) starts all.items) → AllZip IsClientRun clients (map (λ v. v.items) lists)
played clients starts (Ok all) lists n own whole are done =
    subst (λ (cs : List Client). AllZip IsClientRun cs (map (λ v. v.items) lists)) (own ∙ take_all n clients (omega (arith, whole)))
    (zip_runs starts lists (subst (λ (os : List (Option (Vec Message Global))). AllZip (λ s outcome. IfSome outcome (λ messages. IsClientRun s.client.now messages.items)) starts os) are done))
played clients starts (Err e) lists n own whole are done = absurd are

pub play_done : (r : Result RunResult RunError) (collected : Result (Vec (Vec Message Global) Global) RunError) (clients : List Client) (starts : List ClientStart)
    (outcomes : Result (Vec (Option (Vec Message Global)) Global) AllocError) (n parts : ℕ) → IfOk r (λ run. (collected ≡ Ok run.collected) × (vec_len run.receipts ≡ parts)) → parts ≡ n → length clients ≡ n
    → map (λ s. s.client.now) starts ≡ take n clients → IfOk collected (λ lists. IsOkAnd outcomes (λ all. all.items ≡ map Some lists.items))
    → IfOk outcomes (λ all. AllZip (λ s outcome. IfSome outcome (λ messages. IsClientRun s.client.now messages.items)) starts all.items) → IfOk r (IsPlayed clients)
play_done (Ok run) collected clients starts outcomes n parts told same whole own are done = record {
  done = played clients starts outcomes run.collected.items n own (sym whole) (subst (λ (c : Result (Vec (Vec Message Global) Global) RunError). IfOk c (λ lists. IsOkAnd outcomes (λ all. all.items ≡ map Some lists.items))) told.0 are) done;
  workers = told.1 ∙ same ∙ sym whole;
}
play_done (Err e) collected clients starts outcomes n parts told same whole own are done = tt

-- ---- starts

-- the start of one client more
pub start_more : (clients rest : List Client) (starts : List ClientStart) (k : ℕ) (client : Client) (start : ClientStart) → map (λ s. s.client.now) starts ≡ take k clients → rest ≡ drop k clients → 1 ≤ length rest
    → client ≡ get_or rest 0 client → start.client.now ≡ client → map (λ s. s.client.now) (starts ++ start ∷ []) ≡ take (k + 1) clients
start_more clients rest starts k client start own left some first is =
    let low : k < length clients = omega (arith, length-drop k clients, some, ap length left) in
    let at : get_or clients k client ≡ client = sym (first ∙ ap (λ (cs : List Client). get_or cs 0 client) left ∙ get_or-drop k clients 0 client ∙ ap (λ (i : ℕ). get_or clients i client) (add-zero k)) in
    map-append (λ s. s.client.now) starts (start ∷ []) ∙ ap (λ (cs : List Client). cs ++ start.client.now ∷ []) own ∙ ap (λ (c : Client). take k clients ++ c ∷ []) (is ∙ sym at) ∙ sym (take_more clients k client low)

-- no client is left for a connection
pub start_none : (clients rest : List Client) (k : ℕ) → rest ≡ drop k clients → length rest < 1 → take (k + 1) clients ≡ take k clients
start_none clients rest k left none = take_all (k + 1) clients (omega (arith, length-drop k clients, none, ap length left)) ∙ sym (take_all k clients (omega (arith, length-drop k clients, none, ap length left)))

-- ---- counting collectors

pub counted_yes : (clients : List Client) (k n : ℕ) (client : Client) → k < length clients → client ≡ get_or clients k client → is_collector client ≡ true → n ≡ count_by is_collector (take k clients)
    → n + 1 ≡ count_by is_collector (take (k + 1) clients)
counted_yes clients k n client low at passes same = ap (λ (m : ℕ). m + 1) same ∙ sym (count_by_more_yes is_collector clients k client low (subst (λ (c : Client). is_collector c ≡ true) at passes))

pub counted_no : (clients : List Client) (k n : ℕ) (client : Client) → k < length clients → client ≡ get_or clients k client → is_collector client ≡ false → n ≡ count_by is_collector (take k clients)
    → n ≡ count_by is_collector (take (k + 1) clients)
counted_no clients k n client low at fails same = same ∙ sym (count_by_more_no is_collector clients k client low (subst (λ (c : Client). is_collector c ≡ false) at fails))

-- ---- clients

pub collector_done : (c : Collector) (a m b : Moment) (first messages : List Message) → Subscribed a m c [] first → Collected m b first messages → c.count ≤ length messages → IsRoleDone (roles.Collector c) a b messages
collector_done c a m b first messages subscribed collected enough = (m, first, subscribed, collected, enough)

pub publisher_done : (p : Publisher) (a b : Moment) (messages : List Message) → messages ≡ [] → Published a b p → IsRoleDone (roles.Publisher p) a b messages
publisher_done p a b messages none done = (none, done)

-- a new client did what its role says
pub client_ran : (r : Result (Option (Vec Message Global)) ClientError) (client : Client) (a b : Moment) (x : ClientState) → IsNewClient client.name x → a.client ≡ x
    → IfOk r (λ done. IfSome done (λ messages. IsRoleDone client.role a b messages.items)) → IfOk r (λ done. IfSome done (λ messages. IsClientRun client messages.items))
client_ran (Ok (Some messages)) client a b x begins same done = (a, b, subst (IsNewClient client.name) (sym same) begins, done)
client_ran (Ok None) client a b x begins same done = tt
client_ran (Err e) client a b x begins same done = tt
