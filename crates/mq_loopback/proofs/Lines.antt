-- Lines that are read as clients.
use Rattle.std.proofs.Common.{◌≡◌, ℕ, suc, ◌+◌, ◌<◌, List, [], ◌∷◌, ◌++◌, length, take, drop, get_or, map, Option, None, Result, Ok, Err, Bor, sym, subst, ◌∙◌, arith}
use Rattle.std.specs.Prelude.{IsErrAnd, IsErrOf}
use Rattle.std.specs.List.{AllByRecursion}
use Rattle.std.specs.Option.{ok_or}
use Rattle.std.proofs.Math.Seq.{split_at}
use Rattle.std.proofs.lemmas.List.{map-append}
use Rattle.mq_loopback.specs.declared.client.Client.{Client}
use Rattle.mq_loopback.specs.declared.read.ClientsFault.{ClientsFault}
use Rattle.mq_loopback.specs.declared.read.ClientsFault.TheVariants.{Line}
use Rattle.mq_schedule.specs.Schedule.{bytes_word}
use Rattle.mq_loopback.specs.File.{AreClients, IsBadLine, IsPayload}
use Rattle.mq_loopback.specs.Inside.File.{Joins}
use Rattle.mq_loopback.proofs.Joining.{joins_more, last_of, same_length}
use Rattle.mq_loopback.proofs.Unique.{one_list}

-- A word behind payloads that is a payload.
pub payload_in : (done all : List (List ℕ)) (word : List ℕ) (others : List (List ℕ)) → AllByRecursion IsPayload all → map bytes_word done ++ word ∷ others ≡ map bytes_word all
    → (p : List ℕ) × IsPayload p × (word ≡ bytes_word p)
payload_in [] [] word others k e = absurd (cc e)
payload_in [] (p ∷ all) word others k e = (p, k.0, cc e)
payload_in (d ∷ done) [] word others k e = absurd (cc e)
payload_in (d ∷ done) (p ∷ all) word others k e = payload_in done all word others k.1 (cc e)

-- the fault that a function returns is the one that it was given
pub fault_is : {A : Type 0} (r : Result A ClientsFault) (fault : ClientsFault) (n : ℕ) → IsErrAnd r (λ e. e ≡ fault) → IsErrOf r (Line n) → fault ≡ Line n
fault_is (Ok x) fault n h e = absurd h
fault_is (Err f) fault n h e = let same : f ≡ Line n = cc e in sym h ∙ same

-- the number that the fault of a line has
pub number_is : (o : Option Client) (number n : ℕ) (fault : ClientsFault) → o ≡ None → Err fault ≡ ok_or {E = ClientsFault} o (Line number) → fault ≡ Line n → n ≡ number
number_is o number n fault none told e = let same = rw none at told in cc (same, e)

-- one line more, and its client
pub client_more : (clients after : List Client) (yielded : List (Bor (List ℕ))) (c : Client) (line : Bor (List ℕ)) → AreClients clients (map (λ l. l.now) yielded) → Joins clients c line.now → after ≡ clients ++ c ∷ []
    → AreClients after (map (λ l. l.now) (yielded ++ line ∷ []))
client_more clients after yielded c line h k e =
    rw (e, map-append (λ (l : Bor (List ℕ)). l.now) yielded (line ∷ [])) (joins_more clients (map (λ l. l.now) yielded) c line.now h k)

-- no client joins these: with the line they are none
no_more : (clients : List Client) (lines : List (List ℕ)) (line : List ℕ) → AreClients clients lines → ((c : Client) → ¬ Joins clients c line) → (more : List Client) → ¬ AreClients more (lines ++ line ∷ [])
no_more clients lines line h none more k =
    let last = last_of more lines line k in
    none last.client (subst (λ (cs : List Client). Joins cs last.client line) (one_list lines last.front clients last.are h) last.joins)

-- the first line with which the lines are no clients
pub stops : (all : List (List ℕ)) (clients : List Client) (yielded : List (Bor (List ℕ))) (line : List ℕ) (count n : ℕ) → AreClients clients (map (λ l. l.now) yielded)
    → map (λ l. l.now) yielded ≡ take (length yielded) all → (length yielded < length all) × (line ≡ get_or all (length yielded) line) → count ≡ length clients → n ≡ count + 1
    → ((c : Client) → ¬ Joins clients c line) → IsBadLine all n
stops all clients yielded line count n read front here size number none = record {
  clients = clients;
  front = map (λ l. l.now) yielded;
  line = line;
  others = drop (suc (length yielded)) all;
  lines_are = split_at all (length yielded) line here.0 ∙ (λ i. sym front i ++ sym here.1 i ∷ drop (suc (length yielded)) all);
  place = omega (arith, number, size, same_length clients (map (λ l. l.now) yielded) read.said);
  before = read;
  bad = no_more clients (map (λ l. l.now) yielded) line read none;
}
