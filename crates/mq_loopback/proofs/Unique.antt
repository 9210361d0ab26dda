-- Texts that are at most one list of clients.
use Rattle.std.proofs.Common.{◌≡◌, ◌≢◌, ℕ, ◌<◌, Bool, true, false, List, [], ◌∷◌, ◌++◌, length, get_or, map, codes, refl, sym, ap, subst, ◌∙◌, append_assoc, ltb, ltb-true, arith}
use Rattle.std.proofs.lemmas.Bool.{ltb-false}
use Rattle.std.specs.List.{AllByRecursion, AllZip}
use Rattle.mq_topic.specs.Qos.{qos_number}
use Rattle.mq_packet.specs.Lines.{escaped}
use Rattle.mq_schedule.specs.Schedule.{bytes_word, words_of}
use Rattle.mq_schedule.proofs.Unique.{same_number, same_payload, same_qos}
use Rattle.mq_loopback.specs.declared.client.Client.{Client}
use Rattle.mq_loopback.specs.declared.client.Collector.{Collector}
use Rattle.mq_loopback.specs.declared.client.Publisher.{Publisher}
use Rattle.mq_loopback.specs.declared.client.Role.{Role}
use Rattle.mq_loopback.specs.declared.client.Role.TheVariants as roles
use Rattle.mq_loopback.specs.File.{AreClients, IsBadLine, IsCollectorLine, IsPayload, IsPublisherLine, Says, SaysOf}
use Rattle.mq_loopback.specs.Laws.{FileLaws}
use Rattle.mq_loopback.proofs.Joining.{SaidBy, front_of}
use Rattle.mq_loopback.proofs.Names.{same_text}

-- ---- lines

same_payloads : (a b : List (List ℕ)) → AllByRecursion IsPayload a → AllByRecursion IsPayload b → map bytes_word a ≡ map bytes_word b → a ≡ b
same_payloads [] [] h k e = refl
same_payloads [] (y ∷ b) h k e = absurd (cc e)
same_payloads (x ∷ a) [] h k e = absurd (cc e)
same_payloads (x ∷ a) (y ∷ b) h k e =
    let first = same_payload x y h.0.are k.0.are (cc e) in
    let others = same_payloads a b h.1 k.1 (cc e) in
    λ i. first i ∷ others i

same_collector : (m n : List ℕ) (a b : Collector) (words : List (List ℕ)) → IsCollectorLine m a words → IsCollectorLine n b words → (m ≡ n) × (a ≡ b)
same_collector m n a b words h k =
    let same = sym h.words_are ∙ k.words_are in
    let names : escaped m ≡ escaped n = cc same in
    let filters : escaped a.filter ≡ escaped b.filter = cc same in
    let numbers : h.qos ≡ k.qos = cc same in
    let counts : h.count ≡ k.count = cc same in
    let filter = same_text a.filter b.filter h.filter.text k.filter.text filters in
    let quality = same_qos a.qos b.qos (same_number (qos_number a.qos) (qos_number b.qos) h.qos k.qos numbers h.quality k.quality) in
    let count = same_number a.count b.count h.count k.count counts h.least.number k.least.number in
    (same_text m n h.named k.named names, λ i. record { filter = filter i; qos = quality i; count = count i })

same_publisher : (m n : List ℕ) (a b : Publisher) (words : List (List ℕ)) → IsPublisherLine m a words → IsPublisherLine n b words → (m ≡ n) × (a ≡ b)
same_publisher m n a b words h k =
    let same = sym h.words_are ∙ k.words_are in
    let names : escaped m ≡ escaped n = cc same in
    let topics : escaped a.topic ≡ escaped b.topic = cc same in
    let numbers : h.qos ≡ k.qos = cc same in
    let lasts : h.last ≡ k.last = cc same in
    let topic = same_text a.topic b.topic h.topic.text k.topic.text topics in
    let quality = same_qos a.qos b.qos (same_number (qos_number a.qos) (qos_number b.qos) h.qos k.qos numbers h.quality k.quality) in
    let payloads = same_payloads a.payloads b.payloads h.payloads.are k.payloads.are (sym h.payloads.words_are ∙ lasts ∙ k.payloads.words_are) in
    (same_text m n h.named k.named names, λ i. record { topic = topic i; qos = quality i; payloads = payloads i })

-- the two commands are different words
other_words : (words : List (List ℕ)) (xs ys : List (List ℕ)) → words ≡ codes "collect" ∷ xs → words ≢ codes "publish" ∷ ys
other_words words xs ys h k = let letters : 99 ≡ 112 = ap (λ (ws : List (List ℕ)). get_or (get_or ws 0 []) 0 0) (sym h ∙ k) in absurd (omega (arith, letters))

same_says : (m n : List ℕ) (a b : Role) (words : List (List ℕ)) → SaysOf m a words → SaysOf n b words → (m ≡ n) × (a ≡ b)
same_says m n (roles.Collector a) (roles.Collector b) words h k =
    let same = same_collector m n a b words h k in
    (same.0, λ i. roles.Collector (same.1 i))
same_says m n (roles.Collector a) (roles.Publisher b) words h k = absurd (other_words words _ _ h.words_are k.words_are)
same_says m n (roles.Publisher a) (roles.Collector b) words h k = absurd (other_words words _ _ k.words_are h.words_are)
same_says m n (roles.Publisher a) (roles.Publisher b) words h k =
    let same = same_publisher m n a b words h k in
    (same.0, λ i. roles.Publisher (same.1 i))

-- words are at most one client
pub same_client : (a b : Client) (words : List (List ℕ)) → Says a words → Says b words → a ≡ b
same_client a b words h k =
    let same = same_says a.name b.name a.role b.role words h k in
    λ i. record { name = same.0 i; role = same.1 i }

-- ---- files

same_list : (a b : List Client) (lines : List (List ℕ)) → AllZip SaidBy a lines → AllZip SaidBy b lines → a ≡ b
same_list [] [] [] h k = refl
same_list [] (d ∷ b) [] h k = absurd k
same_list (c ∷ a) b [] h k = absurd h
same_list [] b (line ∷ lines) h k = absurd h
same_list (c ∷ a) [] (line ∷ lines) h k = absurd k
same_list (c ∷ a) (d ∷ b) (line ∷ lines) h k =
    let first = same_client c d (words_of line) h.0 k.0 in
    let others = same_list a b lines h.1 k.1 in
    λ i. first i ∷ others i

-- lines are at most one list of clients
pub one_list : (lines : List (List ℕ)) (a b : List Client) → AreClients a lines → AreClients b lines → a ≡ b
one_list lines a b h k = same_list a b lines h.said k.said

-- clients have no bad line
not_both : (lines : List (List ℕ)) (clients : List Client) (n : ℕ) → AreClients clients lines → ¬ IsBadLine lines n
not_both lines clients n h bad =
    let apart : lines ≡ (bad.front ++ bad.line ∷ []) ++ bad.others = bad.lines_are ∙ sym (append_assoc bad.front (bad.line ∷ []) bad.others) in
    let front = front_of clients (bad.front ++ bad.line ∷ []) bad.others (subst (AreClients clients) apart h) in
    bad.bad front.front front.are

-- the shorter of two beginnings, with the line behind it, is the beginning of the longer one
begins : (f g : List (List ℕ)) (l k : List ℕ) (o p : List (List ℕ)) → f ++ l ∷ o ≡ g ++ k ∷ p → length f < length g → (r : List (List ℕ)) × (g ≡ (f ++ l ∷ []) ++ r)
begins f [] l k o p e short = absurd (omega (arith, short))
begins [] (x ∷ g) l k o p e short = (g, (let first : l ≡ x = cc e in λ i. sym first i ∷ g))
begins (y ∷ f) (x ∷ g) l k o p e short =
    let first : y ≡ x = cc e in
    let others : f ++ l ∷ o ≡ g ++ k ∷ p = cc e in
    let more = begins f g l k o p others (omega (arith, short)) in
    (more.0, λ i. sym first i ∷ more.1 i)

-- a bad line is not before another
not_before : (lines : List (List ℕ)) (m n : ℕ) (a : IsBadLine lines m) (b : IsBadLine lines n) → ¬ (length a.front < length b.front)
not_before lines m n a b short =
    let more = begins a.front b.front a.line b.line a.others b.others (sym a.lines_are ∙ b.lines_are) short in
    let front = front_of b.clients (a.front ++ a.line ∷ []) more.0 (subst (AreClients b.clients) more.1 b.before) in
    a.bad front.front front.are

-- there is at most one bad line
one_bad : (lines : List (List ℕ)) (m n : ℕ) → IsBadLine lines m → IsBadLine lines n → m ≡ n
one_bad lines m n a b = by_order (ltb (length a.front) (length b.front)) (ltb (length b.front) (length a.front)) refl refl
  where
    by_order : (x y : Bool) → ltb (length a.front) (length b.front) ≡ x → ltb (length b.front) (length a.front) ≡ y → m ≡ n
    by_order true y h k = absurd (not_before lines m n a b (ltb-true _ _ h))
    by_order false true h k = absurd (not_before lines n m b a (ltb-true _ _ k))
    by_order false false h k = omega (arith, a.place, b.place, ltb-false (length a.front) (length b.front) h, ltb-false (length b.front) (length a.front) k)

pub laws : FileLaws
laws = record { one_list = one_list; not_both = not_both; one_bad = one_bad }
