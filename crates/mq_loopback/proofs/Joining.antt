-- Clients that come one after another.
use Rattle.std.proofs.Common.{◌≡◌, ◌≢◌, ℕ, suc, List, [], ◌∷◌, ◌++◌, length, refl, sym, ap, subst, ◌∙◌, arith}
use Rattle.std.specs.List.{AllZip}
use Rattle.std.proofs.lemmas.List.{length-append}
use Rattle.mq_schedule.specs.Schedule.{words_of}
use Rattle.mq_loopback.specs.declared.client.Client.{Client}
use Rattle.mq_loopback.specs.File.{AreApart, AreClients, IsFresh, Says}
use Rattle.mq_loopback.specs.Inside.File.{Joins}

abbrev pub SaidBy : Client → List ℕ → Type 0
SaidBy c line = Says c (words_of line)

-- ---- the lines

said_more : (clients : List Client) (lines : List (List ℕ)) (c : Client) (line : List ℕ) → AllZip SaidBy clients lines → SaidBy c line → AllZip SaidBy (clients ++ c ∷ []) (lines ++ line ∷ [])
said_more [] [] c line h k = (k, tt)
said_more [] (l ∷ lines) c line h k = absurd h
said_more (d ∷ clients) [] c line h k = absurd h
said_more (d ∷ clients) (l ∷ lines) c line h k = (h.0, said_more clients lines c line h.1 k)

-- the clients of lines, and those of the lines behind them
record Cut (clients : List Client) (lines : List (List ℕ)) : Type 0 where
  front : List Client
  behind : List Client
  parts : clients ≡ front ++ behind
  said : AllZip SaidBy front lines

said_less : (clients : List Client) (lines others : List (List ℕ)) → AllZip SaidBy clients (lines ++ others) → Cut clients lines
said_less clients [] others h = record { front = []; behind = clients; parts = refl; said = tt }
said_less [] (l ∷ lines) others h = absurd h
said_less (d ∷ clients) (l ∷ lines) others h =
    let cut = said_less clients lines others h.1 in
    record { front = d ∷ cut.front; behind = cut.behind; parts = ap (λ (ds : List Client). d ∷ ds) cut.parts; said = (h.0, cut.said) }

-- as many clients as lines
pub same_length : (clients : List Client) (lines : List (List ℕ)) → AllZip SaidBy clients lines → length clients ≡ length lines
same_length [] [] h = refl
same_length [] (l ∷ lines) h = absurd h
same_length (d ∷ clients) [] h = absurd h
same_length (d ∷ clients) (l ∷ lines) h = ap suc (same_length clients lines h.1)

-- ---- the names

fresh_more : (name : List ℕ) (clients : List Client) (c : Client) → IsFresh name clients → c.name ≢ name → IsFresh name (clients ++ c ∷ [])
fresh_more name [] c h other = (other, tt)
fresh_more name (d ∷ clients) c h other = (h.0, fresh_more name clients c h.1 other)

fresh_less : (name : List ℕ) (clients others : List Client) → IsFresh name (clients ++ others) → IsFresh name clients
fresh_less name [] others h = tt
fresh_less name (d ∷ clients) others h = (h.0, fresh_less name clients others h.1)

fresh_last : (name : List ℕ) (clients : List Client) (c : Client) → IsFresh name (clients ++ c ∷ []) → c.name ≢ name
fresh_last name [] c h = h.0
fresh_last name (d ∷ clients) c h = fresh_last name clients c h.1

apart_more : (clients : List Client) (c : Client) → AreApart clients → IsFresh c.name clients → AreApart (clients ++ c ∷ [])
apart_more [] c h k = (tt, tt)
apart_more (d ∷ clients) c h k = (fresh_more d.name clients c h.0 (λ e. k.0 (sym e)), apart_more clients c h.1 k.1)

apart_less : (clients others : List Client) → AreApart (clients ++ others) → AreApart clients
apart_less [] others h = tt
apart_less (d ∷ clients) others h = (fresh_less d.name clients others h.0, apart_less clients others h.1)

apart_last : (clients : List Client) (c : Client) → AreApart (clients ++ c ∷ []) → IsFresh c.name clients
apart_last [] c h = tt
apart_last (d ∷ clients) c h = ((λ e. fresh_last d.name clients c h.0 (sym e)), apart_last clients c h.1)

-- ---- files

-- one client more
pub joins_more : (clients : List Client) (lines : List (List ℕ)) (c : Client) (line : List ℕ) → AreClients clients lines → Joins clients c line → AreClients (clients ++ c ∷ []) (lines ++ line ∷ [])
joins_more clients lines c line h k = record {
  said = said_more clients lines c line h.said k.says;
  apart = apart_more clients c h.apart k.fresh;
  few = omega (arith, length-append clients (c ∷ []), k.room);
}

-- the clients of the first lines
pub record Front (clients : List Client) (lines : List (List ℕ)) : Type 0 where
  pub front : List Client
  pub behind : List Client
  pub parts : clients ≡ front ++ behind
  pub are : AreClients front lines

pub front_of : (clients : List Client) (lines others : List (List ℕ)) → AreClients clients (lines ++ others) → Front clients lines
front_of clients lines others h =
    let cut = said_less clients lines others h.said in
    record {
      front = cut.front;
      behind = cut.behind;
      parts = cut.parts;
      are = record {
        said = cut.said;
        apart = apart_less cut.front cut.behind (subst AreApart cut.parts h.apart);
        few = omega (arith, h.few, ap length cut.parts, length-append cut.front cut.behind);
      };
    }

-- the last of the clients joins those before it
pub record Last (clients : List Client) (lines : List (List ℕ)) (line : List ℕ) : Type 0 where
  pub front : List Client
  pub client : Client
  pub are : AreClients front lines
  pub joins : Joins front client line

-- the last line says the last client
said_last : (clients front : List Client) (lines : List (List ℕ)) (line : List ℕ) → AllZip SaidBy clients (lines ++ line ∷ []) → length front ≡ length lines → (behind : List Client) → clients ≡ front ++ behind → (c : Client) × (behind ≡ c ∷ []) × SaidBy c line
said_last clients [] [] line h size behind e = single behind (subst (λ (cs : List Client). AllZip SaidBy cs (line ∷ [])) e h)
  where
    single : (cs : List Client) → AllZip SaidBy cs (line ∷ []) → (c : Client) × (cs ≡ c ∷ []) × SaidBy c line
    single [] k = absurd k
    single (c ∷ []) k = (c, refl, k.0)
    single (c ∷ (d ∷ cs)) k = absurd k.1
said_last clients [] (l ∷ lines) line h size behind e = absurd (omega (arith, size))
said_last clients (d ∷ front) [] line h size behind e = absurd (omega (arith, size))
said_last clients (d ∷ front) (l ∷ lines) line h size behind e =
    let both = subst (λ (cs : List Client). AllZip SaidBy cs (l ∷ (lines ++ line ∷ []))) e h in
    said_last (front ++ behind) front lines line both.1 (omega (arith, size)) behind refl

pub last_of : (clients : List Client) (lines : List (List ℕ)) (line : List ℕ) → AreClients clients (lines ++ line ∷ []) → Last clients lines line
last_of clients lines line h =
    let front = front_of clients lines (line ∷ []) h in
    let size = same_length front.front lines front.are.said in
    let last = said_last clients front.front lines line h.said size front.behind front.parts in
    let all : clients ≡ front.front ++ last.0 ∷ [] = front.parts ∙ ap (λ (cs : List Client). front.front ++ cs) last.1 in
    record {
      front = front.front;
      client = last.0;
      are = front.are;
      joins = record {
        room = omega (arith, h.few, ap length all, length-append front.front (last.0 ∷ []));
        fresh = apart_last front.front last.0 (subst AreApart all h.apart);
        says = last.2;
      };
    }
