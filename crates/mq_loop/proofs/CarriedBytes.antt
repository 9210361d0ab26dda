-- The connections of one broker after a step, or after a call of one socket.
use Rattle.std.proofs.Common.{◌≡◌, ◌<◌, ◌≤◌, ◌⊎◌, inl, inr, ◌==◌, ◌-◌, length-take, ℕ, zero, suc, Bool, true, false, cond, List, [], ◌∷◌, ◌++◌, length, set, Option, Some, None, IfSome, eqb, eqb-true, eq-eqb, true≢false, take, drop, append_assoc, append-nil, refl, sym, ap, ap₂, subst, ◌∙◌, arith}
use Rattle.std.proofs.lemmas.List.{take_all, take-append-drop}
use Rattle.std.proofs.lemmas.Bool.Decides.{nat_tests}
use Rattle.bytes.proofs.Ranges.{drop-take_less}
use Rattle.std.specs.Prelude.{slice_index_or, Result, Ok, Err, IfOk, OnErr}
use Rattle.std.specs.Io.KnownBytes.{append_known}
use Rattle.mq_route.specs.declared.conn.Conn.{Conn}
use Rattle.mq_route.specs.declared.event.HubEvent.{HubEvent}
use Rattle.mq_route.specs.declared.event.HubEvent.TheVariants.{Opened, Bytes, Ended, Tick, Collect}
use Rattle.mq_route.specs.declared.reply.HubReply.{HubReply}
use Rattle.mq_route.specs.Hub.{HubState}
use Rattle.mq_route.specs.Runs.{Episode, Follows}
use Rattle.mq_route.specs.Step.{Does, HubStep, event_refusal}
use Rattle.mq_loop.specs.Accounts.{ConnectionAccount, AreCarried, Carries, CarriesAt, Line, account_from, account_of, account_step, line_at, name_at, opened, unopened}
use Rattle.mq_loop.specs.Sockets.{Sends}

-- ---- lists and options

pub set_same : (lines : List (Option Line)) (q : ℕ) (x : Option Line) → q < length lines → line_at q (set lines q x) ≡ x
set_same [] q x within = absurd (omega (arith, within))
set_same (y ∷ ys) zero x within = refl
set_same (y ∷ ys) (suc q) x within = set_same ys q x (omega (arith, within))

pub set_other : (lines : List (Option Line)) (q p : ℕ) (x : Option Line) → (q ≡ p → ⊥) → line_at p (set lines q x) ≡ line_at p lines
set_other [] q p x apart = refl
set_other (y ∷ ys) zero zero x apart = absurd (apart refl)
set_other (y ∷ ys) zero (suc p) x apart = refl
set_other (y ∷ ys) (suc q) zero x apart = refl
set_other (y ∷ ys) (suc q) (suc p) x apart = set_other ys q p x (λ same. apart (ap suc same))

none_more : (lines : List (Option Line)) (p : ℕ) → line_at p (lines ++ None ∷ []) ≡ line_at p lines
none_more [] zero = refl
none_more [] (suc p) = refl
none_more (y ∷ ys) zero = refl
none_more (y ∷ ys) (suc p) = none_more ys p

known_so : (o : Option (List ℕ)) (P Q : List ℕ → Type 0) → ((bytes : List ℕ) → P bytes → Q bytes) → IfSome o P → IfSome o Q
known_so None P Q so h = tt
known_so (Some bytes) P Q so h = so bytes h

known_more : (o : Option (List ℕ)) (more : List ℕ) (P Q : List ℕ → Type 0) → ((bytes : List ℕ) → P bytes → Q (bytes ++ more)) → IfSome o P → IfSome (append_known o more) Q
known_more None more P Q so h = tt
known_more (Some bytes) more P Q so h = so bytes h

-- ---- one step more

pub follows_last : (h mid g : HubState) (es : List Episode) (e : Episode) → Follows h es mid → event_refusal e.event mid ≡ None → Does mid e.event e.reply e.work
    → g ≡ e.work.hub → Follows h (es ++ e ∷ []) g
follows_last h mid g [] e f right does after =
    (subst (λ (b : HubState). event_refusal e.event b ≡ None) f right, subst (λ (b : HubState). Does b e.event e.reply e.work) f does, after)
follows_last h mid g (x ∷ es) e f right does after = (f.0, f.1, follows_last x.work.hub mid g es e f.2 right does after)

account_last : (k : Conn) (es : List Episode) (e : Episode) (a : ConnectionAccount) → account_from k (es ++ e ∷ []) a ≡ account_step k e.event e.reply (account_from k es a)
account_last k [] e a = refl
account_last k (x ∷ es) e a = account_last k es e (account_step k x.event x.reply a)

-- a step that keeps what each place carries
served_step : (base h g : HubState) (lines new : List (Option Line)) (event : HubEvent) (reply : HubReply) → AreCarried base h lines
    → HubStep h event reply g
    → ((p : ℕ) (a : ConnectionAccount) → CarriesAt a (line_at p lines) → CarriesAt (account_step (name_at p) event reply a) (line_at p new))
    → AreCarried base g new
served_step base h g lines new event reply s step keeps =
    let e : Episode = record { event = event; reply = reply; work = step.work } in
    record {
      made = s.made ++ e ∷ [];
      follows = follows_last base h g s.made e s.follows step.right step.does step.after;
      carries = λ p.
          subst (λ (a : ConnectionAccount). CarriesAt a (line_at p new)) (sym (account_last (name_at p) s.made e unopened))
          (keeps p (account_of (name_at p) s.made) (s.carries p));
    }

-- The account of one place changes, and the line there.
at_place : (q : ℕ) (lines : List (Option Line)) (x : Option Line) (event : HubEvent) (reply : HubReply) (after : ConnectionAccount → ConnectionAccount)
    → ((p : ℕ) (a : ConnectionAccount) → account_step (name_at p) event reply a ≡ cond (eqb q p) (after a) a) → q < length lines
    → ((a : ConnectionAccount) → CarriesAt a (line_at q lines) → CarriesAt (after a) x)
    → (p : ℕ) (a : ConnectionAccount) → CarriesAt a (line_at p lines) → CarriesAt (account_step (name_at p) event reply a) (line_at p (set lines q x))
at_place q lines x event reply after is within own p a c = go (eqb q p) refl
  where
    go : (b : Bool) → eqb q p ≡ b → CarriesAt (account_step (name_at p) event reply a) (line_at p (set lines q x))
    go true e =
        let same : q ≡ p = eqb-true q p e in
        let here : CarriesAt (after a) x = own a (subst (λ (n : ℕ). CarriesAt a (line_at n lines)) (sym same) c) in
        let line : line_at p (set lines q x) ≡ x = subst (λ (n : ℕ). line_at n (set lines q x) ≡ x) same (set_same lines q x within) in
        subst (λ (b : ConnectionAccount). CarriesAt b (line_at p (set lines q x))) (sym (is p a ∙ ap (λ (t : Bool). cond t (after a) a) e))
        (subst (λ (l : Option Line). CarriesAt (after a) l) (sym line) here)
    go false e =
        let line = set_other lines q p x (λ same. true≢false (sym (eq-eqb q p same) ∙ e)) in
        subst (λ (b : ConnectionAccount). CarriesAt b (line_at p (set lines q x))) (sym (is p a ∙ ap (λ (t : Bool). cond t (after a) a) e))
        (subst (λ (l : Option Line). CarriesAt a l) (sym line) c)

-- the line of one place changes, without a step
line_served : (base h : HubState) (lines : List (Option Line)) (q : ℕ) (x : Option Line) → AreCarried base h lines → q < length lines
    → ((a : ConnectionAccount) → CarriesAt a (line_at q lines) → CarriesAt a x) → AreCarried base h (set lines q x)
line_served base h lines q x s within own = record { made = s.made; follows = s.follows; carries = λ p. go p (eqb q p) refl }
  where
    go : (p : ℕ) (b : Bool) → eqb q p ≡ b → CarriesAt (account_of (name_at p) s.made) (line_at p (set lines q x))
    go p true e =
        let same : q ≡ p = eqb-true q p e in
        subst (λ (n : ℕ). CarriesAt (account_of (name_at n) s.made) (line_at n (set lines q x))) same
        (subst (λ (l : Option Line). CarriesAt (account_of (name_at q) s.made) l) (sym (set_same lines q x within))
        (own (account_of (name_at q) s.made) (s.carries q)))
    go p false e =
        subst (λ (l : Option Line). CarriesAt (account_of (name_at p) s.made) l)
        (sym (set_other lines q p x (λ same. true≢false (sym (eq-eqb q p same) ∙ e)))) (s.carries p)

-- ---- each call

pub new_served : (h : HubState) → AreCarried h h []
new_served h = record { made = []; follows = refl; carries = λ p. refl }

pub place_served : (base h : HubState) (lines : List (Option Line)) → AreCarried base h lines → AreCarried base h (lines ++ None ∷ [])
place_served base h lines s = record {
  made = s.made;
  follows = s.follows;
  carries = λ p. subst (λ (l : Option Line). CarriesAt (account_of (name_at p) s.made) l) (sym (none_more lines p)) (s.carries p);
}

pub tick_served : {E : Type 0} (base h g : HubState) (lines : List (Option Line)) (now : ℕ) (made : Result HubReply E) → AreCarried base h lines
    → IfOk made (λ reply. HubStep h (Tick now) reply g) → OnErr made (g ≡ h) → AreCarried base g lines
tick_served base h g lines now (Ok reply) s step same = served_step base h g lines lines (Tick now) reply s step (λ p a c. c)
tick_served base h g lines now (Err why) s step same = subst (λ (hub : HubState). AreCarried base hub lines) (sym same) s

pub open_served : (base h g : HubState) (lines : List (Option Line)) (q : ℕ) (line : Line) (reply : HubReply) → AreCarried base h lines
    → HubStep h (Opened (name_at q)) reply g → q < length lines → IfSome line.came (λ bytes. bytes ≡ []) → IfSome line.went (λ bytes. bytes ≡ []) → line.unread ≡ [] → line.kept ≡ []
    → AreCarried base g (set lines q (Some line))
open_served base h g lines q line reply s step within came went unread kept =
    let carried : Carries opened line = record {
      is_open = refl;
      came = λ whole. known_so line.came (λ bytes. bytes ≡ []) (λ bytes. bytes ≡ [] ++ line.unread) (λ bytes e. e ∙ sym unread) came;
      went = known_so line.went (λ bytes. bytes ≡ []) (λ bytes. bytes ++ line.kept ≡ []) (λ bytes is. ap₂ (λ (a b : List ℕ). a ++ b) is kept) went;
    } in
    served_step base h g lines (set lines q (Some line)) (Opened (name_at q)) reply s step
    (at_place q lines (Some line) (Opened (name_at q)) reply (λ a. opened) (λ p a. refl) within (λ a c. carried))

pub end_served : (base h g : HubState) (lines : List (Option Line)) (q : ℕ) (reply : HubReply) → AreCarried base h lines → HubStep h (Ended (name_at q)) reply g
    → q < length lines → AreCarried base g (set lines q None)
end_served base h g lines q reply s step within =
    served_step base h g lines (set lines q None) (Ended (name_at q)) reply s step
    (at_place q lines None (Ended (name_at q)) reply (λ a. unopened) (λ p a. refl) within (λ a c. refl))

pub read_served : (base h g : HubState) (lines : List (Option Line)) (q : ℕ) (old new : Line) (piece front rest : List ℕ) (reply : HubReply)
    → AreCarried base h lines → HubStep h (Bytes (name_at q) front) reply g → q < length lines → line_at q lines ≡ Some old → old.unread ≡ []
    → piece ≡ front ++ rest → new ≡ record old { came = append_known old.came piece; unread = rest; finished = new.finished } → AreCarried base g (set lines q (Some new))
read_served base h g lines q old new piece front rest reply s step within is empty parts so =
    served_step base h g lines (set lines q (Some new)) (Bytes (name_at q) front) reply s step
    (at_place q lines (Some new) (Bytes (name_at q) front) reply (λ a. record a { took = a.took ++ front }) (λ p a. refl) within own)
  where
    more : (a : ConnectionAccount) (bytes : List ℕ) → bytes ≡ a.took ++ old.unread → bytes ++ piece ≡ (a.took ++ front) ++ rest
    more a bytes e =
        let all : bytes ≡ a.took = e ∙ (ap (λ (b : List ℕ). a.took ++ b) empty ∙ append-nil a.took) in
        ap₂ (λ (b c : List ℕ). b ++ c) all parts ∙ sym (append_assoc a.took front rest)

    read : (a : ConnectionAccount) → Carries a old → Carries (record a { took = a.took ++ front }) (record old { came = append_known old.came piece; unread = rest; finished = new.finished })
    read a c = record {
      is_open = c.is_open;
      came = λ whole.
          known_more old.came piece (λ bytes. bytes ≡ a.took ++ old.unread) (λ bytes. bytes ≡ (a.took ++ front) ++ rest) (more a) (c.came whole);
      went = c.went;
    }

    own : (a : ConnectionAccount) → CarriesAt a (line_at q lines) → CarriesAt (record a { took = a.took ++ front }) (Some new)
    own a c = subst (λ (l : Line). Carries (record a { took = a.took ++ front }) l) (sym so) (read a (subst (λ (l : Option Line). CarriesAt a l) is c))

pub unread_served : (base h g : HubState) (lines : List (Option Line)) (q : ℕ) (old new : Line) (front rest : List ℕ) (reply : HubReply)
    → AreCarried base h lines → HubStep h (Bytes (name_at q) front) reply g → q < length lines → line_at q lines ≡ Some old
    → old.unread ≡ front ++ rest → new ≡ record old { unread = rest } → AreCarried base g (set lines q (Some new))
unread_served base h g lines q old new front rest reply s step within is parts so =
    served_step base h g lines (set lines q (Some new)) (Bytes (name_at q) front) reply s step
    (at_place q lines (Some new) (Bytes (name_at q) front) reply (λ a. record a { took = a.took ++ front }) (λ p a. refl) within own)
  where
    more : (a : ConnectionAccount) (bytes : List ℕ) → bytes ≡ a.took ++ old.unread → bytes ≡ (a.took ++ front) ++ rest
    more a bytes e = e ∙ (ap (λ (b : List ℕ). a.took ++ b) parts ∙ sym (append_assoc a.took front rest))

    read : (a : ConnectionAccount) → Carries a old → Carries (record a { took = a.took ++ front }) (record old { unread = rest })
    read a c = record {
      is_open = c.is_open;
      came = λ whole. known_so old.came (λ bytes. bytes ≡ a.took ++ old.unread) (λ bytes. bytes ≡ (a.took ++ front) ++ rest) (more a) (c.came whole);
      went = c.went;
    }

    own : (a : ConnectionAccount) → CarriesAt a (line_at q lines) → CarriesAt (record a { took = a.took ++ front }) (Some new)
    own a c = subst (λ (l : Line). Carries (record a { took = a.took ++ front }) l) (sym so) (read a (subst (λ (l : Option Line). CarriesAt a l) is c))

pub lost_step_served : (base h g : HubState) (lines : List (Option Line)) (q : ℕ) (old new : Line) (front : List ℕ) (came : Option (List ℕ)) (reply : HubReply)
    → AreCarried base h lines → HubStep h (Bytes (name_at q) front) reply g → q < length lines → line_at q lines ≡ Some old
    → new ≡ record old { came = came; broken = true; finished = new.finished } → AreCarried base g (set lines q (Some new))
lost_step_served base h g lines q old new front came reply s step within is so =
    served_step base h g lines (set lines q (Some new)) (Bytes (name_at q) front) reply s step
    (at_place q lines (Some new) (Bytes (name_at q) front) reply (λ a. record a { took = a.took ++ front }) (λ p a. refl) within own)
  where
    lost : (a : ConnectionAccount) → Carries a old → Carries (record a { took = a.took ++ front }) (record old { came = came; broken = true; finished = new.finished })
    lost a c = record { is_open = c.is_open; came = λ whole. absurd (true≢false whole); went = c.went }

    own : (a : ConnectionAccount) → CarriesAt a (line_at q lines) → CarriesAt (record a { took = a.took ++ front }) (Some new)
    own a c = subst (λ (l : Line). Carries (record a { took = a.took ++ front }) l) (sym so) (lost a (subst (λ (l : Option Line). CarriesAt a l) is c))

pub lost_served : (base h : HubState) (lines : List (Option Line)) (q : ℕ) (old new : Line) (came : Option (List ℕ)) → AreCarried base h lines
    → q < length lines → line_at q lines ≡ Some old → new ≡ record old { came = came; broken = true; finished = new.finished } → AreCarried base h (set lines q (Some new))
lost_served base h lines q old new came s within is so = line_served base h lines q (Some new) s within own
  where
    lost : (a : ConnectionAccount) → Carries a old → Carries a (record old { came = came; broken = true; finished = new.finished })
    lost a c = record { is_open = c.is_open; came = λ whole. absurd (true≢false whole); went = c.went }

    own : (a : ConnectionAccount) → CarriesAt a (line_at q lines) → CarriesAt a (Some new)
    own a c = subst (λ (l : Line). Carries a l) (sym so) (lost a (subst (λ (l : Option Line). CarriesAt a l) is c))

pub same_served : (base h : HubState) (lines : List (Option Line)) (q : ℕ) (old new : Line) → AreCarried base h lines → q < length lines
    → line_at q lines ≡ Some old → new.came ≡ old.came → new ≡ record old { came = new.came; finished = new.finished } → AreCarried base h (set lines q (Some new))
same_served base h lines q old new s within is came so = line_served base h lines q (Some new) s within own
  where
    alike : new ≡ record old { finished = new.finished }
    alike = so ∙ ap (λ (c : Option (List ℕ)). record old { came = c; finished = new.finished }) came

    still : (a : ConnectionAccount) → Carries a old → Carries a (record old { finished = new.finished })
    still a c = record { is_open = c.is_open; came = c.came; went = c.went }

    own : (a : ConnectionAccount) → CarriesAt a (line_at q lines) → CarriesAt a (Some new)
    own a c = subst (λ (l : Line). Carries a l) (sym alike) (still a (subst (λ (l : Option Line). CarriesAt a l) is c))

pub flush_served : (base h : HubState) (lines : List (Option Line)) (q : ℕ) (old new : Line) → AreCarried base h lines → q < length lines
    → line_at q lines ≡ Some old → Sends old.went old.kept new.went new.kept → new ≡ record old { went = new.went; kept = new.kept; full = new.full; finished = new.finished }
    → AreCarried base h (set lines q (Some new))
flush_served base h lines q old new s within is sends so = line_served base h lines q (Some new) s within own
  where
    parts : (a : ConnectionAccount) (bytes : List ℕ) → bytes ++ old.kept ≡ a.collected → (bytes ++ sends.0) ++ new.kept ≡ a.collected
    parts a bytes e = append_assoc bytes sends.0 new.kept ∙ (ap (λ (b : List ℕ). bytes ++ b) (sym sends.1) ∙ e)

    went : (a : ConnectionAccount) → Carries a old → IfSome new.went (λ bytes. bytes ++ new.kept ≡ a.collected)
    went a c =
        subst (λ (o : Option (List ℕ)). IfSome o (λ bytes. bytes ++ new.kept ≡ a.collected)) (sym sends.2)
        (known_more old.went sends.0 (λ bytes. bytes ++ old.kept ≡ a.collected) (λ bytes. bytes ++ new.kept ≡ a.collected) (parts a) c.went)

    sent : (a : ConnectionAccount) → Carries a old → Carries a (record old { went = new.went; kept = new.kept; full = new.full; finished = new.finished })
    sent a c = record { is_open = c.is_open; came = c.came; went = went a c }

    own : (a : ConnectionAccount) → CarriesAt a (line_at q lines) → CarriesAt a (Some new)
    own a c = subst (λ (l : Line). Carries a l) (sym so) (sent a (subst (λ (l : Option Line). CarriesAt a l) is c))

pub collect_served : (base h g : HubState) (lines : List (Option Line)) (q : ℕ) (old new : Line) (reply : HubReply) → AreCarried base h lines
    → HubStep h (Collect (name_at q)) reply g → q < length lines → line_at q lines ≡ Some old → old.kept ≡ [] → new ≡ record old { kept = reply.output }
    → AreCarried base g (set lines q (Some new))
collect_served base h g lines q old new reply s step within is empty so =
    served_step base h g lines (set lines q (Some new)) (Collect (name_at q)) reply s step
    (at_place q lines (Some new) (Collect (name_at q)) reply (λ a. record a { collected = a.collected ++ reply.output }) (λ p a. refl) within own)
  where
    parts : (a : ConnectionAccount) (bytes : List ℕ) → bytes ++ old.kept ≡ a.collected → bytes ++ reply.output ≡ a.collected ++ reply.output
    parts a bytes e =
        ap (λ (b : List ℕ). b ++ reply.output) (sym (append-nil bytes) ∙ (ap (λ (b : List ℕ). bytes ++ b) (sym empty) ∙ e))

    collected : (a : ConnectionAccount) → Carries a old → Carries (record a { collected = a.collected ++ reply.output }) (record old { kept = reply.output })
    collected a c = record {
      is_open = c.is_open;
      came = c.came;
      went = known_so old.went (λ bytes. bytes ++ old.kept ≡ a.collected) (λ bytes. bytes ++ reply.output ≡ a.collected ++ reply.output) (parts a) c.went;
    }

    own : (a : ConnectionAccount) → CarriesAt a (line_at q lines) → CarriesAt (record a { collected = a.collected ++ reply.output }) (Some new)
    own a c =
        subst (λ (l : Line). Carries (record a { collected = a.collected ++ reply.output }) l) (sym so)
        (collected a (subst (λ (l : Option Line). CarriesAt a l) is c))

-- a step with the front of the bytes that were read before
pub unread_step_served : (base h g : HubState) (lines : List (Option Line)) (q : ℕ) (old new : Line) (unread : List ℕ) (n : ℕ) (reply : HubReply)
    → AreCarried base h lines → HubStep h (Bytes (name_at q) (take n unread)) reply g → unread ≡ old.unread → q < length lines
    → line_at q lines ≡ Some old → new ≡ record old { unread = drop n old.unread } → AreCarried base g (set lines q (Some new))
unread_step_served base h g lines q old new unread n reply s step same within is so =
    unread_served base h g lines q old new (take n old.unread) (drop n old.unread) reply s
    (subst (λ (bytes : List ℕ). HubStep h (Bytes (name_at q) (take n bytes)) reply g) same step) within is
    (sym (take-append-drop n old.unread)) so

pub line_here : (lines : List (Option Line)) (q : ℕ) (line : Option Line) → q < length lines → line ≡ slice_index_or lines q line → line_at q lines ≡ line
line_here [] q line within e = absurd (omega (arith, within))
line_here (y ∷ ys) zero line within e = sym e
line_here (y ∷ ys) (suc q) line within e = line_here ys q line (omega (arith, within)) e

-- no step was made, and the connection is as before
pub none_served : (base h g : HubState) (lines : List (Option Line)) (q : ℕ) (old : Line) → AreCarried base h lines → g ≡ h
    → q < length lines → line_at q lines ≡ Some old → AreCarried base g (set lines q (Some old))
none_served base h g lines q old s same within is =
    subst (λ (hub : HubState). AreCarried base hub (set lines q (Some old))) (sym same)
    (same_served base h lines q old old s within is refl refl)

pub no_bytes : (xs : List ℕ) → true ≡ (length xs == 0) → xs ≡ []
no_bytes [] h = refl
no_bytes (x ∷ xs) h = absurd (grind (arith, nat_tests))

front_rest : (n count : ℕ) (buffer : List ℕ) → n ≤ count → take count buffer ≡ take n (take count buffer) ++ take (count - n) (drop n buffer)
front_rest n count buffer within =
    sym (take-append-drop n (take count buffer)) ∙ ap (λ (b : List ℕ). take n (take count buffer) ++ b) (drop-take_less buffer n count within)

front_all : (n count : ℕ) (buffer : List ℕ) → count ≤ n → take count buffer ≡ take n (take count buffer) ++ []
front_all n count buffer within =
    sym (take_all n (take count buffer) (omega (arith, length-take count buffer))) ∙ sym (append-nil (take n (take count buffer)))

-- a step with the front of bytes that were read; the rest is kept, or lost
pub rest_served : (base h g : HubState) (lines : List (Option Line)) (q : ℕ) (old mid new : Line) (buffer : List ℕ) (n count : ℕ) (reply : HubReply)
    → AreCarried base h lines → HubStep h (Bytes (name_at q) (take n (take count buffer))) reply g → q < length lines → line_at q lines ≡ Some old → old.unread ≡ []
    → mid.came ≡ append_known old.came (take count buffer) → mid ≡ record old { came = mid.came; finished = mid.finished } → n ≤ count
    → (new ≡ record mid { unread = take (count - n) (drop n buffer) }) ⊎ (new ≡ record mid { broken = true }) → AreCarried base g (set lines q (Some new))
rest_served base h g lines q old mid new buffer n count reply s step within is empty came same part (inl kept) =
    let rest : List ℕ = take (count - n) (drop n buffer) in
    read_served base h g lines q old new (take count buffer) (take n (take count buffer)) rest reply s step within is empty (front_rest n count buffer part)
    (kept ∙ (ap (λ (m : Line). record m { unread = rest }) same
    ∙ ap₂ (λ (c : Option (List ℕ)) (f : Bool). record old { came = c; unread = rest; finished = f }) came (sym (ap (λ (l : Line). l.finished) kept))))
rest_served base h g lines q old mid new buffer n count reply s step within is empty came same part (inr lost) =
    lost_step_served base h g lines q old new (take n (take count buffer)) mid.came reply s step within is
    (lost ∙ (ap (λ (m : Line). record m { broken = true }) same
    ∙ ap (λ (f : Bool). record old { came = mid.came; broken = true; finished = f }) (sym (ap (λ (l : Line). l.finished) lost))))

-- a step with all bytes that were read
pub all_served : (base h g : HubState) (lines : List (Option Line)) (q : ℕ) (old mid : Line) (buffer : List ℕ) (n count : ℕ) (reply : HubReply)
    → AreCarried base h lines → HubStep h (Bytes (name_at q) (take n (take count buffer))) reply g → q < length lines → line_at q lines ≡ Some old → old.unread ≡ []
    → mid.came ≡ append_known old.came (take count buffer) → mid ≡ record old { came = mid.came; finished = mid.finished } → count ≤ n → AreCarried base g (set lines q (Some mid))
all_served base h g lines q old mid buffer n count reply s step within is empty came same all =
    read_served base h g lines q old mid (take count buffer) (take n (take count buffer)) [] reply s step within is empty (front_all n count buffer all)
    (same ∙ (ap (λ (c : Option (List ℕ)). record old { came = c; finished = mid.finished }) came
    ∙ ap (λ (b : List ℕ). record old { came = append_known old.came (take count buffer); unread = b; finished = mid.finished }) empty))

-- no step was made, and bytes that were read are lost
pub none_lost_served : (base h g : HubState) (lines : List (Option Line)) (q : ℕ) (old mid new : Line) → AreCarried base h lines → g ≡ h
    → q < length lines → line_at q lines ≡ Some old → mid ≡ record old { came = mid.came; finished = mid.finished } → new ≡ record mid { broken = true }
    → AreCarried base g (set lines q (Some new))
none_lost_served base h g lines q old mid new s same within is read lost =
    subst (λ (hub : HubState). AreCarried base hub (set lines q (Some new))) (sym same)
    (lost_served base h lines q old new mid.came s within is (lost ∙ (ap (λ (m : Line). record m { broken = true }) read
    ∙ ap (λ (f : Bool). record old { came = mid.came; broken = true; finished = f }) (sym (ap (λ (l : Line). l.finished) lost)))))

-- the line of one place is written as it was
pub untouched_served : (base h : HubState) (lines : List (Option Line)) (q : ℕ) (line : Option Line) → AreCarried base h lines → q < length lines
    → line_at q lines ≡ line → AreCarried base h (set lines q line)
untouched_served base h lines q line s within is =
    line_served base h lines q line s within (λ a c. subst (λ (l : Option Line). CarriesAt a l) is c)

-- a commit, which changes no state
pub commit_served : (base h g : HubState) (lines : List (Option Line)) → AreCarried base h lines → g ≡ h → AreCarried base g lines
commit_served base h g lines s same = subst (λ (hub : HubState). AreCarried base hub lines) (sym same) s
