-- The output of each connection after a call.
use Rattle.std.proofs.Common.{◌≡◌, ◌≢◌, ◌<◌, ◌≤◌, ◌==◌, ◌||◌, inl, inr, ℕ, Bool, true, false, List, [], ◌∷◌, length, set, Option, Some, None, IfSome, is_some, cond, eqb, eqb-true, eq-eqb, true≢false, refl, sym, ap, ap₂, subst, ◌∙◌, arith}
use Rattle.std.proofs.lemmas.Bool.{cond-true, cond-false}
use Rattle.std.proofs.lemmas.List.{set-get_or}
use Rattle.std.specs.Prelude.{not, slice_index_or}
use Rattle.mq_route.specs.declared.conn.Conn.{Conn}
use Rattle.mq_route.specs.declared.event.HubEvent.TheVariants.{Collect}
use Rattle.mq_route.specs.declared.reply.HubReply.{HubReply}
use Rattle.mq_route.specs.Hub.{HubState, HubConnection, waiting_on, is_connection, with_connection}
use Rattle.mq_route.specs.Routed.{same_conn}
use Rattle.mq_route.specs.Step.{HubStep}
use Rattle.mq_route.specs.Work.{Work}
use Rattle.mq_loop.specs.declared.connection.Flushed.{Flushed}
use Rattle.mq_loop.specs.declared.connection.Flushed.TheVariants.{All, Blocked, Failed}
use Rattle.mq_loop.specs.Accounts.{Line, line_at, name_at}
use Rattle.mq_loop.specs.Rounds.{AtOutputs, Collects, IsFlushed, IsFull, IsWritten, Output, OthersStay, OutputStays, exists_at, kept_at, kept_of, output_at, output_of}
use Rattle.mq_loop.proofs.CarriedBytes.{no_bytes, set_same, set_other}

pub output_same : (lines : List (Option Line)) (q : ℕ) (x : Option Line) → q < length lines → output_at q (set lines q x) ≡ output_of x
output_same lines q x within = ap output_of (set_same lines q x within)

pub output_other : (lines : List (Option Line)) (q p : ℕ) (x : Option Line) → (p ≡ q → ⊥) → output_at p (set lines q x) ≡ output_at p lines
output_other lines q p x apart = ap output_of (set_other lines q p x (λ same. apart (sym same)))

-- a line with the same output
pub output_stays : (lines : List (Option Line)) (q : ℕ) (x : Option Line) → q < length lines → output_of x ≡ output_at q lines → OutputStays lines (set lines q x)
output_stays lines q x within same p = go (eqb q p) refl
  where
    go : (b : Bool) → eqb q p ≡ b → output_at p (set lines q x) ≡ output_at p lines
    go true e =
        let is : q ≡ p = eqb-true q p e in
        subst (λ (n : ℕ). output_at n (set lines q x) ≡ output_at n lines) is (output_same lines q x within ∙ same)
    go false e = output_other lines q p x (λ is. true≢false (sym (eq-eqb q p (sym is)) ∙ e))

-- ---- the lines after a call on one place

-- the line was not changed
pub untouched : (lines : List (Option Line)) (q : ℕ) (x : Option Line) → x ≡ slice_index_or lines q x → set lines q x ≡ lines
untouched lines q x same = ap (set lines q) same ∙ set-get_or lines q x

pub others_stay : (lines : List (Option Line)) (q : ℕ) (x : Option Line) → OthersStay q lines (set lines q x)
others_stay lines q x p apart = output_other lines q p x apart

pub still_exists : (lines : List (Option Line)) (q : ℕ) (old new : Line) → q < length lines → line_at q lines ≡ Some old → exists_at q (set lines q (Some new)) ≡ exists_at q lines
still_exists lines q old new within is = ap is_some (output_same lines q (Some new) within) ∙ sym (ap (λ (x : Option Line). is_some (output_of x)) is)

-- ---- two outputs of a connection

pub at_same : (o : Option Output) (P : Output → Output → Type 0) → ((x : Output) → P x x) → AtOutputs o o P
at_same None P h = tt
at_same (Some x) P h = h x

pub at_exists : (o p : Option Output) (P : Output → Output → Type 0) → AtOutputs o p P → is_some p ≡ is_some o
at_exists None None P h = refl
at_exists None (Some y) P h = absurd h
at_exists (Some x) None P h = absurd h
at_exists (Some x) (Some y) P h = refl

-- all kept output was written
kept_none : (old : Option Output) (line : Option Line) → AtOutputs old (output_of line) (IsFlushed All) → kept_of line ≡ []
kept_none old None h = refl
kept_none None (Some line) h = absurd h
kept_none (Some o) (Some line) h = h.0

pub nothing_kept : (old : Option Output) (place : ℕ) (lines : List (Option Line)) → AtOutputs old (output_at place lines) (IsFlushed All) → kept_at place lines ≡ []
nothing_kept old place lines h = kept_none old (line_at place lines) h

not_not : (b : Bool) → not b ≡ false → true ≡ b
not_not true h = refl
not_not false h = absurd (true≢false h)

pub not_blocked : (bytes : List ℕ) → not (length bytes == 0) ≡ false → bytes ≡ []
not_blocked bytes h = no_bytes bytes (not_not (length bytes == 0) h)

flushed_is : (r : Flushed) (old new : Output) → (r ≡ All → new.kept ≡ []) → (r ≡ Blocked → new.full ≡ true) → (r ≢ Failed → new.finished ≡ old.finished) → IsFlushed r old new
flushed_is All old new all blocked sound = (all refl, sound (λ e. cc))
flushed_is Blocked old new all blocked sound = (blocked refl, sound (λ e. cc))
flushed_is Failed old new all blocked sound = tt

-- the outputs before and after a flush
pub flush_at : (lines : List (Option Line)) (q : ℕ) (r : Flushed) (old new : Line) → q < length lines → line_at q lines ≡ Some old
    → new ≡ record old { went = new.went; kept = new.kept; full = new.full; finished = new.finished }
    → (r ≡ All → new.kept ≡ []) → (r ≡ Blocked → new.full ≡ true) → (r ≢ Failed → new.finished ≡ old.finished)
    → AtOutputs (output_at q lines) (output_at q (set lines q (Some new))) (IsFlushed r)
flush_at lines q r old new within is so all blocked sound =
    let broken : new.broken ≡ old.broken = ap (λ (l : Line). l.broken) so in
    subst (λ (o : Option Output). AtOutputs o (output_at q (set lines q (Some new))) (IsFlushed r)) (sym (ap output_of is))
    (subst (λ (o : Option Output). AtOutputs (output_of (Some old)) o (IsFlushed r)) (sym (output_same lines q (Some new) within))
    (flushed_is r (out old) (out new) all blocked (λ h. ap₂ (λ (a b : Bool). a || b) broken (sound h))))
  where
    out : Line → Output
    out l = record { kept = l.kept; full = l.full; finished = l.broken || l.finished }

-- the outputs before and after a collect
pub collect_at : (lines : List (Option Line)) (q : ℕ) (old new : Line) (output : List ℕ) → q < length lines → line_at q lines ≡ Some old → new ≡ record old { kept = output }
    → AtOutputs (output_at q lines) (output_at q (set lines q (Some new))) (λ old new. new.finished ≡ old.finished)
collect_at lines q old new output within is so =
    subst (λ (o : Option Output). AtOutputs o (output_at q (set lines q (Some new))) (λ old new. new.finished ≡ old.finished)) (sym (ap output_of is))
    (subst (λ (o : Option Output). AtOutputs (output_of (Some old)) o (λ old new. new.finished ≡ old.finished)) (sym (output_same lines q (Some new) within))
    (ap (λ (l : Line). l.broken || l.finished) so))

-- a collect leaves nothing at the broker
pub emptied_line : HubConnection → HubConnection
emptied_line x = record x { waiting = [] }

nothing_here : (k : Conn) (x : HubConnection) (xs : List HubConnection) (b : Bool) → is_connection k x ≡ b → waiting_on k (with_connection emptied_line k xs) ≡ []
    → waiting_on k (with_connection emptied_line k (x ∷ xs)) ≡ []
unfolding emptied_line
nothing_here k x xs true e rest =
    ap (λ (y : HubConnection). cond (same_conn y.conn k) y.waiting (waiting_on k (with_connection emptied_line k xs))) (cond-true (is_connection k x) (emptied_line x) x e)
    ∙ cond-true (is_connection k x) [] (waiting_on k (with_connection emptied_line k xs)) e
nothing_here k x xs false e rest =
    ap (λ (y : HubConnection). cond (same_conn y.conn k) y.waiting (waiting_on k (with_connection emptied_line k xs))) (cond-false (is_connection k x) (emptied_line x) x e)
    ∙ (cond-false (is_connection k x) x.waiting (waiting_on k (with_connection emptied_line k xs)) e ∙ rest)

nothing_left : (k : Conn) (xs : List HubConnection) → waiting_on k (with_connection emptied_line k xs) ≡ []
nothing_left k [] = refl
nothing_left k (x ∷ xs) = nothing_here k x xs (is_connection k x) refl (nothing_left k xs)

pub collect_empties : (k : Conn) (h g : HubState) (reply : HubReply) → HubStep h (Collect k) reply g → waiting_on k g.connections ≡ []
unfolding emptied_line
collect_empties k h g reply step =
    ap (λ (x : HubState). waiting_on k x.connections) step.after
    ∙ (ap (λ (w : Work). waiting_on k w.hub.connections) step.does.0 ∙ nothing_left k h.connections)

-- a socket that takes no byte
pub given_full : (o p : Option Output) → IfSome o (λ x. false ≡ x.finished) → AtOutputs o p (IsFlushed Blocked) → IfSome p IsFull
given_full None None fresh flushed = tt
given_full None (Some y) fresh flushed = absurd flushed
given_full (Some x) None fresh flushed = absurd flushed
given_full (Some x) (Some y) fresh flushed = (flushed.1 ∙ sym fresh, flushed.0)

-- output that is written as far as its socket takes it
pub given_written : (waiting : List ℕ) (r : Flushed) (o p q s : Option Output) → IfSome o (λ x. false ≡ x.finished) → AtOutputs o p (IsFlushed All)
    → AtOutputs p q (λ old new. new.finished ≡ old.finished) → AtOutputs q s (IsFlushed r) → (r ≡ Failed → ⊥)
    → (is_some p ≡ true → waiting ≡ []) → IfSome s (IsWritten 0 waiting)
given_written waiting r o p q None fresh flushed collected again sound empty = tt
given_written waiting r o p None (Some w) fresh flushed collected again sound empty = absurd again
given_written waiting r o None (Some z) (Some w) fresh flushed collected again sound empty = absurd collected
given_written waiting r None (Some y) (Some z) (Some w) fresh flushed collected again sound empty = absurd flushed
given_written waiting r (Some x) (Some y) (Some z) (Some w) fresh flushed collected again sound empty =
    last r again sound
  where
    before : z.finished ≡ false
    before = collected ∙ (flushed.1 ∙ sym fresh)

    none : length waiting ≤ 0
    none = let e : length waiting ≡ 0 = ap (λ (l : List ℕ). length l) (empty refl) in omega arith

    last : (r : Flushed) → IsFlushed r z w → (r ≡ Failed → ⊥) → IsWritten 0 waiting w
    last All f sound = (f.1 ∙ before, none, inr (empty refl, f.0))
    last Blocked f sound = (f.1 ∙ before, none, inl f.0)
    last Failed f sound = absurd (sound refl)

-- output within the limit 0 is within any limit; a socket that takes no byte may leave this number
-- of bytes pending
pub written_within : (most : ℕ) (waiting : List ℕ) (o : Option Output) → IfSome o (IsWritten 0 waiting) → IfSome o (IsWritten most waiting)
written_within most waiting None w = tt
written_within most waiting (Some x) w = let none : length waiting ≤ 0 = w.1 in (w.0, omega arith, w.2)

pub full_within : (most : ℕ) (waiting : List ℕ) (o : Option Output) → IfSome o IsFull → length waiting ≤ most → IfSome o (IsWritten most waiting)
full_within most waiting None f within = tt
full_within most waiting (Some x) f within = (f.0, within, inl f.1)

-- output that is kept was not written in full, so that there is no connection
pub none_kept : (o p : Option Output) → AtOutputs o p (IsFlushed All) → IfSome p (λ x. x.kept ≡ [] → ⊥) → is_some p ≡ false
none_kept o None flushed kept = refl
none_kept None (Some y) flushed kept = absurd flushed
none_kept (Some x) (Some y) flushed kept = absurd (kept flushed.0)

-- a collect after all kept output was written leaves nothing at the broker
pub given_empty : (q : ℕ) (h g later : HubState) (o p : Option Output) (alive : Option Bool) → Collects q h g p alive → AtOutputs o p (IsFlushed All) → later ≡ g
    → is_some p ≡ true → waiting_on (name_at q) later.connections ≡ []
given_empty q h g later o p (Some alive) collects flushed same there =
    ap (λ (x : HubState). waiting_on (name_at q) x.connections) same ∙ collect_empties (name_at q) h g collects.0 collects.1
given_empty q h g later o p None collects flushed same there = absurd (true≢false (sym there ∙ none_kept o p flushed collects.1))
