-- The work of a publisher, part after part.
use Rattle.std.proofs.Common.{◌≡◌, ℕ, Bool, true, false, List, [], ◌∷◌, ◌++◌, map, Option, Some, None, Result, Ok, Err, cond, refl, sym, ap, subst, ◌∙◌, append-nil, append_assoc, option_to_list, OnErr, OnOk, IfErr}
use Rattle.std.specs.Bool.{⊤}
use Rattle.std.proofs.lemmas.Bool.{false≢true}
use Rattle.std.proofs.lemmas.List.{map-append}
use Rattle.std.proofs.lemmas.List.Elements.{filter-append}
use Rattle.std.specs.Io.KnownBytes.{Appends}
use Rattle.mq_packet.specs.declared.message.Message.{Message}
use Rattle.mq_end.specs.declared.happening.Happening.{Happening}
use Rattle.mq_end.specs.declared.reason.CloseReason.{CloseReason}
use Rattle.mq_end.specs.Publishing.{ClientState}
use Rattle.mq_client.specs.Course.{IsIdle, Leaves, Moment, Opening, Publication, Went, WentFirst}
use Rattle.mq_client.proofs.Courses.{went_none, went_still, went_then}
use Rattle.mq_pubsub.specs.declared.error.RunError.{RunError}
use Rattle.mq_pubsub.proofs.Given.{Gives-append, Gives-none}
use Rattle.mq_pubsub.specs.Giving.{Gives}
use Rattle.mq_pubsub_runs.specs.declared.stop.Stop.{Stop}
use Rattle.mq_pubsub_runs.specs.declared.stop.Stop.TheVariants.{Connection, Application}
use Rattle.mq_pubsub_runs.specs.Stops.{IsBroken, IsConnection, IsErr, IsOk}
use Rattle.mq_pubsub_runs.specs.Posting.{AllPosted, Finishes, PartPosted, Posted, Progress, Publishes, StartsWith, is_q0, unstored}
use Rattle.mq_pubsub_runs.specs.Inside.Posting.{Fills, ProgressUntil, PublishEnds, Remembers}
use Rattle.mq_pubsub_runs.specs.Posting.Posted.{Begins, Opens, Sends, Breaks, Hears, Continues}

-- ---- what was published

pub Posted-append : (a b : Moment) (ms ls : List Message) → Posted a b ms ls → (c : Moment) (ns ks : List Message) → Posted b c ns ks
    → Posted a c (ms ++ ns) (ls ++ ks)
Posted-append a b ms ls first c ns ks Begins =
    subst (λ xs. Posted a b xs (ls ++ [])) (sym (append-nil ms)) (subst (λ xs. Posted a b ms xs) (sym (append-nil ls)) first)
Posted-append a b ms ls first c ns ks (Opens d e messages lost clean before idle opens) =
    Opens d e (ms ++ messages) (ls ++ lost) clean (Posted-append a b ms ls first d messages lost before) idle opens
Posted-append a b ms ls first c ns ks (Sends d e messages lost more before sent) =
    subst (λ xs. Posted a e xs (ls ++ lost)) (append_assoc ms messages more)
    (Sends d e (ms ++ messages) (ls ++ lost) more (Posted-append a b ms ls first d messages lost before) sent)
Posted-append a b ms ls first c ns ks (Breaks d e messages lost more before went) =
    subst (λ xs. Posted a e xs (ls ++ (lost ++ unstored more))) (append_assoc ms messages more)
    (subst (λ xs. Posted a e ((ms ++ messages) ++ more) xs) (append_assoc ls lost (unstored more))
    (Breaks d e (ms ++ messages) (ls ++ lost) more (Posted-append a b ms ls first d messages lost before) went))
Posted-append a b ms ls first c ns ks (Hears d e messages lost told reasons before went) =
    Hears d e (ms ++ messages) (ls ++ lost) told reasons (Posted-append a b ms ls first d messages lost before) went
Posted-append a b ms ls first c ns ks (Continues d e messages lost before client kept) =
    Continues d e (ms ++ messages) (ls ++ lost) (Posted-append a b ms ls first d messages lost before) client kept

-- packets were received, and answered
pub posted_heard : (a b : Moment) (told : List Happening) (reasons : List CloseReason) → Went a b [] told reasons → Posted a b [] []
posted_heard a b told reasons went = Hears a b [] [] told reasons Begins went

-- a connection began
pub posted_opened : (a b : Moment) (clean : Bool) → (clean ≡ true → IsIdle a.client.link.end) → WentFirst a b (Opening clean ∷ []) [] [] → Posted a b [] []
posted_opened a b clean idle went = Opens a b [] [] clean Begins idle went

pub first_whole : (a b : Moment) (clean : Bool) → Went a b (Opening clean ∷ []) [] [] → WentFirst a b (Opening clean ∷ []) [] []
first_whole a b clean went = record { asks = Opening clean ∷ []; rest = []; parts = refl; went = went }

-- ---- progress

pub progress_quiet : (a b : Moment) (next : Option Message) (lost : ℕ) (given : Option (List Message)) → Posted a b [] [] → Progress a b next next lost lost given given
progress_quiet a b next lost given posted = record {
  messages = [];
  unwritten = [];
  fresh = [];
  posted = posted;
  given = Gives-none given;
  parts = append-nil (option_to_list next);
  none_before = λ e. e;
  none = λ e. refl;
}

pub progress_none : (a : Moment) (next : Option Message) (lost : ℕ) (given : Option (List Message)) → Progress a a next next lost lost given given
progress_none a next lost given = progress_quiet a a next lost given Begins

parts_then : (n f m k g p l : List Message) → n ++ f ≡ m ++ k → k ++ g ≡ p ++ l → n ++ (f ++ g) ≡ (m ++ p) ++ l
parts_then n f m k g p l first second =
    sym (append_assoc n f g) ∙ ap (λ z. z ++ g) first ∙ append_assoc m k g ∙ ap (λ z. m ++ z) second ∙ sym (append_assoc m p l)

both_empty : (xs ys : List Message) → xs ≡ [] → ys ≡ [] → xs ++ ys ≡ []
both_empty xs ys p q = ap (λ z. z ++ ys) p ∙ q

pub progress_then : (a b c : Moment) (next mid later : Option Message) (lost some missing : ℕ) (given more taken : Option (List Message))
    → Progress a b next mid lost some given more → Progress b c mid later some missing more taken → Progress a c next later lost missing given taken
progress_then a b c next mid later lost some missing given more taken p q = record {
  messages = p.messages ++ q.messages;
  unwritten = p.unwritten ++ q.unwritten;
  fresh = p.fresh ++ q.fresh;
  posted = Posted-append a b p.messages p.unwritten p.posted c q.messages q.unwritten q.posted;
  given = Gives-append given more taken p.fresh q.fresh p.given q.given;
  parts = parts_then (option_to_list next) p.fresh p.messages (option_to_list mid) q.fresh q.messages (option_to_list later) p.parts q.parts;
  none_before = λ e. p.none_before (q.none_before e);
  none = λ e. both_empty p.unwritten q.unwritten (p.none (q.none_before e)) (q.none e);
}

-- the work went on, and nothing was published
pub progress_on : (a b c : Moment) (next later : Option Message) (lost missing : ℕ) (given taken : Option (List Message))
    → Progress a b next later lost missing given taken → Posted b c [] [] → Progress a c next later lost missing given taken
progress_on a b c next later lost missing given taken p posted =
    progress_then a b c next later later lost missing missing given taken taken p (progress_quiet b c later missing taken posted)

-- the work ended early
pub until_connection : (stop : Stop) (a b : Moment) (next later : Option Message) (lost missing : ℕ) (given taken : Option (List Message)) → IsConnection stop
    → Progress a b next later lost missing given taken → ProgressUntil a b next later lost missing given taken stop
until_connection (Connection error) a b next later lost missing given taken is p = p
until_connection (Application error) a b next later lost missing given taken is p = absurd is

pub until_then : (stop : Stop) (a b c : Moment) (next mid later : Option Message) (lost some missing : ℕ) (given more taken : Option (List Message))
    → Progress a b next mid lost some given more → ProgressUntil b c mid later some missing more taken stop → ProgressUntil a c next later lost missing given taken stop
until_then (Connection error) a b c next mid later lost some missing given more taken p q = progress_then a b c next mid later lost some missing given more taken p q
until_then (Application error) a b c next mid later lost some missing given more taken p q = record {
  messages = p.messages ++ q.messages;
  unwritten = p.unwritten ++ q.unwritten;
  posted = Posted-append a b p.messages p.unwritten p.posted c q.messages q.unwritten q.posted;
}

-- ---- messages of the source

pub fills_none : (a : Moment) (next : Option Message) (unwritten : ℕ) (given : Option (List Message)) → Fills a a next next unwritten unwritten given given
fills_none a next unwritten given = record {
  messages = [];
  fresh = [];
  published = went_none a;
  given = Gives-none given;
  parts = append-nil (option_to_list next);
  none_before = λ e. e;
  none = λ e. refl;
}

published_then : (a b c : Moment) (ms ns : List Message) → Went a b (map Publication ms) [] [] → Went b c (map Publication ns) [] [] → Went a c (map Publication (ms ++ ns)) [] []
published_then a b c ms ns p q =
    subst (λ z. Went a c z [] []) (sym (map-append Publication ms ns)) (went_then a b c (map Publication ms) (map Publication ns) [] [] [] [] p q)

pub fills_then : (a b c : Moment) (next mid later : Option Message) (unwritten some pending : ℕ) (given more taken : Option (List Message))
    → Fills a b next mid unwritten some given more → Fills b c mid later some pending more taken → Fills a c next later unwritten pending given taken
fills_then a b c next mid later unwritten some pending given more taken p q = record {
  messages = p.messages ++ q.messages;
  fresh = p.fresh ++ q.fresh;
  published = published_then a b c p.messages q.messages p.published q.published;
  given = Gives-append given more taken p.fresh q.fresh p.given q.given;
  parts = parts_then (option_to_list next) p.fresh p.messages (option_to_list mid) q.fresh q.messages (option_to_list later) p.parts q.parts;
  none_before = λ e. p.none_before (q.none_before e);
  none = λ e. filter-append (λ message. is_q0 message.qos) p.messages q.messages ∙ both_empty (unstored p.messages) (unstored q.messages) (p.none (q.none_before e)) (q.none e);
}

-- a message was taken
pub fills_taken : (a : Moment) (next later : Option Message) (unwritten : ℕ) (given taken : Option (List Message)) (fresh : List Message) → Gives given taken fresh
    → option_to_list next ++ fresh ≡ option_to_list later → Fills a a next later unwritten unwritten given taken
fills_taken a next later unwritten given taken fresh gives parts = record {
  messages = [];
  fresh = fresh;
  published = went_none a;
  given = gives;
  parts = parts;
  none_before = λ e. e;
  none = λ e. refl;
}

pub publishes_none : (a : Moment) (next : Option Message) (unwritten : ℕ) → Publishes a a next next unwritten unwritten
publishes_none a next unwritten = record { messages = []; published = went_none a; parts = refl; none_before = λ e. e; none = λ e. refl }

pub publishes_one : (a b : Moment) (message : Message) (unwritten pending : ℕ) → Went a b (Publication message ∷ []) [] [] → (pending ≡ 0 → unwritten ≡ 0)
    → (pending ≡ 0 → unstored (message ∷ []) ≡ []) → Publishes a b (Some message) None unwritten pending
publishes_one a b message unwritten pending went before none = record { messages = message ∷ []; published = went; parts = refl; none_before = before; none = none }

-- a session stores the message
pub stored_one : (message : Message) → is_q0 message.qos ≡ false → unstored (message ∷ []) ≡ []
stored_one message stored = ap (λ b. cond b (message ∷ []) []) stored

-- the messages so far and those of the next part
pub part_then : (a b c : Moment) (next later : Option Message) (unwritten pending : ℕ) (given taken : Option (List Message)) → Fills a b next later unwritten pending given taken
    → (more : List Message) → Went b c (map Publication more) [] [] → (messages : List Message) × Went a c (map Publication messages) [] []
part_then a b c next later unwritten pending given taken p more went = (p.messages ++ more, published_then a b c p.messages more p.published went)

-- ---- the output

pub fills_sent : (a b c : Moment) (next later : Option Message) (unwritten pending lost : ℕ) (given taken : Option (List Message)) → Fills a b next later unwritten pending given taken
    → Went b c [] [] [] → Appends b.written c.written b.client.link.output → Progress a c next later lost lost given taken
fills_sent a b c next later unwritten pending lost given taken p went whole = record {
  messages = p.messages;
  unwritten = [];
  fresh = p.fresh;
  posted = Sends a c [] [] p.messages Begins (record { last = b; published = p.published; whole = whole; after = went });
  given = p.given;
  parts = p.parts;
  none_before = λ e. e;
  none = λ e. refl;
}

pub fills_broke : (a b c : Moment) (next later : Option Message) (unwritten pending lost missing : ℕ) (given taken : Option (List Message)) → Fills a b next later unwritten pending given taken
    → Went b c [] [] [] → (missing ≡ 0 → lost ≡ 0) → (missing ≡ 0 → pending ≡ 0) → Progress a c next later lost missing given taken
fills_broke a b c next later unwritten pending lost missing given taken p went before none = record {
  messages = p.messages;
  unwritten = unstored p.messages;
  fresh = p.fresh;
  posted = Breaks a c [] [] p.messages Begins (went_still a b c (map Publication p.messages) [] [] p.published went);
  given = p.given;
  parts = p.parts;
  none_before = before;
  none = λ e. p.none (none e);
}

-- the source failed
pub part_broke : (a b : Moment) (messages : List Message) → Went a b (map Publication messages) [] [] → PartPosted a b
part_broke a b messages went = record { messages = messages; unwritten = unstored messages; posted = Breaks a b [] [] messages Begins went }

-- ---- the end

pub finishes : (a b c : Moment) (next later : Option Message) (lost missing : ℕ) (given taken : Option (List Message)) → Progress a b next later lost missing given taken
    → later ≡ None → missing ≡ 0 → IsIdle b.client.link.end → Leaves b c → Posted b c [] [] → Finishes a c next lost given taken
finishes a b c next later lost missing given taken p none whole idle leaves posted = record {
  last = b;
  progress = subst (λ n. Progress a b next None lost n given taken) whole (subst (λ m. Progress a b next m lost missing given taken) none p);
  idle = idle;
  leaves = leaves;
  whole = posted;
}

pub finishes_then : (a b c : Moment) (next mid : Option Message) (lost some : ℕ) (given more taken : Option (List Message)) → Progress a b next mid lost some given more
    → Finishes b c mid some more taken → Finishes a c next lost given taken
finishes_then a b c next mid lost some given more taken p f = record {
  last = f.last;
  progress = progress_then a b f.last next mid None lost some 0 given more taken p f.progress;
  idle = f.idle;
  leaves = f.leaves;
  whole = f.whole;
}

-- all messages were published
pub all_posted : (a b : Moment) (lost : ℕ) (given taken : Option (List Message)) → Finishes a b None lost given taken → AllPosted a b given taken
all_posted a b lost given taken f =
    let parts : f.progress.fresh ≡ f.progress.messages = f.progress.parts ∙ append-nil f.progress.messages in
    record {
      last = f.last;
      messages = f.progress.messages;
      posted = subst (λ ls. Posted a f.last f.progress.messages ls) (f.progress.none refl) f.progress.posted;
      given = subst (λ ms. Gives given taken ms) parts f.progress.given;
      idle = f.idle;
      leaves = f.leaves;
    }

pub part_of_progress : (a b : Moment) (next later : Option Message) (lost missing : ℕ) (given taken : Option (List Message)) → Progress a b next later lost missing given taken → PartPosted a b
part_of_progress a b next later lost missing given taken p = record { messages = p.messages; unwritten = p.unwritten; posted = p.posted }

pub part_of_until : (stop : Stop) (a b : Moment) (next later : Option Message) (lost missing : ℕ) (given taken : Option (List Message)) → ProgressUntil a b next later lost missing given taken stop
    → PartPosted a b
part_of_until (Connection error) a b next later lost missing given taken p = part_of_progress a b next later lost missing given taken p
part_of_until (Application error) a b next later lost missing given taken p = p

-- a new connection continues with the session
progress_continues : (a b c : Moment) (next later : Option Message) (lost missing : ℕ) (given taken : Option (List Message)) → Progress a b next later lost missing given taken
    → c.client ≡ b.client → c.kept ≡ b.kept → Progress a c next later lost missing given taken
progress_continues a b c next later lost missing given taken p client kept = progress_on a b c next later lost missing given taken p (Continues b c [] [] Begins client kept)

-- ---- the end of the work over a connection

-- the client left, if it could
pub left_ends : (r : Result ⊤ Stop) (a b c : Moment) (next later : Option Message) (lost missing : ℕ) (given taken : Option (List Message)) → Progress a b next later lost missing given taken
    → later ≡ None → IsIdle b.client.link.end → OnOk r (Leaves b c) → OnOk r (missing ≡ 0) → Posted b c [] [] → IfErr r IsConnection → PublishEnds a c next later lost missing given taken r
left_ends (Ok done) a b c next later lost missing given taken p none idle leaves whole posted is = finishes a b c next later lost missing given taken p none whole idle leaves posted
left_ends (Err stop) a b c next later lost missing given taken p none idle leaves whole posted is =
    until_connection stop a c next later lost missing given taken is (progress_on a b c next later lost missing given taken p posted)

ends_then : (r : Result ⊤ Stop) (a b c : Moment) (next mid later : Option Message) (lost some missing : ℕ) (given more taken : Option (List Message))
    → Progress a b next mid lost some given more → PublishEnds b c mid later some missing more taken r → PublishEnds a c next later lost missing given taken r
ends_then (Ok done) a b c next mid later lost some missing given more taken p e = finishes_then a b c next mid lost some given more taken p e
ends_then (Err stop) a b c next mid later lost some missing given more taken p e = until_then stop a b c next mid later lost some missing given more taken p e

-- ---- one connection after another

-- a client and its stored session between two connections
pub resting : (client : ClientState) (kept : Option (List ℕ)) → (a : Moment) × StartsWith a client kept
resting client kept = (
  record { client = client; coming = None; written = None; kept = kept; times = None; line = record { closed = false; quiet = 0; limit = 0 } },
  record { client_is = refl; kept_is = refl },
)

-- The run so far began with one client and stored session, and another client and stored session
-- are left.
abbrev pub PostedSoFar : ClientState → Option (List ℕ) → ClientState → Option (List ℕ) → Option Message → ℕ → Option (List Message) → Option (List Message) → Type 0
PostedSoFar client kept new saved later missing given taken =
    (a : Moment) × (b : Moment) × StartsWith a client kept × StartsWith b new saved × Progress a b None later 0 missing given taken

-- the same after a connection whose work ended like this
abbrev pub PostedOnce : ClientState → Option (List ℕ) → ClientState → Option (List ℕ) → Option Message → Option Message → ℕ → ℕ → Option (List Message) → Option (List Message) → Result ⊤ Stop → Type 0
PostedOnce client kept new saved next later lost missing given taken end =
    (a : Moment) × (b : Moment) × StartsWith a client kept × StartsWith b new saved × PublishEnds a b next later lost missing given taken end

pub far_none : (client : ClientState) (kept : Option (List ℕ)) (later : Option Message) (missing : ℕ) (given : Option (List Message)) → later ≡ None → missing ≡ 0
    → PostedSoFar client kept client kept later missing given given
far_none client kept later missing given none whole =
    let a = resting client kept in
    let p : Progress a.0 a.0 None later 0 missing given given =
    subst (λ n. Progress a.0 a.0 None later 0 n given given) (sym whole) (subst (λ m. Progress a.0 a.0 None m 0 0 given given) (sym none) (progress_none a.0 None 0 given)) in
    (a.0, a.0, a.1, a.1, p)

-- no connection was made
pub once_missed : (stop : Stop) (client : ClientState) (kept : Option (List ℕ)) (next : Option Message) (lost : ℕ) (given : Option (List Message)) → IsConnection stop
    → PostedOnce client kept client kept next next lost lost given given (Err stop)
once_missed stop client kept next lost given is =
    let a = resting client kept in
    (a.0, a.0, a.1, a.1, until_connection stop a.0 a.0 next next lost lost given given is (progress_none a.0 next lost given))

pub far_once : (end : Result ⊤ Stop) (c d e : ClientState) (k l m : Option (List ℕ)) (mid later : Option Message) (some missing : ℕ) (given more taken : Option (List Message))
    → PostedSoFar c k d l mid some given more → PostedOnce d l e m mid later some missing more taken end → PostedOnce c k e m None later 0 missing given taken end
far_once end c d e k l m mid later some missing given more taken far once =
    let client : once.0.client ≡ far.1.client = once.2.client_is ∙ sym far.3.client_is in
    let kept : once.0.kept ≡ far.1.kept = once.2.kept_is ∙ sym far.3.kept_is in
    let p : Progress far.0 once.0 None mid 0 some given more = progress_continues far.0 far.1 once.0 None mid 0 some given more far.4 client kept in
    (far.0, once.1, far.2, once.3, ends_then end far.0 once.0 once.1 None mid later 0 some missing given more taken p once.4)

-- a new connection may succeed
pub far_on : (end : Result ⊤ Stop) (c d : ClientState) (k l : Option (List ℕ)) (later : Option Message) (missing : ℕ) (given taken : Option (List Message)) → IsBroken end
    → PostedOnce c k d l None later 0 missing given taken end → PostedSoFar c k d l later missing given taken
far_on (Ok done) c d k l later missing given taken is once = absurd is
far_on (Err (Connection error)) c d k l later missing given taken is once = once
far_on (Err (Application error)) c d k l later missing given taken is once = absurd is

-- ---- the end of a run

pub run_ok : (final : Result ⊤ RunError) (end : Result ⊤ Stop) (c d : ClientState) (k l : Option (List ℕ)) (later : Option Message) (missing : ℕ) (given taken : Option (List Message))
    → OnOk final (IsOk end) → PostedOnce c k d l None later 0 missing given taken end
    → OnOk final ((a : Moment) × (b : Moment) × StartsWith a c k × StartsWith b d l × AllPosted a b given taken)
run_ok (Ok done) (Ok through) c d k l later missing given taken is once = (once.0, once.1, once.2, once.3, all_posted once.0 once.1 0 given taken once.4)
run_ok (Ok done) (Err stop) c d k l later missing given taken is once = absurd is
run_ok (Err error) end c d k l later missing given taken is once = tt

pub run_err : (final : Result ⊤ RunError) (end : Result ⊤ Stop) (c d : ClientState) (k l : Option (List ℕ)) (later : Option Message) (missing : ℕ) (given taken : Option (List Message))
    → OnErr final (IsErr end) → PostedOnce c k d l None later 0 missing given taken end
    → OnErr final ((a : Moment) × (b : Moment) × StartsWith a c k × StartsWith b d l × PartPosted a b)
run_err (Ok done) end c d k l later missing given taken is once = tt
run_err (Err error) (Ok through) c d k l later missing given taken is once = absurd is
run_err (Err error) (Err stop) c d k l later missing given taken is once =
    (once.0, once.1, once.2, once.3, part_of_until stop once.0 once.1 None later 0 missing given taken once.4)

pub run_part : (c d : ClientState) (k l : Option (List ℕ)) (later : Option Message) (missing : ℕ) (given taken : Option (List Message)) → PostedSoFar c k d l later missing given taken
    → (a : Moment) × (b : Moment) × StartsWith a c k × StartsWith b d l × PartPosted a b
run_part c d k l later missing given taken far = (far.0, far.1, far.2, far.3, part_of_progress far.0 far.1 None later 0 missing given taken far.4)

-- ---- the end of the source

-- nothing is noted
pub remembers_none : (is_ended : Bool) (ended : Type 0) → is_ended ≡ false → Remembers is_ended ended
remembers_none is_ended ended none noted = absurd (false≢true (sym none ∙ noted))

-- a run that succeeded came to the end of the source
pub run_last : (final : Result ⊤ RunError) (end : Result ⊤ Stop) (is_ended : Bool) (ended : Type 0) → OnOk final (IsOk end) → OnOk end (is_ended ≡ true) → Remembers is_ended ended
    → OnOk final ended
run_last (Ok done) (Ok through) is_ended ended is last remembers = remembers last
run_last (Ok done) (Err stop) is_ended ended is last remembers = absurd is
run_last (Err error) end is_ended ended is last remembers = tt
