-- The work of a subscriber, part after part.
use Rattle.std.proofs.Common.{◌≡◌, inl, inr, ℕ, Bool, true, false, List, [], ◌∷◌, ◌++◌, Option, Result, Ok, Err, IfErr, OnErr, OnOk, refl, sym, ap, subst, ◌∙◌, append-nil}
use Rattle.std.specs.Bool.{⊤}
use Rattle.std.specs.Io.KnownBytes.{Keeps}
use Rattle.mq_packet.specs.declared.message.Message.{Message}
use Rattle.mq_end.specs.declared.happening.Happening.{Happening}
use Rattle.mq_end.specs.declared.reason.CloseReason.{CloseReason}
use Rattle.mq_end.specs.Publishing.{ClientState}
use Rattle.mq_client.specs.Course.{Ask, Moment, Opening, Went, WentFirst}
use Rattle.mq_client.proofs.Courses.{went_still, went_then}
use Rattle.mq_pubsub.specs.declared.error.RunError.{RunError}
use Rattle.mq_pubsub.specs.declared.inbox.Inbox.{Inbox}
use Rattle.mq_pubsub.specs.declared.options.SubscribeOptions.{SubscribeOptions}
use Rattle.mq_pubsub.specs.Printing.{Shows}
use Rattle.mq_pubsub.specs.Subscribing.{Prints}
use Rattle.mq_pubsub_runs.specs.declared.stop.Stop.{Stop}
use Rattle.mq_pubsub_runs.specs.declared.stop.Stop.TheVariants.{Connection, Application}
use Rattle.mq_pubsub_runs.specs.Posting.{StartsWith}
use Rattle.mq_pubsub_runs.specs.Stops.{IsBroken, IsConnection, IsErr, IsOk}
use Rattle.mq_pubsub_runs.specs.Watching.{Stays, Unprinted, Watched, WatchedPart, forgets, requests_of}
use Rattle.mq_pubsub_runs.specs.Inside.Watching.{SubscribeEnds, WatchedUntil}
use Rattle.mq_pubsub_runs.specs.Watching.Watched.{Begins, Opens, Reads, Requests, Sends, Continues, Renews}
use Rattle.mq_pubsub_runs.proofs.Postings.{resting}

-- ---- requests

-- all requests were made, one part after another
pub first_parts : (a b c : Moment) (ms ns : List Ask) → Went a b ms [] [] → Went b c ns [] [] → Went a c (ms ++ ns) [] []
first_parts a b c ms ns p q = went_then a b c ms ns [] [] [] [] p q

-- the first part was made
pub first_part : (a b c : Moment) (ms ns : List Ask) → Went a b ms [] [] → Went b c [] [] [] → WentFirst a c (ms ++ ns) [] []
first_part a b c ms ns p q = record { asks = ms; rest = ns; parts = refl; went = went_still a b c ms [] [] p q }

pub first_whole : (a b : Moment) (ms : List Ask) → Went a b ms [] [] → WentFirst a b ms [] []
first_whole a b ms went = record { asks = ms; rest = []; parts = sym (append-nil ms); went = went }

-- and then output was sent
pub first_still : (a b c : Moment) (all : List Ask) → WentFirst a b all [] [] → Went b c [] [] [] → WentFirst a c all [] []
first_still a b c all p q = record { asks = p.asks; rest = p.rest; parts = p.parts; went = went_still a b c p.asks [] [] p.went q }

-- the second part was made too, or it was refused
pub request_ok : {T E : Type 0} → (r : Result T E) (a b c : Moment) (ms ns : List Ask) → Went a b ms [] [] → OnOk r (Went b c ns [] []) → OnOk r (Went a c (ms ++ ns) [] [])
request_ok (Ok x) a b c ms ns p q = first_parts a b c ms ns p q
request_ok (Err e) a b c ms ns p q = tt

pub request_err : {T E : Type 0} → (r : Result T E) (a b c : Moment) (ms ns : List Ask) → Went a b ms [] [] → OnErr r (Went b c [] [] []) → OnErr r (WentFirst a c (ms ++ ns) [] [])
request_err (Ok x) a b c ms ns p q = tt
request_err (Err e) a b c ms ns p q = first_part a b c ms ns p q

module _ (options : SubscribeOptions) where
  pub Watched-append : (a : Moment) (i : Inbox) (s : Option (List Message)) (b : Moment) (j : Inbox) (t : Option (List Message)) → Watched options a i s b j t
      → (c : Moment) (k : Inbox) (u : Option (List Message)) → Watched options b j t c k u → Watched options a i s c k u
  Watched-append a i s b j t first c k u Begins = first
  Watched-append a i s b j t first c k u (Opens d e l v before went) = Opens d e l v (Watched-append a i s b j t first d l v before) went
  Watched-append a i s b j t first c k u (Reads d e l m v w told reasons messages before went silent prints shows) =
      Reads d e l m v w told reasons messages (Watched-append a i s b j t first d l v before) went silent prints shows
  Watched-append a i s b j t first c k u (Requests d e l v before due went) = Requests d e l v (Watched-append a i s b j t first d l v before) due went
  Watched-append a i s b j t first c k u (Sends d e l v before went) = Sends d e l v (Watched-append a i s b j t first d l v before) went
  Watched-append a i s b j t first c k u (Continues d e l v before client kept) = Continues d e l v (Watched-append a i s b j t first d l v before) client kept
  Watched-append a i s b j t first c k u (Renews d e l v before new kept) = Renews d e l v (Watched-append a i s b j t first d l v before) new kept

  -- a connection began
  pub watched_opened : (a b : Moment) (i : Inbox) (s : Option (List Message)) → WentFirst a b (Opening options.clean ∷ []) [] [] → Watched options a i s b i s
  watched_opened a b i s went = Opens a b i s Begins went

  -- messages were printed
  pub watched_read : (a b : Moment) (i j : Inbox) (s t : Option (List Message)) (told : List Happening) (reasons : List CloseReason) (messages : List Message)
      → Went a b [] told reasons → Keeps a.written b.written → Prints options.choice options.ends_when_granted i told j messages → Shows s t messages → Watched options a i s b j t
  watched_read a b i j s t told reasons messages went silent prints shows = Reads a b i j s t told reasons messages Begins went silent prints shows

  -- bytes were sent
  pub watched_sent : (a b : Moment) (i : Inbox) (s : Option (List Message)) → Went a b [] [] [] → Watched options a i s b i s
  watched_sent a b i s went = Sends a b i s Begins went

  -- and more bytes were sent
  pub watched_then_sent : (a b c : Moment) (i j : Inbox) (s t : Option (List Message)) → Watched options a i s b j t → Went b c [] [] [] → Watched options a i s c j t
  watched_then_sent a b c i j s t watched went = Sends b c j t watched went

  -- the answer was sent, and the requests if they were due
  pub watched_answered : (due : Bool) (a b c : Moment) (i j : Inbox) (s t : Option (List Message)) → Watched options a i s b j t → (due ≡ true → j.is_due ≡ true)
      → (due ≡ true → WentFirst b c (requests_of options) [] []) → (due ≡ false → Went b c [] [] []) → Watched options a i s c j t
  watched_answered true a b c i j s t watched is first still = Requests b c j t watched (is refl) (first refl)
  watched_answered false a b c i j s t watched is first still = Sends b c j t watched (still refl)

  -- the messages of a read may not be printed
  pub unprinted : (a b : Moment) (i : Inbox) (s : Option (List Message)) (told : List Happening) (reasons : List CloseReason) → Went a b [] told reasons → Keeps a.written b.written
      → Unprinted options a i s b
  unprinted a b i s told reasons went silent = record {
    last = a;
    inbox = i;
    shown = s;
    before = Begins;
    told = told;
    reasons = reasons;
    after = went;
    silent = silent;
  }

  unprinted_then : (a b c : Moment) (i j : Inbox) (s t : Option (List Message)) → Watched options a i s b j t → Unprinted options b j t c → Unprinted options a i s c
  unprinted_then a b c i j s t watched u = record {
    last = u.last;
    inbox = u.inbox;
    shown = u.shown;
    before = Watched-append a i s b j t watched u.last u.inbox u.shown u.before;
    told = u.told;
    reasons = u.reasons;
    after = u.after;
    silent = u.silent;
  }

  -- ---- the work ended early

  pub until_connection : (stop : Stop) (a b : Moment) (i j : Inbox) (s t : Option (List Message)) → IsConnection stop → Watched options a i s b j t → WatchedUntil options a i s b j t stop
  until_connection (Connection error) a b i j s t is watched = watched
  until_connection (Application error) a b i j s t is watched = absurd is

  pub until_then : (stop : Stop) (a b c : Moment) (i j k : Inbox) (s t u : Option (List Message)) → Watched options a i s b j t → WatchedUntil options b j t c k u stop
      → WatchedUntil options a i s c k u stop
  until_then (Connection error) a b c i j k s t u first more = Watched-append a i s b j t first c k u more
  until_then (Application error) a b c i j k s t u first more = unprinted_then a b c i j s t first more

  watched_of_until : (stop : Stop) (a b : Moment) (i j : Inbox) (s t : Option (List Message)) → IsConnection stop → WatchedUntil options a i s b j t stop → Watched options a i s b j t
  watched_of_until (Connection error) a b i j s t is watched = watched
  watched_of_until (Application error) a b i j s t is watched = absurd is

  part_of_until : (stop : Stop) (a b : Moment) (i j : Inbox) (s t : Option (List Message)) → WatchedUntil options a i s b j t stop → WatchedPart options a i s t
  part_of_until (Connection error) a b i j s t watched = inl (b, j, watched)
  part_of_until (Application error) a b i j s t unprinted = inr (b, unprinted)

  -- the same of a result that may be an error
  pub if_err_connection : {T : Type 0} → (r : Result T Stop) (a b : Moment) (i j : Inbox) (s t : Option (List Message)) → IfErr r IsConnection → Watched options a i s b j t
      → IfErr r (WatchedUntil options a i s b j t)
  if_err_connection (Ok done) a b i j s t is watched = tt
  if_err_connection (Err stop) a b i j s t is watched = until_connection stop a b i j s t is watched

  -- ---- the end of the work over a connection

  -- the client left, if it could
  pub left_ends : (r : Result ⊤ Stop) (a b c : Moment) (i j : Inbox) (s t : Option (List Message)) → Watched options a i s b j t → j.is_ended ≡ true → Went b c [] [] []
      → IfErr r IsConnection → SubscribeEnds options a i s c j t r
  left_ends (Ok done) a b c i j s t watched ended went is = (watched_then_sent a b c i j s t watched went, ended)
  left_ends (Err stop) a b c i j s t watched ended went is = until_connection stop a c i j s t is (watched_then_sent a b c i j s t watched went)

  ends_then : (r : Result ⊤ Stop) (a b c : Moment) (i j k : Inbox) (s t u : Option (List Message)) → Watched options a i s b j t → SubscribeEnds options b j t c k u r
      → SubscribeEnds options a i s c k u r
  ends_then (Ok done) a b c i j k s t u first more = (Watched-append a i s b j t first c k u more.0, more.1)
  ends_then (Err stop) a b c i j k s t u first more = until_then stop a b c i j k s t u first more

  -- ---- one connection after another

  -- The run so far began with one client and stored session, and another client and stored session
  -- are left.
  abbrev pub WatchedSoFar : ClientState → Option (List ℕ) → Inbox → Option (List Message) → ClientState → Option (List ℕ) → Inbox → Option (List Message) → Type 0
  WatchedSoFar client kept i s new saved j t = (a : Moment) × (b : Moment) × StartsWith a client kept × StartsWith b new saved × Watched options a i s b j t

  -- the same after a connection whose work ended like this
  abbrev pub WatchedOnce : ClientState → Option (List ℕ) → Inbox → Option (List Message) → ClientState → Option (List ℕ) → Inbox → Option (List Message) → Result ⊤ Stop → Type 0
  WatchedOnce client kept i s new saved j t end = (a : Moment) × (b : Moment) × StartsWith a client kept × StartsWith b new saved × SubscribeEnds options a i s b j t end

  pub far_none : (client : ClientState) (kept : Option (List ℕ)) (i : Inbox) (s : Option (List Message)) → WatchedSoFar client kept i s client kept i s
  far_none client kept i s = let a = resting client kept in (a.0, a.0, a.1, a.1, Begins)

  -- no connection was made
  pub once_missed : (stop : Stop) (client : ClientState) (kept : Option (List ℕ)) (i : Inbox) (s : Option (List Message)) → IsConnection stop
      → WatchedOnce client kept i s client kept i s (Err stop)
  once_missed stop client kept i s is = let a = resting client kept in (a.0, a.0, a.1, a.1, until_connection stop a.0 a.0 i i s s is Begins)

  pub far_once : (end : Result ⊤ Stop) (c d e : ClientState) (k l m : Option (List ℕ)) (i j o : Inbox) (s t u : Option (List Message)) → WatchedSoFar c k i s d l j t
      → WatchedOnce d l j t e m o u end → WatchedOnce c k i s e m o u end
  far_once end c d e k l m i j o s t u far once =
      let client : once.0.client ≡ far.1.client = once.2.client_is ∙ sym far.3.client_is in
      let kept : once.0.kept ≡ far.1.kept = once.2.kept_is ∙ sym far.3.kept_is in
      let watched : Watched options far.0 i s once.0 j t = Continues far.1 once.0 j t far.4 client kept in
      (far.0, once.1, far.2, once.3, ends_then end far.0 once.0 once.1 i j o s t u watched once.4)

  -- a new connection may succeed
  pub far_on : (end : Result ⊤ Stop) (c d : ClientState) (k l : Option (List ℕ)) (i j : Inbox) (s t : Option (List Message)) → IsBroken end → WatchedOnce c k i s d l j t end
      → WatchedSoFar c k i s d l j t
  far_on (Ok done) c d k l i j s t is once = absurd is
  far_on (Err stop) c d k l i j s t is once = (once.0, once.1, once.2, once.3, watched_of_until stop once.0 once.1 i j s t is once.4)

  -- the client stayed, or a new one took its place
  pub far_renewed : (c d e : ClientState) (k l m : Option (List ℕ)) (i j o : Inbox) (s t : Option (List Message)) → WatchedSoFar c k i s d l j t → m ≡ l → Stays d e j o
      → WatchedSoFar c k i s e m o t
  far_renewed c d e k l m i j o s t far kept (inl same) =
      subst (λ (z : Inbox). WatchedSoFar c k i s e m z t) (sym same.1)
      (subst (λ (z : ClientState). WatchedSoFar c k i s z m j t) (sym same.0) (subst (λ (z : Option (List ℕ)). WatchedSoFar c k i s d z j t) (sym kept) far))
  far_renewed c d e k l m i j o s t far kept (inr new) =
      let a = resting e m in
      let watched : Watched options far.0 i s a.0 (forgets j) t = Renews far.1 a.0 j t far.4 (ap (λ z. z.link.end) a.1.client_is ∙ new.0) (a.1.kept_is ∙ kept ∙ sym far.3.kept_is) in
      subst (λ (z : Inbox). WatchedSoFar c k i s e m z t) (sym new.1) (far.0, a.0, far.2, a.1, watched)

  -- ---- the end of a run

  pub run_ok : (final : Result ⊤ RunError) (end : Result ⊤ Stop) (c d : ClientState) (k l : Option (List ℕ)) (i j : Inbox) (s t : Option (List Message)) → OnOk final (IsOk end)
      → WatchedOnce c k i s d l j t end → OnOk final ((a : Moment) × StartsWith a c k × (b : Moment) × Watched options a i s b j t)
  run_ok (Ok done) (Ok through) c d k l i j s t is once = (once.0, once.2, once.1, once.4.0)
  run_ok (Ok done) (Err stop) c d k l i j s t is once = absurd is
  run_ok (Err error) end c d k l i j s t is once = tt

  pub run_ended : (final : Result ⊤ RunError) (end : Result ⊤ Stop) (c d : ClientState) (k l : Option (List ℕ)) (i j : Inbox) (s t : Option (List Message)) → OnOk final (IsOk end)
      → WatchedOnce c k i s d l j t end → OnOk final (j.is_ended ≡ true)
  run_ended (Ok done) (Ok through) c d k l i j s t is once = once.4.1
  run_ended (Ok done) (Err stop) c d k l i j s t is once = absurd is
  run_ended (Err error) end c d k l i j s t is once = tt

  pub run_err : (final : Result ⊤ RunError) (end : Result ⊤ Stop) (c d : ClientState) (k l : Option (List ℕ)) (i j : Inbox) (s t : Option (List Message)) → OnErr final (IsErr end)
      → WatchedOnce c k i s d l j t end → OnErr final ((a : Moment) × StartsWith a c k × WatchedPart options a i s t)
  run_err (Ok done) end c d k l i j s t is once = tt
  run_err (Err error) (Ok through) c d k l i j s t is once = absurd is
  run_err (Err error) (Err stop) c d k l i j s t is once = (once.0, once.2, part_of_until stop once.0 once.1 i j s t once.4)

  pub run_part : (c d : ClientState) (k l : Option (List ℕ)) (i j : Inbox) (s t : Option (List Message)) → WatchedSoFar c k i s d l j t
      → (a : Moment) × StartsWith a c k × WatchedPart options a i s t
  run_part c d k l i j s t far = (far.0, far.2, inl (far.1, j, far.4))
