-- The output of `collect`, and how it ends.
use Rattle.std.proofs.Common.{◌≡◌, ◌-◌, ◌+◌, ℕ, true, List, [], ◌∷◌, ◌++◌, Option, length, flat_map, refl, sym, ap, subst, ◌∙◌, append-nil, append_assoc, length-append, arith, inl, inr, Result, Ok, Err, IfOk, OnErr, OnOk, Bool}
use Rattle.std.proofs.KnownBytes.{Appends-trans, Keeps-refl}
use Rattle.std.proofs.lemmas.Grind.{flat_map-append}
use Rattle.std.specs.Io.KnownBytes as bytes
use Rattle.std.specs.Bool.{⊤}
use Rattle.mq_packet.specs.Lines.{Prints}
use Rattle.mq_end.specs.declared.happening.Happening.{Happening}
use Rattle.mq_end.specs.declared.reason.CloseReason.{CloseReason}
use Rattle.mq_client.specs.declared.error.ClientError.{ClientError}
use Rattle.mq_client.specs.declared.collector.CollectGoal.{CollectGoal}
use Rattle.mq_client.specs.Course.{Leaves, Moment, Opening, Subscription, Went}
use Rattle.mq_client.specs.Halts.{Reports, halt_status}
use Rattle.mq_client.specs.Printed.{halt_line, subscribed_line, told_line}
use Rattle.mq_client.specs.Collecting.{Collected, CollectHalts, Grows, IsAnswered, IsCollectDone, IsJust, Keeps, KeepsFirst, Unacknowledged, Unprinted, collects, handed, request_of}
use Rattle.mq_client.specs.Inside.Collecting.{Gathers}
use Rattle.mq_client.proofs.Collected.{first_after, keeps_told, keeps_then, misses_none}
use Rattle.mq_end.specs.declared.happening.Happening.TheVariants as happens
use Rattle.mq_client.proofs.Courses.{went_none, went_on, went_still, went_then}

-- the client connected and subscribed, or the program stopped
pub if_kept : (a b c : Moment) (clean : Bool) (goal : CollectGoal) (x y z : List Happening) (r : Result ⊤ ClientError) → Keeps a b (Opening clean ∷ []) x y (Ok tt)
    → OnOk r (Keeps b c (Subscription (request_of goal ∷ []) ∷ []) y z r) → OnOk r (Keeps a c (collects clean goal) x z r)
if_kept a b c clean goal x y z (Ok u) k f = keeps_then a b c (Opening clean ∷ []) (Subscription (request_of goal ∷ []) ∷ []) x y z (Ok u) k f
if_kept a b c clean goal x y z (Err e) k f = tt

pub if_stopped : (a b c : Moment) (clean : Bool) (goal : CollectGoal) (x y z : List Happening) (r : Result ⊤ ClientError) → Keeps a b (Opening clean ∷ []) x y (Ok tt)
    → OnErr r (KeepsFirst b c (Subscription (request_of goal ∷ []) ∷ []) y z r) → OnErr r (KeepsFirst a c (collects clean goal) x z r)
if_stopped a b c clean goal x y z (Ok u) k f = tt
if_stopped a b c clean goal x y z (Err e) k f = first_after a b c (Opening clean ∷ []) (Subscription (request_of goal ∷ []) ∷ []) x y z (Err e) k f

-- the program stopped before the subscription was granted
pub begun : (a b : Moment) (clean : Bool) (goal : CollectGoal) (old new : List Happening) (h : ClientError) (w v x : Option (List ℕ)) (status : ℕ) → old ≡ [] → KeepsFirst a b (collects clean goal) old new (Err h)
    → bytes.Appends w v (flat_map told_line new) → bytes.Appends v x (halt_line h) → status ≡ halt_status h → Prints w x (IsCollectDone a b clean goal status)
begun a b clean goal old new h w v x status empty begins printed halts is =
    let k = begins.keeps in
    let same : new ≡ k.told = k.kept ∙ ap (λ z. z ++ k.told) empty in
    let halted : CollectHalts a b clean goal h (flat_map told_line new ++ halt_line h) = record {
      asks = begins.asks;
      told = new;
      rest = k.rest;
      reasons = k.reasons;
      went = subst (λ z. Went a b begins.asks (z ++ k.rest) k.reasons) (sym same) k.went;
      others = begins.rest;
      asked = begins.parts;
      misses = k.misses;
      line = [];
      first = inl refl;
      lines = refl;
    } in
    (flat_map told_line new ++ halt_line h, Appends-trans w v x _ _ printed halts, inr (h, halted, is))

-- the subscription was requested and granted, and the happenings are printed behind `subscribed`
pub record Sofar (a b : Moment) (clean : Bool) (goal : CollectGoal) (w v : Option (List ℕ)) (told : List Happening) (reasons : List CloseReason) : Type 0 where
  pub went : Went a b (collects clean goal) told reasons
  pub answered_is : IsAnswered true told
  pub printed : bytes.Appends w v (subscribed_line ++ flat_map told_line told)

pub sofar_begun : (a b : Moment) (clean : Bool) (goal : CollectGoal) (old new : List Happening) (w v x : Option (List ℕ)) → old ≡ [] → Keeps a b (collects clean goal) old new (Ok tt)
    → IsAnswered true new → bytes.Appends w v subscribed_line → bytes.Appends v x (flat_map told_line new) → Sofar a b clean goal w x new []
sofar_begun a b clean goal old new w v x empty k answer first printed = record {
  went = subst (λ z. Went a b (collects clean goal) z []) (sym (k.kept ∙ ap (λ z. z ++ k.told) empty)) (keeps_told a b (collects clean goal) old new k);
  answered_is = answer;
  printed = Appends-trans w v x _ _ first printed;
}

answered_more : (told more : List Happening) → IsAnswered true told → IsAnswered true (told ++ more)
answered_more told more a = record {
  before = a.before;
  id = a.id;
  given = a.given;
  after = a.after ++ more;
  parts = ap (λ z. z ++ more) a.parts ∙ append_assoc a.before (_ ∷ a.after) more;
  answers = a.answers;
}

lines_more : (told more : List Happening) (rest : List ℕ) → (subscribed_line ++ flat_map told_line told) ++ (flat_map told_line more ++ rest) ≡ subscribed_line ++ (flat_map told_line (told ++ more) ++ rest)
lines_more told more rest =
    append_assoc subscribed_line (flat_map told_line told) (flat_map told_line more ++ rest)
    ∙ ap (λ z. subscribed_line ++ z) (sym (append_assoc (flat_map told_line told) (flat_map told_line more) rest) ∙ ap (λ z. z ++ rest) (sym (flat_map-append told_line told more)))

pub sofar_more : (a b c : Moment) (clean : Bool) (goal : CollectGoal) (w v x : Option (List ℕ)) (told more : List Happening) (rs : List CloseReason) → Sofar a b clean goal w v told []
    → Went b c [] more rs → bytes.Appends v x (flat_map told_line more) → Sofar a c clean goal w x (told ++ more) rs
sofar_more a b c clean goal w v x told more rs s went printed = record {
  went = went_on a b c (collects clean goal) told more rs s.went went;
  answered_is = answered_more told more s.answered_is;
  printed = subst (bytes.Appends w x) (append_assoc subscribed_line (flat_map told_line told) (flat_map told_line more) ∙ ap (λ z. subscribed_line ++ z) (sym (flat_map-append told_line told more)))
      (Appends-trans w v x _ _ s.printed printed);
}

-- no more happenings
pub sofar_still : (a b c : Moment) (clean : Bool) (goal : CollectGoal) (w v : Option (List ℕ)) (told : List Happening) → Sofar a b clean goal w v told [] → Went b c [] [] []
    → Sofar a c clean goal w v told []
sofar_still a b c clean goal w v told s went =
    record { went = went_still a b c (collects clean goal) told [] s.went went; answered_is = s.answered_is; printed = s.printed }

pub sofar_halts : (a b : Moment) (clean : Bool) (goal : CollectGoal) (w v x : Option (List ℕ)) (told : List Happening) (rs : List CloseReason) (h : ClientError) (status : ℕ) → Sofar a b clean goal w v told rs → Reports h rs
    → bytes.Appends v x (halt_line h) → status ≡ halt_status h → Prints w x (IsCollectDone a b clean goal status)
sofar_halts a b clean goal w v x told rs h status s reports printed is =
    let halted : CollectHalts a b clean goal h ((subscribed_line ++ flat_map told_line told) ++ halt_line h) = record {
      asks = collects clean goal;
      told = told;
      rest = [];
      reasons = rs;
      went = subst (λ z. Went a b (collects clean goal) z rs) (sym (append-nil told)) s.went;
      others = [];
      asked = sym (append-nil (collects clean goal));
      misses = misses_none (Err h) rs reports;
      line = subscribed_line;
      first = inr (refl, s.answered_is);
      lines = append_assoc subscribed_line (flat_map told_line told) (halt_line h);
    } in
    ((subscribed_line ++ flat_map told_line told) ++ halt_line h, Appends-trans w v x _ _ s.printed printed, inr (h, halted, is))

-- messages were gathered
pub sofar_gathered : (a b c : Moment) (clean : Bool) (goal : CollectGoal) (w v x : Option (List ℕ)) (told : List Happening) (left : ℕ) → Sofar a b clean goal w v told []
    → (g : Gathers b c v x left (Ok tt)) → Sofar a c clean goal w x (told ++ g.told) []
sofar_gathered a b c clean goal w v x told left s g =
    sofar_more a b c clean goal w v x told g.told [] s (subst (λ z. Went b c [] g.told z) g.closes g.went) g.printed

-- messages were gathered, and then the client left
pub sofar_done : (a b c d : Moment) (clean : Bool) (goal : CollectGoal) (w v x : Option (List ℕ)) (told : List Happening) (left status : ℕ) → Sofar a b clean goal w v told []
    → left ≡ goal.count - length (flat_map handed told) → Gathers b c v x left (Ok tt) → Leaves c d → status ≡ 0 → Prints w x (IsCollectDone a d clean goal status)
sofar_done a b c d clean goal w v x told left status s wanted g leaves is =
    let more : List Happening = g.told in
    let counts : length (flat_map handed (told ++ more)) ≡ length (flat_map handed told) + length (flat_map handed more) =
    ap length (flat_map-append handed told more) ∙ length-append (flat_map handed told) (flat_map handed more) in
    let went : Went b c [] more [] = subst (λ z. Went b c [] more z) g.closes g.went in
    let all : Sofar a c clean goal w x (told ++ more) [] = sofar_more a b c clean goal w v x told more [] s went g.printed in
    let done : Collected a d clean goal (subscribed_line ++ flat_map told_line (told ++ more)) = record {
      granted = b;
      last = c;
      first = told;
      more = more;
      begun = s.went;
      went = went;
      answered = s.answered_is;
      enough = omega (arith, counts, wanted, g.enough);
      just = subst (λ n. IsJust b more n) wanted g.just;
      released = g.released;
      leaves = leaves;
      lines = refl;
    } in
    (subscribed_line ++ flat_map told_line (told ++ more), all.printed, inl (done, is))

-- ---- the output failed

-- without a message there is no line
no_lines : (hs : List Happening) → flat_map handed hs ≡ [] → flat_map told_line hs ≡ []
no_lines [] p = refl
no_lines (happens.Up present ∷ hs) p = no_lines hs p
no_lines (happens.Handed m ∷ hs) p = cc
no_lines (happens.Subscribe id requests ∷ hs) p = no_lines hs p
no_lines (happens.Unsubscribe id filters ∷ hs) p = no_lines hs p
no_lines (happens.SubAck id given ∷ hs) p = no_lines hs p
no_lines (happens.UnsubAck id ∷ hs) p = no_lines hs p
no_lines (happens.Pong ∷ hs) p = no_lines hs p

-- nothing was acknowledged
pub unprinted : (a b : Moment) (w v : Option (List ℕ)) → Unacknowledged a b → Grows w v → (line : List ℕ) × Unprinted a b line w v
unprinted a b w v u grows = (
  [],
  record {
    last = u.last;
    asks = u.asks;
    more = u.more;
    told = u.told;
    rest = u.rest;
    closed = [];
    reasons = u.reasons;
    before = u.before;
    after = u.after;
    silent = u.silent;
    front = grows.0;
    printed = subst (λ z. bytes.Appends w v (z ++ grows.0)) (sym (no_lines u.told u.none)) grows.1;
  },
)

-- everything is printed
pub sofar_prints : (a b : Moment) (clean : Bool) (goal : CollectGoal) (w v x : Option (List ℕ)) (told : List Happening) (rs : List CloseReason) → Sofar a b clean goal w v told rs → Grows v x
    → (line : List ℕ) × Unprinted a b line w x
sofar_prints a b clean goal w v x told rs s grows = (
  subscribed_line,
  record {
    last = b;
    asks = collects clean goal;
    more = [];
    told = told;
    rest = [];
    closed = rs;
    reasons = [];
    before = s.went;
    after = went_none b;
    silent = Keeps-refl b.written;
    front = grows.0;
    printed = subst (bytes.Appends w x) (append_assoc subscribed_line (flat_map told_line told) grows.0) (Appends-trans w v x _ _ s.printed grows.1);
  },
)

-- the output failed while messages were gathered
pub sofar_fails : (a b c : Moment) (clean : Bool) (goal : CollectGoal) (w v x : Option (List ℕ)) (told : List Happening) → Sofar a b clean goal w v told [] → Unprinted b c [] v x
    → (line : List ℕ) × Unprinted a c line w x
sofar_fails a b c clean goal w v x told s u = (
  subscribed_line,
  record {
    last = u.last;
    asks = collects clean goal ++ u.asks;
    more = u.more;
    told = told ++ u.told;
    rest = u.rest;
    closed = u.closed;
    reasons = u.reasons;
    before = went_then a b u.last (collects clean goal) u.asks told u.told [] u.closed s.went u.before;
    after = u.after;
    silent = u.silent;
    front = u.front;
    printed = subst (bytes.Appends w x) (lines_more told u.told u.front) (Appends-trans w v x _ _ s.printed u.printed);
  },
)

-- two facts of a result give a third
pub if_ok : {T E : Type 0} → (r : Result T E) (A : Type 0) (B C : T → Type 0) → OnOk r A → IfOk r B → ((x : T) → A → B x → C x) → IfOk r C
if_ok (Ok x) A B C a b f = f x a b
if_ok (Err e) A B C a b f = tt
