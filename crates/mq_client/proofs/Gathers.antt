-- The progress of the printing of messages.
use Rattle.std.proofs.Common.{◌≡◌, ◌-◌, ◌+◌, ℕ, List, [], ◌∷◌, ◌++◌, Option, length, flat_map, sym, ap, subst, ◌∙◌, append-nil, append_assoc, length-append, arith, ◌<◌, ◌⊎◌, inl, inr, true, false, refl, Ok, take, drop, get_or, take-append-drop, Err}
use Rattle.std.proofs.lemmas.List.{take_more}
use Rattle.std.proofs.KnownBytes.{Appends-nil, Appends-trans}
use Rattle.std.proofs.lemmas.Grind.{flat_map-append}
use Rattle.std.specs.Io.KnownBytes.{Appends, Keeps}
use Rattle.mq_end.specs.declared.happening.Happening.{Happening}
use Rattle.mq_end.specs.declared.reason.CloseReason.{CloseReason}
use Rattle.mq_client.specs.declared.error.ClientError.{ClientError}
use Rattle.mq_client.specs.Halts.{Reports, halt_closes}
use Rattle.mq_client.specs.Course.{Moment, Went}
use Rattle.mq_flow.specs.Receiver.{none_received}
use Rattle.mq_end.specs.End.{is_up}
use Rattle.mq_end.specs.Publishing.{ClientState}
use Rattle.mq_client.specs.Collecting.{Grows, IsJust, IsNeeded, Unprinted, handed}
use Rattle.mq_client.specs.Inside.Collecting.{Gathers}
use Rattle.mq_client.specs.Printed.{told_line}
use Rattle.mq_client.proofs.Courses.{reports_none, went_none, went_on, went_still}

-- the happenings are printed, `left` messages are still wanted, and the last read was needed
pub record Gathering (a b : Moment) (old new : Option (List ℕ)) (count left : ℕ) : Type 0 where
  pub told : List Happening
  pub went : Went a b [] told []
  pub printed : Appends old new (flat_map told_line told)
  pub wanted : left ≡ count - length (flat_map handed told)
  pub just : IsJust a told count

pub gathering_none : (a : Moment) (w : Option (List ℕ)) (n : ℕ) → Gathering a a w w n n
gathering_none a w n = record {
  told = [];
  went = went_none a;
  printed = Appends-nil w;
  wanted = omega arith;
  just = record { last = a; before = []; after = []; parts = refl; went = went_none a; needed = inl refl };
}

-- there is a reason to read on
pub needed_now : (c : ClientState) (count left n : ℕ) → left ≡ count - n → (0 < left) ⊎ ((c.link.end.received ≡ none_received → ⊥) ⊎ (is_up c.link.end.state ≡ false)) → IsNeeded c n count
needed_now c count left n wanted why = elim why [ inl more ↦ inl (omega (arith, wanted, more)) | inr other ↦ inr other ]

-- more happenings, which are printed
pub gathering_more : (a b c d : Moment) (u v w : Option (List ℕ)) (count left more : ℕ) (hs : List Happening) (ss : List CloseReason) (g : Gathering a b u v count left)
    → Went b c [] hs ss → Appends v w (flat_map told_line hs) → more ≡ left - length (flat_map handed hs) → ss ≡ [] → Went c d [] [] []
    → (0 < left) ⊎ ((b.client.link.end.received ≡ none_received → ⊥) ⊎ (is_up b.client.link.end.state ≡ false)) → Gathering a d u w count more
gathering_more a b c d u v w count left more hs ss g went printed wanted none after why =
    let read : Went b d [] hs [] = subst (λ z. Went b d [] hs z) none (went_still b c d [] hs ss went after) in
    let counts : length (flat_map handed (g.told ++ hs)) ≡ length (flat_map handed g.told) + length (flat_map handed hs) =
    ap length (flat_map-append handed g.told hs) ∙ length-append (flat_map handed g.told) (flat_map handed hs) in
    record {
      told = g.told ++ hs;
      went = went_on a b d [] g.told hs [] g.went read;
      printed = subst (Appends u w) (sym (flat_map-append told_line g.told hs)) (Appends-trans u v w _ _ g.printed printed);
      wanted = omega (arith, wanted, g.wanted, counts);
      just = record {
        last = b;
        before = g.told;
        after = hs;
        parts = refl;
        went = g.went;
        needed = inr (needed_now b.client count left (length (flat_map handed g.told)) g.wanted why);
      };
    }

-- enough was delivered
pub gathered : (a b : Moment) (u v : Option (List ℕ)) (count left : ℕ) → Gathering a b u v count left
    → (left ≡ 0) × (b.client.link.end.received ≡ none_received) × (is_up b.client.link.end.state ≡ true) → Gathers a b u v count (Ok tt)
gathered a b u v count left g whole = record {
  told = g.told;
  reasons = [];
  went = g.went;
  closes = refl;
  printed = g.printed;
  enough = omega (arith, g.wanted, whole.0);
  just = g.just;
  released = whole.1;
  up = whole.2;
}

-- one of the happenings was counted
pub left_next : (hs : List Happening) (i : ℕ) (d : Happening) (start left more : ℕ) → i < length hs → left ≡ start - length (flat_map handed (take i hs))
    → more ≡ left - length (handed (get_or hs i d)) → more ≡ start - length (flat_map handed (take (i + 1) hs))
left_next hs i d start left more within before counted =
    let parts : length (flat_map handed (take (i + 1) hs)) ≡ length (flat_map handed (take i hs)) + length (handed (get_or hs i d)) =
    ap (λ z. length (flat_map handed z)) (take_more hs i d within) ∙ ap length (flat_map-append handed (take i hs) (get_or hs i d ∷ []) ∙ ap (λ z. flat_map handed (take i hs) ++ z) (append-nil (handed (get_or hs i d)))) ∙ length-append (flat_map handed (take i hs)) (handed (get_or hs i d)) in
    omega (arith, before, counted, parts)

-- the item of a list, and those before and after it
pub parted : (hs : List Happening) (i : ℕ) (h : Happening) → i < length hs → h ≡ get_or hs i h → hs ≡ take i hs ++ h ∷ drop (i + 1) hs
parted hs i h within is =
    sym (take-append-drop (i + 1) hs) ∙ ap (λ z. z ++ drop (i + 1) hs) (take_more hs i h within) ∙ append_assoc (take i hs) (get_or hs i h ∷ []) (drop (i + 1) hs) ∙ ap (λ z. take i hs ++ z ∷ drop (i + 1) hs) (sym is)

-- the program stops without more happenings
pub gathered_lost : (a b c : Moment) (u v : Option (List ℕ)) (count left : ℕ) (h : ClientError) → Gathering a b u v count left → Went b c [] [] [] → halt_closes h ≡ []
    → Gathers a c u v count (Err h)
gathered_lost a b c u v count left h g went none = record {
  told = g.told;
  reasons = [];
  went = went_still a b c [] g.told [] g.went went;
  closes = reports_none h none;
  printed = g.printed;
  enough = tt;
  just = tt;
  released = tt;
  up = tt;
}

-- the program stops, and all messages are printed
pub gathered_more : (a b c d : Moment) (u v w : Option (List ℕ)) (count left : ℕ) (hs : List Happening) (ss : List CloseReason) (h : ClientError) → Gathering a b u v count left
    → Went b c [] hs ss → Appends v w (flat_map told_line hs) → Went c d [] [] [] → Reports h ss → Gathers a d u w count (Err h)
gathered_more a b c d u v w count left hs ss h g went printed after reports = record {
  told = g.told ++ hs;
  reasons = ss;
  went = went_on a b d [] g.told hs ss g.went (went_still b c d [] hs ss went after);
  closes = reports;
  printed = subst (Appends u w) (sym (flat_map-append told_line g.told hs)) (Appends-trans u v w _ _ g.printed printed);
  enough = tt;
  just = tt;
  released = tt;
  up = tt;
}

-- the output failed
pub gather_fails : (a b c : Moment) (u v w : Option (List ℕ)) (count left : ℕ) (hs : List Happening) (ss : List CloseReason) → Gathering a b u v count left
    → Went b c [] hs ss → Keeps b.written c.written → Grows v w → Unprinted a c [] u w
gather_fails a b c u v w count left hs ss g went silent grows = record {
  last = b;
  asks = [];
  more = [];
  told = g.told;
  rest = hs;
  closed = [];
  reasons = ss;
  before = g.went;
  after = went;
  silent = silent;
  front = grows.0;
  printed = Appends-trans u v w _ _ g.printed grows.1;
}
