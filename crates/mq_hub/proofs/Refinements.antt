-- Parts of a broker's step, one after another.
use Rattle.std.proofs.Common.{◌≡◌, List, ◌∙◌}
use Rattle.mq_route.specs.declared.act.Act.{Act}
use Rattle.mq_route.specs.Hub.{HubState}
use Rattle.mq_route.specs.Work.{Work}
use Rattle.mq_hub.specs.Inside.Refinement.{Refines}

-- nothing is done
pub goes_on : (h : HubState) (said : List Act) → Refines (λ w. w) h said h said
goes_on h said = record { hub = λ w e f. e; did = λ w e f. f }

-- one change after another
pub goes_then : (first second : Work → Work) (a b c : HubState) (x y z : List Act) → Refines first a x b y → Refines second b y c z → Refines (λ w. second (first w)) a x c z
goes_then first second a b c x y z p q = record {
  hub = λ w e f. q.hub (first w) (p.hub w e f) (p.did w e f);
  did = λ w e f. q.did (first w) (p.hub w e f) (p.did w e f);
}

-- a change of the broker alone
pub goes_to : (change : Work → Work) (a b : HubState) (x : List Act) → ((w : Work) → w.hub ≡ a → (change w).hub ≡ b) → ((w : Work) → (change w).did ≡ w.did) → Refines change a x b x
goes_to change a b x to still = record { hub = λ w e f. to w e; did = λ w e f. still w ∙ f }
