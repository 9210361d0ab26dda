-- A part of a step, compared with the definition of the step.
use Rattle.std.specs.Prelude.{◌≡◌, List}
use Rattle.mq_route.specs.declared.act.Act.{Act}
use Rattle.mq_route.specs.Hub.{HubState}
use Rattle.mq_route.specs.Work.{Work}

-- If a step has led to the broker `old` and the acts `said`, then with this change it leads to
-- `new` and `says`.
pub record Refines (change : Work → Work) (old : HubState) (said : List Act) (new : HubState) (says : List Act) : Type 0 where
  pub hub : (work : Work) → work.hub ≡ old → work.did ≡ said → (change work).hub ≡ new
  pub did : (work : Work) → work.hub ≡ old → work.did ≡ said → (change work).did ≡ says
