-- A store that was opened.
use Rattle.std.proofs.Common.{◌≡◌, ◌⊎◌, inl, inr, ℕ, List, [], refl, sym, ap, subst, ◌∙◌}
use Rattle.mq_route.specs.Begun.{MayBegin}
use Rattle.mq_route.specs.declared.config.HubConfig.{HubConfig}
use Rattle.mq_route.specs.Hub.{HubState, new_hub}
use Rattle.mq_log.specs.Blocks.{at_rest}
use Rattle.mq_durable.specs.declared.condition.Condition.TheVariants.{Sound}
use Rattle.mq_durable.specs.State.{DurableState}
use Rattle.mq_file.specs.declared.journal_file.JournalFile.{JournalFile}
use Rattle.mq_file.specs.History.{seen_after}
use Rattle.mq_store.specs.Restoring.{IsFound, IsOpened, IsRestored}
use Rattle.mq_store.proofs.Restores.{no_events}

pub found_new : (config : HubConfig) (hub : HubState) → hub ≡ new_hub config → IsFound config hub 0
found_new config hub is = inl (is, refl)

pub found_saved : (config : HubConfig) (file journal : List ℕ) (hub : HubState) (events : ℕ) → IsRestored config file journal hub events → IsFound config hub events
found_saved config file journal hub events restored = inr (file, (journal, restored))

pub opened : (config : HubConfig) (hub : HubState) (durable : DurableState JournalFile) (disk : JournalFile) (events clock : ℕ)
    → durable ≡ record { base = hub; hub = hub; pending = []; disk = disk; condition = Sound }
    → seen_after disk ≡ at_rest [] → MayBegin hub → clock ≡ hub.clock → IsFound config hub events → IsOpened config durable events clock
opened config hub durable disk events clock is begun may timed found =
    subst (λ (d : DurableState JournalFile). IsOpened config d events clock) (sym is) record {
      found = found;
      may_begin = may;
      base = refl;
      pending = refl;
      recorded = no_events (seen_after disk) begun;
      sound = refl;
      clock_is = timed;
    }
