-- The verdict on a journal and on receipts.
use Rattle.std.specs.Prelude.{◌≡◌, ◌⊎◌, ◌↔◌, Bool, false, IsTrue, List, map, Vec}
use Rattle.std.specs.List.{AllByRecursion}
use Rattle.std.specs.declared.alloc.Global.{Global}
use Rattle.mq_route.specs.declared.config.HubConfig.{HubConfig}
use Rattle.mq_route.specs.declared.event.HubEvent.{HubEvent}
use Rattle.mq_route.specs.declared.refusal.HubRefusal.{HubRefusal}
use Rattle.mq_route.specs.declared.reply.HubReply.{HubReply}
use Rattle.mq_route.specs.declared.trace.HubTrace.{HubTrace}
use Rattle.mq_route.specs.Hub.{HubState, new_hub}
use Rattle.mq_route.specs.Runs.{IsRun}
use Rattle.mq_hub.specs.Run.{IsRefused}
use Rattle.mq_book.specs.declared.entry.Entry.{Entry}
use Rattle.mq_book.specs.declared.entry.Receipt.{Receipt}
use Rattle.mq_book.specs.Pages.{Sealed}
use Rattle.mq_book.specs.Receipts.{Stand}
use Rattle.mq_loopback.specs.declared.verdict.Verdict.{Verdict}

-- the events, and the replies, of entries
abbrev pub events_in : List Entry → List HubEvent
events_in entries = map (λ e. e.event) entries

abbrev pub replies_in : List Entry → List HubReply
replies_in entries = map (λ e. e.reply) entries

-- The events of the entries came to a new broker, one after another, and its replies were those of
-- the entries, or they were not.
pub record IsReplay (config : HubConfig) (entries : List Entry) (equal : Bool) : Type 0 where
  pub hub : HubState
  pub trace : HubTrace
  pub run : IsRun config (events_in entries) hub trace
  pub says : IsTrue equal ↔ (trace.replies ≡ replies_in entries)

-- The broker refused one of them.
pub record IsBroken (config : HubConfig) (entries : List Entry) (equal : Bool) : Type 0 where
  pub why : HubRefusal
  pub refused : IsRefused (new_hub config) (events_in entries) why
  pub differs : equal ≡ false

abbrev pub IsReplayed : HubConfig → List Entry → Bool → Type 0
IsReplayed config entries equal = IsReplay config entries equal ⊎ IsBroken config entries equal

-- The receipts of each worker are in the journal, in order.
abbrev pub AllStand : Sealed → List (Vec Receipt Global) → Type 0
AllStand journal receipts = AllByRecursion (λ r. Stand journal.first journal.entries 0 r.items) receipts

-- The verdict on a journal and on the receipts of workers.
pub record IsVerdict (config : HubConfig) (journal : Sealed) (receipts : List (Vec Receipt Global)) (verdict : Verdict) : Type 0 where
  pub replayed : IsReplayed config journal.entries verdict.is_equal
  pub audited : IsTrue verdict.is_audited ↔ AllStand journal receipts
