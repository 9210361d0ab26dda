-- Sessions that continue.
use Rattle.std.proofs.Common.{◌≡◌, ◌⊎◌, ◌∙◌, List, ℕ, Option, Result, Ok, Err, IfErr, IfOk, inl, inr, ◌++◌, ap, refl, false}
use Rattle.std.proofs.KnownBytes.{Appends-kept, Appends-trans}
use Rattle.std.specs.Prelude.{IsErrOf}
use Rattle.std.specs.Io.KnownBytes.{Appends, Keeps}
use Rattle.mq_packet.specs.Lines.{Prints}
use Rattle.mq_flow.specs.declared.load.LoadError.{LoadError}
use Rattle.mq_flow.specs.declared.load.LoadError.TheVariants.{AnotherClient, Memory, TooLarge}
use Rattle.mq_flow.specs.declared.saved.Saved.{Saved}
use Rattle.mq_flow.specs.Saved.{IsSession}
use Rattle.mq_flow.specs.SavedTwo.{IsSavedAs}
use Rattle.mq_end.specs.declared.config.ClientConfig.{ClientConfig}
use Rattle.mq_end.specs.End.{resumed}
use Rattle.mq_end.specs.Publishing.{ClientState}
use Rattle.mq_client.specs.declared.publisher.Publications.{Publications}
use Rattle.mq_client.specs.Course.{Moment}
use Rattle.mq_client.specs.Printed.{resumed_line}
use Rattle.mq_client.specs.Program.{GoesOn, program_config}
use Rattle.mq_client.specs.Publishing.{IsPublishDone, IsResumeDone, resumed_of}

-- the count was printed, and then what `publish` prints
pub resumed_then : {E : Type 0} → (r : Result ℕ E) (a b : Moment) (t : Publications) (w v x y : Option (List ℕ)) → Appends w v (resumed_line (resumed_of a.client.link.end)) → Keeps v x
    → IfOk r (λ status. Prints x y (IsPublishDone a b false t status)) → IfOk r (λ status. Prints w y (IsResumeDone a b t status))
resumed_then (Ok status) a b t w v x y line keeps p = (resumed_line (resumed_of a.client.link.end) ++ p.0, Appends-trans w x y _ _ (Appends-kept w v x _ line keeps) p.1, (p.0, refl, p.2))
resumed_then (Err e) a b t w v x y line keeps p = tt

-- the client has the session that was loaded
pub goes_on : (r : Result ClientState LoadError) (id bytes : List ℕ) (config : ClientConfig) (saved : Saved) → config ≡ program_config id → IsSavedAs saved bytes × IsSession saved.session
    → IfOk r (λ c. c.config ≡ config)
    → IfOk r (λ c. c.link.end ≡ resumed config.window saved.established saved.session.sender.book saved.session.receiver saved.session.sender.last)
    → IfOk r (λ c. c.link.capacity ≡ saved.session.sender.capacity) → IfOk r (GoesOn id bytes)
goes_on (Ok c) id bytes config saved is loads same end capacity = record {
  saved = saved;
  form = loads.0;
  session = loads.1;
  config = same ∙ is;
  end = end ∙ ap (λ (k : ClientConfig). resumed k.window saved.established saved.session.sender.book saved.session.receiver saved.session.sender.last) is;
  capacity = capacity;
}
goes_on (Err e) id bytes config saved is loads same end capacity = tt

-- it is not another client's, and its messages are within the limit: then only memory ran out
pub only_memory : {N F : Type 0} (r : Result ClientState LoadError) → (IsErrOf r AnotherClient → N) → (IsErrOf r TooLarge → (N → ⊥) × (F → ⊥))
    → IfErr r (λ why. (why ≡ AnotherClient) ⊎ (why ≡ TooLarge)) → (N → ⊥) → F → IfErr r (λ why. why ≡ Memory)
only_memory (Ok c) another large only own fits = tt
only_memory (Err why) another large only own fits = elim only [ inl p ↦ absurd (own (another (ap Err p))) | inr p ↦ absurd ((large (ap Err p)).1 fits) ]
