-- Sessions that continue.
use Rattle.std.proofs.Common.{◌≡◌, ◌⊎◌, ◌∙◌, List, ℕ, Result, Ok, Err, IfErr, IfOk, inl, inr, ap}
use Rattle.std.specs.Prelude.{IsErrOf}
use Rattle.mq_flow.specs.declared.load.LoadError.{LoadError}
use Rattle.mq_flow.specs.declared.load.LoadError.TheVariants.{AnotherClient, Memory, TooLarge}
use Rattle.mq_flow.specs.declared.saved.Saved.{Saved}
use Rattle.mq_flow.specs.Saved.{IsSession}
use Rattle.mq_flow.specs.SavedTwo.{IsSavedAs}
use Rattle.mq_end.specs.declared.config.ClientConfig.{ClientConfig}
use Rattle.mq_end.specs.End.{resumed}
use Rattle.mq_end.specs.Publishing.{ClientState}
use Rattle.mq_pubsub.specs.declared.setup.Setup.{Setup}
use Rattle.mq_pubsub.specs.Setups.{GoesOn, config_of}

-- the client has the session that was loaded
pub goes_on : (r : Result ClientState LoadError) (setup : Setup) (bytes : List ℕ) (config : ClientConfig) (saved : Saved) → config ≡ config_of setup → IsSavedAs saved bytes × IsSession saved.session
    → IfOk r (λ c. c.config ≡ config)
    → IfOk r (λ c. c.link.end ≡ resumed config.window saved.established saved.session.sender.book saved.session.receiver saved.session.sender.last)
    → IfOk r (λ c. c.link.capacity ≡ saved.session.sender.capacity) → IfOk r (GoesOn setup bytes)
goes_on (Ok c) setup bytes config saved is loads same end capacity = record {
  saved = saved;
  form = loads.0;
  session = loads.1;
  config = same ∙ is;
  end = end ∙ ap (λ (k : ClientConfig). resumed k.window saved.established saved.session.sender.book saved.session.receiver saved.session.sender.last) is;
  capacity = capacity;
}
goes_on (Err e) setup bytes config saved is loads same end capacity = tt

-- it is not another client's, and its messages are within the limit: then only memory ran out
pub only_memory : {N F : Type 0} (r : Result ClientState LoadError) → (IsErrOf r AnotherClient → N) → (IsErrOf r TooLarge → (N → ⊥) × (F → ⊥))
    → IfErr r (λ why. (why ≡ AnotherClient) ⊎ (why ≡ TooLarge)) → (N → ⊥) → F → IfErr r (λ why. why ≡ Memory)
only_memory (Ok c) another large only own fits = tt
only_memory (Err why) another large only own fits = elim only [ inl p ↦ absurd (own (another (ap Err p))) | inr p ↦ absurd ((large (ap Err p)).1 fits) ]
