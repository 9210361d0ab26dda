use Rattle.std.proofs.Common.{◌≡◌, sym, subst}
use Rattle.mq_flow.specs.declared.saved.Saved.{Saved}
use Rattle.mq_end.specs.declared.config.ClientConfig.{ClientConfig}
use Rattle.mq_end.specs.Resuming.{FitsWithin, NamesAnother}
use Rattle.mq_pubsub.specs.Setups.{config_of, greatest_length}
use Rattle.mq_pubsub.proofs.Resumed.{goes_on, only_memory}
use Rattle.mq_pubsub.proofs.setup.Setup.saved_client.Goals as goal

pub returns-in-Ok-clause-ok : goal.returns-in-Ok-clause-ok
returns-in-Ok-clause-ok c =
    let made = c.with_saved.ensures in
    goes_on c.with_saved.result c.args.self.now c.args.bytes.now c.in-Ok.config c.in_ok-saved.saved c.in-Ok.ensures c.in_ok-saved.ensures.loads made.config made.end made.capacity

pub returns-in-Ok-clause-loads : goal.returns-in-Ok-clause-loads
returns-in-Ok-clause-loads c saved can =
    let setup = c.args.self.now in
    let config : c.in-Ok.config ≡ config_of setup = c.in-Ok.ensures in
    let same : c.in_ok-saved.saved ≡ saved = c.in_ok-saved.ensures.saved saved can.session can.form in
    let read : Saved = c.in_ok-saved.saved in
    let own : NamesAnother read.client c.in-Ok.config.id → ⊥ =
    subst (λ (k : ClientConfig). NamesAnother read.client k.id → ⊥) (sym config) (subst (λ (s : Saved). NamesAnother s.client setup.id → ⊥) (sym same) can.own) in
    let fits : FitsWithin c.in-Ok.config.limits.most read.session =
    subst (λ (k : ClientConfig). FitsWithin k.limits.most read.session) (sym config) (subst (λ (s : Saved). FitsWithin greatest_length s.session) (sym same) can.fits) in
    let made = c.with_saved.ensures in
    only_memory c.with_saved.result made.another.0 made.too_large.0 made.only own fits
