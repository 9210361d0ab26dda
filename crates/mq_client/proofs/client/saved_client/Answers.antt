use Rattle.std.proofs.Common.{◌≡◌, ◌∙◌, ap, sym, subst}
use Rattle.mq_flow.specs.declared.saved.Saved.{Saved}
use Rattle.mq_end.specs.declared.config.ClientConfig.{ClientConfig}
use Rattle.mq_end.specs.Resuming.{FitsWithin, NamesAnother}
use Rattle.mq_client.specs.Program.{most_packet, program_config}
use Rattle.mq_client.proofs.Resumed.{goes_on, only_memory}
use Rattle.mq_client.proofs.client.saved_client.Goals as goal

pub returns-in-Ok-clause-ok : goal.returns-in-Ok-clause-ok
returns-in-Ok-clause-ok c =
    let own : c.config_of.result ≡ program_config c.args.id.now = c.config_of.ensures ∙ ap program_config c.in-Ok.ensures.cases in
    let made = c.with_saved.ensures in
    goes_on c.with_saved.result c.args.id.now c.args.bytes.now c.config_of.result c.in_ok-saved.saved own c.in_ok-saved.ensures.loads made.config made.end made.capacity

pub returns-in-Ok-clause-loads : goal.returns-in-Ok-clause-loads
returns-in-Ok-clause-loads c saved can =
    let config : c.config_of.result ≡ program_config c.args.id.now = c.config_of.ensures ∙ ap program_config c.in-Ok.ensures.cases in
    let same : c.in_ok-saved.saved ≡ saved = c.in_ok-saved.ensures.saved saved can.session can.form in
    let read : Saved = c.in_ok-saved.saved in
    let own : NamesAnother read.client c.config_of.result.id → ⊥ =
    subst (λ (k : ClientConfig). NamesAnother read.client k.id → ⊥) (sym config) (subst (λ (s : Saved). NamesAnother s.client c.args.id.now → ⊥) (sym same) can.own) in
    let fits : FitsWithin c.config_of.result.limits.most read.session =
    subst (λ (k : ClientConfig). FitsWithin k.limits.most read.session) (sym config) (subst (λ (s : Saved). FitsWithin most_packet s.session) (sym same) can.fits) in
    let made = c.with_saved.ensures in
    only_memory c.with_saved.result made.another.0 made.too_large.0 made.only own fits
