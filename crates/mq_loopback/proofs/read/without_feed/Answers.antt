use Rattle.std.proofs.Common.{Bor, List, ℕ, ap, ◌∙◌, lit<}
use Rattle.std.proofs.lemmas.Str.Pattern.{strip_suffix_char}
use Rattle.mq_schedule.proofs.Cuts.{feed_gone}
use Rattle.mq_loopback.proofs.read.without_feed.Goals as goal

pub returns : goal.returns
returns c =
    let cut = strip_suffix_char 10 c.args.text.now c.strip_suffix.result c.strip_suffix.ensures.cases (lit< tt) in
    ap (λ (t : Bor (List ℕ)). t.now) c.unwrap_or.ensures ∙ feed_gone c.args.text c.strip_suffix.result cut
