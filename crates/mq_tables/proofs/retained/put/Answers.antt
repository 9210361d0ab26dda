use Rattle.std.proofs.Common.{◌≡◌, ℕ, ◌∙◌, List, sym, ap, subst}
use Rattle.std.specs.Str.{bytes_eq}
use Rattle.indexmap.specs.IndexMap.{insert_entry}
use Rattle.mq_packet.specs.declared.message.Message.{Message}
use Rattle.mq_tables.proofs.RetainedEntries.{AreNamed, messages_of, inserted, inserted_named, entries_in}
use Rattle.mq_tables.proofs.retained.put.Goals as goal

pub returns-clause-kept : goal.returns-clause-kept
returns-clause-kept c =
    let es = c.args.by_name.now.entries in
    let m = c.args.message in
    let new = c.insert.new.self.entries in
    let done : new ≡ insert_entry bytes_eq es c.args.name m = entries_in (new ≡ insert_entry bytes_eq es c.args.name m) c.insert.result (c.insert.ensures.succeeds c.requires.room) c.insert.ensures.entries in
    let own : new ≡ insert_entry bytes_eq es m.topic m = done ∙ ap (λ (n : List ℕ). insert_entry bytes_eq es n m) c.requires.name in
    record {
      named = subst (λ (rs : List (List ℕ × Message)). AreNamed rs) (sym own) (inserted_named m es c.requires.kept.named);
      once = c.insert.ensures.unique;
    }

pub returns-clause-messages : goal.returns-clause-messages
returns-clause-messages c =
    let es = c.args.by_name.now.entries in
    let m = c.args.message in
    let new = c.insert.new.self.entries in
    let done : new ≡ insert_entry bytes_eq es c.args.name m = entries_in (new ≡ insert_entry bytes_eq es c.args.name m) c.insert.result (c.insert.ensures.succeeds c.requires.room) c.insert.ensures.entries in
    ap messages_of done ∙ ap (λ (n : List ℕ). messages_of (insert_entry bytes_eq es n m)) c.requires.name ∙ inserted m es c.requires.kept.named c.requires.kept.once
