use Rattle.std.proofs.Common.{List, ℕ, Some, ap, string_bytes, ◌∙◌}
use Rattle.mq_file.specs.FolderHistory.{files_after}
use Rattle.mq_file.specs.Named.{IsEitherPair, IsSwitched, Throughout}
use Rattle.mq_store.specs.Continued.{journal_path, snapshot_path}
use Rattle.mq_store.specs.Inside.Continued.{next_path}
use Rattle.mq_store.proofs.Continuing.{at_names}
use Rattle.mq_store.proofs.data_folder.DataFolder.switch.Goals as goal

pub returns-in_err-switch-clause-at_any_time : goal.returns-in_err-switch-clause-at_any_time
returns-in_err-switch-clause-at_any_time g c =
    at_names (string_bytes c.args.self.now.path) c.args.self.now.nth c.args.nth c.as_str-2.result.now c.as_str-3.result.now c.as_str-4.result.now c.as_str-5.result.now
    (λ s f t. Throughout (IsEitherPair s c.args.bytes.now f t) (Some (files_after c.args.self.now.folder)) (Some (files_after c.switch.new.self)))
    (c.as_str-2.ensures.value ∙ c.in_ok-names.ensures.next ∙ ap next_path c.as_str.ensures.value)
    (c.as_str-3.ensures.value ∙ c.in_ok-names.ensures.snapshot ∙ ap snapshot_path c.as_str.ensures.value)
    (c.as_str-4.ensures.value ∙ c.in_ok-names.ensures.first ∙ ap (λ (path : List ℕ). journal_path path c.args.self.now.nth) c.as_str.ensures.value)
    (c.as_str-5.ensures.value ∙ c.in_ok-names.ensures.second ∙ ap (λ (path : List ℕ). journal_path path c.args.nth) c.as_str.ensures.value)
    c.ranges.nth.fits c.switch.ensures.at_any_time

pub returns-in-Ok-clause-at_any_time : goal.returns-in-Ok-clause-at_any_time
returns-in-Ok-clause-at_any_time g c =
    at_names (string_bytes c.args.self.now.path) c.args.self.now.nth c.args.nth c.as_str-2.result.now c.as_str-3.result.now c.as_str-4.result.now c.as_str-5.result.now
    (λ s f t. Throughout (IsEitherPair s c.args.bytes.now f t) (Some (files_after c.args.self.now.folder)) (Some (files_after c.switch.new.self)))
    (c.as_str-2.ensures.value ∙ c.in_ok-names.ensures.next ∙ ap next_path c.as_str.ensures.value)
    (c.as_str-3.ensures.value ∙ c.in_ok-names.ensures.snapshot ∙ ap snapshot_path c.as_str.ensures.value)
    (c.as_str-4.ensures.value ∙ c.in_ok-names.ensures.first ∙ ap (λ (path : List ℕ). journal_path path c.args.self.now.nth) c.as_str.ensures.value)
    (c.as_str-5.ensures.value ∙ c.in_ok-names.ensures.second ∙ ap (λ (path : List ℕ). journal_path path c.args.nth) c.as_str.ensures.value)
    c.ranges.nth.fits c.switch.ensures.at_any_time

pub returns-clause-at_any_time : goal.returns-clause-at_any_time
returns-clause-at_any_time g c =
    at_names (string_bytes c.args.self.now.path) c.args.self.now.nth c.args.nth c.as_str-2.result.now c.as_str-3.result.now c.as_str-4.result.now c.as_str-5.result.now
    (λ s f t. Throughout (IsEitherPair s c.args.bytes.now f t) (Some (files_after c.args.self.now.folder)) (Some (files_after c.switch.new.self)))
    (c.as_str-2.ensures.value ∙ c.in_ok-names.ensures.next ∙ ap next_path c.as_str.ensures.value)
    (c.as_str-3.ensures.value ∙ c.in_ok-names.ensures.snapshot ∙ ap snapshot_path c.as_str.ensures.value)
    (c.as_str-4.ensures.value ∙ c.in_ok-names.ensures.first ∙ ap (λ (path : List ℕ). journal_path path c.args.self.now.nth) c.as_str.ensures.value)
    (c.as_str-5.ensures.value ∙ c.in_ok-names.ensures.second ∙ ap (λ (path : List ℕ). journal_path path c.args.nth) c.as_str.ensures.value)
    c.ranges.nth.fits c.switch.ensures.at_any_time

pub returns-in-Ok-clause-saved : goal.returns-in-Ok-clause-saved
returns-in-Ok-clause-saved g c =
    at_names (string_bytes c.args.self.now.path) c.args.self.now.nth c.args.nth c.as_str-2.result.now c.as_str-3.result.now c.as_str-4.result.now c.as_str-5.result.now
    (λ s f t. IsSwitched s c.args.bytes.now f t (files_after c.args.self.now.folder).now (files_after c.switch.new.self).now)
    (c.as_str-2.ensures.value ∙ c.in_ok-names.ensures.next ∙ ap next_path c.as_str.ensures.value)
    (c.as_str-3.ensures.value ∙ c.in_ok-names.ensures.snapshot ∙ ap snapshot_path c.as_str.ensures.value)
    (c.as_str-4.ensures.value ∙ c.in_ok-names.ensures.first ∙ ap (λ (path : List ℕ). journal_path path c.args.self.now.nth) c.as_str.ensures.value)
    (c.as_str-5.ensures.value ∙ c.in_ok-names.ensures.second ∙ ap (λ (path : List ℕ). journal_path path c.args.nth) c.as_str.ensures.value)
    c.ranges.nth.fits c.in_ok-switch.ensures.ok
