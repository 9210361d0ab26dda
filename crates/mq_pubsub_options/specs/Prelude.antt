-- The names that the source files of this crate cite. It declares none of its own.
pub use Rattle.clap.specs.Words.{first_value, found_of, one_text, app_of, rule_of, with_rule}
pub use Rattle.clap.specs.declared.parser.matches.Found.{Found}
pub use Rattle.mq_pubsub_options.specs.Grammar.{bare_app, common_rules, number_rule, publish_app, subscribe_app, text_rule, with_rules}
pub use Rattle.mq_pubsub_options.specs.Inside.Grammar.{named_rule_of, rule_of_row}
pub use Rattle.mq_pubsub_options.specs.Options.{IsCommon, IsLongestWait, IsNumberOr, IsWillOf, ArePayloads, IsDelay, IsFlag, IsKind, IsPublish, IsTopicOf, AreFilters, IsNumber, IsPrinted, IsRetained, IsStyle, IsSubscribe, filters_of, texts_of, IsQuality, IsTime}
pub use Rattle.mq_pubsub_options.specs.Inside.Options.{IsLoginPart, first_of_three}
pub use Rattle.mq_pubsub_options.specs.Seconds.{IsDuration, IsFraction, IsWhole}
