-- The names that the source files of this crate cite. It declares none of its own.
pub use Rattle.std.specs.Borrow.{Bor}
pub use Rattle.std.specs.Io.{ReadsAtMost}
pub use Rattle.std.specs.Io.KnownBytes.{Consumes, IsAtEnd, ReadConsumes, Appends}
pub use Rattle.std.specs.IoError.{error_kind}
pub use Rattle.std.specs.List.{flat_map}
pub use Rattle.clap.specs.Words.{app_of, rule_of, subcommand_rows_of, App, Shape, new_app, shape_of, with_rule, with_subcommand, subcommand_of}
pub use Rattle.clap.specs.declared.builder.command.Command.TheViews.{out-Command}
pub use Rattle.hex.specs.Hex.{decode_of}
pub use Rattle.mq_decode.specs.Grammar.{Reading}
pub use Rattle.mq_decode.specs.Limits.{Bounds}
pub use Rattle.mq_decode.specs.declared.fault.DecodeFault.{DecodeFault}
pub use Rattle.mq_packet.specs.Lines.{Prints}
pub use Rattle.mq_packet.specs.declared.packet.Packet.{Packet}
pub use Rattle.mq_schedule.specs.Writing.{line_with, step_line}
pub use Rattle.mq_topic.specs.Matching.{is_match}
pub use Rattle.mq_world.specs.MadeUp.{made_event, made_qos, made_side, made_up}
pub use Rattle.mq_cli.specs.CommandLine.{HasWord, IsBroker, IsData, IsExpiry, IsKeep, IsLimit, IsOnFull, IsPatience, IsTime, full_word, keep_word, job_source, GivesFlag, GivesId, GivesNumber, GivesQos, GivesSource, GivesTexts, GivesWord, IsCollect, IsCommandOf, IsDraw, IsJobOf, IsMet, IsPublish, IsServe, IsSource}
pub use Rattle.mq_cli.specs.Inside.CommandLine.{IsDigitsJob}
pub use Rattle.mq_cli.specs.Count.{Counts, IsNotCounted, fault_of_stop}
pub use Rattle.mq_cli.specs.Inside.Count.{count_rest}
pub use Rattle.mq_cli.specs.Failure.{failure_status, IsOutputFailure}
pub use Rattle.mq_cli.specs.Grammar.{broker_words, limit_rule, with_data, with_extras, with_journal, with_limits, with_logs, with_patience, with_sessions, with_tables, bare_words, check_words, client_words, collect_words, file_rule, flag_rule, job_words, lenient_rule, match_words, number_rule, port_rule, program_words, publish_words, qos_rule, random_words, replay_words, serve_words, served_words, show_words, socket_words, stream_words, text_rule, texts_rule, word_words}
pub use Rattle.mq_cli.specs.Inside.Grammar.{command_named}
pub use Rattle.mq_cli.specs.Hexadecimal.{IsHexadecimal}
pub use Rattle.mq_cli.specs.Printed.{bad_hex, count_end_lines, count_lines, end_lines, fault_line, file_not_read, match_line, no_memory, packet_line, packets_line, shown_lines, topic_line, bad_line}
pub use Rattle.mq_cli.specs.Inside.Random.{event_line, event_of}
pub use Rattle.mq_cli.specs.Show.{Reads, Shows}
pub use Rattle.mq_cli.specs.Status.{IsCheckDone, IsDone, IsMatchDone, IsShowDone, count_status, end_status, match_status, widest, IsRandomDone, IsReplayDone, IsTextReplayed, IsStreamShown}
pub use Rattle.mq_cli.specs.Inside.Status.{end_of_rest}
pub use Rattle.mq_cli.specs.Stops.{OnMemory}
pub use Rattle.mq_cli.specs.Inside.Stops.{OnIo}
pub use Rattle.mq_cli.specs.declared.front.Stop.TheVariants.{Io}
