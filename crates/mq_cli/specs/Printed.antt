-- The output of the program, line by line.
use Rattle.std.specs.Prelude.{ℕ, Bool, true, false, List, [], ◌++◌, codes, decimal}
use Rattle.std.specs.List.{flat_map}
use Rattle.mq_packet.specs.declared.packet.Packet.{Packet}
use Rattle.mq_decode.specs.declared.fault.DecodeFault.{DecodeFault}
use Rattle.mq_decode.specs.Fault.{fault_code}
use Rattle.mq_topic.specs.Fault.{topic_code}
use Rattle.mq_topic.specs.declared.fault.TopicFault.{TopicFault}
use Rattle.mq_cli.specs.declared.stream.StreamEnd.{StreamEnd}
use Rattle.mq_cli.specs.declared.stream.StreamEnd.TheVariants.{Whole, Held, Fault}
use Rattle.mq_cli.specs.declared.count.PacketCount.{PacketCount}
use Rattle.mq_cli.specs.declared.count.CountEnd.{CountEnd}
use Rattle.mq_cli.specs.declared.count.CountEnd.TheVariants as ends
use Rattle.mq_packet.specs.Lines.{packet_text}

abbrev pub no_memory : List ℕ
no_memory = codes "out of memory\n"

abbrev pub bad_hex : List ℕ
bad_hex = codes "bad hex\n"

abbrev pub file_not_read : List ℕ
file_not_read = codes "file not read\n"

-- The code of the fault, its place in its packet, and the place of the packet.
abbrev pub fault_line : DecodeFault → ℕ → List ℕ
fault_line fault start = codes "fault " ++ (fault_code fault.kind ++ (codes " at " ++ (decimal fault.place ++ (codes " in packet at " ++ (decimal start ++ codes "\n")))))

-- ---- show

abbrev pub packet_line : Packet → List ℕ
packet_line packet = packet_text packet ++ codes "\n"

abbrev pub end_lines : StreamEnd → List ℕ
end_lines Whole = []
end_lines (Held count) = codes "held " ++ (decimal count ++ codes "\n")
end_lines (Fault fault start) = fault_line fault start

-- the packets in order, and how they end
abbrev pub shown_lines : List Packet → StreamEnd → List ℕ
shown_lines packets end = flat_map packet_line packets ++ end_lines end

-- ---- check

abbrev pub count_end_lines : CountEnd → List ℕ
count_end_lines ends.Whole = []
count_end_lines ends.Cut = codes "cut\n"
count_end_lines (ends.Fault fault start) = fault_line fault start

abbrev pub packets_line : ℕ → List ℕ
packets_line packets = codes "packets " ++ (decimal packets ++ codes "\n")

-- how many packets there are, and how they end
abbrev pub count_lines : PacketCount → List ℕ
count_lines count = packets_line count.packets ++ count_end_lines count.end

-- ---- match

-- The kind of text that was expected, and the code of the fault.
abbrev pub topic_line : List ℕ → TopicFault → List ℕ
topic_line kind fault = kind ++ (codes " " ++ (topic_code fault ++ codes "\n"))

-- whether the filter matches
abbrev pub match_line : Bool → List ℕ
match_line true = codes "yes\n"
match_line false = codes "no\n"

-- ---- replay

-- the number of a line that is of no kind, counted from 1
abbrev pub bad_line : ℕ → List ℕ
bad_line line = codes "line " ++ (decimal line ++ codes ": not an event\n")
