-- A packet that was read at the front is one by the grammar.
use Rattle.std.proofs.Common.{◌≡◌, ℕ, List, take, Some, Ok, sym, subst}
use Rattle.mq_wire.specs.Bytes.{AreBytes}
use Rattle.mq_packet.specs.declared.packet.Packet.{Packet}
use Rattle.mq_decode.specs.Inside.Front.{front_at}
use Rattle.mq_decode.specs.Limits.{Bounds}
use Rattle.mq_decode.specs.Grammar.{ReadsWithin}
use Rattle.mq_decode.specs.declared.packet_view.PacketView.{PacketView}
use Rattle.mq_decode.specs.declared.packet_view.View.TheVariants as views
use Rattle.mq_decode.specs.Views.{packet_of}
use Rattle.mq_decode.proofs.FieldLaws.{Wire}
use Rattle.mq_decode.proofs.FrontFound.{view_is}

pub whole_reads : (w : Wire) (limit : Bounds) (b : List ℕ) (v : PacketView) (n : ℕ) (p : Packet) → AreBytes b → front_at limit b ≡ Ok (Some (packet_of v, n))
    → p ≡ packet_of v → ReadsWithin limit p (take n b)
whole_reads w limit b v n p bytes read is =
    subst (λ (q : Packet). ReadsWithin limit q (take n b)) (sym is) (view_is w limit b (views.Whole v n) bytes (sym read)).1
