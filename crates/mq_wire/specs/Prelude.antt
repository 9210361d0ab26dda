-- The names that the source files of this crate cite. It declares none of its own.
pub use Rattle.std.specs.Cmp.{partial_equiv_from_equiv}
pub use Rattle.std.specs.Cmp.Lexicographic.{pointwise, slice_cmp, nat_list_eq_equiv, nat_list_cmp_total, texts_ties, texts_po}
pub use Rattle.std.specs.Cmp.Rules.{hashing}
pub use Rattle.std.specs.List.{list_any}
pub use Rattle.std.specs.Ordering.{nat_cmp}
pub use Rattle.mq_wire.specs.Length.{Length}
pub use Rattle.mq_wire.specs.Number.{NumberLaws, number, number_in}
pub use Rattle.mq_wire.specs.Reading.{IsSmall, LengthLaws, last_byte, read_length}
pub use Rattle.mq_wire.specs.Steps.{Continue, IsStep}
pub use Rattle.mq_wire.specs.Text.{IsText, has_nul}
pub use Rattle.mq_wire.specs.Inside.Text.{is_special}
pub use Rattle.mq_wire.specs.TextReading.{TextLaws, checked_text, read_text}
pub use Rattle.mq_wire.specs.Inside.Value.{value_of}
