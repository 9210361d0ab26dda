use Rattle.mq_wire.specs.declared.length_reading.LengthReading.TheVariants.{Unfinished, TooLong, Overlong}
use Rattle.mq_bytes.proofs.Located.{start_found, no_start}
use Rattle.mq_bytes.proofs.front_fields.fields_start.Goals as goal

pub returns-in-Whole : goal.returns-in-Whole
returns-in-Whole c = start_found c.length_laws.ensures _ _ _ c.in-Whole.ensures.read

pub returns-in-Unfinished : goal.returns-in-Unfinished
returns-in-Unfinished c = no_start c.length_laws.ensures _ Unfinished tt c.in-Unfinished.ensures.read

pub returns-in-TooLong : goal.returns-in-TooLong
returns-in-TooLong c = no_start c.length_laws.ensures _ TooLong tt c.in-TooLong.ensures.read

pub returns-in-Overlong : goal.returns-in-Overlong
returns-in-Overlong c = no_start c.length_laws.ensures _ (Overlong c.in-Overlong.field-0) tt c.in-Overlong.ensures.read
