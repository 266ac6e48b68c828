-- The proofs of the laws.

use Rattle.nap_canon.proofs.{CanonicalStreamsAgree, FormsAgree, One, PlainOperandLengths, PreludeLeads, TextIsPlain, TextIsRead, TextLeads, TextOfPrefix, Two, WritesText}
pub use Rattle.nap_canon.proofs.{Conversions.flushed_once, Preludes.look_is_current, Texts.addr_size, Texts.displacements_size, Texts.grb_size, Texts.move_size, Texts.point_size}
use Rattle.nap_canon.proofs.PlainLengths
use Rattle.nap_canon.proofs.Preludes
use Rattle.nap_canon.proofs.ReadingBack
use Rattle.nap_canon.proofs.Sinks
use Rattle.nap_canon.proofs.Texts
use Rattle.nap_list.specs.declared.device.Outlet as outlet

pub prelude_leads : PreludeLeads
prelude_leads = Preludes.prelude_leads

pub text_of_prefix : TextOfPrefix Two
text_of_prefix = Texts.text_of_prefix Two

pub text1_of_prefix : TextOfPrefix One
text1_of_prefix = Texts.text_of_prefix One

pub text_is_plain : TextIsPlain Two
text_is_plain = ReadingBack.text_is_plain Two

pub text1_is_plain : TextIsPlain One
text1_is_plain = ReadingBack.text_is_plain One

pub plain_operand_lengths : PlainOperandLengths
plain_operand_lengths = PlainLengths.plain_operand_lengths

pub text_is_read : TextIsRead Two
text_is_read = ReadingBack.text_is_read Two

pub text1_is_read : TextIsRead One
text1_is_read = ReadingBack.text_is_read One

pub text_leads : TextLeads Two
text_leads = ReadingBack.text_leads Two

pub text1_leads : TextLeads One
text1_leads = ReadingBack.text_leads One

pub forms_agree : FormsAgree
forms_agree = ReadingBack.forms_agree

pub canonical_streams_agree : CanonicalStreamsAgree
canonical_streams_agree = ReadingBack.canonical_streams_agree

pub sink_writes_text : {O : Type 0} (o : outlet.Ghosts O) → WritesText o
sink_writes_text = Sinks.sink_writes_text
