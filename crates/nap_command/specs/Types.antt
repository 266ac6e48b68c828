-- What the definitions of this crate name of its types, of other crates and of std.
pub use Rattle.nap_canon.specs.Names.{Area, BreaksWithin, CharSet, CharSize, Code, CodeSets, Colour, DrawFault, Drawing, Entry, Fault, Ghosts, IsCutOff, IsReadWhole, LacksWithin, NoneFailed, Opcode, OpenDefinition, Pen, Reading, Refusal, State, TextLook, TextStep, Texture, Work, begun, flush_count, means, reading, refusal}
pub use Rattle.nap_canon.specs.{Streams.IsAccepted, Streams.IsCanonicalOf, Streams.list_of, Text.text, declared.text.PageText.PageText}
pub use Rattle.nap_command.specs.{declared.answer.Verdict.Verdict, declared.batch.request.Question.Question, declared.batch.request.RequestLine.RequestLine, declared.batch.service.Ended.Ended, declared.batch.waiting.FoundRequest.FoundRequest, declared.batch.waiting.ReadStep.ReadStep, declared.batch.waiting.Stop.Stop, declared.command.Action.Action, declared.command.Command.Command, declared.failure.Failure.Failure}
pub use Rattle.nap_lines.specs.Listing.{lines}
pub use Rattle.nap_list.specs.{Limits.read_limit, Limits.reads_limit, declared.count_sink.CountSink.CountSink}
pub use Rattle.nap_make.specs.{Making.IsMadeOf, declared.lines.MakeFault.MakeFault}
pub use Rattle.nap_reader.specs.declared.reader.Ahead.{Ahead}
pub use Rattle.std.specs.Io.KnownBytes.{Appends, Consumes, IsAtEnd, Keeps}
