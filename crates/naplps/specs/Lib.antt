-- The definitions that the contracts of this crate's items are written in.

-- what a page means: its list, or its refusal
pub use Rattle.nap_reader.specs.Stream
pub use Rattle.nap_reader.specs.Course
pub use Rattle.nap_reader.specs.Budgets
pub use Rattle.nap_reader.specs.Bodies
pub use Rattle.nap_reader.specs.Faults
pub use Rattle.nap_reader.specs.Laws as ReadingLaws
-- what a reader has read, and where one breaks that lacks memory
pub use Rattle.nap_reader.specs.ReaderAnswers
pub use Rattle.nap_reader.specs.Looking
pub use Rattle.nap_reader.specs.Feeding
pub use Rattle.nap_reader.specs.Breaking
pub use Rattle.nap_draw.specs.Draws
-- entries, and the state that they leave
pub use Rattle.nap_values.specs.Coordinates
pub use Rattle.nap_values.specs.Colours
pub use Rattle.nap_list.specs.Entry
pub use Rattle.nap_list.specs.State
pub use Rattle.nap_list.specs.Known
pub use Rattle.nap_list.specs.Range
pub use Rattle.nap_list.specs.Agreement
pub use Rattle.nap_list.specs.Limits
pub use Rattle.nap_list.specs.Laws as ListLaws
pub use Rattle.nap_list.specs.Walks
pub use Rattle.nap_lines.specs.Lines
-- sinks
pub use Rattle.nap_list.specs.Putting
pub use Rattle.nap_list.specs.PuttingLaws
pub use Rattle.nap_list.specs.Batches
pub use Rattle.nap_list.specs.Shapes
pub use Rattle.nap_list.specs.Counting
pub use Rattle.nap_lines.specs.Listing
pub use Rattle.nap_canon.specs.Sinking
-- devices
pub use Rattle.nap_list.specs.Device
pub use Rattle.nap_list.specs.Reading
pub use Rattle.nap_list.specs.Flushing
-- canonical text
pub use Rattle.nap_canon.specs.Streams
pub use Rattle.nap_canon.specs.Text
pub use Rattle.nap_canon.specs.Plain
pub use Rattle.nap_canon.specs.Converting
pub use Rattle.nap_canon.specs.Laws as CanonicalLaws
-- lines that are read back, and the pages that they make
pub use Rattle.nap_make.specs.Entries
pub use Rattle.nap_make.specs.Reading as LineReading
pub use Rattle.nap_make.specs.Laws as LineLaws
pub use Rattle.nap_make.specs.Lists
pub use Rattle.nap_make.specs.ListMaking
pub use Rattle.nap_make.specs.Making
pub use Rattle.nap_make.specs.Pages
pub use Rattle.nap_make.specs.Texts
pub use Rattle.nap_make.specs.PageLaws as MakingLaws
