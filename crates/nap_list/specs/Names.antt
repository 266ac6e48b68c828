-- What this crate names of other crates and of std.
pub use Rattle.nap_codes.specs.{CodeSets.start_sets, Laws.IsCodeInRange, Tables.format_effector, declared.code.Code.Code, declared.code_set.CharSet.CharSet, declared.control.TextStep.TextStep}
pub use Rattle.nap_values.specs.{Colours.Components, Colours.HasSixteenBitParts, Laws.IsWord}
pub use Rattle.nap_values.specs.Coordinates.{Coordinates, Displacement, IsInRange, IsInSquare}
pub use Rattle.std.specs.{Io.KnownBytes.Appends, Io.KnownBytes.IsAtEnd, List.drop-map, List.list_any, List.refill, Ordering.eq_of_both, Ordering.on}
pub use Rattle.std.specs.Prelude.{IfSome, IsSome, not, slice_get, unwrap_or, ⊤, ◌%◌, ◌/◌, ◌==◌}
