-- The types of entries, of the state that they leave, and of sinks.
pub use Rattle.nap_list.specs.{declared.attribute.Area.Area, declared.attribute.Attributes.Attributes, declared.attribute.Base.Base, declared.batch.Batch.Batch, declared.attribute.CharSize.CharSize, declared.attribute.Colour.Colour, declared.state.Definition.Definition, declared.state.Drawing.Drawing, declared.entry.Entry.Entry, declared.attribute.Hand.Hand, declared.attribute.Ink.Ink, declared.state.LastChar.LastChar, declared.known.MapColour.MapColour, declared.state.OpenDefinition.OpenDefinition, declared.attribute.Pen.Pen, declared.shape.Shape.Shape, declared.shape.ShapeKind.ShapeKind, declared.sink.SinkFault.SinkFault, declared.state.State.State, declared.attribute.TextLook.TextLook, declared.attribute.Texture.Texture}
