use Rattle.nap_list.specs.{declared.sink.Sink.Ghosts, Putting.SinkModel, Putting.sink_model}

-- a type that implements the trait as a model of a sink
abbrev pub sink_model_of : {S : Type 0} → Ghosts S → SinkModel S
sink_model_of g = sink_model g.state g.wants g.failed g.took g.broke
