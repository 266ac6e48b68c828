-- What the proofs of this crate name of its specs, of other crates and of std.
pub use Rattle.nap_c.specs.Answers.{IsRefusal, LacksForText, LacksToCount, Offers, accepted_answer, refused_answer}
pub use Rattle.nap_c.specs.{Checks.FeedsPiece, Checks.HasChecked, Checks.uncounted, declared.answer.Answer.Answer, declared.made.Made.Made, declared.pieces.Check.Check}
pub use Rattle.nap_canon.specs.{Names.BreaksWithin, Names.Fault, Names.Refusal, Names.means, Streams.IsAccepted, Streams.list_of, Text.text, Text.text1}
pub use Rattle.nap_list.specs.declared.count_sink.CountSink.{CountSink}
pub use Rattle.nap_reader.proofs.PublicLaws.{accepted_is_legal}
pub use Rattle.nap_reader.specs.ReaderAnswers.{refusal_of, sink_of}
pub use Rattle.std.proofs.{BoxSteps.Steps.box_in, BoxSteps.Steps.box_out, alloc.Calls.Al, alloc.Calls.Goes-blank, alloc.Calls.handle_tells, alloc.Shapes.after, cell.Inside.Good, cell.Inside.one, raw_atomic.Walks.leaves, raw_atomic.Walks.proved_at}
pub use Rattle.std.proofs.Common.{Err, List, None, Option, Some, [], ap, append-nil, arith, false, inl, inr, length, lit<, refl, subst, sym, true, ℕ, ◌++◌, ◌∙◌, ◌∷◌, ◌≡◌, ◌≢◌, ◌≤◌}
pub use Rattle.std.specs.contracts.impls.GlobalAllocator.TheImpl.{ghosts}
pub use base.Fml.{flft, fsep, ftrue}
pub use base.Logic.{SProp, emp, ent, fst∗, id⊢, never}
pub use contract.{Monad.fact, Monad.fact_i, Monad.fact_use, Running.tables}
pub use denote.{Builtin.RawPtr, Exit.no, Exit.yes, Param.Laws.Laws, Param.Laws.param_laws, Param.bounded, Param.layout, Param.param, Steps.heard, Steps.nothing, Steps.only, Triple.Call.calls_at, Triple.Call.calls_at_last, Triple.Spec.triple_of, Triple.Table.framed}
pub use denote.RattleType.{RattleType, Valss, owns}
pub use denote.RawPtr.{Ptr, Testable, block_ptr, in_a_block, lies_at, null_ptr, ptr_val, tests_null}
pub use denote.Signature.{Slot, plain, type_at, types_at}
pub use denote.Triple.Walked.{Goes-dropped, Stays, stay_dropped, walk_of}
pub use mir.MapTy.{inst_fn}
pub use mir.Syntax.{a_type, dcons, dnil, impl, tnil, ty_ptr}
pub use mir.Val.{Val, WT, has_ty, of_list, vcons, vnil, vptr, vstruct}
pub use prog.Wp.{WpFn}
pub use types.ByLocal.{alloc_all, env, free_all, get, get_in, lands_as, lands_last, look_at, pass_all, sets, sets_last}
pub use types.Kit.{ !, at_ret, await, by, drop, feq_i, feq_l, fjoin, fpick, fsplit, fsplit3, join, keep, later, move, pick, qed, raw, rewrite, some, split, split3, suffices, use0, use1, ‵, ◌$◌, ◌∵◌, ◌⊛◌}
pub use types.Logic.{Logic, sem}
pub use types.Part.{agg, sub, whole}
pub use types.Run.{and_then, bin, blocks, branches, enter, exec, first, fld, lit, no_more, of_opd, returns, stop}
