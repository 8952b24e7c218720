-- Names that several proofs cite, passed on from one place. Declares nothing.
pub use Rattle.errand_steps.proofs.AnswerLemmas.{done-told}
pub use Rattle.errand_steps.specs.Begins.{IsBusy, IsHeapBlock, IsIdle, alloc_answer, begins_with}
pub use Rattle.errand_steps.specs.Calls.{Call, alloc, begun_by, free, put, read, take, write}
pub use Rattle.errand_steps.specs.Errands.{ErrandFields, is_spent}
pub use Rattle.errand_steps.specs.Events.{event_of}
pub use Rattle.errand_steps.specs.Points.{is_idle}
pub use Rattle.errand_steps.specs.Steps.{with_event}
pub use Rattle.errand_steps.specs.Told.{ended_as}
pub use Rattle.errand_steps.specs.declared.reply.Progress.{Progress}
pub use Rattle.errand_steps.specs.declared.reply.Reply.{Reply}
pub use Rattle.errand_steps.specs.declared.told.Ending.{Ending}
pub use Rattle.errand_steps.specs.declared.told.Stepped.{Stepped}
pub use Rattle.heap_geometry.specs.Need.{IsNeed, usable_words}
pub use Rattle.heap_geometry.specs.declared.geometry.Geometry.{Geometry}
pub use Rattle.heap_geometry.specs.declared.limits.TheConstants.{LARGE_MOST, SMALL_MOST}
pub use Rattle.heap_geometry.specs.declared.need.Need.{Need}
pub use Rattle.heap_geometry.specs.declared.need.Need.TheVariants.{Large, Small, TooLarge}
pub use Rattle.lane_engine.proofs.LeadsLemmas.{leads-of, leads-split}
pub use Rattle.lane_engine.specs.Begins.{begin_answer, call_of}
pub use Rattle.lane_engine.specs.Callers.{Caller, EndsCall, FitsCall, IsAtRest, IsCall, IsIn, MadeBy, OwnsFor, at_once, begun_at, by_steps, new_caller}
pub use Rattle.lane_engine.specs.Engines.{Engine, machine_at}
pub use Rattle.lane_engine.specs.Machines.{MovesCore, ServesCaller}
pub use Rattle.lane_engine.specs.Told.{HasStepped}
pub use Rattle.lane_engine.specs.Whole.{KeepBlocks, Maker}
pub use Rattle.lane_engine.specs.declared.begins.NextCall.{NextCall}
pub use Rattle.lane_engine.specs.declared.grip.Grip.{Grip}
pub use Rattle.trace_text.specs.Operations.{register_of}
pub use Rattle.lane_outcomes.specs.Deeds.{Deed, deed_of}
pub use Rattle.lane_outcomes.specs.Fits.{Walks}
pub use Rattle.lane_outcomes.specs.Lane.{Position, filling, held_in, position_after, registers_after, writing}
pub use Rattle.lane_outcomes.specs.Rows.{FitsRow, IsFullShelf, IsSpent, IsWord, MayAsk, Moment, Setting}
pub use Rattle.lane_outcomes.specs.Standing.{setting_in}
pub use Rattle.lane_outcomes.specs.declared.outcome.Outcome.{Outcome}
pub use Rattle.lane_outcomes.specs.declared.registers.HeldBlock.{HeldBlock}
pub use Rattle.pool_model.proofs.HistoryLemmas.{legal-weaker, own-append, pool_of-push}
pub use Rattle.pool_model.proofs.PoolLemmas.{every-found}
pub use Rattle.pool_model.proofs.WellFormedLemmas.{sound-of}
pub use Rattle.pool_model.specs.Calls.{Ended, EventsOf, IsGiving, alloc_spent, looks}
pub use Rattle.pool_model.specs.Histories.{caller_of, own}
pub use Rattle.pool_model.specs.Legal.{IsLegal, IsLegalWithoutCounts}
pub use Rattle.pool_model.specs.Pool.{Block, block_at, handed_to, pool_of}
pub use Rattle.pool_model.specs.WellFormed.{IsWellFormed}
pub use Rattle.pool_model.specs.declared.event.Event.{Event}
pub use Rattle.pool_model.specs.declared.event.Event.TheVariants.{Alloc, Free, Looked, Put, Refuse, Take, TakeNone, Write}
pub use Rattle.pool_model.specs.declared.owner.Owner.TheVariants.{Shelf}
pub use Rattle.sound_laws.proofs.events_lemmas.BeginsLemmas.{spent-begins}
pub use Rattle.sound_laws.proofs.events_lemmas.CopyLemmas.{copied-past, copied-read}
pub use Rattle.sound_laws.proofs.events_lemmas.MadeLemmas.{leads-more}
pub use Rattle.sound_laws.proofs.events_lemmas.OfferLemmas.{put-offers}
pub use Rattle.sound_laws.specs.events.Ends.{HasEnded, end_of}
pub use Rattle.sound_laws.specs.events.Made.{LeadsBy, Made, answered, copied, copied_word, found_from, wrote}
pub use Rattle.sound_laws.specs.events.Stages.{stage_of}
pub use Rattle.sound_laws.specs.events.UnderWay.{IsUnderWay}
pub use Rattle.sound_state.specs.Runs.{begins, steps}
pub use Rattle.std.proofs.Math.ListN.{length-replicate}
pub use Rattle.std.proofs.lemmas.Bool.{cases_Bool, cases_eq, cases_lt, eq-eqb, true≢false}
pub use Rattle.std.proofs.lemmas.List.{get_or_default, get_or_past, length-append, length-set, map-append, set-get_or, set-set}
pub use Rattle.std.proofs.lemmas.List.Sums.{sum_by-append}
pub use Rattle.std.specs.List.{flat_map, range_with_len, slice_index_or}
pub use Rattle.std.specs.Option.{option_map}
pub use Rattle.std.specs.Prelude.{count_by, min, slice_set}
pub use Rattle.step_machine.proofs.ApartLemmas.{owns-on}
pub use Rattle.step_machine.proofs.MomentLemmas.{same-seen}
pub use Rattle.step_machine.proofs.SpareLemmas.{take-none}
pub use Rattle.step_machine.specs.Cores.{CoreFields, OwnsAfter, errand_at}
pub use Rattle.step_machine.specs.Keeping.{Hands, LeavesPlace}
pub use Rattle.step_machine.specs.Moments.{HasSeenMore, IsMoment, IsServed}
pub use Rattle.trace_lane.specs.Advances.{AdvancesOn, ComesTo, HasAdvanced, HasAnswered, HasBegun, HasGoneOn, IsAgain, IsAtHand}
pub use Rattle.trace_lane.specs.Doing.{AllMadeFor, DoingIn, DoingOf, IsMaking}
pub use Rattle.trace_lane.specs.Lanes.{IsLane, StandsBy}
pub use Rattle.trace_lane.specs.Made.{AllMade, HasRun, HoldsBlocks, MadeFor, Makes, OnBlock, calls_in, calls_made, held_there, registers_from}
pub use Rattle.trace_lane.specs.Paths.{FirstPassed, held_blocks, held_by}
pub use Rattle.trace_lane.specs.Requests.{AreMisses}
pub use Rattle.trace_lane.specs.Scripts.{Scripts, begun_bound, begun_count, script_left}
pub use Rattle.trace_lane.specs.States.{IsLaneOf, IsLaneOn, registers_at, work_at}
pub use Rattle.trace_lane.specs.Works.{AnswersCall, call_in, work_begun}
pub use Rattle.trace_lane.specs.declared.lane.LaneState.{LaneState}
pub use Rattle.trace_lane.specs.declared.work.Work.{Work}
pub use Rattle.trace_text.specs.Traces.{IsOp}
pub use Rattle.trace_text.specs.declared.limits.TheConstants.{REGISTERS}
pub use Rattle.trace_text.specs.declared.trace.Op.{Op}
