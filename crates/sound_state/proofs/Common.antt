-- The names that most proofs cite, passed on from one place. Declares nothing.
pub use Rattle.errand_steps.proofs.ErrandLemmas.{settle_errand}
pub use Rattle.errand_steps.proofs.PlanLemmas.{plan-exists}
pub use Rattle.errand_steps.specs.Begins.{IsBusy, IsIdle, begins_alloc}
unfoldable pub use Rattle.errand_steps.specs.Begins.{alloc_begun, free_begun, put_begun, read_begun, take_begun, write_begun}
pub use Rattle.errand_steps.specs.Calls.{Call, alloc, begun_by, free, put, read, write}
pub use Rattle.errand_steps.specs.Continuations.{IsRunFor, clears, confirms, is_alloc, pushes}
pub use Rattle.errand_steps.specs.tables.Descs.{goes_desc, desc_holds, desc_recalls}
pub use Rattle.errand_steps.specs.Errands.{ErrandFields, counts_cleared, counts_lost, raised, IsErrand, after_list, after_turn, begins_turn, counts_won, is_full}
pub use Rattle.errand_steps.specs.Errands.{is_lost_exchange, is_spent, no_words, one_more, picked, plan_of, scan_begins, point_after, turned}
unfoldable pub use Rattle.errand_steps.specs.Errands.{course_of, settle_of, answer_of}
unfoldable pub use Rattle.errand_steps.specs.Events.{event_of}
pub use Rattle.errand_steps.specs.Fits.{FitsPoint, pushed_by, spare_of, FitsContinuation, FitsInDesc, FitsInPartial, FitsInStack}
pub use Rattle.errand_steps.specs.Nexts.{enter_block, enter_desc, enter_large, enter_partial, enter_stack, put_away, resumed}
unfoldable pub use Rattle.errand_steps.specs.Nexts.{next_of}
pub use Rattle.errand_steps.specs.Openings.{IsOpening, installed, opening}
pub use Rattle.errand_steps.specs.Points.{asked, is_idle}
unfoldable pub use Rattle.errand_steps.specs.Points.{plan_point_of}
pub use Rattle.errand_steps.specs.Steps.{Moves, State, Step, action_at, found_at, name_at, with_event, word_at, Run, event_at}
pub use Rattle.errand_steps.specs.declared.continuation.Continuation.{Continuation}
pub use Rattle.errand_steps.specs.declared.continuation.Continuation.TheVariants.{Clear}
pub use Rattle.errand_steps.specs.declared.next.Next.{Next}
pub use Rattle.errand_steps.specs.declared.next.Next.TheVariants.{At, End, Pick, Retire, Unlist, Turn}
pub use Rattle.errand_steps.specs.declared.point.Point.{Point}
pub use Rattle.errand_steps.specs.declared.point.Point.TheVariants.{Block, Desc, Idle, Large, Partial, Stack}
pub use Rattle.errand_steps.specs.declared.reply.Progress.TheVariants.{Done}
pub use Rattle.errand_steps.specs.declared.reply.Reply.{Reply}
pub use Rattle.step_parts.specs.hazard.Points.{after_hazard, after_head, after_next, named_in, plan_desc_of, settle_desc_of}
pub use Rattle.step_parts.specs.hazard.Retired.{first_unheld}
pub use Rattle.step_parts.specs.declared.hazard.point.DescPoint.{DescPoint}
pub use Rattle.heap_geometry.proofs.PlaceLemmas.{frame_of-block_place, block-within}
pub use Rattle.heap_geometry.specs.Geometry.{IsChecked}
pub use Rattle.heap_geometry.specs.Need.{block_count_of, usable_words}
unfoldable pub use Rattle.heap_geometry.specs.Need.{need_of}
pub use Rattle.heap_geometry.specs.Place.{block_place, frame_of, index_of, unit_place}
pub use Rattle.heap_geometry.specs.declared.geometry.Geometry.{Geometry}
pub use Rattle.heap_geometry.specs.declared.limits.TheConstants.{CLASSES, CALL_STEPS, SHELVES, SMALL_MOST}
pub use Rattle.heap_geometry.specs.declared.need.Need.{Need}
pub use Rattle.heap_geometry.specs.declared.need.Need.TheVariants.{Small, TooLarge}
pub use Rattle.step_parts.specs.large.Points.{after_shelf, first_wanted, plan_large_of, settle_large_of}
pub use Rattle.step_parts.specs.large.Runs.{RunFields, WantFields}
pub use Rattle.step_parts.specs.declared.large.exit.LargeExit.{LargeExit}
pub use Rattle.step_parts.specs.declared.large.point.LargePoint.{LargePoint}
pub use Rattle.packed_words.proofs.ActiveLemmas.{active-exact}
pub use Rattle.packed_words.proofs.AnchorLemmas.{anchor_of-anchor_word, anchor_word-below}
pub use Rattle.packed_words.proofs.ExactLemmas.{reads}
pub use Rattle.packed_words.proofs.HeadLemmas.{head_of-head_word}
pub use Rattle.packed_words.proofs.InfoLemmas.{info-exact}
pub use Rattle.packed_words.proofs.PrefixLemmas.{prefix-exact}
pub use Rattle.packed_words.proofs.ShelfLemmas.{shelf-exact}
pub use Rattle.packed_words.specs.Active.{IsActiveWord}
unfoldable pub use Rattle.packed_words.specs.Active.{active_of, active_word}
pub use Rattle.packed_words.specs.Anchor.{AnchorFields, anchor_word, IsAnchor}
unfoldable pub use Rattle.packed_words.specs.Anchor.{anchor_of}
pub use Rattle.packed_words.specs.Head.{HeadFields, IsHead}
unfoldable pub use Rattle.packed_words.specs.Head.{head_of, head_word}
pub use Rattle.packed_words.specs.Info.{InfoFields}
unfoldable pub use Rattle.packed_words.specs.Info.{info_of, info_word}
pub use Rattle.packed_words.specs.Prefix.{link_of}
unfoldable pub use Rattle.packed_words.specs.Prefix.{prefix_of, prefix_word}
pub use Rattle.packed_words.specs.Shelf.{IsShelfWord}
unfoldable pub use Rattle.packed_words.specs.Shelf.{shelf_of, shelf_word}
pub use Rattle.packed_words.specs.declared.active.ActiveWord.{ActiveWord}
pub use Rattle.packed_words.specs.declared.active.ActiveWord.TheVariants.{Held, Null}
pub use Rattle.packed_words.specs.declared.prefix.Prefix.{Prefix}
pub use Rattle.packed_words.specs.declared.shelf.ShelfWord.{ShelfWord}
pub use Rattle.packed_words.specs.declared.widths.TheConstants.{AVAIL_BITS, COUNT_BITS, CREDIT_BITS, TAG_BITS}
pub use Rattle.step_parts.specs.partial.Grants.{is_empty}
pub use Rattle.step_parts.specs.partial.Points.{plan_partial_of, seat_of_partial, settle_partial_of, slot_of}
pub use Rattle.step_parts.specs.declared.partial.exit.PartialExit.{PartialExit}
pub use Rattle.step_parts.specs.declared.partial.point.PartialPoint.{PartialPoint}
pub use Rattle.pool_model.proofs.HistoryLemmas.{EachAfter-push, own-append, pool_of-push}
pub use Rattle.pool_model.proofs.PoolLemmas.{place-found, block_at-past, every-each, every-found}
pub use Rattle.pool_model.proofs.WellFormedLemmas.{sound-of, class_span, found-itself, large-frame, sound-differ}
pub use Rattle.pool_model.specs.Histories.{own, EndsWith, caller_of}
pub use Rattle.pool_model.specs.Legal.{IsLegalWithoutCounts, IsAllowed, IsEmptyShelf, IsFree, IsLegalEvent, IsLegalEventWithoutCounts}
pub use Rattle.pool_model.specs.Pool.{block_at, pool_of, Pool, fresh_block, handed_to, pool_after}
pub use Rattle.pool_model.specs.WellFormed.{IsPlaceFor, IsWellFormed}
pub use Rattle.pool_model.specs.declared.event.Event.{Event}
pub use Rattle.pool_model.specs.declared.event.Event.TheVariants.{Looked, Put, Refuse, Take, TakeNone, Write}
pub use Rattle.pool_model.specs.declared.owner.Owner.TheVariants.{Caller}
pub use Rattle.sound_state.specs.Consequences.{IsBound}
pub use Rattle.sound_state.specs.Frames.{IsFramed, errand_frames, fills_frame}
pub use Rattle.sound_state.specs.Guards.{IsGuard, IsGuarded, IsHazard, held_by, passed_by, Guards}
pub use Rattle.errand_steps.specs.tables.Holding.{Holding, Kept, Status, on_its_way, partly_used, reserving, waiting, Freed, Handed, HazardState, block_handed, clear}
pub use Rattle.errand_steps.specs.tables.Holding.{continuation_holds, guarded, keep, nothing, reserve}
pub use Rattle.errand_steps.specs.tables.Blocks.{holds_before_pop, block_holds, holds_after_pop, if_stored, making, block_recalls}
pub use Rattle.errand_steps.specs.tables.Partials.{partial_holds, partial_recalls}
pub use Rattle.errand_steps.specs.tables.Stacks.{stack_holds, stack_recalls}
unfoldable pub use Rattle.sound_state.specs.Holdings.{holds_of}
pub use Rattle.sound_state.specs.Keepers.{IsKept, IsKeptAs, IsPartlyUsed, IsWithout, errand_has, full_keeps, word_keeps, IsActive, active_keeps, places_of}
pub use Rattle.sound_state.specs.Lists.{IsListed, Lists}
pub use Rattle.sound_state.specs.Recalls.{IsLocated, IsOwned, IsSo}
pub use Rattle.errand_steps.specs.tables.Recall.{Recall, bound_at, bound_for, bound_here, emptied, links, located, looked, noted, pops, says, continuation_recalls, made}
pub use Rattle.errand_steps.specs.tables.Recall.{refused, resumed_recalls}
pub use Rattle.sound_state.specs.Recalls.{AreMade, EndsRefused, IsEmptied, IsPlain, IsRemembered, IsSaidWord}
pub use Rattle.sound_state.specs.Recalls.{Part, part_of, bindings, places, chains, stacks, link_words, availables, events, single, constant}
pub use Rattle.errand_steps.specs.tables.LargeBlocks.{large_recalls}
pub use Rattle.sound_state.specs.Recalls.{list_of}
unfoldable pub use Rattle.sound_state.specs.Recalls.{recalls_of}
pub use Rattle.sound_state.specs.Runs.{BeginsCall, Move, Moved, Reaches, begins, steps}
pub use Rattle.sound_state.specs.Sound.{IsFormed, IsOwnErrand, IsSound, IsSoundWith, IsSoundWithoutCounts, with_errands}
pub use Rattle.sound_state.specs.Stock.{errand_stock, full_stock, stock_among, waits_in, word_stock, IsStocked, stock_of}
pub use Rattle.sound_state.specs.Sums.{sum_below}
unfoldable pub use Rattle.sound_state.specs.Sums.{callers_sum, words_sum}
pub use Rattle.sound_state.specs.Superblocks.{AreChained, IsChained, Superblock, anchor_for, away_of, errand_away, errand_keeps, errand_reserves, free_chain}
pub use Rattle.sound_state.specs.Superblocks.{info_for, info_or_zero, is_bound, is_there, kept_among, live_at, reserved_among, reserved_of, superblock_of}
pub use Rattle.sound_state.specs.Superblocks.{waiting_of, word_reserves, held_back, offered, same_status}
pub use Rattle.sound_state.specs.Ties.{IsLive, IsTied, IsBlockOfDesc, IsCovered, IsExcepted}
pub use Rattle.sound_state.specs.TurnStages.{in_turn, is_unneeded, turn_stage_of, is_seeking, is_turn, lacks_answer, lacks_frame}
pub use Rattle.errand_steps.specs.tables.TurnStage.{continuation_turn_stage, out_of_turn}
pub use Rattle.sound_state.specs.TurnStages.{lacks_partial}
pub use Rattle.sound_state.specs.Turns.{IsTurned, emptied_out, gives_small, one_if, pops_left, refuses_small, cleared_of, errand_discards, errand_pops}
pub use Rattle.sound_state.specs.Turns.{is_small_alloc, is_small_free, turn_open, turn_unanswered, turn_unframed, turn_unlisted, turns_of}
pub use Rattle.step_parts.specs.stack.Piles.{head_name, next_name, pile_limit}
pub use Rattle.step_parts.specs.stack.Points.{after_below, plan_stack_of, seat_of_stack, settle_stack_of}
pub use Rattle.step_parts.specs.stack.Stacks.{Stacked, next_in}
pub use Rattle.step_parts.specs.declared.stack.exit.StackExit.{StackExit}
pub use Rattle.step_parts.specs.declared.stack.point.Pile.{Pile}
pub use Rattle.step_parts.specs.declared.stack.point.Pile.TheVariants.{Frames, Partials}
pub use Rattle.step_parts.specs.declared.stack.point.StackPoint.{StackPoint}
pub use Rattle.step_parts.proofs.superblock_lemmas.ChainLemmas.{chain_of-first, occurs-here, occurs-more}
pub use Rattle.step_parts.specs.superblock.Anchors.{new_credits, is_last, more_of, new_anchor, popped_state, taken_off}
pub use Rattle.step_parts.specs.superblock.Chains.{link_in, prefix_name, chain_of}
pub use Rattle.step_parts.specs.superblock.Points.{FitsBlock, after_active, after_anchor, after_info, after_push_anchor, after_return_anchor, plan_block_of}
pub use Rattle.step_parts.specs.superblock.Points.{settle_block_of}
pub use Rattle.step_parts.specs.declared.superblock.point.BlockPoint.{BlockPoint}
pub use Rattle.step_parts.specs.declared.superblock.point.Share.{Share}
pub use Rattle.step_parts.specs.declared.superblock.point.Share.TheVariants.{Credit, Grant, LastCredit}
pub use Rattle.word_table.proofs.CountLemmas.{descriptor_count_within}
pub use Rattle.word_table.proofs.NameLemmas.{cases_name}
pub use Rattle.word_table.proofs.SeatLemmas.{block_count_of-least, block_count_of-most}
pub use Rattle.word_table.proofs.TableLemmas.{word_index-within, word_index-word_name, word_name-Exists, word_name-word_index}
pub use Rattle.word_table.specs.Actions.{after_action, name_of, found_by}
pub use Rattle.word_table.specs.Counts.{word_count, arena_words}
unfoldable pub use Rattle.word_table.specs.Counts.{descriptor_count}
pub use Rattle.word_table.specs.Occurs.{occurs}
pub use Rattle.word_table.specs.Seats.{SeatFields, info_in, anchor_in, desc_named, heap_of, info_within}
pub use Rattle.word_table.specs.Sites.{IsSiteOf, active_name, IsSeatOf, info_at, slot_name}
pub use Rattle.word_table.specs.Table.{Exists, word_name, exists}
unfoldable pub use Rattle.word_table.specs.Table.{word_index}
pub use Rattle.word_table.specs.Words.{Writes}
pub use Rattle.word_table.specs.declared.action.Action.{Action}
pub use Rattle.word_table.specs.declared.action.Action.TheVariants.{Cas, Store}
pub use Rattle.word_table.specs.declared.action.Found.{Found}
pub use Rattle.word_table.specs.declared.name.WordName.{WordName}
pub use Rattle.word_table.specs.declared.onward.Onward.{Onward}
pub use Rattle.word_table.specs.declared.seat.Site.{Site}
