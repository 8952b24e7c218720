use Rattle.std.proofs.Common.{refl}
use Rattle.trace_lane.specs.declared.request.Next.TheVariants as onward
use Rattle.trace_lane.proofs.FurtherLemmas.{begun-further, further-makes, further-then, may-answer, may-fit, may-further, may-serve, served-further, told-further}
use Rattle.trace_lane.proofs.lane.LaneState.ask_twice.Goals as goal

pub returns-in-Told-clause-made : goal.returns-in-Told-clause-made
returns-in-Told-clause-made g c =
    let op = c.args.operation in
    let old = c.args.self.now in
    let f = c.finish.ensures in
    further-makes op {maker = g.C.Calls.maker} {old = old} {mid = record old { registers = c.begin.new.registers }} (onward.Told c.in-Told.outcome) c.in-Told.outcome
    c.calls_keep_blocks.ensures c.requires.ready.holds c.in-Told.ensures.begun refl (told-further op c.in-Told.outcome) f.rest f.outcomes f.room

pub serve-answer-requires-clause-owned : goal.serve-answer-requires-clause-owned
serve-answer-requires-clause-owned g c =
    let op = c.args.operation in
    let old = c.args.self.now in
    may-serve op {maker = g.C.Calls.maker} c.in-Ask.request c.calls_keep_blocks.ensures
    (begun-further op {maker = g.C.Calls.maker} old (record old { registers = c.begin.new.registers }) (onward.Ask c.in-Ask.request) c.requires.ready.holds c.in-Ask.ensures.begun)

pub returns-in-Told-go_on-clause-made : goal.returns-in-Told-go_on-clause-made
returns-in-Told-go_on-clause-made g c =
    let op = c.args.operation in
    let old = c.args.self.now in
    let asked = c.in-Ask.request in
    let first = onward.Ask asked in
    let mid = record old { registers = c.begin.new.registers } in
    let may = begun-further op {maker = g.C.Calls.maker} old mid first c.requires.ready.holds c.in-Ask.ensures.begun in
    let served =
    served-further op {maker = g.C.Calls.maker} {old = mid} {new = record old { registers = c.go_on.new.registers }} asked c.serve-answer.result (onward.Told c.in-Told-go_on.outcome) may c.serve-answer.ensures.served
    c.in-Told-go_on.ensures.gone refl in
    let f = c.finish-in-Told-go_on.ensures in
    further-makes op {maker = g.C.Calls.maker} {old = old} {mid = mid} first c.in-Told-go_on.outcome c.calls_keep_blocks.ensures c.requires.ready.holds c.in-Ask.ensures.begun refl
    served f.rest f.outcomes f.room

pub serve-answer-requires-2-clause-owned : goal.serve-answer-requires-2-clause-owned
serve-answer-requires-2-clause-owned g c =
    let op = c.args.operation in
    let old = c.args.self.now in
    let asked = c.in-Ask.request in
    let first = onward.Ask asked in
    let mid = record old { registers = c.begin.new.registers } in
    let may = begun-further op {maker = g.C.Calls.maker} old mid first c.requires.ready.holds c.in-Ask.ensures.begun in
    let served =
    served-further op {maker = g.C.Calls.maker} {old = mid} {new = record old { registers = c.go_on.new.registers }} asked c.serve-answer.result (onward.Ask c.in-Ask-go_on.request) may c.serve-answer.ensures.served
    c.in-Ask-go_on.ensures.gone refl in
    let next = c.in-Ask-go_on.request in
    let second = onward.Ask next in
    let go = may-further op first second may served in
    may-serve op {maker = g.C.Calls.maker} next c.calls_keep_blocks.ensures go

pub serve-answer-requires-2-clause-fits : goal.serve-answer-requires-2-clause-fits
serve-answer-requires-2-clause-fits g c =
    let op = c.args.operation in
    let old = c.args.self.now in
    let asked = c.in-Ask.request in
    let first = onward.Ask asked in
    let mid = record old { registers = c.begin.new.registers } in
    let may = begun-further op {maker = g.C.Calls.maker} old mid first c.requires.ready.holds c.in-Ask.ensures.begun in
    let served =
    served-further op {maker = g.C.Calls.maker} {old = mid} {new = record old { registers = c.go_on.new.registers }} asked c.serve-answer.result (onward.Ask c.in-Ask-go_on.request) may c.serve-answer.ensures.served
    c.in-Ask-go_on.ensures.gone refl in
    let next = c.in-Ask-go_on.request in
    let second = onward.Ask next in
    let go = may-further op first second may served in
    may-fit op {maker = g.C.Calls.maker} next c.requires.operation go

pub go_on-requires-2-clause-ready : goal.go_on-requires-2-clause-ready
go_on-requires-2-clause-ready g c =
    let op = c.args.operation in
    let old = c.args.self.now in
    let asked = c.in-Ask.request in
    let first = onward.Ask asked in
    let mid = record old { registers = c.begin.new.registers } in
    let may = begun-further op {maker = g.C.Calls.maker} old mid first c.requires.ready.holds c.in-Ask.ensures.begun in
    let served =
    served-further op {maker = g.C.Calls.maker} {old = mid} {new = record old { registers = c.go_on.new.registers }} asked c.serve-answer.result (onward.Ask c.in-Ask-go_on.request) may c.serve-answer.ensures.served
    c.in-Ask-go_on.ensures.gone refl in
    let next = c.in-Ask-go_on.request in
    let second = onward.Ask next in
    let go = may-further op first second may served in
    may-answer op {maker = g.C.Calls.maker} {lane = record old { registers = c.go_on.new.registers }} next c.serve-answer-2.result go c.serve-answer-2.ensures.served

pub returns-in-Told-go_on-2-clause-made : goal.returns-in-Told-go_on-2-clause-made
returns-in-Told-go_on-2-clause-made g c =
    let op = c.args.operation in
    let old = c.args.self.now in
    let asked = c.in-Ask.request in
    let first = onward.Ask asked in
    let mid = record old { registers = c.begin.new.registers } in
    let may = begun-further op {maker = g.C.Calls.maker} old mid first c.requires.ready.holds c.in-Ask.ensures.begun in
    let served =
    served-further op {maker = g.C.Calls.maker} {old = mid} {new = record old { registers = c.go_on.new.registers }} asked c.serve-answer.result (onward.Ask c.in-Ask-go_on.request) may c.serve-answer.ensures.served
    c.in-Ask-go_on.ensures.gone refl in
    let next = c.in-Ask-go_on.request in
    let second = onward.Ask next in
    let go = may-further op first second may served in
    let again =
    served-further op {maker = g.C.Calls.maker} {old = record old { registers = c.go_on.new.registers }} {new = record old { registers = c.go_on-2.new.registers }} next
    c.serve-answer-2.result (onward.Told c.in-Told-go_on-2.outcome) go c.serve-answer-2.ensures.served c.in-Told-go_on-2.ensures.gone refl in
    let f = c.finish-in-Told-go_on-2.ensures in
    further-makes op {maker = g.C.Calls.maker} {old = old} {mid = mid} first c.in-Told-go_on-2.outcome c.calls_keep_blocks.ensures c.requires.ready.holds c.in-Ask.ensures.begun refl
    (further-then op first second (onward.Told c.in-Told-go_on-2.outcome) served again) f.rest f.outcomes f.room

pub rest-outcome-requires-clause-ready : goal.rest-outcome-requires-clause-ready
rest-outcome-requires-clause-ready g c =
    let op = c.args.operation in
    let old = c.args.self.now in
    let asked = c.in-Ask.request in
    let first = onward.Ask asked in
    let mid = record old { registers = c.begin.new.registers } in
    let may = begun-further op {maker = g.C.Calls.maker} old mid first c.requires.ready.holds c.in-Ask.ensures.begun in
    let served =
    served-further op {maker = g.C.Calls.maker} {old = mid} {new = record old { registers = c.go_on.new.registers }} asked c.serve-answer.result (onward.Ask c.in-Ask-go_on.request) may c.serve-answer.ensures.served
    c.in-Ask-go_on.ensures.gone refl in
    let next = c.in-Ask-go_on.request in
    let second = onward.Ask next in
    let go = may-further op first second may served in
    let again =
    served-further op {maker = g.C.Calls.maker} {old = record old { registers = c.go_on.new.registers }} {new = record old { registers = c.go_on-2.new.registers }} next
    c.serve-answer-2.result (onward.Ask c.in-Ask-go_on-2.request) go c.serve-answer-2.ensures.served c.in-Ask-go_on-2.ensures.gone refl in
    may-further op second (onward.Ask c.in-Ask-go_on-2.request) go again

pub returns-in-Ask-go_on-2-clause-made : goal.returns-in-Ask-go_on-2-clause-made
returns-in-Ask-go_on-2-clause-made g c =
    let op = c.args.operation in
    let old = c.args.self.now in
    let asked = c.in-Ask.request in
    let first = onward.Ask asked in
    let mid = record old { registers = c.begin.new.registers } in
    let may = begun-further op {maker = g.C.Calls.maker} old mid first c.requires.ready.holds c.in-Ask.ensures.begun in
    let served =
    served-further op {maker = g.C.Calls.maker} {old = mid} {new = record old { registers = c.go_on.new.registers }} asked c.serve-answer.result (onward.Ask c.in-Ask-go_on.request) may c.serve-answer.ensures.served
    c.in-Ask-go_on.ensures.gone refl in
    let next = c.in-Ask-go_on.request in
    let second = onward.Ask next in
    let go = may-further op first second may served in
    let again =
    served-further op {maker = g.C.Calls.maker} {old = record old { registers = c.go_on.new.registers }} {new = record old { registers = c.go_on-2.new.registers }} next
    c.serve-answer-2.result (onward.Ask c.in-Ask-go_on-2.request) go c.serve-answer-2.ensures.served c.in-Ask-go_on-2.ensures.gone refl in
    let third = onward.Ask c.in-Ask-go_on-2.request in
    let told = onward.Told c.rest-outcome.result in
    let f = c.finish-in-Ask-go_on-2.ensures in
    further-makes op {maker = g.C.Calls.maker} {old = old} {mid = mid} first c.rest-outcome.result c.calls_keep_blocks.ensures c.requires.ready.holds c.in-Ask.ensures.begun refl
    (further-then op first third told (further-then op first second third served again) c.rest-outcome.ensures.ended) f.rest f.outcomes f.room
