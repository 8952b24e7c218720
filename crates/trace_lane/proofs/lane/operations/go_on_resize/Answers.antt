use Rattle.std.proofs.Common.{◌<◌, ◌++◌, ◌∙◌, length, sym, ap, subst, Some}
use Rattle.trace_text.specs.declared.trace.Op.TheVariants as op
use Rattle.trace_lane.proofs.Common.{HeldBlock, held_blocks, held_by}
use Rattle.trace_lane.specs.declared.request.Request.TheVariants as request
use Rattle.trace_lane.specs.Made.{Asks}
use Rattle.trace_lane.specs.Requests.{Serves, answer_held}
use Rattle.trace_lane.proofs.OperationLemmas.{resize-copied, resize-freed, resize-given}
use Rattle.trace_lane.proofs.PartLemmas.{blocks-size, read-held, taken-out}
use Rattle.trace_lane.proofs.lane.operations.go_on_resize.Goals as goal

pub returns-in-Some-clause-gone : goal.returns-in-Some-clause-gone
returns-in-Some-clause-gone g c = λ need before asked made more asks serves.
    let place_of = g.B.Token.place_of in
    let need_of = g.B.Token.need_of in
    let regs = held_blocks place_of need_of c.args.registers.now.items in
    let now = c.take_out.new.registers.items in
    resize-given before regs c.args.r need asked (held_by place_of need_of c.in-Given.to) (held_by place_of need_of c.in-Some.from)
    (held_blocks place_of need_of now) made more asks (subst (λ a. Serves asked (answer_held place_of need_of a) more) c.in-Given.is serves)
    (taken-out place_of need_of c.args.registers.now.items now c.args.r (Some c.in-Some.from) (sym c.in-Some.is ∙ c.take_out.ensures.found)
    c.take_out.ensures.emptied)

pub returns-in-Copied-clause-gone : goal.returns-in-Copied-clause-gone
returns-in-Copied-clause-gone g c = λ need before asked made more asks serves.
    let place_of = g.B.Token.place_of in
    let need_of = g.B.Token.need_of in
    let regs = held_blocks place_of need_of c.args.registers.now.items in
    let from = held_by place_of need_of c.in-Copied.from in
    let so =
    resize-copied before regs c.args.r need asked from (held_by place_of need_of c.in-Copied.to) made more asks
    (subst (λ a. Serves asked (answer_held place_of need_of a) more) c.in-Copied.is serves) in (
      subst (λ rs. Asks before rs (op.Resize c.args.r need) (request.Free from) (made ++ more))
          (sym c.put_in.ensures.held) so.0,
      so.1,
    )

pub returns-in-Freed-clause-gone : goal.returns-in-Freed-clause-gone
returns-in-Freed-clause-gone g c = λ need before asked made more asks serves.
    let place_of = g.B.Token.place_of in
    let need_of = g.B.Token.need_of in
    let regs = held_blocks place_of need_of c.args.registers.now.items in
    let within : c.args.r < length regs = subst (λ n. c.args.r < n) (sym (blocks-size place_of need_of c.args.registers.now.items)) c.requires.register in
    let held = c.held_at-held.result in
    let held_is = read-held place_of need_of c.args.registers.now.items c.args.r held c.held_at-held.ensures in (
      resize-freed before regs c.args.r need held.words held.place asked made more within asks
          (subst (λ a. Serves asked (answer_held place_of need_of a) more) c.in-Freed.is serves) (ap (λ (h : HeldBlock). h.words) held_is)
          (ap (λ (h : HeldBlock). h.place) held_is),
      tt,
    )
