use Rattle.std.proofs.Common.{◌≡◌, ◌<◌, ◌≤◌, ℕ, ◌+◌, ◌-◌, Bool, false, true, List, length, get_or, set, sym, ◌∙◌, ap, arith}
use Rattle.hx_bytes.specs.declared.extents.Extent.{Extent}
use Rattle.flag_rows.specs.Bits.{mark}
use Rattle.fsck_list.proofs.MarkLaws.{mark_one, stretch_more, stretch_fits}
use Rattle.fsck_list.proofs.marks.Marks.mark.Goals as goal

pub overflow_add-self : goal.overflow_add-self
overflow_add-self c =
    let flags : List Bool = c.self.inside.flags in
    let one : c.in_ok-stop.stop - c.args.at ≡ 1 = omega (arith, c.in_ok-stop.ensures.from, c.in_ok-stop.ensures.to, c.if-stop-at.false) in
    let e : Extent = record { start = c.args.at; count = c.in_ok-stop.stop - c.args.at } in
    omega (
      arith,
      c.self.invariant,
      one,
      stretch_fits flags e (omega (arith, one, c.if-at-len.false, c.len.ensures.size)) (λ k low high. c.in_ok-stop.ensures.clear k low (omega (arith, high, c.in_ok-stop.ensures.from))),
      c.len.ensures.size,
      c.len.ensures.bound,
    )

pub invariant_of-self-2 : goal.invariant_of-self-2
invariant_of-self-2 c =
    let flags : List Bool = c.self.inside.flags in
    let one : c.in_ok-stop.stop - c.args.at ≡ 1 = omega (arith, c.in_ok-stop.ensures.from, c.in_ok-stop.ensures.to, c.if-stop-at.false) in
    let e : Extent = record { start = c.args.at; count = c.in_ok-stop.stop - c.args.at } in
    omega (
      arith,
      c.self.invariant,
      one,
      stretch_more flags c.set_clear.new.self e c.in_ok-stop.ensures.sets (omega (arith, one, c.if-at-len.false, c.len.ensures.size)) (λ k low high. c.in_ok-stop.ensures.clear k low (omega (arith, high, c.in_ok-stop.ensures.from))),
    )

pub returns-clause-marks : goal.returns-clause-marks
returns-clause-marks c =
    let flags : List Bool = c.self.inside.flags in
    let one : c.in_ok-stop.stop - c.args.at ≡ 1 = omega (arith, c.in_ok-stop.ensures.from, c.in_ok-stop.ensures.to, c.if-stop-at.false) in
    c.in_ok-stop.ensures.sets ∙ ap (λ n. mark flags (record { start = c.args.at; count = n }) true) one ∙ mark_one flags c.args.at (omega (arith, c.if-at-len.false, c.len.ensures.size)) ∙ ap (λ (l : List Bool). set l c.args.at true) c.self.view_is
