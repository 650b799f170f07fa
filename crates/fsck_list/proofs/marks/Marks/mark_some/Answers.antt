use Rattle.std.proofs.Common.{◌≤◌, ◌+◌, ◌-◌, Bool, List, length, ap, arith}
use Rattle.hx_bytes.specs.declared.extents.Extent.{Extent}
use Rattle.fsck_list.proofs.MarkLaws.{stretch_more, stretch_fits}
use Rattle.fsck_list.proofs.marks.Marks.mark_some.Goals as goal

pub overflow_cast-self : goal.overflow_cast-self
overflow_cast-self c =
    omega (arith, c.in_ok-stop.ensures.from, c.in_ok-stop.ensures.to, c.requires.inside, c.len-count.ensures.size, c.len-count.ensures.bound, ap (λ (l : List Bool). length l) c.self.view_is)

pub overflow_add-self : goal.overflow_add-self
overflow_add-self c =
    let flags : List Bool = c.self.inside.flags in
    let e : Extent = record { start = c.args.from; count = c.in_ok-stop.stop - c.args.from } in
    let inside : c.args.from + (c.in_ok-stop.stop - c.args.from) ≤ length flags = omega (arith, c.in_ok-stop.ensures.from, c.in_ok-stop.ensures.to, c.requires.inside, ap (λ (l : List Bool). length l) c.self.view_is) in
    omega (
      arith,
      c.self.invariant,
      stretch_fits flags e inside (λ k low high. c.in_ok-stop.ensures.clear k low (omega (arith, high, c.in_ok-stop.ensures.from))),
      c.len-count.ensures.size,
      c.len-count.ensures.bound,
    )

pub invariant_of-self-2 : goal.invariant_of-self-2
invariant_of-self-2 c =
    let flags : List Bool = c.self.inside.flags in
    let e : Extent = record { start = c.args.from; count = c.in_ok-stop.stop - c.args.from } in
    let inside : c.args.from + (c.in_ok-stop.stop - c.args.from) ≤ length flags = omega (arith, c.in_ok-stop.ensures.from, c.in_ok-stop.ensures.to, c.requires.inside, ap (λ (l : List Bool). length l) c.self.view_is) in
    omega (
      arith,
      c.self.invariant,
      stretch_more flags c.set_clear.new.self e c.in_ok-stop.ensures.sets inside (λ k low high. c.in_ok-stop.ensures.clear k low (omega (arith, high, c.in_ok-stop.ensures.from))),
    )
