use Rattle.std.proofs.Common.{◌≡◌, ◌≤◌, [], sym, ◌∙◌, subst, Result, arith}
use Rattle.std.specs.Prelude.{Some, IsTrue, IfOk, OnErr, OnOk}
use Rattle.hx_bytes.specs.declared.faults.Trouble.{Trouble}
use Rattle.hfs_serving.specs.Going.{AnswersTo}
use Rattle.hfs_serving.specs.Grounds.{Anchor, ShowsJournal}
use Rattle.hfs_language.specs.declared.refusal.Refusal.TheVariants as refusal
use Rattle.hfs_language.specs.declared.reply.Reply.TheVariants as reply
use Rattle.hfs_serving.specs.declared.volume.Step.{Step}
use Rattle.hfs_serving.specs.declared.volume.Step.TheVariants as step
use Rattle.hfs_serving.proofs.Causes.{counts_both, fine}
use Rattle.hfs_serving.proofs.Going.{first_stops, memory_stops_tidy, on_err}
use Rattle.hfs_serving.proofs.Tries.{made_tries}
use Rattle.hfs_serving.proofs.Undoing.{falls_short, kept_touches, stands_kept}
use Rattle.hfs_serving.proofs.trying.attempt.Goals as goal

pub perform_step-requires-clause-serves : goal.perform_step-requires-clause-serves
perform_step-requires-clause-serves g c =
    let there = c.requires.serves in
    (there.0, c.keep.ensures.still there.0 there.1, subst (λ n. n ≤ there.0) (sym c.keep.ensures.taken) there.2)

pub perform_step-requires-clause-stands : goal.perform_step-requires-clause-stands
perform_step-requires-clause-stands g c tells_kept =
    let tells = subst (λ t. IsTrue t) c.keep.ensures.same.tells tells_kept in
    let there = c.requires.stands tells in
    let s0 = g.G.SectorView.space c.args.base.now in
    let s1 = g.G.SectorView.space c.keep.new.self in (
      there.0,
      there.1,
      there.2,
      there.3,
      stands_kept there.1 there.2 there.3 (g.V.Volume.knows c.args.volume.now s0 there.0) (g.V.Volume.knows c.args.volume.now s1 there.0) s0 s1 s1 s1 (g.G.Ground.outside c.args.base.now) (g.G.Ground.outside c.keep.new.self) (g.G.Ground.outside c.keep.new.self) (g.G.Ground.outside c.keep.new.self) there.4
          c.keep.ensures.same c.keep.ensures.quiet (c.look.ensures c.args.base.now there.0 there.1 there.2 there.3 c.keep.ensures.same),
    )

pub returns-in-Ok-clause-tries : goal.returns-in-Ok-clause-tries
returns-in-Ok-clause-tries g c tells capacity committed now shrunk stands own line spelled =
    let old = g.G.Ground.outside c.args.base.now in
    let s0 = g.G.SectorView.space c.args.base.now in
    let s1 = g.G.SectorView.space c.keep.new.self in
    let o1 = g.G.Ground.outside c.keep.new.self in
    let s2 = g.G.SectorView.space c.perform_step.new.base in
    let o2 = g.G.Ground.outside c.perform_step.new.base in
    let knows = g.V.Volume.knows c.args.volume.now s0 capacity in
    let knows_kept = g.V.Volume.knows c.args.volume.now s1 capacity in
    let carries = c.look.ensures c.args.base.now capacity committed now shrunk c.keep.ensures.same in
    let tells_kept = c.keep.ensures.same.tells ∙ tells in
    let there = stands_kept committed now shrunk knows knows_kept s0 s1 s2 s2 old o1 o2 o2 stands c.keep.ensures.same c.keep.ensures.quiet carries in
    let touches = c.perform_step.ensures.touches tells_kept capacity committed now shrunk there in
    let knows_new = g.V.Volume.knows c.perform_step.new.volume s2 capacity in
    made_tries capacity knows_new committed now shrunk c.args.number own line _ _ s0 old s2 o2 c.in-Ok.step
    (kept_touches committed s0 s1 s2 old o1 o2 c.keep.ensures.same c.keep.ensures.quiet touches)
    (subst (λ (q : Result Step Trouble). IfOk q (λ step. AnswersTo step capacity knows_new committed now shrunk s2 c.args.number own line (λ said changes. g.H.Hearer.hears c.args.heard.now said changes c.perform_step.new.heard) (c.perform_step.new.heard ≡ c.args.heard.now))) c.in-Ok.is (c.perform_step.ensures.answered tells_kept capacity committed now shrunk there own line spelled))

pub returns-in-Ok-clause-still : goal.returns-in-Ok-clause-still
returns-in-Ok-clause-still g c capacity serves taken =
    subst (λ (q : Result Step Trouble). OnOk q (g.G.Ground.serves c.perform_step.new.base capacity × (g.G.Ground.taken c.perform_step.new.base ≤ capacity))) c.in-Ok.is
    (c.perform_step.ensures.still capacity (c.keep.ensures.still capacity serves) (subst (λ n. n ≤ capacity) (sym c.keep.ensures.taken) taken))

pub returns-in-Ok-clause-tells : goal.returns-in-Ok-clause-tells
returns-in-Ok-clause-tells g c = c.perform_step.ensures.tells ∙ c.keep.ensures.same.tells

pub returns-in-Ok-clause-anchor : goal.returns-in-Ok-clause-anchor
returns-in-Ok-clause-anchor g c = c.perform_step.ensures.anchor ∙ c.keep.ensures.anchor

pub returns-in-Ok-clause-faults : goal.returns-in-Ok-clause-faults
returns-in-Ok-clause-faults g c = fine (counts_both c.keep.ensures.counts c.perform_step.ensures.faults.counts) _

pub returns-in-Err-Disk-clause-stops : goal.returns-in-Err-Disk-clause-stops
returns-in-Err-Disk-clause-stops g c tells capacity committed now shrunk stands =
    let old = g.G.Ground.outside c.args.base.now in
    let s0 = g.G.SectorView.space c.args.base.now in
    let s1 = g.G.SectorView.space c.keep.new.self in
    let o1 = g.G.Ground.outside c.keep.new.self in
    let s2 = g.G.SectorView.space c.perform_step.new.base in
    let o2 = g.G.Ground.outside c.perform_step.new.base in
    let knows = g.V.Volume.knows c.args.volume.now s0 capacity in
    let knows_kept = g.V.Volume.knows c.args.volume.now s1 capacity in
    let carries = c.look.ensures c.args.base.now capacity committed now shrunk c.keep.ensures.same in
    let tells_kept = c.keep.ensures.same.tells ∙ tells in
    let there = stands_kept committed now shrunk knows knows_kept s0 s1 s2 s2 old o1 o2 o2 stands c.keep.ensures.same c.keep.ensures.quiet carries in
    let touches = c.perform_step.ensures.touches tells_kept capacity committed now shrunk there in
    first_stops capacity shrunk committed now old knows s0 stands s2 o2 (kept_touches committed s0 s1 s2 old o1 o2 c.keep.ensures.same c.keep.ensures.quiet touches)

pub returns-in-Err-Disk-clause-anchor : goal.returns-in-Err-Disk-clause-anchor
returns-in-Err-Disk-clause-anchor g c = c.perform_step.ensures.anchor ∙ c.keep.ensures.anchor

pub come_back-requires-clause-serves : goal.come_back-requires-clause-serves
come_back-requires-clause-serves g c =
    let there = c.requires.serves in
    (there.0, c.look-in-Err-Memory.ensures.still there.0 c.keep.new.self c.perform_step.ensures.below (c.keep.ensures.still there.0 there.1))

pub come_back-requires-clause-short : goal.come_back-requires-clause-short
come_back-requires-clause-short g c tells_put =
    let tells = subst (λ t. IsTrue t) (c.perform_step.ensures.tells ∙ c.keep.ensures.same.tells) tells_put in
    let was = c.requires.stands tells in
    let capacity = was.0 in
    let committed = was.1 in
    let now = was.2 in
    let shrunk = was.3 in
    let stands = was.4 in
    let old = g.G.Ground.outside c.args.base.now in
    let s0 = g.G.SectorView.space c.args.base.now in
    let s1 = g.G.SectorView.space c.keep.new.self in
    let o1 = g.G.Ground.outside c.keep.new.self in
    let s2 = g.G.SectorView.space c.perform_step.new.base in
    let o2 = g.G.Ground.outside c.perform_step.new.base in
    let knows = g.V.Volume.knows c.args.volume.now s0 capacity in
    let knows_kept = g.V.Volume.knows c.args.volume.now s1 capacity in
    let carries = c.look.ensures c.args.base.now capacity committed now shrunk c.keep.ensures.same in
    let tells_kept = c.keep.ensures.same.tells ∙ tells in
    let there = stands_kept committed now shrunk knows knows_kept s0 s1 s2 s2 old o1 o2 o2 stands c.keep.ensures.same c.keep.ensures.quiet carries in
    let most = c.requires.serves.0 in
    let serves_kept = c.keep.ensures.still most c.requires.serves.1 in
    let shows = subst (λ (n : Anchor). ShowsJournal n.journal s1) (sym c.perform_step.ensures.anchor) (c.look-2.ensures.shows most serves_kept tells_kept there.heads) in
    let falls = falls_short c.recall-recalled.result capacity committed now shrunk (g.G.Ground.anchor c.perform_step.new.base).journal knows s0 s1 s2 old o1 o2 stands c.keep.ensures.same c.keep.ensures.quiet (c.recall-recalled.ensures tells_kept capacity committed now shrunk there.known) shows (c.perform_step.ensures.touches tells_kept capacity committed now shrunk there) (c.perform_step.ensures.own tells_kept capacity committed now shrunk there) in
    (c.args.base.now, c.keep.new.self, most, capacity, committed, now, shrunk, serves_kept, c.keep.ensures.kept, c.perform_step.ensures.below, falls)

pub returns-in_err-come_back-in-Err-Memory-clause-stops : goal.returns-in_err-come_back-in-Err-Memory-clause-stops
returns-in_err-come_back-in-Err-Memory-clause-stops g c tells capacity committed now shrunk stands =
    let old = g.G.Ground.outside c.args.base.now in
    let s0 = g.G.SectorView.space c.args.base.now in
    let s1 = g.G.SectorView.space c.keep.new.self in
    let o1 = g.G.Ground.outside c.keep.new.self in
    let s2 = g.G.SectorView.space c.perform_step.new.base in
    let o2 = g.G.Ground.outside c.perform_step.new.base in
    let knows = g.V.Volume.knows c.args.volume.now s0 capacity in
    let knows_kept = g.V.Volume.knows c.args.volume.now s1 capacity in
    let carries = c.look.ensures c.args.base.now capacity committed now shrunk c.keep.ensures.same in
    let tells_kept = c.keep.ensures.same.tells ∙ tells in
    let there = stands_kept committed now shrunk knows knows_kept s0 s1 s2 s2 old o1 o2 o2 stands c.keep.ensures.same c.keep.ensures.quiet carries in
    let most = c.requires.serves.0 in
    let serves_kept = c.keep.ensures.still most c.requires.serves.1 in
    let shows = subst (λ (n : Anchor). ShowsJournal n.journal s1) (sym c.perform_step.ensures.anchor) (c.look-2.ensures.shows most serves_kept tells_kept there.heads) in
    let falls = falls_short c.recall-recalled.result capacity committed now shrunk (g.G.Ground.anchor c.perform_step.new.base).journal knows s0 s1 s2 old o1 o2 stands c.keep.ensures.same c.keep.ensures.quiet (c.recall-recalled.ensures tells_kept capacity committed now shrunk there.known) shows (c.perform_step.ensures.touches tells_kept capacity committed now shrunk there) (c.perform_step.ensures.own tells_kept capacity committed now shrunk there) in
    on_err c.from_residual.result (c.in_err-come_back-in-Err-Memory.ensures.stops (c.perform_step.ensures.tells ∙ tells_kept) c.args.base.now c.keep.new.self most capacity committed now shrunk serves_kept c.keep.ensures.kept c.perform_step.ensures.below falls)

pub returns-in_err-hear_short-in-Err-Memory-clause-stops : goal.returns-in_err-hear_short-in-Err-Memory-clause-stops
returns-in_err-hear_short-in-Err-Memory-clause-stops g c tells capacity committed now shrunk stands =
    let old = g.G.Ground.outside c.args.base.now in
    let s0 = g.G.SectorView.space c.args.base.now in
    let s1 = g.G.SectorView.space c.keep.new.self in
    let o1 = g.G.Ground.outside c.keep.new.self in
    let s2 = g.G.SectorView.space c.perform_step.new.base in
    let o2 = g.G.Ground.outside c.perform_step.new.base in
    let knows = g.V.Volume.knows c.args.volume.now s0 capacity in
    let knows_kept = g.V.Volume.knows c.args.volume.now s1 capacity in
    let carries = c.look.ensures c.args.base.now capacity committed now shrunk c.keep.ensures.same in
    let tells_kept = c.keep.ensures.same.tells ∙ tells in
    let there = stands_kept committed now shrunk knows knows_kept s0 s1 s2 s2 old o1 o2 o2 stands c.keep.ensures.same c.keep.ensures.quiet carries in
    let most = c.requires.serves.0 in
    let serves_kept = c.keep.ensures.still most c.requires.serves.1 in
    let shows = subst (λ (n : Anchor). ShowsJournal n.journal s1) (sym c.perform_step.ensures.anchor) (c.look-2.ensures.shows most serves_kept tells_kept there.heads) in
    let falls = falls_short c.recall-recalled.result capacity committed now shrunk (g.G.Ground.anchor c.perform_step.new.base).journal knows s0 s1 s2 old o1 o2 stands c.keep.ensures.same c.keep.ensures.quiet (c.recall-recalled.ensures tells_kept capacity committed now shrunk there.known) shows (c.perform_step.ensures.touches tells_kept capacity committed now shrunk there) (c.perform_step.ensures.own tells_kept capacity committed now shrunk there) in
    let back = c.in_ok-come_back-in-Err-Memory.ensures.back (c.perform_step.ensures.tells ∙ tells_kept) c.args.base.now c.keep.new.self most capacity committed now shrunk serves_kept c.keep.ensures.kept c.perform_step.ensures.below falls in
    let s5 = g.G.SectorView.space c.come_back.new.base in
    on_err c.from_residual-in_err-hear_short-in-Err-Memory.result (memory_stops_tidy capacity shrunk committed now old (g.V.Volume.knows c.come_back.new.volume s5 capacity) s5 (g.G.Ground.outside c.come_back.new.base) back.goes)

pub returns-in_ok-hear_short-in-Err-Memory-clause-tries : goal.returns-in_ok-hear_short-in-Err-Memory-clause-tries
returns-in_ok-hear_short-in-Err-Memory-clause-tries g c tells capacity committed now shrunk stands own line spelled =
    let old = g.G.Ground.outside c.args.base.now in
    let s0 = g.G.SectorView.space c.args.base.now in
    let s1 = g.G.SectorView.space c.keep.new.self in
    let o1 = g.G.Ground.outside c.keep.new.self in
    let s2 = g.G.SectorView.space c.perform_step.new.base in
    let o2 = g.G.Ground.outside c.perform_step.new.base in
    let knows = g.V.Volume.knows c.args.volume.now s0 capacity in
    let knows_kept = g.V.Volume.knows c.args.volume.now s1 capacity in
    let carries = c.look.ensures c.args.base.now capacity committed now shrunk c.keep.ensures.same in
    let tells_kept = c.keep.ensures.same.tells ∙ tells in
    let there = stands_kept committed now shrunk knows knows_kept s0 s1 s2 s2 old o1 o2 o2 stands c.keep.ensures.same c.keep.ensures.quiet carries in
    let most = c.requires.serves.0 in
    let serves_kept = c.keep.ensures.still most c.requires.serves.1 in
    let shows = subst (λ (n : Anchor). ShowsJournal n.journal s1) (sym c.perform_step.ensures.anchor) (c.look-2.ensures.shows most serves_kept tells_kept there.heads) in
    let falls = falls_short c.recall-recalled.result capacity committed now shrunk (g.G.Ground.anchor c.perform_step.new.base).journal knows s0 s1 s2 old o1 o2 stands c.keep.ensures.same c.keep.ensures.quiet (c.recall-recalled.ensures tells_kept capacity committed now shrunk there.known) shows (c.perform_step.ensures.touches tells_kept capacity committed now shrunk there) (c.perform_step.ensures.own tells_kept capacity committed now shrunk there) in
    record {
      back = c.in_ok-come_back-in-Err-Memory.ensures.back (c.perform_step.ensures.tells ∙ tells_kept) c.args.base.now c.keep.new.self most capacity committed now shrunk serves_kept c.keep.ensures.kept c.perform_step.ensures.below falls;
      heard = subst (λ h. g.H.Hearer.hears h (reply.No refusal.OutOfMemory) [] c.hear_short.new.self) (subst (λ (r : Result Step Trouble). OnErr r (c.perform_step.new.heard ≡ c.args.heard.now)) c.in-Err-Memory.is c.perform_step.ensures.unheard) c.in_ok-hear_short-in-Err-Memory.ensures.heard;
    }

pub returns-in_ok-hear_short-in-Err-Memory-clause-still : goal.returns-in_ok-hear_short-in-Err-Memory-clause-still
returns-in_ok-hear_short-in-Err-Memory-clause-still g c capacity serves taken = c.in_ok-come_back-in-Err-Memory.ensures.still capacity (c.look-in-Err-Memory.ensures.still capacity c.keep.new.self c.perform_step.ensures.below (c.keep.ensures.still capacity serves))

pub returns-in_ok-hear_short-in-Err-Memory-clause-tells : goal.returns-in_ok-hear_short-in-Err-Memory-clause-tells
returns-in_ok-hear_short-in-Err-Memory-clause-tells g c = c.in_ok-come_back-in-Err-Memory.ensures.tells ∙ c.perform_step.ensures.tells ∙ c.keep.ensures.same.tells

pub returns-in-Ok-clause-wanted : goal.returns-in-Ok-clause-wanted
returns-in-Ok-clause-wanted g c tells is =
    let wants = g.V.Volume.wants c.args.volume.now (g.G.SectorView.space c.keep.new.self) (Some c.args.asked.now) in
    record {
      volume = c.args.volume.now;
      base = c.keep.new.self;
      behind = c.keep.ensures.barriers;
      wanted = subst (λ (q : Result Step Trouble). IfOk q (λ made. made ≡ step.CommitFirst → wants)) c.in-Ok.is (c.perform_step.ensures.wanted (c.keep.ensures.same.tells ∙ tells)) is;
    }

pub returns-in-Ok-clause-barriers : goal.returns-in-Ok-clause-barriers
returns-in-Ok-clause-barriers g c = omega (arith, c.keep.ensures.barriers, c.perform_step.ensures.barriers)

pub returns-in_ok-hear_short-in-Err-Memory-clause-wanted : goal.returns-in_ok-hear_short-in-Err-Memory-clause-wanted
returns-in_ok-hear_short-in-Err-Memory-clause-wanted g c tells is = absurd (cc is)

pub returns-in_ok-hear_short-in-Err-Memory-clause-barriers : goal.returns-in_ok-hear_short-in-Err-Memory-clause-barriers
returns-in_ok-hear_short-in-Err-Memory-clause-barriers g c = omega (arith, c.keep.ensures.barriers, c.perform_step.ensures.barriers, c.come_back.ensures.barriers)

pub returns-in-Ok-clause-most : goal.returns-in-Ok-clause-most
returns-in-Ok-clause-most g c = omega (arith, c.keep.ensures.barriers, c.perform_step.ensures.barriers)

pub returns-in-Err-Disk-clause-most : goal.returns-in-Err-Disk-clause-most
returns-in-Err-Disk-clause-most g c = omega (arith, c.keep.ensures.barriers, c.perform_step.ensures.barriers)

pub returns-in_err-come_back-in-Err-Memory-clause-most : goal.returns-in_err-come_back-in-Err-Memory-clause-most
returns-in_err-come_back-in-Err-Memory-clause-most g c = omega (arith, c.keep.ensures.barriers, c.perform_step.ensures.barriers, c.come_back.ensures.barriers)

pub returns-in_err-hear_short-in-Err-Memory-clause-most : goal.returns-in_err-hear_short-in-Err-Memory-clause-most
returns-in_err-hear_short-in-Err-Memory-clause-most g c = omega (arith, c.keep.ensures.barriers, c.perform_step.ensures.barriers, c.come_back.ensures.barriers)

pub returns-in_ok-hear_short-in-Err-Memory-clause-most : goal.returns-in_ok-hear_short-in-Err-Memory-clause-most
returns-in_ok-hear_short-in-Err-Memory-clause-most g c = omega (arith, c.keep.ensures.barriers, c.perform_step.ensures.barriers, c.come_back.ensures.barriers)
