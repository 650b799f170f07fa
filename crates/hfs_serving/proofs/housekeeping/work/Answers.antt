use Rattle.std.proofs.Common.{◌≡◌, ◌≤◌, sym, ◌∙◌, subst, Result, arith}
use Rattle.std.specs.Prelude.{None, IsTrue, IfOk, OnOk}
use Rattle.std.proofs.lemmas.Result.{err_from_is_err_and}
use Rattle.hx_bytes.specs.declared.faults.Trouble.{Trouble}
use Rattle.hfs_serving.specs.Going.{TidiesTo}
use Rattle.hfs_serving.specs.Grounds.{Anchor, ShowsJournal}
use Rattle.hfs_serving.specs.declared.volume.Next.{Next}
use Rattle.hfs_serving.specs.declared.volume.Next.TheVariants as next
use Rattle.hfs_serving.proofs.Causes.{counts_both, fine, handed}
use Rattle.hfs_serving.proofs.Going.{first_looks, first_rests, first_stands, first_stops, first_tidied, on_err, then_commits, then_commit_stops}
use Rattle.hfs_serving.proofs.Undoing.{falls_short, kept_touches, stands_kept}
use Rattle.hfs_serving.proofs.Caused.{causes_more, no_commit, short_commit, wanted_commit}
use Rattle.hfs_serving.proofs.housekeeping.work.Goals as goal

pub tidy_step-requires-clause-serves : goal.tidy_step-requires-clause-serves
tidy_step-requires-clause-serves g c =
    let there = c.requires.serves in
    (there.0, c.keep.ensures.still there.0 there.1, subst (λ n. n ≤ there.0) (sym c.keep.ensures.taken) there.2)

pub tidy_step-requires-clause-stands : goal.tidy_step-requires-clause-stands
tidy_step-requires-clause-stands g c tells_kept =
    let tells = subst (λ t. IsTrue t) c.keep.ensures.same.tells tells_kept in
    let was = c.requires.stands tells in
    let capacity = was.0 in
    let committed = was.1 in
    let now = was.2 in
    let shrunk = was.3 in
    let stands = was.4 in
    let old = g.G.Ground.outside c.args.base.now in
    let s0 = g.G.SectorView.space c.args.base.now in
    let s1 = g.G.SectorView.space c.keep.new.self in
    let o1 = g.G.Ground.outside c.keep.new.self in
    let knows = g.V.Volume.knows c.args.volume.now s0 capacity in
    let knows_kept = g.V.Volume.knows c.args.volume.now s1 capacity in
    let carries = c.look.ensures c.args.base.now capacity committed now shrunk c.keep.ensures.same in
    let there = stands_kept committed now shrunk knows knows_kept s0 s1 s1 s1 old o1 o1 o1 stands c.keep.ensures.same c.keep.ensures.quiet carries in
    (capacity, committed, now, shrunk, there)

pub returns-in-Ok-Rest-clause-goes : goal.returns-in-Ok-Rest-clause-goes
returns-in-Ok-Rest-clause-goes g c tells capacity committed now shrunk stands =
    let old = g.G.Ground.outside c.args.base.now in
    let s0 = g.G.SectorView.space c.args.base.now in
    let s1 = g.G.SectorView.space c.keep.new.self in
    let o1 = g.G.Ground.outside c.keep.new.self in
    let s2 = g.G.SectorView.space c.tidy_step.new.base in
    let o2 = g.G.Ground.outside c.tidy_step.new.base in
    let knows = g.V.Volume.knows c.args.volume.now s0 capacity in
    let knows_kept = g.V.Volume.knows c.args.volume.now s1 capacity in
    let carries = c.look.ensures c.args.base.now capacity committed now shrunk c.keep.ensures.same in
    let tells_kept = c.keep.ensures.same.tells ∙ tells in
    let there = stands_kept committed now shrunk knows knows_kept s0 s1 s2 s2 old o1 o2 o2 stands c.keep.ensures.same c.keep.ensures.quiet carries in
    let touches = kept_touches committed s0 s1 s2 old o1 o2 c.keep.ensures.same c.keep.ensures.quiet (c.tidy_step.ensures.touches tells_kept capacity committed now shrunk there) in
    let knows_new = g.V.Volume.knows c.tidy_step.new.self s2 capacity in
    let tidied = subst (λ (n : Next). TidiesTo n capacity knows_new committed now shrunk s2) c.in-Ok-Rest.field-0-is (subst (λ (q : Result Next Trouble). IfOk q (λ next. TidiesTo next capacity knows_new committed now shrunk s2)) c.in-Ok-Rest.is (c.tidy_step.ensures.tidied tells_kept capacity committed now shrunk there)) in
    first_looks capacity shrunk committed now old knows s0 stands knows_new s2 o2 touches tidied.0

pub returns-in-Ok-Rest-clause-rests : goal.returns-in-Ok-Rest-clause-rests
returns-in-Ok-Rest-clause-rests g c tells capacity committed now shrunk stands =
    let old = g.G.Ground.outside c.args.base.now in
    let s0 = g.G.SectorView.space c.args.base.now in
    let s1 = g.G.SectorView.space c.keep.new.self in
    let o1 = g.G.Ground.outside c.keep.new.self in
    let s2 = g.G.SectorView.space c.tidy_step.new.base in
    let o2 = g.G.Ground.outside c.tidy_step.new.base in
    let knows = g.V.Volume.knows c.args.volume.now s0 capacity in
    let knows_kept = g.V.Volume.knows c.args.volume.now s1 capacity in
    let carries = c.look.ensures c.args.base.now capacity committed now shrunk c.keep.ensures.same in
    let tells_kept = c.keep.ensures.same.tells ∙ tells in
    let there = stands_kept committed now shrunk knows knows_kept s0 s1 s2 s2 old o1 o2 o2 stands c.keep.ensures.same c.keep.ensures.quiet carries in
    let touches = kept_touches committed s0 s1 s2 old o1 o2 c.keep.ensures.same c.keep.ensures.quiet (c.tidy_step.ensures.touches tells_kept capacity committed now shrunk there) in
    let knows_new = g.V.Volume.knows c.tidy_step.new.self s2 capacity in
    let tidied = subst (λ (n : Next). TidiesTo n capacity knows_new committed now shrunk s2) c.in-Ok-Rest.field-0-is (subst (λ (q : Result Next Trouble). IfOk q (λ next. TidiesTo next capacity knows_new committed now shrunk s2)) c.in-Ok-Rest.is (c.tidy_step.ensures.tidied tells_kept capacity committed now shrunk there)) in
    λ rests. first_rests capacity shrunk committed now old knows s0 stands knows_new s2 o2 touches tidied.0 tidied.1

pub returns-in-Ok-Rest-clause-still : goal.returns-in-Ok-Rest-clause-still
returns-in-Ok-Rest-clause-still g c capacity serves taken =
    subst (λ (q : Result Next Trouble). OnOk q (g.G.Ground.serves c.tidy_step.new.base capacity × (g.G.Ground.taken c.tidy_step.new.base ≤ capacity))) c.in-Ok-Rest.is
    (c.tidy_step.ensures.still capacity (c.keep.ensures.still capacity serves) (subst (λ n. n ≤ capacity) (sym c.keep.ensures.taken) taken))

pub returns-in-Ok-Rest-clause-tells : goal.returns-in-Ok-Rest-clause-tells
returns-in-Ok-Rest-clause-tells g c =
    c.tidy_step.ensures.tells ∙ c.keep.ensures.same.tells

pub returns-in-Ok-Rest-clause-anchor : goal.returns-in-Ok-Rest-clause-anchor
returns-in-Ok-Rest-clause-anchor g c =
    c.tidy_step.ensures.anchor ∙ c.keep.ensures.anchor

pub returns-in-Ok-Rest-clause-faults : goal.returns-in-Ok-Rest-clause-faults
returns-in-Ok-Rest-clause-faults g c =
    fine (counts_both c.keep.ensures.counts c.tidy_step.ensures.faults.counts) _

pub returns-in-Ok-Made-clause-goes : goal.returns-in-Ok-Made-clause-goes
returns-in-Ok-Made-clause-goes g c tells capacity committed now shrunk stands =
    let old = g.G.Ground.outside c.args.base.now in
    let s0 = g.G.SectorView.space c.args.base.now in
    let s1 = g.G.SectorView.space c.keep.new.self in
    let o1 = g.G.Ground.outside c.keep.new.self in
    let s2 = g.G.SectorView.space c.tidy_step.new.base in
    let o2 = g.G.Ground.outside c.tidy_step.new.base in
    let knows = g.V.Volume.knows c.args.volume.now s0 capacity in
    let knows_kept = g.V.Volume.knows c.args.volume.now s1 capacity in
    let carries = c.look.ensures c.args.base.now capacity committed now shrunk c.keep.ensures.same in
    let tells_kept = c.keep.ensures.same.tells ∙ tells in
    let there = stands_kept committed now shrunk knows knows_kept s0 s1 s2 s2 old o1 o2 o2 stands c.keep.ensures.same c.keep.ensures.quiet carries in
    let touches = kept_touches committed s0 s1 s2 old o1 o2 c.keep.ensures.same c.keep.ensures.quiet (c.tidy_step.ensures.touches tells_kept capacity committed now shrunk there) in
    let knows_new = g.V.Volume.knows c.tidy_step.new.self s2 capacity in
    let tidied = subst (λ (n : Next). TidiesTo n capacity knows_new committed now shrunk s2) c.in-Ok-Made.field-0-is (subst (λ (q : Result Next Trouble). IfOk q (λ next. TidiesTo next capacity knows_new committed now shrunk s2)) c.in-Ok-Made.is (c.tidy_step.ensures.tidied tells_kept capacity committed now shrunk there)) in
    first_tidied capacity shrunk committed now old knows s0 stands knows_new s2 o2 touches tidied

pub returns-in-Ok-Made-clause-still : goal.returns-in-Ok-Made-clause-still
returns-in-Ok-Made-clause-still g c capacity serves taken =
    subst (λ (q : Result Next Trouble). OnOk q (g.G.Ground.serves c.tidy_step.new.base capacity × (g.G.Ground.taken c.tidy_step.new.base ≤ capacity))) c.in-Ok-Made.is
    (c.tidy_step.ensures.still capacity (c.keep.ensures.still capacity serves) (subst (λ n. n ≤ capacity) (sym c.keep.ensures.taken) taken))

pub returns-in-Ok-Made-clause-tells : goal.returns-in-Ok-Made-clause-tells
returns-in-Ok-Made-clause-tells g c =
    c.tidy_step.ensures.tells ∙ c.keep.ensures.same.tells

pub returns-in-Ok-Made-clause-anchor : goal.returns-in-Ok-Made-clause-anchor
returns-in-Ok-Made-clause-anchor g c =
    c.tidy_step.ensures.anchor ∙ c.keep.ensures.anchor

pub returns-in-Ok-Made-clause-faults : goal.returns-in-Ok-Made-clause-faults
returns-in-Ok-Made-clause-faults g c =
    fine (counts_both c.keep.ensures.counts c.tidy_step.ensures.faults.counts) _

pub commit-requires-clause-serves : goal.commit-requires-clause-serves
commit-requires-clause-serves g c =
    let there = c.requires.serves in
    let last = subst (λ (q : Result Next Trouble). OnOk q (g.G.Ground.serves c.tidy_step.new.base there.0 × (g.G.Ground.taken c.tidy_step.new.base ≤ there.0))) c.in-Ok-CommitFirst.is
    (c.tidy_step.ensures.still there.0 (c.keep.ensures.still there.0 there.1) (subst (λ n. n ≤ there.0) (sym c.keep.ensures.taken) there.2)) in
    (there.0, last.0, last.1)

pub commit-requires-clause-stands : goal.commit-requires-clause-stands
commit-requires-clause-stands g c tells_new =
    let tells = subst (λ t. IsTrue t) (c.tidy_step.ensures.tells ∙ c.keep.ensures.same.tells) tells_new in
    let was = c.requires.stands tells in
    let capacity = was.0 in
    let committed = was.1 in
    let now = was.2 in
    let shrunk = was.3 in
    let stands = was.4 in
    let old = g.G.Ground.outside c.args.base.now in
    let s0 = g.G.SectorView.space c.args.base.now in
    let s1 = g.G.SectorView.space c.keep.new.self in
    let o1 = g.G.Ground.outside c.keep.new.self in
    let s2 = g.G.SectorView.space c.tidy_step.new.base in
    let o2 = g.G.Ground.outside c.tidy_step.new.base in
    let knows = g.V.Volume.knows c.args.volume.now s0 capacity in
    let knows_kept = g.V.Volume.knows c.args.volume.now s1 capacity in
    let carries = c.look.ensures c.args.base.now capacity committed now shrunk c.keep.ensures.same in
    let tells_kept = c.keep.ensures.same.tells ∙ tells in
    let there = stands_kept committed now shrunk knows knows_kept s0 s1 s2 s2 old o1 o2 o2 stands c.keep.ensures.same c.keep.ensures.quiet carries in
    let touches = kept_touches committed s0 s1 s2 old o1 o2 c.keep.ensures.same c.keep.ensures.quiet (c.tidy_step.ensures.touches tells_kept capacity committed now shrunk there) in
    let knows_new = g.V.Volume.knows c.tidy_step.new.self s2 capacity in
    let tidied = subst (λ (n : Next). TidiesTo n capacity knows_new committed now shrunk s2) c.in-Ok-CommitFirst.field-0-is (subst (λ (q : Result Next Trouble). IfOk q (λ next. TidiesTo next capacity knows_new committed now shrunk s2)) c.in-Ok-CommitFirst.is (c.tidy_step.ensures.tidied tells_kept capacity committed now shrunk there)) in
    (capacity, committed, now, shrunk, first_stands capacity shrunk committed now old knows s0 stands knows_new s2 o2 touches tidied)

pub returns-in_err-commit-in-Ok-CommitFirst-clause-stops : goal.returns-in_err-commit-in-Ok-CommitFirst-clause-stops
returns-in_err-commit-in-Ok-CommitFirst-clause-stops g c tells capacity committed now shrunk stands =
    let old = g.G.Ground.outside c.args.base.now in
    let s0 = g.G.SectorView.space c.args.base.now in
    let s1 = g.G.SectorView.space c.keep.new.self in
    let o1 = g.G.Ground.outside c.keep.new.self in
    let s2 = g.G.SectorView.space c.tidy_step.new.base in
    let o2 = g.G.Ground.outside c.tidy_step.new.base in
    let knows = g.V.Volume.knows c.args.volume.now s0 capacity in
    let knows_kept = g.V.Volume.knows c.args.volume.now s1 capacity in
    let carries = c.look.ensures c.args.base.now capacity committed now shrunk c.keep.ensures.same in
    let tells_kept = c.keep.ensures.same.tells ∙ tells in
    let there = stands_kept committed now shrunk knows knows_kept s0 s1 s2 s2 old o1 o2 o2 stands c.keep.ensures.same c.keep.ensures.quiet carries in
    let touches = kept_touches committed s0 s1 s2 old o1 o2 c.keep.ensures.same c.keep.ensures.quiet (c.tidy_step.ensures.touches tells_kept capacity committed now shrunk there) in
    let knows_new = g.V.Volume.knows c.tidy_step.new.self s2 capacity in
    let tidied = subst (λ (n : Next). TidiesTo n capacity knows_new committed now shrunk s2) c.in-Ok-CommitFirst.field-0-is (subst (λ (q : Result Next Trouble). IfOk q (λ next. TidiesTo next capacity knows_new committed now shrunk s2)) c.in-Ok-CommitFirst.is (c.tidy_step.ensures.tidied tells_kept capacity committed now shrunk there)) in
    on_err c.from_residual.result (then_commit_stops capacity shrunk committed now old knows s0 stands knows_new s2 o2 touches tidied (g.G.Ground.outside c.commit.new.base) (c.commit.ensures.crash (c.tidy_step.ensures.tells ∙ tells_kept)))

pub returns-in_ok-commit-in-Ok-CommitFirst-clause-goes : goal.returns-in_ok-commit-in-Ok-CommitFirst-clause-goes
returns-in_ok-commit-in-Ok-CommitFirst-clause-goes g c tells capacity committed now shrunk stands =
    let old = g.G.Ground.outside c.args.base.now in
    let s0 = g.G.SectorView.space c.args.base.now in
    let s1 = g.G.SectorView.space c.keep.new.self in
    let o1 = g.G.Ground.outside c.keep.new.self in
    let s2 = g.G.SectorView.space c.tidy_step.new.base in
    let o2 = g.G.Ground.outside c.tidy_step.new.base in
    let knows = g.V.Volume.knows c.args.volume.now s0 capacity in
    let knows_kept = g.V.Volume.knows c.args.volume.now s1 capacity in
    let carries = c.look.ensures c.args.base.now capacity committed now shrunk c.keep.ensures.same in
    let tells_kept = c.keep.ensures.same.tells ∙ tells in
    let there = stands_kept committed now shrunk knows knows_kept s0 s1 s2 s2 old o1 o2 o2 stands c.keep.ensures.same c.keep.ensures.quiet carries in
    let touches = kept_touches committed s0 s1 s2 old o1 o2 c.keep.ensures.same c.keep.ensures.quiet (c.tidy_step.ensures.touches tells_kept capacity committed now shrunk there) in
    let knows_new = g.V.Volume.knows c.tidy_step.new.self s2 capacity in
    let tidied = subst (λ (n : Next). TidiesTo n capacity knows_new committed now shrunk s2) c.in-Ok-CommitFirst.field-0-is (subst (λ (q : Result Next Trouble). IfOk q (λ next. TidiesTo next capacity knows_new committed now shrunk s2)) c.in-Ok-CommitFirst.is (c.tidy_step.ensures.tidied tells_kept capacity committed now shrunk there)) in
    let s3 = g.G.SectorView.space c.commit.new.base in
    then_commits capacity shrunk committed now old knows s0 stands knows_new s2 o2 touches tidied (g.V.Volume.knows c.commit.new.self s3 capacity) s3 (g.G.Ground.outside c.commit.new.base) (c.in_ok-commit-in-Ok-CommitFirst.ensures.done (c.tidy_step.ensures.tells ∙ tells_kept))
    (c.in_ok-commit-in-Ok-CommitFirst.ensures.knows (c.tidy_step.ensures.tells ∙ tells_kept) capacity committed now shrunk (first_stands capacity shrunk committed now old knows s0 stands knows_new s2 o2 touches tidied))

pub returns-in-Err-Disk-clause-stops : goal.returns-in-Err-Disk-clause-stops
returns-in-Err-Disk-clause-stops g c tells capacity committed now shrunk stands =
    let old = g.G.Ground.outside c.args.base.now in
    let s0 = g.G.SectorView.space c.args.base.now in
    let s1 = g.G.SectorView.space c.keep.new.self in
    let o1 = g.G.Ground.outside c.keep.new.self in
    let s2 = g.G.SectorView.space c.tidy_step.new.base in
    let o2 = g.G.Ground.outside c.tidy_step.new.base in
    let knows = g.V.Volume.knows c.args.volume.now s0 capacity in
    let knows_kept = g.V.Volume.knows c.args.volume.now s1 capacity in
    let carries = c.look.ensures c.args.base.now capacity committed now shrunk c.keep.ensures.same in
    let tells_kept = c.keep.ensures.same.tells ∙ tells in
    let there = stands_kept committed now shrunk knows knows_kept s0 s1 s2 s2 old o1 o2 o2 stands c.keep.ensures.same c.keep.ensures.quiet carries in
    let touches = kept_touches committed s0 s1 s2 old o1 o2 c.keep.ensures.same c.keep.ensures.quiet (c.tidy_step.ensures.touches tells_kept capacity committed now shrunk there) in
    first_stops capacity shrunk committed now old knows s0 stands s2 o2 touches

pub returns-in-Err-Disk-clause-anchor : goal.returns-in-Err-Disk-clause-anchor
returns-in-Err-Disk-clause-anchor g c =
    c.tidy_step.ensures.anchor ∙ c.keep.ensures.anchor

pub returns-in_err-take_try-in-Err-Memory-clause-stops : goal.returns-in_err-take_try-in-Err-Memory-clause-stops
returns-in_err-take_try-in-Err-Memory-clause-stops g c tells capacity committed now shrunk stands =
    let old = g.G.Ground.outside c.args.base.now in
    let s0 = g.G.SectorView.space c.args.base.now in
    let s1 = g.G.SectorView.space c.keep.new.self in
    let o1 = g.G.Ground.outside c.keep.new.self in
    let s2 = g.G.SectorView.space c.tidy_step.new.base in
    let o2 = g.G.Ground.outside c.tidy_step.new.base in
    let knows = g.V.Volume.knows c.args.volume.now s0 capacity in
    let knows_kept = g.V.Volume.knows c.args.volume.now s1 capacity in
    let carries = c.look.ensures c.args.base.now capacity committed now shrunk c.keep.ensures.same in
    let tells_kept = c.keep.ensures.same.tells ∙ tells in
    let there = stands_kept committed now shrunk knows knows_kept s0 s1 s2 s2 old o1 o2 o2 stands c.keep.ensures.same c.keep.ensures.quiet carries in
    let touches = kept_touches committed s0 s1 s2 old o1 o2 c.keep.ensures.same c.keep.ensures.quiet (c.tidy_step.ensures.touches tells_kept capacity committed now shrunk there) in
    on_err c.from_residual-in_err-take_try-in-Err-Memory.result (first_stops capacity shrunk committed now old knows s0 stands s2 o2 touches)

pub returns-in_err-take_try-in-Err-Memory-clause-anchor : goal.returns-in_err-take_try-in-Err-Memory-clause-anchor
returns-in_err-take_try-in-Err-Memory-clause-anchor g c =
    c.tidy_step.ensures.anchor ∙ c.keep.ensures.anchor

pub come_back-requires-clause-serves : goal.come_back-requires-clause-serves
come_back-requires-clause-serves g c =
    let there = c.requires.serves in
    (there.0, c.look-in-Err-Memory.ensures.still there.0 c.keep.new.self c.tidy_step.ensures.below (c.keep.ensures.still there.0 there.1))

pub come_back-requires-clause-short : goal.come_back-requires-clause-short
come_back-requires-clause-short g c tells_put =
    let tells = subst (λ t. IsTrue t) (c.tidy_step.ensures.tells ∙ c.keep.ensures.same.tells) tells_put in
    let was = c.requires.stands tells in
    let capacity = was.0 in
    let committed = was.1 in
    let now = was.2 in
    let shrunk = was.3 in
    let stands = was.4 in
    let old = g.G.Ground.outside c.args.base.now in
    let s0 = g.G.SectorView.space c.args.base.now in
    let s1 = g.G.SectorView.space c.keep.new.self in
    let o1 = g.G.Ground.outside c.keep.new.self in
    let s2 = g.G.SectorView.space c.tidy_step.new.base in
    let o2 = g.G.Ground.outside c.tidy_step.new.base in
    let knows = g.V.Volume.knows c.args.volume.now s0 capacity in
    let knows_kept = g.V.Volume.knows c.args.volume.now s1 capacity in
    let carries = c.look.ensures c.args.base.now capacity committed now shrunk c.keep.ensures.same in
    let tells_kept = c.keep.ensures.same.tells ∙ tells in
    let there = stands_kept committed now shrunk knows knows_kept s0 s1 s2 s2 old o1 o2 o2 stands c.keep.ensures.same c.keep.ensures.quiet carries in
    let most = c.requires.serves.0 in
    let serves_kept = c.keep.ensures.still most c.requires.serves.1 in
    let shows = subst (λ (n : Anchor). ShowsJournal n.journal s1) (sym c.tidy_step.ensures.anchor) (c.look-2.ensures.shows most serves_kept tells_kept there.heads) in
    let falls = falls_short c.recall-recalled.result capacity committed now shrunk (g.G.Ground.anchor c.tidy_step.new.base).journal knows s0 s1 s2 old o1 o2 stands c.keep.ensures.same c.keep.ensures.quiet (c.recall-recalled.ensures tells_kept capacity committed now shrunk there.known) shows (c.tidy_step.ensures.touches tells_kept capacity committed now shrunk there) (c.tidy_step.ensures.own tells_kept capacity committed now shrunk there) in
    (c.args.base.now, c.keep.new.self, most, capacity, committed, now, shrunk, serves_kept, c.keep.ensures.kept, c.tidy_step.ensures.below, falls)

pub returns-in_err-come_back-in-Err-Memory-clause-stops : goal.returns-in_err-come_back-in-Err-Memory-clause-stops
returns-in_err-come_back-in-Err-Memory-clause-stops g c tells capacity committed now shrunk stands =
    let old = g.G.Ground.outside c.args.base.now in
    let s0 = g.G.SectorView.space c.args.base.now in
    let s1 = g.G.SectorView.space c.keep.new.self in
    let o1 = g.G.Ground.outside c.keep.new.self in
    let s2 = g.G.SectorView.space c.tidy_step.new.base in
    let o2 = g.G.Ground.outside c.tidy_step.new.base in
    let knows = g.V.Volume.knows c.args.volume.now s0 capacity in
    let knows_kept = g.V.Volume.knows c.args.volume.now s1 capacity in
    let carries = c.look.ensures c.args.base.now capacity committed now shrunk c.keep.ensures.same in
    let tells_kept = c.keep.ensures.same.tells ∙ tells in
    let there = stands_kept committed now shrunk knows knows_kept s0 s1 s2 s2 old o1 o2 o2 stands c.keep.ensures.same c.keep.ensures.quiet carries in
    let most = c.requires.serves.0 in
    let serves_kept = c.keep.ensures.still most c.requires.serves.1 in
    let shows = subst (λ (n : Anchor). ShowsJournal n.journal s1) (sym c.tidy_step.ensures.anchor) (c.look-2.ensures.shows most serves_kept tells_kept there.heads) in
    let falls = falls_short c.recall-recalled.result capacity committed now shrunk (g.G.Ground.anchor c.tidy_step.new.base).journal knows s0 s1 s2 old o1 o2 stands c.keep.ensures.same c.keep.ensures.quiet (c.recall-recalled.ensures tells_kept capacity committed now shrunk there.known) shows (c.tidy_step.ensures.touches tells_kept capacity committed now shrunk there) (c.tidy_step.ensures.own tells_kept capacity committed now shrunk there) in
    on_err c.from_residual-in_err-come_back-in-Err-Memory.result (c.in_err-come_back-in-Err-Memory.ensures.stops (c.tidy_step.ensures.tells ∙ tells_kept) c.args.base.now c.keep.new.self most capacity committed now shrunk serves_kept c.keep.ensures.kept c.tidy_step.ensures.below falls)

pub returns-in_ok-come_back-in-Err-Memory-clause-goes : goal.returns-in_ok-come_back-in-Err-Memory-clause-goes
returns-in_ok-come_back-in-Err-Memory-clause-goes g c tells capacity committed now shrunk stands =
    let old = g.G.Ground.outside c.args.base.now in
    let s0 = g.G.SectorView.space c.args.base.now in
    let s1 = g.G.SectorView.space c.keep.new.self in
    let o1 = g.G.Ground.outside c.keep.new.self in
    let s2 = g.G.SectorView.space c.tidy_step.new.base in
    let o2 = g.G.Ground.outside c.tidy_step.new.base in
    let knows = g.V.Volume.knows c.args.volume.now s0 capacity in
    let knows_kept = g.V.Volume.knows c.args.volume.now s1 capacity in
    let carries = c.look.ensures c.args.base.now capacity committed now shrunk c.keep.ensures.same in
    let tells_kept = c.keep.ensures.same.tells ∙ tells in
    let there = stands_kept committed now shrunk knows knows_kept s0 s1 s2 s2 old o1 o2 o2 stands c.keep.ensures.same c.keep.ensures.quiet carries in
    let most = c.requires.serves.0 in
    let serves_kept = c.keep.ensures.still most c.requires.serves.1 in
    let shows = subst (λ (n : Anchor). ShowsJournal n.journal s1) (sym c.tidy_step.ensures.anchor) (c.look-2.ensures.shows most serves_kept tells_kept there.heads) in
    let falls = falls_short c.recall-recalled.result capacity committed now shrunk (g.G.Ground.anchor c.tidy_step.new.base).journal knows s0 s1 s2 old o1 o2 stands c.keep.ensures.same c.keep.ensures.quiet (c.recall-recalled.ensures tells_kept capacity committed now shrunk there.known) shows (c.tidy_step.ensures.touches tells_kept capacity committed now shrunk there) (c.tidy_step.ensures.own tells_kept capacity committed now shrunk there) in
    (c.in_ok-come_back-in-Err-Memory.ensures.back (c.tidy_step.ensures.tells ∙ tells_kept) c.args.base.now c.keep.new.self most capacity committed now shrunk serves_kept c.keep.ensures.kept c.tidy_step.ensures.below falls).goes

pub returns-in_ok-come_back-in-Err-Memory-clause-still : goal.returns-in_ok-come_back-in-Err-Memory-clause-still
returns-in_ok-come_back-in-Err-Memory-clause-still g c capacity serves taken =
    c.in_ok-come_back-in-Err-Memory.ensures.still capacity (c.look-in-Err-Memory.ensures.still capacity c.keep.new.self c.tidy_step.ensures.below (c.keep.ensures.still capacity serves))

pub returns-in_ok-come_back-in-Err-Memory-clause-tells : goal.returns-in_ok-come_back-in-Err-Memory-clause-tells
returns-in_ok-come_back-in-Err-Memory-clause-tells g c =
    c.in_ok-come_back-in-Err-Memory.ensures.tells ∙ c.tidy_step.ensures.tells ∙ c.keep.ensures.same.tells

pub returns-in_ok-come_back-in-Err-Memory-clause-faults : goal.returns-in_ok-come_back-in-Err-Memory-clause-faults
returns-in_ok-come_back-in-Err-Memory-clause-faults g c =
    fine (counts_both (counts_both c.keep.ensures.counts c.tidy_step.ensures.faults.counts) c.come_back.ensures.faults.counts) _

pub returns-in_ok-commit-in-Ok-CommitFirst-clause-faults : goal.returns-in_ok-commit-in-Ok-CommitFirst-clause-faults
returns-in_ok-commit-in-Ok-CommitFirst-clause-faults g c =
    fine (counts_both (counts_both c.keep.ensures.counts c.tidy_step.ensures.faults.counts) c.commit.ensures.faults.counts) _

pub returns-in_err-commit-in-Ok-CommitFirst-clause-faults : goal.returns-in_err-commit-in-Ok-CommitFirst-clause-faults
returns-in_err-commit-in-Ok-CommitFirst-clause-faults g c =
    let p = err_from_is_err_and c.from_residual.result c.from_residual.ensures.1 in
    handed (counts_both c.keep.ensures.counts c.tidy_step.ensures.faults.counts) _ p.0 c.from_residual.result c.in_err-commit-in-Ok-CommitFirst.ensures.faults p.1 p.2

pub returns-in_err-come_back-in-Err-Memory-clause-faults : goal.returns-in_err-come_back-in-Err-Memory-clause-faults
returns-in_err-come_back-in-Err-Memory-clause-faults g c =
    let p = err_from_is_err_and c.from_residual-in_err-come_back-in-Err-Memory.result c.from_residual-in_err-come_back-in-Err-Memory.ensures.1 in
    handed (counts_both c.keep.ensures.counts c.tidy_step.ensures.faults.counts) _ p.0 c.from_residual-in_err-come_back-in-Err-Memory.result c.in_err-come_back-in-Err-Memory.ensures.faults p.1 p.2

pub returns-in-Ok-Rest-clause-caused : goal.returns-in-Ok-Rest-clause-caused
returns-in-Ok-Rest-clause-caused g c tells = no_commit _ _ _ _ (omega (arith, c.keep.ensures.barriers, c.tidy_step.ensures.barriers))

pub returns-in-Ok-Made-clause-caused : goal.returns-in-Ok-Made-clause-caused
returns-in-Ok-Made-clause-caused g c tells = no_commit _ _ _ _ (omega (arith, c.keep.ensures.barriers, c.tidy_step.ensures.barriers))

pub returns-in_ok-commit-in-Ok-CommitFirst-clause-caused : goal.returns-in_ok-commit-in-Ok-CommitFirst-clause-caused
returns-in_ok-commit-in-Ok-CommitFirst-clause-caused g c tells =
    let s1 = g.G.SectorView.space c.keep.new.self in
    let wants = g.V.Volume.wants c.args.volume.now s1 None in
    let wanted = subst (λ (q : Result Next Trouble). IfOk q (λ n. n ≡ next.CommitFirst → wants)) c.in-Ok-CommitFirst.is (c.tidy_step.ensures.wanted (c.keep.ensures.same.tells ∙ tells)) c.in-Ok-CommitFirst.field-0-is in
    wanted_commit _ _ _ _ (None, record { volume = c.args.volume.now; base = c.keep.new.self; behind = c.keep.ensures.barriers; wanted = wanted }) (omega (arith, c.keep.ensures.barriers, c.tidy_step.ensures.barriers, c.commit.ensures.barriers))

pub returns-in_ok-come_back-in-Err-Memory-clause-caused : goal.returns-in_ok-come_back-in-Err-Memory-clause-caused
returns-in_ok-come_back-in-Err-Memory-clause-caused g c tells =
    causes_more _ 1 _ _ _ (short_commit _ _ _ (omega (arith, c.keep.ensures.barriers, c.tidy_step.ensures.barriers, c.come_back.ensures.barriers))) (omega (arith, c.in_ok-take_try-in-Err-Memory.ensures.fewer))

pub returns-in_err-commit-in-Ok-CommitFirst-clause-caused : goal.returns-in_err-commit-in-Ok-CommitFirst-clause-caused
returns-in_err-commit-in-Ok-CommitFirst-clause-caused g c tells =
    let s1 = g.G.SectorView.space c.keep.new.self in
    let wants = g.V.Volume.wants c.args.volume.now s1 None in
    let wanted = subst (λ (q : Result Next Trouble). IfOk q (λ n. n ≡ next.CommitFirst → wants)) c.in-Ok-CommitFirst.is (c.tidy_step.ensures.wanted (c.keep.ensures.same.tells ∙ tells)) c.in-Ok-CommitFirst.field-0-is in
    wanted_commit _ _ _ _ (None, record { volume = c.args.volume.now; base = c.keep.new.self; behind = c.keep.ensures.barriers; wanted = wanted }) (omega (arith, c.keep.ensures.barriers, c.tidy_step.ensures.barriers, c.commit.ensures.barriers))

pub returns-in-Err-Disk-clause-caused : goal.returns-in-Err-Disk-clause-caused
returns-in-Err-Disk-clause-caused g c tells = no_commit _ _ _ _ (omega (arith, c.keep.ensures.barriers, c.tidy_step.ensures.barriers))

pub returns-in_err-take_try-in-Err-Memory-clause-caused : goal.returns-in_err-take_try-in-Err-Memory-clause-caused
returns-in_err-take_try-in-Err-Memory-clause-caused g c tells = no_commit _ _ _ _ (omega (arith, c.keep.ensures.barriers, c.tidy_step.ensures.barriers))

pub returns-in_err-come_back-in-Err-Memory-clause-caused : goal.returns-in_err-come_back-in-Err-Memory-clause-caused
returns-in_err-come_back-in-Err-Memory-clause-caused g c tells =
    causes_more _ 1 _ _ _ (short_commit _ _ _ (omega (arith, c.keep.ensures.barriers, c.tidy_step.ensures.barriers, c.come_back.ensures.barriers))) (omega (arith, c.in_ok-take_try-in-Err-Memory.ensures.fewer))
