use Rattle.std.proofs.Common.{ℕ, ◌∙◌, arith, subst}
use Rattle.std.specs.Prelude.{IsTrue, Option}
use Rattle.hfs_serving.specs.Going.{Stays}
use Rattle.hfs_serving.specs.Grounds.{Anchor, ShowsJournal}
use Rattle.hfs_serving.specs.Trying.{unknown}
use Rattle.hfs_serving.proofs.Going.{on_err}
use Rattle.hfs_serving.proofs.Undoing.{comes_back, falls_back, falls_renew, renew_stops, undone_commit_stops}
use Rattle.hfs_serving.proofs.returning.come_back.Goals as goal

pub undo-requires : goal.undo-requires
undo-requires g c = record { serves = c.requires.serves }

pub commit-requires-clause-serves : goal.commit-requires-clause-serves
commit-requires-clause-serves g c =
    let there = c.requires.serves in
    let back = c.undo.ensures.still there.0 there.1 in
    (there.0, back, c.look.ensures.most there.0 back)

pub commit-requires-clause-heads : goal.commit-requires-clause-heads
commit-requires-clause-heads g c tells_back =
    let tells = subst (λ t. IsTrue t) c.undo.ensures.tells tells_back in
    let was = c.requires.short tells in
    let begun = was.0 in
    let kept = was.1 in
    let most = was.2 in
    let short = was.10 in
    let undoes = c.undo.ensures.undoes kept most was.7 was.8 was.9 tells in
    (falls_back c.args.recalled was.3 was.4 was.5 was.6 (g.G.Ground.anchor c.args.base.now).journal (g.G.SectorView.space begun) (g.G.SectorView.space kept) (g.G.SectorView.space c.args.base.now) (g.G.Ground.outside begun) (g.G.Ground.outside kept) (g.G.Ground.outside c.args.base.now) short
    (g.G.SectorView.space c.undo.new.self) (g.G.Ground.outside c.undo.new.self) undoes c.undo.ensures.quiet).heads

pub returns-in_err-commit-clause-stops : goal.returns-in_err-commit-clause-stops
returns-in_err-commit-clause-stops g c tells begun kept most capacity committed now shrunk serves keeps follows short =
    let s0 = g.G.SectorView.space begun in
    let o0 = g.G.Ground.outside begun in
    let s3 = g.G.SectorView.space c.undo.new.self in
    let o3 = g.G.Ground.outside c.undo.new.self in
    let undoes = c.undo.ensures.undoes kept most serves keeps follows tells in
    let back = falls_back c.args.recalled capacity committed now shrunk (g.G.Ground.anchor c.args.base.now).journal s0 (g.G.SectorView.space kept) (g.G.SectorView.space c.args.base.now) o0 (g.G.Ground.outside kept) (g.G.Ground.outside c.args.base.now) short s3 o3 undoes c.undo.ensures.quiet in
    on_err c.from_residual.result (undone_commit_stops capacity shrunk committed now o0 unknown s0 short.stands s3 o3 back (g.G.Ground.outside c.commit.new.self) (c.commit.ensures.crash (c.undo.ensures.tells ∙ tells)))

pub renew-requires-clause-serves : goal.renew-requires-clause-serves
renew-requires-clause-serves g c =
    let there = c.requires.serves in
    let back = c.undo.ensures.still there.0 there.1 in
    (there.0, c.in_ok-commit.ensures.still there.0 back, c.in_ok-commit.ensures.nothing)

pub renew-requires-clause-may : goal.renew-requires-clause-may
renew-requires-clause-may g c tells_last =
    let tells = subst (λ t. IsTrue t) (c.in_ok-commit.ensures.tells ∙ c.undo.ensures.tells) tells_last in
    let was = c.requires.short tells in
    let begun = was.0 in
    let kept = was.1 in
    let most = was.2 in
    let short = was.10 in
    let undoes = c.undo.ensures.undoes kept most was.7 was.8 was.9 tells in
    let tells_back = c.undo.ensures.tells ∙ tells in
    let there = c.requires.serves in
    let serves_then = c.in_ok-commit.ensures.still there.0 (c.undo.ensures.still there.0 there.1) in
    let heads = c.in_ok-commit.ensures.heads tells_back in
    let s4 = g.G.SectorView.space c.commit.new.self in
    let shows = subst (λ (n : Anchor). ShowsJournal n.journal s4) (c.commit.ensures.anchor ∙ c.undo.ensures.anchor) (c.look-2.ensures.shows there.0 serves_then tells_last heads) in
    let renew =
    falls_renew c.args.recalled was.3 was.4 was.5 was.6 (g.G.Ground.anchor c.args.base.now).journal (g.G.SectorView.space begun) (g.G.SectorView.space kept) (g.G.SectorView.space c.args.base.now) (g.G.Ground.outside begun) (g.G.Ground.outside kept) (g.G.Ground.outside c.args.base.now) short
    (g.G.SectorView.space c.undo.new.self) s4 (g.G.Ground.outside c.undo.new.self) (g.G.Ground.outside c.commit.new.self) undoes c.undo.ensures.quiet (c.in_ok-commit.ensures.done tells_back) heads shows
    in
    (was.5, renew)

pub returns-in_err-renew-clause-stops : goal.returns-in_err-renew-clause-stops
returns-in_err-renew-clause-stops g c tells begun kept most capacity committed now shrunk serves keeps follows short =
    let s0 = g.G.SectorView.space begun in
    let o0 = g.G.Ground.outside begun in
    let s1 = g.G.SectorView.space kept in
    let o1 = g.G.Ground.outside kept in
    let s2 = g.G.SectorView.space c.args.base.now in
    let o2 = g.G.Ground.outside c.args.base.now in
    let journal = (g.G.Ground.anchor c.args.base.now).journal in
    let s3 = g.G.SectorView.space c.undo.new.self in
    let o3 = g.G.Ground.outside c.undo.new.self in
    let s4 = g.G.SectorView.space c.commit.new.self in
    let o4 = g.G.Ground.outside c.commit.new.self in
    let undoes = c.undo.ensures.undoes kept most serves keeps follows tells in
    let back = falls_back c.args.recalled capacity committed now shrunk journal s0 s1 s2 o0 o1 o2 short s3 o3 undoes c.undo.ensures.quiet in
    let tells_back = c.undo.ensures.tells ∙ tells in
    let commits = c.in_ok-commit.ensures.done tells_back in
    let tells_then = c.in_ok-commit.ensures.tells ∙ tells_back in
    let there = c.requires.serves in
    let serves_then = c.in_ok-commit.ensures.still there.0 (c.undo.ensures.still there.0 there.1) in
    let heads = c.in_ok-commit.ensures.heads tells_back in
    let shows = subst (λ (n : Anchor). ShowsJournal n.journal s4) (c.commit.ensures.anchor ∙ c.undo.ensures.anchor) (c.look-2.ensures.shows there.0 serves_then tells_then heads) in
    let renew = falls_renew c.args.recalled capacity committed now shrunk journal s0 s1 s2 o0 o1 o2 short s3 s4 o3 o4 undoes c.undo.ensures.quiet commits heads shows in
    on_err c.from_residual-in_err-renew.result (renew_stops capacity shrunk committed now o0 unknown s0 short.stands s3 o3 back s4 o4 commits renew (g.G.SectorView.space c.renew.new.base) (g.G.Ground.outside c.renew.new.base) (c.renew.ensures.touches tells_then now renew))

pub returns-clause-back : goal.returns-clause-back
returns-clause-back g c tells begun kept most capacity committed now shrunk serves keeps follows short =
    let s0 = g.G.SectorView.space begun in
    let o0 = g.G.Ground.outside begun in
    let s1 = g.G.SectorView.space kept in
    let o1 = g.G.Ground.outside kept in
    let s2 = g.G.SectorView.space c.args.base.now in
    let o2 = g.G.Ground.outside c.args.base.now in
    let journal = (g.G.Ground.anchor c.args.base.now).journal in
    let s3 = g.G.SectorView.space c.undo.new.self in
    let o3 = g.G.Ground.outside c.undo.new.self in
    let s4 = g.G.SectorView.space c.commit.new.self in
    let o4 = g.G.Ground.outside c.commit.new.self in
    let undoes = c.undo.ensures.undoes kept most serves keeps follows tells in
    let back = falls_back c.args.recalled capacity committed now shrunk journal s0 s1 s2 o0 o1 o2 short s3 o3 undoes c.undo.ensures.quiet in
    let tells_back = c.undo.ensures.tells ∙ tells in
    let commits = c.in_ok-commit.ensures.done tells_back in
    let tells_then = c.in_ok-commit.ensures.tells ∙ tells_back in
    let there = c.requires.serves in
    let serves_then = c.in_ok-commit.ensures.still there.0 (c.undo.ensures.still there.0 there.1) in
    let heads = c.in_ok-commit.ensures.heads tells_back in
    let shows = subst (λ (n : Anchor). ShowsJournal n.journal s4) (c.commit.ensures.anchor ∙ c.undo.ensures.anchor) (c.look-2.ensures.shows there.0 serves_then tells_then heads) in
    let renew = falls_renew c.args.recalled capacity committed now shrunk journal s0 s1 s2 o0 o1 o2 short s3 s4 o3 o4 undoes c.undo.ensures.quiet commits heads shows in
    let s5 = g.G.SectorView.space c.renew.new.base in
    let o5 = g.G.Ground.outside c.renew.new.base in
    comes_back capacity shrunk committed now o0 unknown s0 short.stands s3 o3 back s4 o4 commits renew s5 o5 (c.renew.ensures.touches tells_then now renew) (g.V.Volume.knows c.renew.new.self s5 capacity)
    (subst (λ (k : ℕ × Option ℕ). Stays (g.V.Volume.knows c.renew.new.self s5 k.0) now now k.1 s5) {x = (c.args.recalled.capacity, c.args.recalled.shrunk)} {y = (capacity, shrunk)} (λ i. (short.recalls.capacity_is i, short.recalls.shrunk_is i)) (c.in_ok-renew.ensures.renewed tells_then now renew))
    short.recalls.sound

pub returns-clause-still : goal.returns-clause-still
returns-clause-still g c capacity serves =
    let last = c.in_ok-renew.ensures.still capacity (c.in_ok-commit.ensures.still capacity (c.undo.ensures.still capacity serves)) in
    (last.0, omega (arith, last.1))

pub returns-clause-tells : goal.returns-clause-tells
returns-clause-tells g c = c.renew.ensures.tells ∙ c.in_ok-commit.ensures.tells ∙ c.undo.ensures.tells
