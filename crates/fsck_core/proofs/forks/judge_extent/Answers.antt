use Rattle.std.proofs.Common.{◌≡◌, ◌+◌, true, not, min, List, [], ◌∷◌, sym, ◌∙◌, ap, subst, if◌then◌else◌}
use Rattle.std.proofs.lemmas.Bool.{eq-eqb, ne_eqb}
use Rattle.hfs_volume.specs.Broken.{Want, want}
use Rattle.fsck_core.specs.Judged.{Judged}
use Rattle.fsck_core.specs.Owners.{extent_want}
use Rattle.fsck_core.specs.Wants.{wants_in}
use Rattle.fsck_core.specs.declared.want.Want.{Want as Number}
use Rattle.fsck_core.proofs.JudgedLaws.{judged_none, ok_judged, adds_as}
use Rattle.fsck_core.proofs.forks.judge_extent.Goals as goal

pub returns-then-extent-eq0-clause-judged : goal.returns-then-extent-eq0-clause-judged
returns-then-extent-eq0-clause-judged c =
    let none : extent_want c.args.id c.args.total c.args.extent ≡ [] = ap (λ b. if not b then want c.args.id (c.args.extent.start + c.args.extent.count) (min (c.args.extent.start + c.args.extent.count) c.args.total) ∷ [] else []) (eq-eqb c.args.extent.count 0 c.if-extent-eq0.true) in
    subst (λ (l : List Want). Judged 16 l c.args.out.now c.args.out.now true) (sym none) (judged_none 16 c.args.out.now)

pub returns-clause-judged : goal.returns-clause-judged
returns-clause-judged c =
    let some : extent_want c.args.id c.args.total c.args.extent ≡ want c.args.id (c.args.extent.start + c.args.extent.count) (min (c.args.extent.start + c.args.extent.count) c.args.total) ∷ [] = ap (λ b. if not b then want c.args.id (c.args.extent.start + c.args.extent.count) (min (c.args.extent.start + c.args.extent.count) c.args.total) ∷ [] else []) (ne_eqb c.args.extent.count 0 c.if-extent-eq0.false) in
    let ws : List Number = record { place = c.args.id; found = c.args.extent.start + c.args.extent.count; wanted = c.min-wanted.result } ∷ [] in
    let are : wants_in ws ≡ extent_want c.args.id c.args.total c.args.extent = (λ i. want c.args.id (c.args.extent.start + c.args.extent.count) (c.min-wanted.ensures i) ∷ []) ∙ sym some in
    ok_judged c.judge_wants.result 16 ws (extent_want c.args.id c.args.total c.args.extent) c.args.out.now c.judge_wants.new.out are c.judge_wants.ensures.met c.judge_wants.ensures.listed c.judge_wants.ensures.still c.judge_wants.ensures.each

pub returns-clause-each : goal.returns-clause-each
returns-clause-each c =
    let some : extent_want c.args.id c.args.total c.args.extent ≡ want c.args.id (c.args.extent.start + c.args.extent.count) (min (c.args.extent.start + c.args.extent.count) c.args.total) ∷ [] = ap (λ b. if not b then want c.args.id (c.args.extent.start + c.args.extent.count) (min (c.args.extent.start + c.args.extent.count) c.args.total) ∷ [] else []) (ne_eqb c.args.extent.count 0 c.if-extent-eq0.false) in
    let ws : List Number = record { place = c.args.id; found = c.args.extent.start + c.args.extent.count; wanted = c.min-wanted.result } ∷ [] in
    let are : wants_in ws ≡ extent_want c.args.id c.args.total c.args.extent = (λ i. want c.args.id (c.args.extent.start + c.args.extent.count) (c.min-wanted.ensures i) ∷ []) ∙ sym some in
    adds_as 16 ws (extent_want c.args.id c.args.total c.args.extent) c.args.out.now c.judge_wants.new.out are c.judge_wants.ensures.each
