use Rattle.std.proofs.Common.{◌≡◌, Bool, true, false, not, List, [], ◌∷◌, ◌∙◌, ap, subst, refl, sym, if◌then◌else◌}
use Rattle.hfs_volume.specs.Broken.{want}
use Rattle.hfs_volume.specs.Broken as broken
use Rattle.fsck_core.specs.Judged.{Judged}
use Rattle.fsck_core.specs.Wants.{wants_in}
use Rattle.fsck_core.specs.Rows.{valence_of, rows_under}
use Rattle.fsck_core.specs.declared.want.Want.{Want}
use Rattle.fsck_core.proofs.JudgedLaws.{ok_judged, adds_as, judged_none}
use Rattle.fsck_core.proofs.entries.judge_valence.Goals as goal

yes : (b : Bool) → not b ≡ false → b ≡ true
yes true is = refl
yes false is = sym is

no : (b : Bool) → not b ≡ true → b ≡ false
no true is = sym is
no false is = refl

pub returns-then-not-row-clause-judged : goal.returns-then-not-row-clause-judged
returns-then-not-row-clause-judged c rises =
    let none : valence_of c.args.rows.now c.args.row ≡ [] = ap (λ b. if b then want c.args.row.id c.args.row.valence (rows_under c.args.rows.now c.args.row.id) ∷ [] else []) (no c.args.row.folder c.if-not-row.true) in
    subst (λ (l : List broken.Want). Judged 11 l c.args.out.now c.args.out.now true) (sym none) (judged_none 11 c.args.out.now)

pub returns-clause-judged : goal.returns-clause-judged
returns-clause-judged c rises =
    let ws : List Want = record { place = c.args.row.id; found = c.args.row.valence; wanted = c.count_under-wanted.result } ∷ [] in
    let are : wants_in ws ≡ valence_of c.args.rows.now c.args.row =
    (λ i. want c.args.row.id c.args.row.valence (c.count_under-wanted.ensures rises i) ∷ [])
    ∙ sym (ap (λ b. if b then want c.args.row.id c.args.row.valence (rows_under c.args.rows.now c.args.row.id) ∷ [] else []) (yes c.args.row.folder c.if-not-row.false)) in
    ok_judged c.judge_wants.result 11 ws (valence_of c.args.rows.now c.args.row) c.args.out.now c.judge_wants.new.out are c.judge_wants.ensures.met c.judge_wants.ensures.listed c.judge_wants.ensures.still c.judge_wants.ensures.each

pub returns-clause-each : goal.returns-clause-each
returns-clause-each c rises =
    let ws : List Want = record { place = c.args.row.id; found = c.args.row.valence; wanted = c.count_under-wanted.result } ∷ [] in
    let are : wants_in ws ≡ valence_of c.args.rows.now c.args.row =
    (λ i. want c.args.row.id c.args.row.valence (c.count_under-wanted.ensures rises i) ∷ [])
    ∙ sym (ap (λ b. if b then want c.args.row.id c.args.row.valence (rows_under c.args.rows.now c.args.row.id) ∷ [] else []) (yes c.args.row.folder c.if-not-row.false)) in
    adds_as 11 ws (valence_of c.args.rows.now c.args.row) c.args.out.now c.judge_wants.new.out are c.judge_wants.ensures.each
