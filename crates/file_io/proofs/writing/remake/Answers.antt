use Rattle.std.proofs.Common.{◌≡◌, ◌<◌, ◌-◌, ◌^◌, true, false, ℕ, List, length, take, drop, get_or, arith, ap, subst, sym, ◌∙◌}
use Rattle.std.specs.Prelude.{map as map_list}
use Rattle.std.proofs.lemmas.List.Elements.{All-take, All-drop}
use Rattle.hx_bytes.specs.declared.extents.Extent.{Extent}
use Rattle.fork_map.specs.Blocks.{blocks_of}
use Rattle.flag_rows.specs.Marks.{mark_all}
use Rattle.alloc_bitmap.specs.Apart.{AreApart}
use Rattle.alloc_bitmap.specs.Map.{BlockMap, touched_by}
use Rattle.file_io.specs.Places.{middle, taken, given, AreUsed}
use Rattle.file_io.proofs.CutLaws.{numbers_free, few_used, apart_behind, apart_before}
use Rattle.file_io.proofs.KeepLaws.{keeps_both, keeps_take, marks_then}
use Rattle.file_io.proofs.TakenLaws.{used_taken, middle_blocks}
use Rattle.file_io.proofs.writing.remake.Goals as goal

pub replace-requires-clause-with_numbers : goal.replace-requires-clause-with_numbers
replace-requires-clause-with_numbers c = numbers_free c.args.map.now (blocks_of c.in_ok-fresh.fresh) c.total-total.result (sym c.total-total.ensures) c.total-total.type_inv c.in_ok-fresh.ensures.free.each

pub returns-clause-map : goal.returns-clause-map
returns-clause-map c = λ apart.
    let map : BlockMap = c.args.map.now in
    let fork : List Extent = c.args.fork.now in
    let n : ℕ = c.args.behind - c.args.first in
    let few : length (blocks_of fork) < 2 ^ 32 = omega (arith, few_used map (blocks_of fork) apart c.requires.used, c.total-total.ensures, c.total-total.type_inv) in
    let part : List Extent = middle c.args.first c.args.old_behind fork in
    let old_is : c.as_slice.result.now ≡ part = c.as_slice.ensures ∙ c.in_ok-old.ensures few c.requires.order c.requires.inside in
    let now_is : c.take.new.self ≡ taken n map = c.in_ok-fresh.ensures.taken ∙ ap (λ (l : List Extent). record map { used = mark_all map.used l true; changed = mark_all map.changed (map_list (λ (e : Extent). touched_by e) l) true }) c.in_ok-fresh.ensures.rule in
    let blocks : blocks_of c.as_slice.result.now ≡ drop c.args.first (take c.args.old_behind (blocks_of fork)) = ap (λ (l : List Extent). blocks_of l) old_is ∙ middle_blocks fork c.args.first c.args.old_behind in
    let used_part : AreUsed (taken n map) (drop c.args.first (take c.args.old_behind (blocks_of fork))) =
    All-drop (λ b. get_or (taken n map).used b false ≡ true) c.args.first (take c.args.old_behind (blocks_of fork)) (All-take (λ b. get_or (taken n map).used b false ≡ true) c.args.old_behind (blocks_of fork) (used_taken map n (blocks_of fork) c.requires.used)) in
    c.in_ok-give_all.ensures.given
    (subst (λ (l : List ℕ). AreApart l) (sym blocks) (apart_behind (take c.args.old_behind (blocks_of fork)) c.args.first (apart_before (blocks_of fork) c.args.old_behind apart)))
    (subst (λ (m : BlockMap). AreUsed m (blocks_of c.as_slice.result.now)) (sym now_is) (subst (λ (l : List ℕ). AreUsed (taken n map) l) (sym blocks) used_part))
    ∙ ap (λ (l : List Extent). given l c.take.new.self) old_is ∙ ap (λ (m : BlockMap). given part m) now_is

pub returns-in_err-list-clause-keeps : goal.returns-in_err-list-clause-keeps
returns-in_err-list-clause-keeps c = λ marks. keeps_take c.args.map.now c.take.new.self (c.args.behind - c.args.first) c.in_ok-fresh.fresh c.in_ok-fresh.ensures.rule c.in_ok-fresh.ensures.taken marks

pub returns-in_err-old-clause-keeps : goal.returns-in_err-old-clause-keeps
returns-in_err-old-clause-keeps c = λ marks. keeps_take c.args.map.now c.take.new.self (c.args.behind - c.args.first) c.in_ok-fresh.fresh c.in_ok-fresh.ensures.rule c.in_ok-fresh.ensures.taken marks

pub returns-in_err-give_all-clause-keeps : goal.returns-in_err-give_all-clause-keeps
returns-in_err-give_all-clause-keeps c = λ marks.
    let first = keeps_take c.args.map.now c.take.new.self (c.args.behind - c.args.first) c.in_ok-fresh.fresh c.in_ok-fresh.ensures.rule c.in_ok-fresh.ensures.taken marks in
    keeps_both c.args.map.now c.take.new.self c.give_all.new.map first (c.give_all.ensures.keeps (marks_then c.args.map.now c.take.new.self first marks))

pub returns-clause-keeps : goal.returns-clause-keeps
returns-clause-keeps c = λ marks.
    let first = keeps_take c.args.map.now c.take.new.self (c.args.behind - c.args.first) c.in_ok-fresh.fresh c.in_ok-fresh.ensures.rule c.in_ok-fresh.ensures.taken marks in
    keeps_both c.args.map.now c.take.new.self c.give_all.new.map first (c.give_all.ensures.keeps (marks_then c.args.map.now c.take.new.self first marks))
