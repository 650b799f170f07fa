use Rattle.std.proofs.Common.{◌≡◌, ◌≤◌, ◌*◌, ℕ, true, List, Bool, length, arith, ap, subst, sym, ◌∙◌}
use Rattle.hx_bytes.specs.declared.extents.Extent.{Extent}
use Rattle.fork_map.specs.Cut.{front}
use Rattle.flag_rows.specs.Marks.{is_held, mark_all, Fit}
use Rattle.flag_rows.specs.Sums.{clear_of}
use Rattle.flag_rows.specs.Runs.{runs_of, longest_first}
use Rattle.alloc_bitmap.specs.Map.{BlockMap, PicksFree, free_of, taken_of}
use Rattle.flag_rows.proofs.TakeLaws.{length-mark_all}
use Rattle.alloc_bitmap.proofs.MapLaws.{open_of, length-open, clear_taken}
use Rattle.alloc_bitmap.proofs.TakeLaws.{fit_chosen, picks_chosen, unused_chosen, fit_more, touched_size}
use Rattle.alloc_bitmap.proofs.TakenLaws.{map_taken, taken_long}
use Rattle.alloc_bitmap.proofs.FewestLaws.{fewest_extents}
use Rattle.alloc_bitmap.proofs.bitmap.Bitmap.take.Goals as goal

abbrev chosen : ℕ → List Bool → List Bool → List Extent
chosen n used held = front n (longest_first (runs_of (open_of used held)))

-- what the row of taken blocks gave
is_chosen : (n : ℕ) (used held taken : List Bool) (list : List Extent) → taken ≡ taken_of used held → list ≡ front n (longest_first (runs_of (clear_of taken))) → list ≡ chosen n used held
is_chosen n used held taken list seen is = is ∙ ap (λ (l : List Bool). front n (longest_first (runs_of (clear_of l)))) seen ∙ ap (λ (l : List Bool). front n (longest_first (runs_of l))) (clear_taken used held)

pub change_all-requires-clause-fit : goal.change_all-requires-clause-fit
change_all-requires-clause-fit c =
    let u = c.self.inside.used.flags in let h = c.self.inside.holds.flags in
    let is = c.as_slice.ensures ∙ is_chosen c.args.n u h c.self.inside.taken c.in_ok-list.list c.self.invariant.taken_is c.in_ok-list.ensures.rule in
    subst (λ (l : List Extent). Fit (length u) l) (sym is) (subst (λ n. Fit n (chosen c.args.n u h)) (length-open u h) (fit_chosen (open_of u h) c.args.n))

pub change_all-requires-clause-change : goal.change_all-requires-clause-change
change_all-requires-clause-change c = λ k held.
    let u = c.self.inside.used.flags in let h = c.self.inside.holds.flags in
    let is = c.as_slice.ensures ∙ is_chosen c.args.n u h c.self.inside.taken c.in_ok-list.list c.self.invariant.taken_is c.in_ok-list.ensures.rule in
    (unused_chosen u h c.args.n k (ap (λ (l : List Extent). is_held l k) (sym is) ∙ held)).0

pub set_all-requires : goal.set_all-requires
set_all-requires c =
    let u = c.self.inside.used.flags in let h = c.self.inside.holds.flags in let t = c.self.inside.taken in
    let is = is_chosen c.args.n u h t c.in_ok-list.list c.self.invariant.taken_is c.in_ok-list.ensures.rule in
    let fit : Fit (length u) c.in_ok-list.list = subst (λ (l : List Extent). Fit (length u) l) (sym is) (subst (λ n. Fit n (chosen c.args.n u h)) (length-open u h) (fit_chosen (open_of u h) c.args.n)) in
    let fits : Fit (length t) c.in_ok-list.list = subst (λ n. Fit n c.in_ok-list.list) (sym (taken_long u h t c.self.invariant.taken_is)) fit in
    let long : length c.take.new.self ≡ length t = ap (λ (l : List Bool). length l) c.in_ok-list.ensures.taken ∙ length-mark_all t c.in_ok-list.list true fits in
    subst (λ (l : List Extent). Fit (length c.take.new.self) l) (sym c.as_slice-in-Err.ensures) (subst (λ n. Fit n c.in_ok-list.list) (sym long) fits)

pub touch_all-requires : goal.touch_all-requires
touch_all-requires c =
    let u = c.self.inside.used.flags in let h = c.self.inside.holds.flags in
    let is = c.as_slice-2.ensures ∙ is_chosen c.args.n u h c.self.inside.taken c.in_ok-list.list c.self.invariant.taken_is c.in_ok-list.ensures.rule in
    subst (λ (l : List Extent). Fit (length c.self.inside.changed * 4096) l) (sym is) (fit_more (length (open_of u h)) (length c.self.inside.changed * 4096) (chosen c.args.n u h) (omega (arith, length-open u h, c.self.invariant.changed_size)) (fit_chosen (open_of u h) c.args.n))

pub invariant_of-self-2 : goal.invariant_of-self-2
invariant_of-self-2 c =
    let u = c.self.inside.used.flags in let h = c.self.inside.holds.flags in let t = c.self.inside.taken in
    let same = is_chosen c.args.n u h t c.in_ok-list.list c.self.invariant.taken_is c.in_ok-list.ensures.rule in
    let is = c.as_slice.ensures ∙ same in
    let third = c.as_slice-2.ensures ∙ same in
    let fit : Fit (length u) c.as_slice.result.now = subst (λ (l : List Extent). Fit (length u) l) (sym is) (subst (λ n. Fit n (chosen c.args.n u h)) (length-open u h) (fit_chosen (open_of u h) c.args.n)) in
    let wide : Fit (length c.self.inside.changed * 4096) c.as_slice-2.result.now = subst (λ (l : List Extent). Fit (length c.self.inside.changed * 4096) l) (sym third) (fit_more (length (open_of u h)) (length c.self.inside.changed * 4096) (chosen c.args.n u h) (omega (arith, length-open u h, c.self.invariant.changed_size)) (fit_chosen (open_of u h) c.args.n)) in
    map_taken c.self.inside.used c.change_all.new.self c.self.inside.holds c.self.inside.changed c.touch_all.new.changed t c.take.new.self c.as_slice.result.now c.self.invariant fit c.in-Ok.ensures.changed c.change_all.ensures.kept
    (ap (λ (l : List Bool). length l) c.touch_all.ensures ∙ touched_size c.self.inside.changed c.as_slice-2.result.now wide)
    (λ k held. (unused_chosen u h c.args.n k (sym (ap (λ (l : List Extent). is_held l k) is) ∙ held)).1)
    (c.in_ok-list.ensures.taken ∙ ap (λ (l : List Extent). mark_all t l true) (sym c.as_slice.ensures))

pub returns-clause-rule : goal.returns-clause-rule
returns-clause-rule c =
    is_chosen c.args.n c.self.inside.used.flags c.self.inside.holds.flags c.self.inside.taken c.in_ok-list.list c.self.invariant.taken_is c.in_ok-list.ensures.rule
    ∙ ap (λ (m : BlockMap). front c.args.n (longest_first (runs_of (free_of m)))) c.self.view_is

pub returns-clause-free : goal.returns-clause-free
returns-clause-free c =
    subst (λ (l : List Extent). PicksFree (free_of c.args.self.now) c.args.n l) (sym (returns-clause-rule c)) (picks_chosen (free_of c.args.self.now) c.args.n c.requires)

pub returns-clause-fewest : goal.returns-clause-fewest
returns-clause-fewest c = λ others picks.
    let long = length-open c.args.self.now.used c.args.self.now.held in
    let seen = ap (λ (m : BlockMap). length m.used) c.self.view_is in
    let same = ap (λ (l : List Bool). length l) (c.bits.ensures ∙ c.row.ensures) in
    subst (λ (l : List Extent). length l ≤ length others) (sym (returns-clause-rule c)) (fewest_extents (free_of c.args.self.now) c.args.n others (omega (arith, long, seen, same, c.len-total.ensures.size, c.len-total.ensures.bound)) picks)
