use Rattle.std.proofs.Common.{◌≡◌, ℕ, true, false, List, Bool, length, ap, subst, sym, ◌∙◌}
use Rattle.hx_bytes.specs.declared.extents.Extent.{Extent}
use Rattle.fork_map.specs.Cut.{front}
use Rattle.flag_rows.specs.Marks.{mark_all, Fit}
use Rattle.flag_rows.specs.Sums.{clear_of}
use Rattle.flag_rows.specs.Runs.{runs_of, longest_first}
use Rattle.alloc_bitmap.specs.Map.{BlockMap, IsMap, PicksFree, free_of, taken_of}
use Rattle.flag_rows.proofs.TakeLaws.{length-mark_all}
use Rattle.alloc_bitmap.proofs.MapLaws.{open_of, length-open, clear_taken}
use Rattle.alloc_bitmap.proofs.TakeLaws.{fit_chosen, picks_chosen}
use Rattle.alloc_bitmap.proofs.TakenLaws.{taken_long}
use Rattle.alloc_bitmap.proofs.bitmap.Bitmap.pick.Goals as goal

abbrev chosen : ℕ → List Bool → List Bool → List Extent
chosen n used held = front n (longest_first (runs_of (open_of used held)))

-- what the row of taken blocks gave
is_chosen : (n : ℕ) (used held taken : List Bool) (list : List Extent) → taken ≡ taken_of used held → list ≡ front n (longest_first (runs_of (clear_of taken))) → list ≡ chosen n used held
is_chosen n used held taken list seen is = is ∙ ap (λ (l : List Bool). front n (longest_first (runs_of (clear_of l)))) seen ∙ ap (λ (l : List Bool). front n (longest_first (runs_of l))) (clear_taken used held)

pub set_all-requires : goal.set_all-requires
set_all-requires c =
    let u = c.self.inside.used.flags in let h = c.self.inside.holds.flags in let t = c.self.inside.taken in
    let is = is_chosen c.args.n u h t c.in_ok-picked.picked c.self.invariant.taken_is c.in_ok-picked.ensures.rule in
    let fit : Fit (length u) c.in_ok-picked.picked = subst (λ (l : List Extent). Fit (length u) l) (sym is) (subst (λ n. Fit n (chosen c.args.n u h)) (length-open u h) (fit_chosen (open_of u h) c.args.n)) in
    let fits : Fit (length t) c.in_ok-picked.picked = subst (λ n. Fit n c.in_ok-picked.picked) (sym (taken_long u h t c.self.invariant.taken_is)) fit in
    let long : length c.take.new.self ≡ length t = ap (λ (l : List Bool). length l) c.in_ok-picked.ensures.taken ∙ length-mark_all t c.in_ok-picked.picked true fits in
    subst (λ (l : List Extent). Fit (length c.take.new.self) l) (sym c.as_slice.ensures) (subst (λ n. Fit n c.in_ok-picked.picked) (sym long) fits)

pub invariant_of-self-2 : goal.invariant_of-self-2
invariant_of-self-2 c = subst (λ (t : List Bool). IsMap c.self.inside.used c.self.inside.holds c.self.inside.changed t)
    (sym (c.set_all.ensures ∙ ap (λ (l : List Extent). mark_all c.take.new.self l false) c.as_slice.ensures ∙ c.in_ok-picked.ensures.back)) c.self.invariant

pub returns-clause-rule : goal.returns-clause-rule
returns-clause-rule c =
    is_chosen c.args.n c.self.inside.used.flags c.self.inside.holds.flags c.self.inside.taken c.in_ok-picked.picked c.self.invariant.taken_is c.in_ok-picked.ensures.rule
    ∙ ap (λ (m : BlockMap). front c.args.n (longest_first (runs_of (free_of m)))) c.self.view_is

pub returns-clause-free : goal.returns-clause-free
returns-clause-free c =
    subst (λ (l : List Extent). PicksFree (free_of c.args.self.now) c.args.n l) (sym (returns-clause-rule c)) (picks_chosen (free_of c.args.self.now) c.args.n c.requires)
