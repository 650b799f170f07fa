-- What stays of a bitmap of which blocks are taken and given back.
use Rattle.std.proofs.Common.{◌≡◌, ◌⊎◌, inl, inr, ◌≤◌, ℕ, ◌+◌, Bool, true, false, List, [], ◌∷◌, length, get_or, refl, sym, ◌∙◌, ap, subst, arith, ⊎_elim}
use Rattle.std.specs.Prelude.{map as map_list, if◌then◌else◌}
use Rattle.std.proofs.lemmas.Bool.Decides.{eqb_tells}
use Rattle.hx_bytes.specs.declared.extents.Extent.{Extent}
use Rattle.flag_rows.specs.Bits.{has, mark, sectors_for}
use Rattle.flag_rows.specs.Marks.{Fit, mark_all}
use Rattle.flag_rows.proofs.RowLaws.{get_or-mark, length-mark}
use Rattle.flag_rows.proofs.TakeLaws.{length-mark_all}
use Rattle.alloc_bitmap.specs.Map.{BlockMap, Have, free_of, touched_by}
use Rattle.alloc_bitmap.proofs.MapLaws.{length-open}
use Rattle.alloc_bitmap.proofs.TakeLaws.{fit_chosen}
use Rattle.file_io.specs.Places.{KeepsMap, LosesNone, fresh_of, given, taken}

pub keeps_none : (map : BlockMap) → KeepsMap map map
keeps_none map = record { fork = refl; per_block = refl; used = refl; changed = refl }

pub keeps_both : (a b c : BlockMap) → KeepsMap a b → KeepsMap b c → KeepsMap a c
keeps_both a b c p q = record { fork = q.fork ∙ p.fork; per_block = q.per_block ∙ p.per_block; used = q.used ∙ p.used; changed = q.changed ∙ p.changed }

-- a bitmap that keeps for each sector whether it was changed
abbrev pub HasMarks : BlockMap → Type 0
HasMarks map = length map.changed ≡ sectors_for (length map.used)

pub marks_then : (a b : BlockMap) → KeepsMap a b → HasMarks a → HasMarks b
marks_then a b keeps marks = keeps.changed ∙ marks ∙ ap sectors_for (sym keeps.used)

touched_fits : (n : ℕ) (e : Extent) → e.start + e.count ≤ n → (touched_by e).start + (touched_by e).count ≤ sectors_for n
touched_fits n e fits = ⊎_elim
    (λ none. rw none.0 (omega (arith, fits)))
    (λ some. rw some.0 (omega (arith, fits)))
    (eqb_tells e.count 0)

pub fit_touched : (n : ℕ) (es : List Extent) → Fit n es → Fit (sectors_for n) (map_list (λ (e : Extent). touched_by e) es)
fit_touched n [] fit = fit
fit_touched n (e ∷ es) fit = (touched_fits n e fit.0, fit_touched n es fit.1)

pub keeps_given : (map : BlockMap) (e : Extent) → Have map.used e true → HasMarks map → KeepsMap map (given (e ∷ []) map)
keeps_given map e have marks = record {
  fork = refl;
  per_block = refl;
  used = length-mark map.used e false have.inside;
  changed = length-mark map.changed (touched_by e) true (subst (λ n. (touched_by e).start + (touched_by e).count ≤ n) (sym marks) (touched_fits (length map.used) e have.inside));
}

pub keeps_taken : (map : BlockMap) (n : ℕ) → HasMarks map → KeepsMap map (taken n map)
keeps_taken map n marks =
    let fit : Fit (length map.used) (fresh_of map n) = subst (λ m. Fit m (fresh_of map n)) (length-open map.used map.held) (fit_chosen (free_of map) n) in
    record {
      fork = refl;
      per_block = refl;
      used = length-mark_all map.used (fresh_of map n) true fit;
      changed = length-mark_all map.changed (map_list (λ (e : Extent). touched_by e) (fresh_of map n)) true (subst (λ m. Fit m (map_list (λ (e : Extent). touched_by e) (fresh_of map n))) (sym marks) (fit_touched (length map.used) (fresh_of map n) fit));
    }

-- what was taken is the first of its free runs
pub keeps_take : (map new : BlockMap) (n : ℕ) (list : List Extent) → list ≡ fresh_of map n → new ≡ record map { used = mark_all map.used list true; changed = mark_all map.changed (map_list (λ (e : Extent). touched_by e) list) true } → HasMarks map → KeepsMap map new
keeps_take map new n list rule is marks =
    subst (λ (m : BlockMap). KeepsMap map m) (sym (is ∙ ap (λ (l : List Extent). record map { used = mark_all map.used l true; changed = mark_all map.changed (map_list (λ (e : Extent). touched_by e) l) true }) rule)) (keeps_taken map n marks)

-- ---- blocks that are used or held

pub loses_none : (map : BlockMap) → LosesNone map map
loses_none map = record { long = λ long. long; each = λ long block was. was }

pub loses_both : (a b c : BlockMap) → LosesNone a b → LosesNone b c → LosesNone a c
loses_both a b c p q = record { long = λ long. q.long (p.long long); each = λ long block was. q.each (p.long long) block (p.each long block was) }

module _ (map : BlockMap) (e : Extent) (have : Have map.used e true) (long : length map.held ≡ length map.used) where
  used_is : (k : ℕ) → get_or (mark map.used e false) k false ≡ (if has e k then false else get_or map.used k false)
  used_is k = get_or-mark map.used e false k false have.inside

  held_is : (k : ℕ) → get_or (mark map.held e true) k false ≡ (if has e k then true else get_or map.held k false)
  held_is k = get_or-mark map.held e true k false (omega (arith, have.inside, long))

  either : (k : ℕ) → (get_or map.used k false ≡ true) ⊎ (get_or map.held k false ≡ true) → (get_or (mark map.used e false) k false ≡ true) ⊎ (get_or (mark map.held e true) k false ≡ true)
  either k was = by (has e k) refl was
    where
      by : (b : Bool) → has e k ≡ b → (get_or map.used k false ≡ true) ⊎ (get_or map.held k false ≡ true) → (get_or (mark map.used e false) k false ≡ true) ⊎ (get_or (mark map.held e true) k false ≡ true)
      by true here any = inr (held_is k ∙ ap (λ b. if b then true else get_or map.held k false) here)
      by false here (inl used) = inl (used_is k ∙ ap (λ b. if b then false else get_or map.used k false) here ∙ used)
      by false here (inr held) = inr (held_is k ∙ ap (λ b. if b then true else get_or map.held k false) here ∙ held)

-- what is given back is held
pub loses_given : (map : BlockMap) (e : Extent) → Have map.used e true → LosesNone map (given (e ∷ []) map)
loses_given map e have = record {
  long = λ long. length-mark map.held e true (omega (arith, have.inside, long)) ∙ long ∙ sym (length-mark map.used e false have.inside);
  each = λ long block was. either map e have long block was;
}
