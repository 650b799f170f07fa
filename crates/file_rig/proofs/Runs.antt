-- What reads give through a gathered run, as it takes sectors and is handed over.
use Rattle.std.proofs.Common.{◌≡◌, ◌⊎◌, ◌<◌, ◌≤◌, ◌+◌, ◌-◌, ◌∷◌, [], ◌++◌, ℕ, Bool, true, false, IsTrue, IsFalse, List, ⊎_elim, length, set, take, drop, refl, sym, ◌∙◌, ap, arith, length-append, length-take-le, length-drop, take-append-drop, add-zero}
use Rattle.std.proofs.lemmas.Bool.{cases_lt, cases_eq}
use Rattle.std.proofs.lemmas.List.{append-nil, append_assoc, set-append_left, set-append_right, set_at, drop_more, length-set, get_or-set_same, get_or-set_other, get_or-take, get_or-drop}
use Rattle.sector_disk.specs.Lists.{Content, sector, put_sectors}
use Rattle.sector_disk.proofs.Stages.{put_before, put_behind, put_inside, length-put}
use Rattle.file_rig.specs.Runs.{Run, IsIn, IsApart, Changes, Extends, Begins, Takes, value_in}
use Rattle.file_rig.specs.Place.{SameOutside, AreFresh, IsWritten, over}

-- no sector put in place
pub put_none : (content : Content) (first : ℕ) → put_sectors content first [] ≡ content
put_none content first =
    ap (λ (l : Content). l ++ drop (first + 0) content) (append-nil (take first content)) ∙ ap (λ n. take first content ++ drop n content) (add-zero first) ∙ take-append-drop first content

-- the list with another value at one place
pub put_set : (content list : Content) (first k : ℕ) (value : List ℕ) → first + length list ≤ length content → k < length list → put_sectors content first (set list k value) ≡ set (put_sectors content first list) (first + k) value
put_set content list first k value fits inside =
    let front = take first content in
    let long : length front ≡ first = length-take-le first content (omega (arith, fits)) in
    let rest = drop (first + length list) content in
    ap (λ n. (front ++ set list k value) ++ drop (first + n) content) (length-set list k value)
    ∙ ap (λ n. (front ++ set list n value) ++ rest) (omega arith)
    ∙ ap (λ (l : Content). l ++ rest) (sym (set-append_right front list first (first + k) value long (omega arith)))
    ∙ sym (set-append_left (front ++ list) rest (first + k) value (omega (arith, length-append front list, long, inside)))

-- the list with its next neighbour
pub put_next : (content list : Content) (first : ℕ) (value : List ℕ) → first + length list < length content → put_sectors content first (list ++ value ∷ []) ≡ set (put_sectors content first list) (first + length list) value
put_next content list first value fits =
    let front = take first content ++ list in
    let long : length front ≡ first + length list = omega (arith, length-append (take first content) list, length-take-le first content (omega (arith, fits))) in
    let end : first + length (list ++ value ∷ []) ≡ first + length list + 1 = omega (arith, length-append list (value ∷ [])) in
    let rest : drop (first + length list) content ≡ sector content (first + length list) ∷ drop (first + length list + 1) content = drop_more content (first + length list) [] fits in
    ap (λ n. (take first content ++ (list ++ value ∷ [])) ++ drop n content) end
    ∙ ap (λ (l : Content). l ++ drop (first + length list + 1) content) (sym (append_assoc (take first content) list (value ∷ [])))
    ∙ append_assoc front (value ∷ []) (drop (first + length list + 1) content)
    ∙ sym (ap (λ (l : Content). set (front ++ l) (first + length list) value) rest ∙ set_at front (sector content (first + length list)) (drop (first + length list + 1) content) value (first + length list) long)

-- a sector that was read ahead is written
pub changes_at : (old new : Run) (at place : ℕ) (value : List ℕ) → at ≡ old.first + place → place < length old.values → new.first ≡ old.first → new.values ≡ set old.values place value → Changes old at value new
changes_at old new at place value is inside first values =
    let behind : at - old.first ≡ place = omega (arith, is) in
    record {
      inside = record { from = omega (arith, is); to = omega (arith, is, inside) };
      first = first;
      values = values ∙ ap (λ n. set old.values n value) (sym behind);
    }

-- what reads give where the run has the sector, and where it hasn't
pub over_inside : (run : Run) (held : Content) (at : ℕ) → run.first + length run.values ≤ length held → IsIn run at → sector (over run held) at ≡ value_in run at
over_inside run held at fits inside =
    ap (sector (over run held)) (omega (arith, inside.from)) ∙ put_inside held run.first run.values fits (at - run.first) (omega (arith, inside.from, inside.to))

pub over_outside : (run : Run) (held : Content) (at : ℕ) → run.first + length run.values ≤ length held → (IsIn run at → ⊥) → sector (over run held) at ≡ sector held at
over_outside run held at fits outside =
    ⊎_elim (λ before. put_before held run.first run.values fits at before)
    (λ from. ⊎_elim (λ to. absurd (outside (record { from = from; to = to }))) (λ behind. put_behind held run.first run.values fits at behind) (cases_lt at (run.first + length run.values))) (cases_lt at run.first)

-- the run took a sector
module _ (held : Content) (old new : Run) (at : ℕ) (value : List ℕ) (fits : old.first + length old.values ≤ length held) (inside : at < length held) where
  written_changes : Changes old at value new → IsWritten held old at value held new
  written_changes is =
      let place : old.first + (at - old.first) ≡ at = omega (arith, is.inside.from) in
      let long : length new.values ≡ length old.values = ap length is.values ∙ length-set old.values (at - old.first) value in
      record {
        size = refl;
        within = omega (arith, fits, is.first, long);
        shown = ap (λ n. put_sectors held n new.values) is.first ∙ ap (put_sectors held old.first) is.values
            ∙ put_set held old.values old.first (at - old.first) value fits (omega (arith, is.inside.from, is.inside.to)) ∙ ap (λ n. set (over old held) n value) place;
      }

  written_extends : Extends old at value new → IsWritten held old at value held new
  written_extends is =
      let long : length new.values ≡ length old.values + 1 = ap length is.values ∙ length-append old.values (value ∷ []) in
      record {
        size = refl;
        within = omega (arith, inside, is.next, is.first, long);
        shown = ap (λ n. put_sectors held n new.values) is.first ∙ ap (put_sectors held old.first) is.values
            ∙ put_next held old.values old.first value (omega (arith, inside, is.next)) ∙ ap (λ n. set (over old held) n value) (sym is.next);
      }

  written_begins : Begins old at value new → IsWritten held old at value held new
  written_begins is =
      let long : length new.values ≡ 1 = ap length is.values in
      let none : over old held ≡ held = ap (put_sectors held old.first) is.empty ∙ put_none held old.first in
      record {
        size = refl;
        within = omega (arith, inside, is.first, long);
        shown = ap (λ n. put_sectors held n new.values) is.first ∙ ap (put_sectors held at) is.values
            ∙ put_next held [] at value (omega (arith, inside)) ∙ ap (λ (c : Content). set c (at + 0) value) (put_none held at ∙ sym none) ∙ ap (λ n. set (over old held) n value) (add-zero at);
      }

  pub written_takes : Takes old at value new → IsWritten held old at value held new
  written_takes = ⊎_elim written_changes (⊎_elim written_extends written_begins)

-- the run was handed over before it took the sector
pub written_handed : (held after : Content) (old mid new : Run) (at : ℕ) (value : List ℕ) → old.first + length old.values ≤ length held → at < length held → after ≡ put_sectors held old.first old.values
    → mid.first ≡ old.first → mid.values ≡ [] → Takes mid at value new → IsWritten held old at value after new
written_handed held after old mid new at value fits inside handed first empty takes =
    let size : length after ≡ length held = ap length handed ∙ length-put held old.first old.values fits in
    let room : mid.first + length mid.values ≤ length after = omega (arith, fits, size, first, ap length empty) in
    let is = written_takes after mid new at value room (omega (arith, inside, size)) takes in
    let none : over mid after ≡ over old held = ap (put_sectors after mid.first) empty ∙ put_none after mid.first ∙ handed in
    record { size = size; within = is.within; shown = is.shown ∙ ap (λ (c : Content). set c at value) none }

-- what was read ahead is fresh after a write, which it keeps too
pub fresh_written : (old new : Content) (gathered after ahead kept : Run) (at : ℕ) (value : List ℕ) → at < length old → AreFresh old gathered ahead → IsWritten old gathered at value new after
    → (Changes ahead at value kept ⊎ ((IsIn ahead at → ⊥) × (kept ≡ ahead))) → AreFresh new after kept
fresh_written old new gathered after ahead kept at value inside fresh is keeps =
    let long : length (over gathered old) ≡ length old = length-put old gathered.first gathered.values fresh.within in
    record {
      within = is.within;
      fresh = λ k k_in.
          ⊎_elim (λ changes.
          let same_length : length kept.values ≡ length ahead.values = ap length changes.values ∙ length-set ahead.values (at - ahead.first) value in
          let k_was : k < length ahead.values = omega (arith, k_in, same_length) in
          ap (λ (l : Content). sector l k) changes.values
          ∙ ⊎_elim (λ same. let there : k ≡ at - ahead.first = same in
          ap (sector (set ahead.values (at - ahead.first) value)) there ∙ get_or-set_same ahead.values (at - ahead.first) value [] (omega (arith, there, k_was))
          ∙ sym (ap (λ (c : Content). sector c (kept.first + k)) is.shown ∙ ap (sector (set (over gathered old) at value)) (omega (arith, there, changes.first, changes.inside.from)) ∙ get_or-set_same (over gathered old) at value [] (omega (arith, inside, long))))
          (λ other. get_or-set_other ahead.values (at - ahead.first) k value [] other ∙ fresh.fresh k k_was
          ∙ sym (ap (λ (c : Content). sector c (kept.first + k)) is.shown ∙ get_or-set_other (over gathered old) at (kept.first + k) value [] (λ (e : kept.first + k ≡ at). other (omega (arith, e, changes.first)))
          ∙ ap (λ n. sector (over gathered old) (n + k)) changes.first))
          (cases_eq k (at - ahead.first)))
          (λ stays.
          let k_was : k < length ahead.values = omega (arith, k_in, ap (λ (r : Run). length r.values) stays.1) in
          ap (λ (r : Run). sector r.values k) stays.1 ∙ fresh.fresh k k_was
          ∙ sym (ap (λ (c : Content). sector c (kept.first + k)) is.shown
          ∙ get_or-set_other (over gathered old) at (kept.first + k) value [] (λ (e : kept.first + k ≡ at). stays.0 (record { from = omega (arith, e, ap (λ (r : Run). r.first) stays.1); to = omega (arith, e, k_was, ap (λ (r : Run). r.first) stays.1) }))
          ∙ ap (λ (r : Run). sector (over gathered old) (r.first + k)) stays.1))
          keeps;
    }

-- what was read ahead of the place, apart from the gathered run
pub fresh_fill : (read : Bool) (held : Content) (gathered new : Run) (first count : ℕ) → gathered.first + length gathered.values ≤ length held → first + count ≤ length held → IsApart gathered first count
    → (IsTrue read → (new.first ≡ first) × (new.values ≡ take count (drop first held))) → (IsFalse read → new.values ≡ []) → AreFresh held gathered new
fresh_fill false held gathered new first count fits room apart is none = record { within = fits; fresh = λ k k_in. absurd (omega (arith, k_in, ap length (none refl))) }
fresh_fill true held gathered new first count fits room apart is none =
    let there : (new.first ≡ first) × (new.values ≡ take count (drop first held)) = is refl in
    let long : length new.values ≡ count = ap length there.1 ∙ length-take-le count (drop first held) (omega (arith, room, length-drop first held)) in
    record {
      within = fits;
      fresh = λ k k_in.
          let outside : IsIn gathered (first + k) → ⊥ = λ inside. ⊎_elim (λ before. absurd (omega (arith, before, inside.from, k_in, long))) (λ behind. absurd (omega (arith, behind, inside.to))) apart in
          ap (λ (l : Content). sector l k) there.1 ∙ get_or-take count (drop first held) k [] (omega (arith, k_in, long)) ∙ get_or-drop first held k []
          ∙ sym (over_outside gathered held (first + k) fits outside) ∙ ap (λ n. sector (over gathered held) (n + k)) (sym there.0);
    }

-- a sector alone, read where the run hasn't it
pub read_alone : (run : Run) (held into : Content) (at : ℕ) → run.first + length run.values ≤ length held → at < length held → (IsIn run at → ⊥) → into ≡ take 1 (drop at held) → sector into 0 ≡ sector (over run held) at
read_alone run held into at fits inside outside is =
    ap (λ (l : Content). sector l 0) is ∙ get_or-take 1 (drop at held) 0 [] (omega arith) ∙ get_or-drop at held 0 [] ∙ ap (sector held) (omega arith) ∙ sym (over_outside run held at fits outside)

-- the run was handed over, or in part: reads give what they gave
pub over_outside_same : (run : Run) (old new : Content) → SameOutside run.first (length run.values) old new → over run new ≡ over run old
over_outside_same run old new same =
    ap (λ (l : Content). (l ++ run.values) ++ drop (run.first + length run.values) new) same.before ∙ ap (λ (l : Content). (take run.first old ++ run.values) ++ l) same.behind
