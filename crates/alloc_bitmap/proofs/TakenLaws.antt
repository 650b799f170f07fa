-- What holds of a bitmap after a change.
use Rattle.std.proofs.Common.{◌≡◌, ℕ, ◌+◌, ◌≤◌, ◌<◌, ◌⊎◌, Bool, true, false, not, ◌&&◌, ◌||◌, if◌then◌else◌, List, length, get_or, replicate, refl, sym, ◌∙◌, ap, subst, arith, ⊎_elim}
use Rattle.std.proofs.lemmas.List.{length-replicate, get_or-replicate, get_or_past, get_or_default}
use Rattle.std.proofs.lemmas.Bool.{cases_lt}
use Rattle.hx_bytes.specs.declared.extents.Extent.{Extent}
use Rattle.flag_rows.specs.Bits.{mark, has, sectors_for}
use Rattle.flag_rows.specs.Marks.{is_held, mark_all, Fit}
use Rattle.flag_rows.proofs.RowLaws.{length-mark, get_or-mark}
use Rattle.flag_rows.proofs.TakeLaws.{length-mark_all, get_or-mark_all}
use Rattle.alloc_bitmap.specs.Kept.{Kept, Held}
use Rattle.alloc_bitmap.specs.Map.{IsMap, Have, taken_of}
use Rattle.alloc_bitmap.proofs.HoldLaws.{has_range}
use Rattle.alloc_bitmap.proofs.MapLaws.{length-taken, get_or-taken, taken_by}

-- ---- the taken blocks, place by place
taken_at : (used held taken : List Bool) (k : ℕ) → taken ≡ taken_of used held → k < length used → get_or taken k false ≡ (get_or used k true || get_or held k false)
taken_at used held taken k is lt = ap (λ (l : List Bool). get_or l k false) is ∙ get_or-taken used held k false lt

pub taken_long : (used held taken : List Bool) → taken ≡ taken_of used held → length taken ≡ length used
taken_long used held taken is = ap (λ (l : List Bool). length l) is ∙ length-taken used held

used_more : (h u b : Bool) → (if h then true else (u || b)) ≡ ((if h then true else u) || b)
used_more true u b = refl
used_more false u b = refl

held_more : (h u b : Bool) → (if h then true else (u || b)) ≡ (u || (if h then true else b))
held_more true true b = refl
held_more true false b = refl
held_more false u b = refl

-- blocks became used
taken_used : (used new held taken more : List Bool) (es : List Extent) → taken ≡ taken_of used held → Fit (length used) es → new ≡ mark_all used es true → more ≡ mark_all taken es true → more ≡ taken_of new held
taken_used used new held taken more es is fit new_is more_is =
    let size : length taken ≡ length used = taken_long used held taken is in
    let fits : Fit (length taken) es = subst (λ n. Fit n es) (sym size) fit in
    let long : length new ≡ length used = ap (λ (l : List Bool). length l) new_is ∙ length-mark_all used es true fit in
    let longer : length more ≡ length used = ap (λ (l : List Bool). length l) more_is ∙ length-mark_all taken es true fits ∙ size in
    taken_by new held more (longer ∙ sym long)
    (λ k lt. let below : k < length used = omega (arith, lt, long) in
    ap (λ (l : List Bool). get_or l k false) more_is ∙ get_or-mark_all taken es true k false fits
    ∙ ap (λ b. if is_held es k then true else b) (taken_at used held taken k is below)
    ∙ used_more (is_held es k) (get_or used k true) (get_or held k false)
    ∙ ap (λ b. b || get_or held k false) (sym (ap (λ (l : List Bool). get_or l k true) new_is ∙ get_or-mark_all used es true k true fit)))

-- blocks became held
taken_held : (used held hold taken more : List Bool) (e : Extent) → taken ≡ taken_of used held → length held ≡ length used → e.start + e.count ≤ length used → hold ≡ mark held e true → more ≡ mark taken e true → more ≡ taken_of used hold
taken_held used held hold taken more e is same fits hold_is more_is =
    let size : length taken ≡ length used = taken_long used held taken is in
    let inside : e.start + e.count ≤ length taken = omega (arith, fits, size) in
    let in_held : e.start + e.count ≤ length held = omega (arith, fits, same) in
    taken_by used hold more (ap (λ (l : List Bool). length l) more_is ∙ length-mark taken e true inside ∙ size)
    (λ k lt.
    ap (λ (l : List Bool). get_or l k false) more_is ∙ get_or-mark taken e true k false inside
    ∙ ap (λ b. if has e k then true else b) (taken_at used held taken k is lt)
    ∙ held_more (has e k) (get_or used k true) (get_or held k false)
    ∙ ap (λ b. get_or used k true || b) (sym (ap (λ (l : List Bool). get_or l k false) hold_is ∙ get_or-mark held e true k false in_held)))

given_here : (h u b : Bool) → (h ≡ true → u ≡ true) → (u || b) ≡ ((if h then false else u) || (if h then true else b))
given_here true u b was = rw (was refl) refl
given_here false u b was = refl

-- used blocks became held
taken_given : (used new held hold taken : List Bool) (e : Extent) → taken ≡ taken_of used held → Have used e true → e.start + e.count ≤ length held → new ≡ mark used e false → hold ≡ mark held e true → taken ≡ taken_of new hold
taken_given used new held hold taken e is have in_held new_is hold_is =
    let long : length new ≡ length used = ap (λ (l : List Bool). length l) new_is ∙ length-mark used e false have.inside in
    taken_by new hold taken (taken_long used held taken is ∙ sym long)
    (λ k lt. let below : k < length used = omega (arith, lt, long) in
    taken_at used held taken k is below
    ∙ given_here (has e k) (get_or used k true) (get_or held k false)
    (λ h. let in_ = has_range e k h in get_or_default used k true false below ∙ have.each k in_.0 in_.1)
    ∙ ap (λ b. b || (if has e k then true else get_or held k false)) (sym (ap (λ (l : List Bool). get_or l k true) new_is ∙ get_or-mark used e false k true have.inside))
    ∙ ap (λ b. get_or new k true || b) (sym (ap (λ (l : List Bool). get_or l k false) hold_is ∙ get_or-mark held e true k false in_held)))

-- ---- the whole
pub map_taken : (used new : Kept) (held : Held) (changed after taken more : List Bool) (es : List Extent) → IsMap used held changed taken → Fit (length used.flags) es → new.flags ≡ mark_all used.flags es true → new.kept ≡ used.kept → length after ≡ length changed → ((k : ℕ) → is_held es k ≡ true → get_or held.flags k false ≡ false) → more ≡ mark_all taken es true → IsMap new held after more
map_taken used new held changed after taken more es m fit is kept size free more_is =
    let long : length new.flags ≡ length used.flags = ap (λ (l : List Bool). length l) is ∙ length-mark_all used.flags es true fit in
    record {
      size = m.size ∙ sym long;
      kept_size = ap (λ (l : List Bool). length l) kept ∙ m.kept_size ∙ sym long;
      kept_held_size = m.kept_held_size ∙ sym long;
      changed_size = size ∙ m.changed_size ∙ ap (λ n. sectors_for n) (sym long);
      apart = λ k h. ap (λ (l : List Bool). get_or l k true) is ∙ get_or-mark_all used.flags es true k true fit ∙ elim (is_held es k) as (λ b. is_held es k ≡ b → (if b then true else get_or used.flags k true) ≡ false) [
        | true ↦ λ (t : is_held es k ≡ true). absurd (let no : false ≡ true = sym (free k t) ∙ h in cc no)
        | false ↦ λ (t : is_held es k ≡ false). m.apart k h
      ] refl;
      kept_apart = λ k h. ap (λ (l : List Bool). get_or l k true) kept ∙ m.kept_apart k h;
      taken_is = taken_used used.flags new.flags held.flags taken more es m.taken_is fit is more_is;
    }

pub map_given : (used new : Kept) (held hold : Held) (changed after taken : List Bool) (e : Extent) → IsMap used held changed taken → Have used.flags e true → new.flags ≡ mark used.flags e false → new.kept ≡ used.kept → hold.flags ≡ mark held.flags e true → hold.kept ≡ held.kept → length after ≡ length changed → IsMap new hold after taken
map_given used new held hold changed after taken e m have is kept held_is held_kept size =
    let fits : e.start + e.count ≤ length used.flags = have.inside in
    let long : length new.flags ≡ length used.flags = ap (λ (l : List Bool). length l) is ∙ length-mark used.flags e false fits in
    let inside : e.start + e.count ≤ length held.flags = omega (arith, fits, m.size) in
    let hold_long : length hold.flags ≡ length held.flags = ap (λ (l : List Bool). length l) held_is ∙ length-mark held.flags e true inside in
    record {
      size = hold_long ∙ m.size ∙ sym long;
      kept_size = ap (λ (l : List Bool). length l) kept ∙ m.kept_size ∙ sym long;
      kept_held_size = ap (λ (l : List Bool). length l) held_kept ∙ m.kept_held_size ∙ sym long;
      changed_size = size ∙ m.changed_size ∙ ap (λ n. sectors_for n) (sym long);
      apart = λ k h. ap (λ (l : List Bool). get_or l k true) is ∙ get_or-mark used.flags e false k true fits ∙ elim (has e k) as (λ b. has e k ≡ b → (if b then false else get_or used.flags k true) ≡ false) [
        | true ↦ λ (t : has e k ≡ true). refl
        | false ↦ λ (t : has e k ≡ false). m.apart k (sym (get_or-mark held.flags e true k false inside ∙ rw t refl) ∙ sym (ap (λ (l : List Bool). get_or l k false) held_is) ∙ h)
      ] refl;
      kept_apart = λ k h. ap (λ (l : List Bool). get_or l k true) kept ∙ m.kept_apart k (sym (ap (λ (l : List Bool). get_or l k false) held_kept) ∙ h);
      taken_is = taken_given used.flags new.flags held.flags hold.flags taken e m.taken_is have inside is held_is;
    }

pub map_held : (used : Kept) (held hold : Held) (changed taken more : List Bool) (e : Extent) → IsMap used held changed taken → Have used.flags e false → hold.flags ≡ mark held.flags e true → hold.kept ≡ held.kept → more ≡ mark taken e true → IsMap used hold changed more
map_held used held hold changed taken more e m have is kept more_is =
    let inside : e.start + e.count ≤ length held.flags = omega (arith, have.inside, m.size) in
    let long : length hold.flags ≡ length held.flags = ap (λ (l : List Bool). length l) is ∙ length-mark held.flags e true inside in
    record {
      size = long ∙ m.size;
      kept_size = m.kept_size;
      kept_held_size = ap (λ (l : List Bool). length l) kept ∙ m.kept_held_size;
      changed_size = m.changed_size;
      apart = λ k h. elim (has e k) as (λ b. has e k ≡ b → get_or used.flags k true ≡ false) [
        | true ↦ λ (t : has e k ≡ true). let in_ = has_range e k t in have.each k in_.0 in_.1
        | false ↦ λ (t : has e k ≡ false). m.apart k (sym (get_or-mark held.flags e true k false inside ∙ rw t refl) ∙ sym (ap (λ (l : List Bool). get_or l k false) is) ∙ h)
      ] refl;
      kept_apart = λ k h. m.kept_apart k (sym (ap (λ (l : List Bool). get_or l k false) kept) ∙ h);
      taken_is = taken_held used.flags held.flags hold.flags taken more e m.taken_is m.size have.inside is more_is;
    }

-- no block is held
none_at : (n k : ℕ) → get_or (replicate n false) k false ≡ false
none_at n k = ⊎_elim (λ lt. get_or-replicate n k false false lt) (λ past. get_or_past (replicate n false) k false (omega (arith, past, length-replicate n false))) (cases_lt k n)

none_held : (n k : ℕ) (xs : List Bool) → xs ≡ replicate n false → get_or xs k false ≡ false
none_held n k xs is = ap (λ (l : List Bool). get_or l k false) is ∙ none_at n k

settled_here : (u b : Bool) → (b ≡ true → u ≡ false) → ((u || b) && not b) ≡ (u || false)
settled_here true true apart = sym (ap (λ v. v || false) (apart refl))
settled_here true false apart = refl
settled_here false true apart = refl
settled_here false false apart = refl

pub map_settled : (used : Kept) (held hold : Held) (changed taken more : List Bool) → IsMap used held changed taken → hold.flags ≡ replicate (length held.flags) false → hold.kept ≡ replicate (length held.flags) false → length more ≡ length taken
    → ((k : ℕ) → k < length taken → get_or more k false ≡ (get_or taken k false && not (get_or held.flags k false))) → IsMap used hold changed more
map_settled used held hold changed taken more m is kept size each =
    let long : length taken ≡ length used.flags = taken_long used.flags held.flags taken m.taken_is in
    record {
      size = ap (λ (l : List Bool). length l) is ∙ length-replicate (length held.flags) false ∙ m.size;
      kept_size = m.kept_size;
      kept_held_size = ap (λ (l : List Bool). length l) kept ∙ length-replicate (length held.flags) false ∙ m.size;
      changed_size = m.changed_size;
      apart = λ k h. absurd (let no : false ≡ true = sym (none_held (length held.flags) k hold.flags is) ∙ h in cc no);
      kept_apart = λ k h. absurd (let no : false ≡ true = sym (none_held (length held.flags) k hold.kept kept) ∙ h in cc no);
      taken_is = taken_by used.flags hold.flags more (size ∙ long)
          (λ k lt. each k (omega (arith, lt, long))
          ∙ ap (λ b. b && not (get_or held.flags k false)) (taken_at used.flags held.flags taken k m.taken_is lt)
          ∙ settled_here (get_or used.flags k true) (get_or held.flags k false) (m.apart k)
          ∙ ap (λ b. get_or used.flags k true || b) (sym (none_held (length held.flags) k hold.flags is)));
    }

-- ---- back to the last keep
pub record Undone (taken first second last : List Bool) (used : Kept) (held : Held) : Type 0 where
  pub first_size : length first ≡ length taken
  pub cleared : (k : ℕ) → get_or held.flags k false ≡ true → get_or held.kept k false ≡ false → get_or first k false ≡ false
  pub others : (k : ℕ) → get_or held.flags k false ≡ false → get_or first k false ≡ get_or taken k false
  pub second_size : length second ≡ length first
  pub changed : (k : ℕ) → (get_or second k false ≡ get_or used.kept k false) ⊎ ((get_or second k false ≡ get_or first k false) × (get_or used.kept k false ≡ get_or used.flags k false))
  pub last_size : length last ≡ length second
  pub marked : (k : ℕ) → k < length second → get_or last k false ≡ (get_or held.kept k false || get_or second k false)

or_swap : (a b : Bool) → (a || b) ≡ (b || a)
or_swap true true = refl
or_swap true false = refl
or_swap false true = refl
or_swap false false = refl

-- where no kept hold is, the block has the flag that it had at the keep
undone_here : (used : Kept) (held : Held) (taken first second : List Bool) (k : ℕ) → taken ≡ taken_of used.flags held.flags → k < length used.flags → (get_or held.flags k false ≡ true → get_or used.flags k true ≡ false)
    → (get_or held.flags k false ≡ true → get_or held.kept k false ≡ false → get_or first k false ≡ false) → (get_or held.flags k false ≡ false → get_or first k false ≡ get_or taken k false)
    → (get_or second k false ≡ get_or used.kept k false) ⊎ ((get_or second k false ≡ get_or first k false) × (get_or used.kept k false ≡ get_or used.flags k false))
    → get_or held.kept k false ≡ false → get_or second k false ≡ get_or used.kept k false
undone_here used held taken first second k is lt apart cleared others changed out = ⊎_elim
    (λ same. same)
    (λ still. still.0 ∙ elim (get_or held.flags k false) as (λ b. get_or held.flags k false ≡ b → get_or first k false ≡ get_or used.flags k false) [
      | true ↦ λ (h : get_or held.flags k false ≡ true). cleared h out ∙ sym (get_or_default used.flags k false true lt ∙ apart h)
      | false ↦ λ (h : get_or held.flags k false ≡ false). others h ∙ taken_at used.flags held.flags taken k is lt ∙ ap (λ b. get_or used.flags k true || b) h ∙ or_swap (get_or used.flags k true) false ∙ get_or_default used.flags k true false lt
    ] refl ∙ sym still.1)
    changed

both_kept : (h s u : Bool) → (h ≡ false → s ≡ u) → (h || s) ≡ (u || h)
both_kept true s u same = sym (or_swap u true)
both_kept false s u same = same refl ∙ sym (or_swap u false)

pub map_undone : (used new : Kept) (held hold : Held) (changed after taken first second last : List Bool) → IsMap used held changed taken → new.flags ≡ used.kept → new.kept ≡ used.kept → hold.flags ≡ held.kept → hold.kept ≡ held.kept → length after ≡ length changed
    → Undone taken first second last used held → IsMap new hold after last
map_undone used new held hold changed after taken first second last m is kept held_is held_kept size u =
    let long : length new.flags ≡ length used.flags = ap (λ (l : List Bool). length l) is ∙ m.kept_size in
    let taken_size : length taken ≡ length used.flags = taken_long used.flags held.flags taken m.taken_is in
    record {
      size = ap (λ (l : List Bool). length l) held_is ∙ m.kept_held_size ∙ sym long;
      kept_size = ap (λ (l : List Bool). length l) kept ∙ m.kept_size ∙ sym long;
      kept_held_size = ap (λ (l : List Bool). length l) held_kept ∙ m.kept_held_size ∙ sym long;
      changed_size = size ∙ m.changed_size ∙ ap (λ n. sectors_for n) (sym long);
      apart = λ k h. ap (λ (l : List Bool). get_or l k true) is ∙ m.kept_apart k (sym (ap (λ (l : List Bool). get_or l k false) held_is) ∙ h);
      kept_apart = λ k h. ap (λ (l : List Bool). get_or l k true) kept ∙ m.kept_apart k (sym (ap (λ (l : List Bool). get_or l k false) held_kept) ∙ h);
      taken_is = taken_by new.flags hold.flags last (u.last_size ∙ u.second_size ∙ u.first_size ∙ taken_size ∙ sym long)
          (λ k lt.
          let below : k < length used.flags = omega (arith, lt, long) in
          let there : k < length used.kept = omega (arith, below, m.kept_size) in
          u.marked k (omega (arith, below, u.second_size, u.first_size, taken_size))
          ∙ both_kept (get_or held.kept k false) (get_or second k false) (get_or used.kept k false) (undone_here used held taken first second k m.taken_is below (m.apart k) (u.cleared k) (u.others k) (u.changed k))
          ∙ ap (λ b. b || get_or held.kept k false) (get_or_default used.kept k false true there ∙ sym (ap (λ (l : List Bool). get_or l k true) is))
          ∙ ap (λ b. get_or new.flags k true || b) (sym (ap (λ (l : List Bool). get_or l k false) held_is)));
    }

-- ---- nothing is held, and nothing has changed
or_none : (u : Bool) → (u || false) ≡ u
or_none true = refl
or_none false = refl

pub map_fresh : (used : Kept) (held : Held) (changed taken bits : List Bool) (n : ℕ) → n ≡ length bits → used.flags ≡ bits → used.kept ≡ bits → held.flags ≡ replicate n false → held.kept ≡ replicate n false → changed ≡ replicate (sectors_for n) false → taken ≡ bits → IsMap used held changed taken
map_fresh used held changed taken bits n size used_is kept_is held_is held_kept changed_is taken_is =
    let long : length used.flags ≡ n = ap (λ (l : List Bool). length l) used_is ∙ sym size in
    record {
      size = ap (λ (l : List Bool). length l) held_is ∙ length-replicate n false ∙ sym long;
      kept_size = ap (λ (l : List Bool). length l) (kept_is ∙ sym used_is);
      kept_held_size = ap (λ (l : List Bool). length l) held_kept ∙ length-replicate n false ∙ sym long;
      changed_size = ap (λ (l : List Bool). length l) changed_is ∙ length-replicate (sectors_for n) false ∙ ap (λ m. sectors_for m) (sym long);
      apart = λ k h. absurd (let no : false ≡ true = sym (none_held n k held.flags held_is) ∙ h in cc no);
      kept_apart = λ k h. absurd (let no : false ≡ true = sym (none_held n k held.kept held_kept) ∙ h in cc no);
      taken_is = taken_by used.flags held.flags taken (ap (λ (l : List Bool). length l) (taken_is ∙ sym used_is))
          (λ k lt. ap (λ (l : List Bool). get_or l k false) (taken_is ∙ sym used_is) ∙ get_or_default used.flags k false true lt
          ∙ sym (or_none (get_or used.flags k true)) ∙ ap (λ b. get_or used.flags k true || b) (sym (none_held n k held.flags held_is)));
    }
